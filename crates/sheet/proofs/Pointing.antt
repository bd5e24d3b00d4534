-- Where a refusal points, the bytes are what its rule says: an entry says what stands at its place, each refusal of an entry points into it, and one
-- induction over the row of fields takes this to the whole sheet.
use Rattle.lists.proofs.Basics.{ℕ, ◌+◌, ◌≤◌, ◌<◌, arith, eq-eqb, ne_eqb, eqb-true, eqb-false, leb-true, ◌≡◌, refl, sym, ap, subst, ◌∙◌, List, [], true, false, cond}
use Rattle.lists.proofs.Basics.{eqb, leb, length, get_or, take, drop}
use Rattle.lists.proofs.Tests.{split}
use Rattle.fields.specs.declared.Field.{Field}
use Rattle.fields.specs.declared.Field.TheVariants.{Stub, Overrun, Whole}
use Rattle.fields.specs.Fields.{front, Row, stop, stub, overrun, field, row_at}
use Rattle.fields.proofs.Laws as Fields
use Rattle.fields.proofs.Places.{Headed, Valued, LaidOut, laid_out}
use Rattle.settings.specs.declared.Network.{Network}
use Rattle.settings.specs.declared.Settings.{Settings}
use Rattle.settings.specs.declared.Id.TheVariants.{OfNetwork, OfController, OfTransceiver}
use Rattle.settings.specs.Settings.{blank_settings, networks_of, has, used}
use Rattle.entries.specs.declared.Fault.{Fault}
use Rattle.entries.specs.declared.Fault.TheVariants.{Cut, UnknownTag, WrongLength, OutOfOrder, OutOfRange, UsedBefore, TooMany, NoTransceiver}
use Rattle.entries.specs.declared.Fault.TheVariants.{Empty}
use Rattle.entries.specs.declared.Entry.{Entry}
use Rattle.entries.specs.declared.Entry.TheVariants.{End, Bad}
use Rattle.entries.specs.declared.Layout.{Layout}
use Rattle.entries.specs.declared.Layout.TheVariants.{Byte}
use Rattle.std.specs.Prelude.{Result, Ok, Err, Option, Some, None}
use Rattle.entries.specs.declared.Progress.{Progress}
use Rattle.entries.specs.declared.Progress.TheVariants.{Named}
use Rattle.entries.specs.declared.Opening.{Opening}
use Rattle.entries.specs.declared.Opening.TheVariants.{Closes, Begins, Amends}
use Rattle.entries.specs.declared.Filled.{Filled}
use Rattle.sheet.specs.declared.Reading.{Reading}
use Rattle.entries.specs.Entries.{layout_of, overrun_fault, wide, byte_entry, times_entry, whole_entry, field_entry}
use Rattle.entries.specs.Grammar.{opens_with, takes_relation, on_relation, opens, begun, takes_controller, takes_transceiver, takes_times, takes_threshold}
use Rattle.entries.specs.Grammar.{takes_partial, present, on_controller, on_transceiver, on_times, on_threshold, on_partial, fills}
use Rattle.entries.proofs.Laws.{value_byte, value_wide, Says, layout_says, some_before}
use Rattle.sheet.specs.Reading.{pushed, amended, first_zero, place_of, refused_at, closed, after_opening, after_field, after_filling, sheet, network, read_from}
use Rattle.sheet.specs.Reading.{decode}
use Rattle.sheet.specs.Pointing.{controller_id, transceiver_id, short_delay, long_delay, ensure_time, threshold, partial_networking, relation}
use Rattle.sheet.specs.Pointing.{right_length, WholeField, CutField, UnknownField, LengthHere, BadNumber, NumberHere, Points, Within}

-- ---- what an entry says of the bytes at its place
module _ (s : List ℕ) (at : ℕ) where
  -- a whole field with this tag, whose value is the byte x
  record OneByte (tag x : ℕ) : Type 0 where
    whole : WholeField s at
    tag_is : get_or s at 0 ≡ tag
    byte : x ≡ get_or s (at + 3) 0

  -- a whole field 04
  record ThreeTimes (x y z : ℕ) : Type 0 where
    whole : WholeField s at
    tag_is : get_or s at 0 ≡ 0x04
    short : x ≡ wide s (at + 3)
    long : y ≡ wide s (at + 5)
    ensure : z ≡ wide s (at + 7)

  abbrev Found : Entry → Type 0
  Found End = ⊥
  Found (Bad fault) = Points fault s (place_of fault (Bad fault) at)
  Found (Entry.Handle x) = OneByte 0x01 x
  Found (Entry.Controller x) = OneByte 0x02 x
  Found (Entry.Transceiver x) = OneByte 0x03 x
  Found (Entry.Times x y z) = ThreeTimes x y z
  Found (Entry.Threshold x) = OneByte 0x05 x
  Found (Entry.Partial x) = OneByte 0x06 x
  Found (Entry.Relation x) = OneByte 0x07 x

  module _ (tag n : ℕ) (h : Headed s at tag n) where
    unknown_here : ((1 ≤ tag) × (tag ≤ 7) → ⊥) → UnknownField s at
    unknown_here u = record { starts = h.starts; head = h.head; unknown = λ k. u (rw h.tag_is k) }

    length_written : n ≡ wide s (at + 1)
    length_written = let e : at + 1 + 1 ≡ at + 2 = omega arith in h.length_is ∙ rw e refl

    wrong_here : ((1 ≤ tag) × (tag ≤ 7)) × (n ≡ cond (eqb tag 4) 6 1 → ⊥) → LengthHere s (at + 1)
    wrong_here w =
        let t = h.tag_is in
        record {
          at = at;
          starts = h.starts;
          here = refl;
          head = h.head;
          known = rw (← t) w.0;
          wrong = λ e. w.1 (length_written ∙ e ∙ rw t refl);
        }

    cut_here : length s < at + 3 + n → (1 ≤ tag) × (tag ≤ 7) → n ≡ cond (eqb tag 4) 6 1 → CutField s at
    cut_here few known right =
        let t = h.tag_is in
        record {
          starts = h.starts;
          within = let k = h.head in omega arith;
          too_few = rw (← length_written) few;
          right = λ _. (rw (← t) known, sym length_written ∙ right ∙ rw t refl);
        }

    -- a field whose value runs past the end
    overrun_points : length s < at + 3 + n → (layout : Result Layout Fault) → Says tag n layout → Found (Bad (overrun_fault layout))
    overrun_points few (Err UnknownTag) u = unknown_here u
    overrun_points few (Err WrongLength) w = wrong_here w
    overrun_points few (Err fault) n = absurd n
    overrun_points few (Ok Byte) b = cut_here few (b.1, b.2) (rw (ne_eqb tag 4 b.3, b.0) refl)
    overrun_points few (Ok Layout.Times) b = cut_here few (let t = b.1 in (omega arith, omega arith)) (rw (b.1, b.0) refl)

  module _ (tag : ℕ) (v : List ℕ) (g : Valued s at tag v) where
    right_here : (1 ≤ tag) × (tag ≤ 7) → length v ≡ cond (eqb tag 4) 6 1 → WholeField s at
    right_here known right =
        let t = g.headed.tag_is in
        record {
          starts = g.headed.starts;
          known = rw (← t) known;
          right = sym (length_written tag (length v) g.headed) ∙ right ∙ rw t refl;
          within = let w = g.within in rw (← t, ← right) w;
        }

    one_byte : (k : ℕ) → eqb tag k ≡ true → Says tag (length v) (Ok Byte) → OneByte k (get_or v 0 0)
    one_byte k a b =
        let other : eqb tag 4 ≡ false = ne_eqb tag 4 b.3 in
        let right : length v ≡ cond (eqb tag 4) 6 1 = rw (other, b.0) refl in
        let zero : at + 3 + 0 ≡ at + 3 = omega arith in
        record {
          whole = right_here (b.1, b.2) right;
          tag_is = sym g.headed.tag_is ∙ eqb-true tag k a;
          byte = ap (λ (l : List ℕ). get_or l 0 0) g.value
              ∙ value_byte s (at + 3) (length v) 0 (let m = b.0 in omega arith) ∙ ap (λ (i : ℕ). get_or s i 0) zero;
        }

    three_times : Says tag (length v) (Ok Layout.Times) → ThreeTimes (wide v 0) (wide v 2) (wide v 4)
    three_times b =
        let right : length v ≡ cond (eqb tag 4) 6 1 = rw (b.1, b.0) refl in
        let value : v ≡ take 6 (drop (at + 3) s) = g.value ∙ ap (λ (m : ℕ). take m (drop (at + 3) s)) b.0 in
        let number : (i j : ℕ) → i + 1 < 6 → at + 3 + i ≡ j → wide v i ≡ wide s j =
        λ i j h e. ap (λ (l : List ℕ). wide l i) value ∙ value_wide s (at + 3) i h ∙ ap (wide s) e in
        record {
          whole = right_here (let t = b.1 in (omega arith, omega arith)) right;
          tag_is = sym g.headed.tag_is ∙ b.1;
          short = number 0 (at + 3) (omega arith) (omega arith);
          long = number 2 (at + 5) (omega arith) (omega arith);
          ensure = number 4 (at + 7) (omega arith) (omega arith);
        }

    found_by : (layout : Result Layout Fault) → Says tag (length v) layout → Found (whole_entry layout tag v)
    unfolding whole_entry byte_entry times_entry
    found_by (Err UnknownTag) u = unknown_here tag (length v) g.headed u
    found_by (Err WrongLength) w = wrong_here tag (length v) g.headed w
    found_by (Err fault) n = absurd n
    found_by (Ok Byte) b =
        split Found (eqb tag 1) (λ a. one_byte 1 a b)
        (λ a. split Found (eqb tag 2) (λ d. one_byte 2 d b)
        (λ d. split Found (eqb tag 3) (λ e. one_byte 3 e b)
        (λ e. split Found (eqb tag 5) (λ f. one_byte 5 f b)
        (λ f. split Found (eqb tag 6) (λ i. one_byte 6 i b)
        (λ i. one_byte 7 (eq-eqb tag 7 (omega (
          arith,
          b.1,
          b.2,
          b.3,
          eqb-false tag 1 a,
          eqb-false tag 2 d,
          eqb-false tag 3 e,
          eqb-false tag 5 f,
          eqb-false tag 6 i,
        ))) b)))))
    found_by (Ok Layout.Times) b = three_times b

    found : Found (field_entry tag v)
    unfolding field_entry
    found = found_by (layout_of tag (length v)) (layout_says tag (length v))

-- ---- a refusal of an entry points into its field
module _ (s : List ℕ) (at : ℕ) (S : Settings) where
  -- a number that is out of its range, at a place that is worked out
  number_at : (place p : ℕ) → place ≡ p → WholeField s at → BadNumber s at p → NumberHere s place
  number_at place p e whole number = subst (NumberHere s) (sym e) (record { at = at; whole = whole; number = number })

  -- the one number of a field
  only_number : {tag x : ℕ} → OneByte s at tag x → BadNumber s at (at + 3) → NumberHere s (at + 3 + 0)
  only_number f number = number_at (at + 3 + 0) (at + 3) (omega arith) f.whole number

  -- where a network may begin
  abbrev OpeningPoints : Entry → Result Opening Fault → Type 0
  OpeningPoints entry (Ok Closes) = ⊥
  OpeningPoints entry (Ok (Begins handle)) = Unit
  OpeningPoints entry (Ok Amends) = 0 < S.count
  OpeningPoints entry (Err fault) = Points fault s (place_of fault entry at)

  opening_points : (entry : Entry) → Found s at entry → OpeningPoints entry (opens S entry)
  unfolding opens opens_with on_relation
  opening_points End f = f
  opening_points (Bad fault) f = f
  opening_points (Entry.Handle x) f =
      let P = OpeningPoints (Entry.Handle x) in
      let t = f.tag_is in
      split P (used (OfNetwork x) (networks_of S)) (λ _. (f.whole, omega arith))
      (λ _. split P (leb 8 S.count) (λ _. (f.whole, omega arith)) (λ _. tt))
  opening_points (Entry.Controller x) f = f.whole
  opening_points (Entry.Transceiver x) f = f.whole
  opening_points (Entry.Times x y z) f = f.whole
  opening_points (Entry.Threshold x) f = f.whole
  opening_points (Entry.Partial x) f = f.whole
  opening_points (Entry.Relation x) f =
      let P = OpeningPoints (Entry.Relation x) in
      split P (takes_relation (networks_of S))
      (λ t. split P (eqb x 1) (λ _. some_before S t)
      (λ a. only_number f (relation f.tag_is refl (λ e. eqb-false x 1 a (f.byte ∙ e)))))
      (λ _. f.whole)

  -- within a network
  module _ (N : Network) (P : Progress) where
    abbrev FilledPoints : Entry → Result Filled Fault → Type 0
    FilledPoints entry (Ok filled) = Unit
    FilledPoints entry (Err fault) = Points fault s (place_of fault entry at)

    controller_points : (x : ℕ) → OneByte s at 0x02 x → FilledPoints (Entry.Controller x) (on_controller S N P x)
    unfolding on_controller
    controller_points x f =
        let P' = FilledPoints (Entry.Controller x) in
        let t = f.tag_is in
        split P' (takes_controller P)
        (λ _. split P' (leb 32 x)
        (λ a. only_number f (controller_id t refl (subst (λ (k : ℕ). 32 ≤ k) f.byte (leb-true 32 x a))))
        (λ _. split P' (used (OfController x) (networks_of S)) (λ _. (f.whole, omega arith))
        (λ _. split P' (has (OfController x) N) (λ _. (f.whole, omega arith))
        (λ _. split P' (leb 4 N.count) (λ _. (f.whole, omega arith)) (λ _. tt)))))
        (λ _. f.whole)

    transceiver_points : (x : ℕ) → OneByte s at 0x03 x → FilledPoints (Entry.Transceiver x) (on_transceiver S N P x)
    unfolding on_transceiver
    transceiver_points x f =
        let P' = FilledPoints (Entry.Transceiver x) in
        let t = f.tag_is in
        split P' (takes_transceiver P)
        (λ _. split P' (leb 8 x)
        (λ a. only_number f (transceiver_id t refl (subst (λ (k : ℕ). 8 ≤ k) f.byte (leb-true 8 x a))))
        (λ _. split P' (used (OfTransceiver x) (networks_of S)) (λ _. (f.whole, omega arith)) (λ _. tt)))
        (λ _. f.whole)

    times_points : (x y z : ℕ) → ThreeTimes s at x y z → FilledPoints (Entry.Times x y z) (on_times N P x y z)
    unfolding on_times first_zero
    times_points x y z f =
        let P' = FilledPoints (Entry.Times x y z) in
        let t = f.tag_is in
        let some : (k j : ℕ) → k ≡ wide s j → eqb k 0 ≡ false → wide s j ≡ 0 → ⊥ = λ k j e a w. eqb-false k 0 a (e ∙ w) in
        split P' (takes_times P)
        (λ _. split P' (eqb x 0)
        (λ a. number_at _ (at + 3) (rw a (omega arith)) f.whole (short_delay t refl (sym f.short ∙ eqb-true x 0 a)))
        (λ a. split P' (eqb y 0)
        (λ b. number_at _ (at + 5) (rw (a, b) (omega arith)) f.whole
        (long_delay t refl (some x (at + 3) f.short a) (sym f.long ∙ eqb-true y 0 b)))
        (λ b. split P' (eqb z 0)
        (λ d. number_at _ (at + 7) (rw (a, b, d) (omega arith)) f.whole
        (ensure_time t refl (some x (at + 3) f.short a) (some y (at + 5) f.long b) (sym f.ensure ∙ eqb-true z 0 d)))
        (λ _. tt))))
        (λ _. f.whole)

    threshold_points : (x : ℕ) → OneByte s at 0x05 x → FilledPoints (Entry.Threshold x) (on_threshold N P x)
    unfolding on_threshold
    threshold_points x f =
        let P' = FilledPoints (Entry.Threshold x) in
        split P' (takes_threshold P)
        (λ _. split P' (leb 255 x)
        (λ a. only_number f (threshold f.tag_is refl (subst (λ (k : ℕ). 255 ≤ k) f.byte (leb-true 255 x a)))) (λ _. tt))
        (λ _. f.whole)

    partial_points : (x : ℕ) → OneByte s at 0x06 x → FilledPoints (Entry.Partial x) (on_partial N P x)
    unfolding on_partial
    partial_points x f =
        let P' = FilledPoints (Entry.Partial x) in
        let t = f.tag_is in
        split P' (takes_partial P)
        (λ _. split P' (eqb x 0) (λ _. tt)
        (λ a. split P' (eqb x 1)
        (λ b. split P' (present N.transceiver) (λ _. tt) (λ _. (f.whole, t, sym f.byte ∙ eqb-true x 1 b)))
        (λ b. only_number f (partial_networking t refl (let e = f.byte in omega (arith, eqb-false x 0 a, eqb-false x 1 b))))))
        (λ _. f.whole)

    filling_points : (entry : Entry) → Found s at entry → FilledPoints entry (fills S N P entry)
    unfolding fills
    filling_points End f = absurd f
    filling_points (Bad fault) f = f
    filling_points (Entry.Handle x) f = f.whole
    filling_points (Entry.Controller x) f = controller_points x f
    filling_points (Entry.Transceiver x) f = transceiver_points x f
    filling_points (Entry.Times x y z) f = times_points x y z f
    filling_points (Entry.Threshold x) f = threshold_points x f
    filling_points (Entry.Partial x) f = partial_points x f
    filling_points (Entry.Relation x) f = f.whole

-- ---- the row
module _ (s : List ℕ) where
  -- of a reading that is refused
  abbrev Right : Reading → Type 0
  Right d = (fault : Fault) → d.answer ≡ Err fault → Points fault s d.place

  refused_right : (fault : Fault) (place : ℕ) → Points fault s place → Right (refused_at fault place)
  unfolding refused_at
  refused_right fault place p fault' e = let same : fault ≡ fault' = cc in subst (λ (f : Fault). Points f s place) same p

  closed_right : (S : Settings) (at : ℕ) → (S.count ≡ 0 → s ≡ []) → Right (closed S at)
  unfolding closed
  closed_right S at none =
      split Right (eqb S.count 0) (λ a. refused_right Empty 0 (none (eqb-true S.count 0 a), refl))
      (λ _ fault e. absurd cc)

  -- where there is no network yet, no byte was read before the end
  abbrev NoneYet : Settings → Row → Type 0
  NoneYet S (stop at) = S.count ≡ 0 → s ≡ []
  NoneYet S (stub at tag) = Unit
  NoneYet S (overrun at tag n) = Unit
  NoneYet S (field at tag v rest) = Unit

  some_network : (S : Settings) (row : Row) → 0 < S.count → NoneYet S row
  some_network S (stop at) h = λ e. absurd (omega arith)
  some_network S (stub at tag) h = tt
  some_network S (overrun at tag n) h = tt
  some_network S (field at tag v rest) h = tt

  end_right : (at : ℕ) → LaidOut s (stop at) → Points Cut s at
  end_right at l =
      let e = l.1 in record { starts = l.0; within = omega arith; too_few = omega arith; right = λ h. absurd (omega arith) }

  stub_right : (at tag : ℕ) → LaidOut s (stub at tag) → Points Cut s at
  stub_right at tag l =
      let k = l.1 in
      let m = l.2 in
      record { starts = l.0; within = omega arith; too_few = omega arith; right = λ h. absurd (omega arith) }

  overrun_right : (at tag n : ℕ) → LaidOut s (overrun at tag n) →
      Points (overrun_fault (layout_of tag n)) s (place_of (overrun_fault (layout_of tag n)) (Bad (overrun_fault (layout_of tag n))) at)
  overrun_right at tag n l = overrun_points s at tag n l.0 l.1 (layout_of tag n) (layout_says tag n)

  -- what is told of the rest of a row, after a network and within one
  abbrev SheetRight : Row → Type 0
  SheetRight row = (S : Settings) → NoneYet S row → Right (sheet row S)

  abbrev NetworkRight : Row → Type 0
  NetworkRight row = (S : Settings) (N : Network) (P : Progress) → Right (network row S N P)

  after_opening_lem : (at : ℕ) (rest : Row) (S : Settings) (entry : Entry) (o : Result Opening Fault) → OpeningPoints s at S entry o → NetworkRight rest
      → SheetRight rest → Right (after_opening o S entry at (λ handle. network rest S (begun handle) Named) (λ more. sheet rest more))
  unfolding after_opening amended
  after_opening_lem at rest S entry (Ok Closes) p net sh = absurd p
  after_opening_lem at rest S entry (Ok (Begins handle)) p net sh = net S (begun handle) Named
  after_opening_lem at rest S entry (Err fault) p net sh = refused_right fault (place_of fault entry at) p
  after_opening_lem at rest S entry (Ok Amends) p net sh = sh (amended S) (some_network (amended S) rest p)

  after_field_lem : (rest : Row) (S : Settings) (progress : Option Progress) (m : Network) → NetworkRight rest → SheetRight rest
      → Right (after_field progress m (λ n next. network rest S n next) (λ n. sheet rest (pushed S n)))
  unfolding pushed
  after_field_lem rest S (Some progress) m net sh = net S m progress
  after_field_lem rest S None m net sh = sh (pushed S m) (some_network (pushed S m) rest (omega arith))

  after_filling_lem : (at : ℕ) (rest : Row) (S : Settings) (N : Network) (P : Progress) (entry : Entry) (to : Result Filled Fault)
      → FilledPoints s at S N P entry to → NetworkRight rest → SheetRight rest
      → Right (after_filling to entry at (λ n next. network rest S n next) (λ n. sheet rest (pushed S n)))
  unfolding after_filling
  after_filling_lem at rest S N P entry (Ok filled) p net sh = after_field_lem rest S filled.progress filled.network net sh
  after_filling_lem at rest S N P entry (Err fault) p net sh = refused_right fault (place_of fault entry at) p

  mutual
    unfolding sheet network

    sheet_right : (row : Row) → LaidOut s row → SheetRight row
    sheet_right (stop at) l = λ S none. closed_right S at none
    sheet_right (stub at tag) l = λ S none. refused_right Cut at (stub_right at tag l)
    sheet_right (overrun at tag n) l = λ S none. refused_right (overrun_fault (layout_of tag n)) _ (overrun_right at tag n l)
    sheet_right (field at tag v rest) l = λ S none.
        let entry = field_entry tag v in
        after_opening_lem at rest S entry (opens S entry) (opening_points s at S entry (found s at tag v l.0))
        (network_right rest l.1) (sheet_right rest l.1)

    network_right : (row : Row) → LaidOut s row → NetworkRight row
    network_right (stop at) l = λ S N P. refused_right Cut at (end_right at l)
    network_right (stub at tag) l = λ S N P. refused_right Cut at (stub_right at tag l)
    network_right (overrun at tag n) l = λ S N P. refused_right (overrun_fault (layout_of tag n)) _ (overrun_right at tag n l)
    network_right (field at tag v rest) l = λ S N P.
        let entry = field_entry tag v in
        after_filling_lem at rest S N P entry (fills S N P entry)
        (filling_points s at S N P entry (found s at tag v l.0)) (network_right rest l.1) (sheet_right rest l.1)

  -- where the row of all the bytes is at its end at once, there is no byte
  first_end : (S : Settings) (f : Field) → front 0 (drop 0 s) ≡ f → NoneYet S (Fields.row_from s 0 f)
  first_end S Field.End e = λ _. subst (Fields.Lies 0 (drop 0 s)) e (Fields.front_lies 0 (drop 0 s))
  first_end S (Stub tag) e = tt
  first_end S (Overrun tag n) e = tt
  first_end S (Whole tag n next) e = tt

  -- ---- the whole sheet
  pub refused_points : (fault : Fault) → (decode s).answer ≡ Err fault → Points fault s (decode s).place
  unfolding read_from
  refused_points =
      sheet_right (row_at s 0) (laid_out s) blank_settings
      (rw (Fields.row_from_lem s 0 (front 0 (drop 0 s)) refl) (first_end blank_settings (front 0 (drop 0 s)) refl))

-- ---- how far a place can lie
whole_inside : (b : List ℕ) (place : ℕ) → WholeField b place → place < length b
whole_inside b place w = let k = w.within in omega arith

-- a number that lies in the value of its field
whole_number : {b : List ℕ} {at place tag k : ℕ} → WholeField b at → get_or b at 0 ≡ tag → place ≡ at + k → k < 3 + right_length tag → place < length b
whole_number {b} {at} w t e h = let within = subst (λ (x : ℕ). at + 3 + right_length x ≤ length b) t w.within in omega (arith, within, e, h)

number_inside : (b : List ℕ) (at place : ℕ) → WholeField b at → BadNumber b at place → place < length b
number_inside b at place w (controller_id t e n) = whole_number w t e (omega arith)
number_inside b at place w (transceiver_id t e n) = whole_number w t e (omega arith)
number_inside b at place w (short_delay t e n) = whole_number w t e (omega arith)
number_inside b at place w (long_delay t e m n) = whole_number w t e (omega arith)
number_inside b at place w (ensure_time t e l m n) = whole_number w t e (omega arith)
number_inside b at place w (threshold t e n) = whole_number w t e (omega arith)
number_inside b at place w (partial_networking t e n) = whole_number w t e (omega arith)
number_inside b at place w (relation t e n) = whole_number w t e (omega arith)

pub points_within : (fault : Fault) (b : List ℕ) (place : ℕ) → Points fault b place → Within fault b place
points_within Cut b place p = p.within
points_within UnknownTag b place p = let k = p.head in omega arith
points_within WrongLength b place p = let k = p.head in let e = p.here in omega arith
points_within OutOfOrder b place p = whole_inside b place p
points_within OutOfRange b place p = number_inside b p.at place p.whole p.number
points_within UsedBefore b place p = whole_inside b place p.0
points_within TooMany b place p = whole_inside b place p.0
points_within NoTransceiver b place p = whole_inside b place p.0
points_within Empty b place p = (ap length p.0, p.1)
