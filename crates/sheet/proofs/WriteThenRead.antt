-- What is read from the sheet of good settings is those settings: field by field, network by network.
use Rattle.lists.proofs.Basics.{ℕ, ◌+◌, ◌-◌, ◌*◌, ◌/◌, ◌%◌, ◌<◌, ◌≤◌, arith, div-add-mod', ne_eqb, lt-leb, ◌≡◌, refl, sym, ap, subst, ◌∙◌, List, []}
use Rattle.lists.proofs.Basics.{◌∷◌, ◌++◌, append-nil, append_assoc, Bool, true, false, length, replicate, length-append, append_snoc}
use Rattle.lists.proofs.Basics.{take-append_seam, set, get_or}
use native.Mathlib.Nat.{zero-add}
use Rattle.lists.specs.Lists.{padded}
use Rattle.lists.proofs.Any.{any_append_left, any_append_right, lastly_snoc}
use Rattle.lists.proofs.Parts.{padded_set, padded_last, padded_set_last, padded_count}
use Rattle.fields.specs.Fields.{Row, field, rows, field_bytes}
use Rattle.fields.proofs.Laws.{rows_field}
use Rattle.std.specs.Prelude.{Option, None, Some, Ok}
use Rattle.settings.specs.declared.Relation.{Relation}
use Rattle.settings.specs.declared.Relation.TheVariants.{Above, AtOrAbove}
use Rattle.settings.specs.declared.Network.{Network}
use Rattle.settings.specs.declared.Settings.{Settings}
use Rattle.settings.specs.Settings.{blank_network, blank_settings, networks_of, handles_of, controllers_of, transceivers_of, listed, member}
use Rattle.settings.specs.Good.{Below, Fresh, all, InRange, EachInRange, Good}
use Rattle.settings.proofs.Good.{controllers_counted, fresh_left, fresh_right, all_snoc, used_handle, used_controller, used_transceiver}
use Rattle.entries.specs.declared.Progress.{Progress}
use Rattle.entries.specs.declared.Progress.TheVariants.{Named, Listed, Fitted, Timed, Limited}
use Rattle.entries.specs.declared.Opening.TheVariants.{Begins, Amends}
use Rattle.sheet.specs.declared.Reading.{Reading}
use Rattle.entries.specs.Entries.{layout_of, byte_entry, times_entry, whole_entry, field_entry}
use Rattle.entries.specs.Grammar.{opens_with, is_above, takes_relation, on_relation, add_relation, opens, begun, more, whole, present, takes_controller}
use Rattle.entries.specs.Grammar.{takes_times, add_controller, add_transceiver, add_times, add_threshold, add_partial, on_controller, on_transceiver, on_times}
use Rattle.entries.specs.Grammar.{on_threshold, on_partial, fills}
use Rattle.sheet.specs.Reading.{pushed, last_place, amended, closed, after_opening, after_filling, sheet, network, read_from, decode}
use Rattle.sheet.proofs.Writes.{length_network}
use Rattle.sheet.specs.Encode.{byte_field, times_field, encode_controllers, encode_transceiver, bit, encode_relation, encode_network, encode_networks}
use Rattle.sheet.specs.Encode.{encode}

-- ---- settings and networks of which some is read
-- the settings of some networks
abbrev pub settings_of : List Network → Settings
settings_of ns = record { networks = padded 8 blank_network ns; count = length ns }

-- the network of a handle and some controllers
abbrev pub part_of : ℕ → List ℕ → Network
part_of h cs =
    record {
      handle = h;
      controllers = padded 4 0 cs;
      count = length cs;
      transceiver = None;
      short = 0;
      long = 0;
      ensure = 0;
      threshold = 0;
      partial = false;
      relation = Above;
    }

pub networks_of_lem : (ns : List Network) → networks_of (settings_of ns) ≡ ns
networks_of_lem ns = take-append_seam ns (replicate (8 - length ns) blank_network)

controllers_of_lem : (h : ℕ) (cs : List ℕ) → controllers_of (part_of h cs) ≡ cs
controllers_of_lem h cs = take-append_seam cs (replicate (4 - length cs) 0)

pub push : (ns : List Network) (n : Network) → length ns < 8 → pushed (settings_of ns) n ≡ settings_of (ns ++ (n ∷ []))
unfolding pushed
push ns n h = λ i. record { networks = padded_set 8 blank_network n ns h i; count = sym (length-append ns (n ∷ [])) i }

-- field 07 is that of the last network
pub amend : (ns : List Network) (n : Network) → amended (settings_of (ns ++ (n ∷ []))) ≡ settings_of (ns ++ (add_relation n ∷ []))
unfolding amended
amend ns n =
    let slots : List Network = padded 8 blank_network (ns ++ (n ∷ [])) in
    let counted = length-append ns (n ∷ []) in
    let place : last_place (settings_of (ns ++ (n ∷ []))) ≡ length ns =
    ap (λ (l : List Network). length l - 1) (networks_of_lem (ns ++ (n ∷ []))) ∙ omega (arith, counted) in
    λ i. record {
      networks =
          (ap (λ (k : ℕ). set slots k (add_relation (get_or slots k blank_network))) place
          ∙ ap (λ (m : Network). set slots (length ns) (add_relation m)) (padded_last 8 blank_network n blank_network ns)
          ∙ padded_set_last 8 blank_network n (add_relation n) ns) i;
      count = (counted ∙ sym (length-append ns (add_relation n ∷ []))) i;
    }

add_controller_lem : (h c : ℕ) (cs : List ℕ) → length cs < 4 → add_controller (part_of h cs) c ≡ part_of h (cs ++ (c ∷ []))
unfolding add_controller
add_controller_lem h c cs k =
    λ i. record {
      handle = h;
      controllers = padded_set 4 0 c cs k i;
      count = sym (length-append cs (c ∷ [])) i;
      transceiver = None;
      short = 0;
      long = 0;
      ensure = 0;
      threshold = 0;
      partial = false;
      relation = Above;
    }

-- ---- an entry that is taken
module _ (at tag : ℕ) (v l : List ℕ) (S : Settings) (N M : Network) (P : Progress) where
  next_field : (r : Reading) → network (field at tag v (rows 0 (at + 3 + length v) l)) S N P ≡ r → network (rows 0 at (field_bytes tag v l)) S N P ≡ r
  next_field r e = ap (λ (k : Row). network k S N P) (rows_field at tag v l) ∙ e

  goes_on : (q : Progress) →
      fills S N P (field_entry tag v) ≡ more q M → network (rows 0 at (field_bytes tag v l)) S N P ≡ network (rows 0 (at + 3 + length v) l) S M q
  unfolding network after_filling
  goes_on q e = next_field _ (rw e refl)

  is_whole : fills S N P (field_entry tag v) ≡ whole M →
      network (rows 0 at (field_bytes tag v l)) S N P ≡ sheet (rows 0 (at + 3 + length v) l) (pushed S M)
  unfolding network after_filling
  is_whole e = next_field _ (rw e refl)

-- ---- each field of good settings is taken
six : ℕ → ℕ → ℕ → List ℕ
six x y z = x / 256 ∷ x % 256 ∷ y / 256 ∷ y % 256 ∷ z / 256 ∷ z % 256 ∷ []

takes_times_lem : (S : Settings) (N : Network) (P : Progress) (x y z : ℕ) →
    takes_times P ≡ true → 0 < x → 0 < y → 0 < z → fills S N P (field_entry 4 (six x y z)) ≡ more Timed (add_times N x y z)
unfolding six fills on_times field_entry layout_of whole_entry times_entry
takes_times_lem S N P x y z q hx hy hz =
    let e = ne_eqb x 0 (λ e. omega arith) in
    rw (div-add-mod' x 256, div-add-mod' y 256, div-add-mod' z 256, q, e, ne_eqb y 0 (λ e. omega arith), ne_eqb z 0 (λ e. omega arith)) refl

takes_threshold_lem : (S : Settings) (N : Network) (w : ℕ) → w < 255 → fills S N Timed (field_entry 5 (w ∷ [])) ≡ more Limited (add_threshold N w)
unfolding fills on_threshold field_entry layout_of whole_entry byte_entry
takes_threshold_lem S N w h = rw (lt-leb 255 w h) refl

takes_partial_lem : (S : Settings) (N : Network) (b : Bool) →
    (b ≡ true → present N.transceiver ≡ true) → fills S N Limited (field_entry 6 (bit b ∷ [])) ≡ whole (add_partial N b)
unfolding fills on_partial field_entry layout_of whole_entry byte_entry
takes_partial_lem S N false h = refl
takes_partial_lem S N true h = rw (h refl) refl

module _ (ns : List Network) where
  takes_transceiver_lem : (N : Network) (v : ℕ) →
      v < 8 → member v (all transceivers_of ns) ≡ false → fills (settings_of ns) N Listed (field_entry 3 (v ∷ [])) ≡ more Fitted (add_transceiver N v)
  unfolding fills on_transceiver field_entry layout_of whole_entry byte_entry
  takes_transceiver_lem N v h e = rw (lt-leb 8 v h, networks_of_lem ns, used_transceiver v ns, e) refl

  opens_handle : (v : ℕ) → member v (all handles_of ns) ≡ false → length ns < 8 → opens (settings_of ns) (field_entry 1 (v ∷ [])) ≡ Ok (Begins v)
  unfolding opens opens_with field_entry layout_of whole_entry byte_entry
  opens_handle v e h = rw (networks_of_lem ns, used_handle v ns, e, lt-leb 8 (length ns) h) refl

  takes_controller_lem : (h : ℕ) (cs : List ℕ) (P : Progress) (c : ℕ) → takes_controller P ≡ true → c < 32 → member c (all controllers_of ns ++ cs)
      ≡ false → length cs < 4 → fills (settings_of ns) (part_of h cs) P (field_entry 2 (c ∷ [])) ≡ more Listed (part_of h (cs ++ (c ∷ [])))
  unfolding fills on_controller field_entry layout_of whole_entry byte_entry
  takes_controller_lem h cs P c p k e l =
      let f = any_append_left _ (all controllers_of ns) cs e in let g = any_append_right _ (all controllers_of ns) cs e in
      rw (p, lt-leb 32 c k, networks_of_lem ns, used_controller c ns, f, controllers_of_lem h cs, g, lt-leb 4 (length cs) l, add_controller_lem h c cs l) refl

  -- ---- the fields one after the other
  controllers_run : (h : ℕ) (pre cs : List ℕ) (at : ℕ) (l : List ℕ) →
      Below 32 cs → Fresh (all controllers_of ns ++ pre) cs → length pre + length cs ≤ 4 → network (rows 0 at (encode_controllers cs l))
      (settings_of ns) (part_of h pre) Listed ≡ network (rows 0 (at + 4 * length cs) l) (settings_of ns) (part_of h (pre ++ cs)) Listed
  unfolding encode_controllers Below Fresh
  controllers_run h pre [] at l b f k = rw append-nil (ap (λ (n : ℕ). network (rows 0 n l) (settings_of ns) (part_of h pre) Listed) (omega arith))
  controllers_run h pre (c ∷ cs) at l b f k =
      let j : length (pre ++ (c ∷ [])) + length cs ≤ 4 = simp length-append (omega arith) in
      let g : Fresh (all controllers_of ns ++ (pre ++ (c ∷ []))) cs =
      subst (λ (k : List ℕ). Fresh k cs) (append_assoc (all controllers_of ns) pre (c ∷ [])) f.1 in
      goes_on at 2 (c ∷ []) (encode_controllers cs l)
      (settings_of ns) (part_of h pre) (part_of h (pre ++ (c ∷ []))) Listed Listed (takes_controller_lem h pre Listed c refl b.0 f.0 (omega arith))
      ∙ controllers_run h (pre ++ (c ∷ [])) cs (at + 3 + 1) l b.1 g j
      ∙ rw (append_snoc pre c cs) (ap (λ (n : ℕ). network (rows 0 n l) (settings_of ns) (part_of h (pre ++ c ∷ cs)) Listed) (omega arith))

  -- the first controller, from the handle on
  controllers_first : (h : ℕ) (cs : List ℕ) (at : ℕ) (l : List ℕ) →
      0 < length cs → length cs ≤ 4 → Below 32 cs → Fresh (all controllers_of ns) cs → network (rows 0 at (encode_controllers cs l))
      (settings_of ns) (part_of h []) Named ≡ network (rows 0 (at + 4 * length cs) l) (settings_of ns) (part_of h cs) Listed
  unfolding encode_controllers Below Fresh
  controllers_first h [] at l p k b f = absurd (omega arith)
  controllers_first h (c ∷ cs) at l p k b f =
      goes_on at 2 (c ∷ []) (encode_controllers cs l)
      (settings_of ns) (part_of h []) (part_of h (c ∷ [])) Named Listed (takes_controller_lem h [] Named c refl b.0 (rw append-nil f.0) (omega arith))
      ∙ controllers_run h (c ∷ []) cs (at + 3 + 1) l b.1 f.1 (omega arith)
      ∙ ap (λ (n : ℕ). network (rows 0 n l) (settings_of ns) (part_of h (c ∷ cs)) Listed) (omega arith)

  -- the times, the threshold and the last field, from a network N that has its controllers and its transceiver
  module _ (N : Network) (P : Progress) (q : takes_times P ≡ true) (x y z w : ℕ) (b : Bool) where
    abbrev finished : Network
    finished = add_partial (add_threshold (add_times N x y z) w) b

    still_present : (b ≡ true → present N.transceiver ≡ true) → b ≡ true → present (add_threshold (add_times N x y z) w).transceiver ≡ true
    unfolding add_threshold add_times
    still_present h e = h e

    end_run : (at : ℕ) (l : List ℕ) → 0 < x → 0 < y → 0 < z → w < 255 → (b ≡ true → present N.transceiver ≡ true) → network (rows 0 at (times_field
        x y z (byte_field 5 w (byte_field 6 (bit b) l)))) (settings_of ns) N P ≡ sheet (rows 0 (at + 17) l) (pushed (settings_of ns) finished)
    unfolding six
    end_run at l hx hy hz hw hb =
        let S : Settings = settings_of ns in
        let l6 : List ℕ = byte_field 6 (bit b) l in
        let l5 : List ℕ = byte_field 5 w l6 in
        let N4 : Network = add_times N x y z in
        let N5 : Network = add_threshold N4 w in
        goes_on at 4 (six x y z) l5 S N N4 P Timed (takes_times_lem S N P x y z q hx hy hz)
        ∙ goes_on (at + 3 + 6) 5 (w ∷ []) l6 S N4 N5 Timed Limited (takes_threshold_lem S N4 w hw)
        ∙ is_whole (at + 3 + 6 + 3 + 1) 6 (bit b ∷ []) l S N5 (add_partial N5 b) Limited (takes_partial_lem S N5 b (still_present hb))
        ∙ ap (λ (n : ℕ). sheet (rows 0 n l) (pushed S finished)) (omega arith)

-- ---- a whole network
has_present : (t : Option ℕ) (b : Bool) → (b ≡ true → t ≡ None → ⊥) → b ≡ true → present t ≡ true
has_present None b h e = absurd (h e refl)
has_present (Some v) b h e = refl

abbrev whole_of : ℕ → List ℕ → Option ℕ → ℕ → ℕ → ℕ → ℕ → Bool → Relation → Network
whole_of h cs t x y z w b r =
    record {
      handle = h;
      controllers = padded 4 0 cs;
      count = length cs;
      transceiver = t;
      short = x;
      long = y;
      ensure = z;
      threshold = w;
      partial = b;
      relation = r;
    }

-- a network without field 07, and its field 07 where it has one
abbrev related : Relation → Network → Network
related Above n = n
related AtOrAbove n = add_relation n

-- ---- field 07
module _ (ns : List Network) where
  opens_relation : (n : Network) → n.relation ≡ Above → opens (settings_of (ns ++ (n ∷ []))) (field_entry 7 (1 ∷ [])) ≡ Ok Amends
  unfolding opens on_relation takes_relation field_entry layout_of whole_entry byte_entry
  opens_relation n e = rw (networks_of_lem (ns ++ (n ∷ [])), lastly_snoc (λ (m : Network). is_above m.relation) ns n, e) refl

  relation_run : (n : Network) (r : Relation) (at : ℕ) (l : List ℕ) → n.relation ≡ Above → sheet (rows 0 at (encode_relation r l))
      (settings_of (ns ++ (n ∷ []))) ≡ sheet (rows 0 (at + length (encode_relation r [])) l) (settings_of (ns ++ (related r n ∷ [])))
  unfolding sheet after_opening encode_relation
  relation_run n Above at l e = ap (λ (k : ℕ). sheet (rows 0 k l) (settings_of (ns ++ (n ∷ [])))) (omega arith)
  relation_run n AtOrAbove at l e =
      ap (λ (k : Row). sheet k (settings_of (ns ++ (n ∷ [])))) (rows_field at 7 (1 ∷ []) l)
      ∙ rw (opens_relation n e) refl
      ∙ ap (sheet (rows 0 (at + 3 + 1) l)) (amend ns n)
      ∙ ap (λ (k : ℕ). sheet (rows 0 k l) (settings_of (ns ++ (add_relation n ∷ [])))) (omega arith)

module _ (ns : List Network) where
  transceiver_run : (h : ℕ) (cs : List ℕ) (t : Option ℕ) (x y z w : ℕ) (b : Bool) (at : ℕ) (l : List ℕ)
      → Below 8 (listed t) → Fresh (all transceivers_of ns) (listed t) → 0 < x → 0 < y → 0 < z → w < 255 → (b ≡ true → present t ≡ true)
      → network (rows 0 at (encode_transceiver t (times_field x y z (byte_field 5 w (byte_field 6 (bit b) l))))) (settings_of ns) (part_of h cs) Listed
      ≡ sheet (rows 0 (at + 4 * length (listed t) + 17) l) (pushed (settings_of ns) (whole_of h cs t x y z w b Above))
  unfolding encode_transceiver add_partial add_threshold add_times add_transceiver Below Fresh
  transceiver_run h cs None x y z w b at l g f hx hy hz hw hb =
      end_run ns (part_of h cs) Listed refl x y z w b at l hx hy hz hw hb
      ∙ ap (λ (n : ℕ). sheet (rows 0 n l) (pushed (settings_of ns) (whole_of h cs None x y z w b Above))) (omega arith)
  transceiver_run h cs (Some v) x y z w b at l g f hx hy hz hw hb =
      goes_on at 3 (v ∷ []) (times_field x y z (byte_field 5 w (byte_field 6 (bit b) l)))
      (settings_of ns) (part_of h cs) (add_transceiver (part_of h cs) v) Listed Fitted (takes_transceiver_lem ns (part_of h cs) v g.0 f.0)
      ∙ end_run ns (add_transceiver (part_of h cs) v) Fitted refl x y z w b (at + 3 + 1) l hx hy hz hw hb
      ∙ ap (λ (n : ℕ). sheet (rows 0 n l) (pushed (settings_of ns) (whole_of h cs (Some v) x y z w b Above))) (omega arith)

  -- a network as it is read up to field 06
  abbrev six_of : Network → Relation → Network
  six_of n r = whole_of n.handle (controllers_of n) n.transceiver n.short n.long n.ensure n.threshold n.partial r

  six_related : (n : Network) (r : Relation) → related r (six_of n Above) ≡ six_of n r
  unfolding add_relation
  six_related n Above = refl
  six_related n AtOrAbove = refl

  whole_of_lem : (n : Network) → InRange n → related n.relation (six_of n Above) ≡ n
  whole_of_lem n g =
      six_related n n.relation
      ∙ λ i. record {
        handle = n.handle;
        controllers = sym g.blank_slots i;
        count = controllers_counted n g i;
        transceiver = n.transceiver;
        short = n.short;
        long = n.long;
        ensure = n.ensure;
        threshold = n.threshold;
        partial = n.partial;
        relation = n.relation;
      }

  -- how many bytes a network has
  size : Network → ℕ
  size n = 4 + 4 * length (controllers_of n) + 4 * length (transceivers_of n) + 17 + length (encode_relation n.relation [])

  network_run : (n : Network) (at : ℕ) (l : List ℕ) → InRange n → length ns < 8
      → Fresh (all handles_of ns) (handles_of n) → Fresh (all controllers_of ns) (controllers_of n) → Fresh (all transceivers_of ns) (transceivers_of n)
      → sheet (rows 0 at (encode_network n l)) (settings_of ns) ≡ sheet (rows 0 (at + size n) l) (settings_of (ns ++ (n ∷ [])))
  unfolding encode_network sheet after_opening begun size Fresh
  network_run n at l g h fh fc ft =
      let r2 : List ℕ = encode_relation n.relation l in
      let r1 : List ℕ = encode_transceiver
      n.transceiver (times_field n.short n.long n.ensure (byte_field 5 n.threshold (byte_field 6 (bit n.partial) r2))) in
      let r0 : List ℕ = encode_controllers (controllers_of n) r1 in
      let u : length (controllers_of n) ≡ n.count = controllers_counted n g in
      let a1 : ℕ = at + 3 + 1 + 4 * length (controllers_of n) in
      let a2 : ℕ = a1 + 4 * length (transceivers_of n) + 17 in
      ap (λ (r : Row). sheet r (settings_of ns)) (rows_field at 1 (n.handle ∷ []) r0)
      ∙ rw (opens_handle ns n.handle fh.0 h) refl
      ∙ controllers_first ns
      n.handle (controllers_of n) (at + 3 + 1) r1 (omega (arith, g.some_controller)) (omega (arith, g.few_controllers)) g.controllers fc
      ∙ transceiver_run n.handle (controllers_of n) n.transceiver n.short n.long n.ensure n.threshold n.partial a1 r2
      g.transceiver ft g.short.0 g.long.0 g.ensure.0 g.threshold (has_present n.transceiver n.partial g.partial)
      ∙ ap (sheet (rows 0 a2 r2)) (push ns (six_of n Above) h)
      ∙ relation_run ns (six_of n Above) n.relation a2 l refl
      ∙ rw (whole_of_lem n g) (ap (λ (k : ℕ). sheet (rows 0 k l) (settings_of (ns ++ (n ∷ [])))) (omega arith))

length_size : (ns : List Network) (n : Network) (l : List ℕ) → length (encode_network n l) ≡ size ns n + length l
unfolding size
length_size ns n l = omega (arith, length_network n l)

-- ---- the whole sheet
-- the networks still to come are in range, and their ids are new
record Coming (ns rest : List Network) : Type 0 where
  in_range : EachInRange rest
  handles : Fresh (all handles_of ns) (all handles_of rest)
  controllers : Fresh (all controllers_of ns) (all controllers_of rest)
  transceivers : Fresh (all transceivers_of ns) (all transceivers_of rest)

later_fresh : (ids : Network → List ℕ) (ns : List Network) (n : Network) (rest : List Network) →
    Fresh (all ids ns) (ids n ++ all ids rest) → Fresh (all ids (ns ++ (n ∷ []))) (all ids rest)
later_fresh ids ns n rest f = rw (all_snoc ids ns n) (fresh_right (all ids ns) (ids n) (all ids rest) f)

coming_later : (ns : List Network) (n : Network) (rest : List Network) → Coming ns (n ∷ rest) → Coming (ns ++ (n ∷ [])) rest
unfolding EachInRange all
coming_later ns n rest g = record {
  in_range = g.in_range.1;
  handles = later_fresh handles_of ns n rest g.handles;
  controllers = later_fresh controllers_of ns n rest g.controllers;
  transceivers = later_fresh transceivers_of ns n rest g.transceivers;
}

first_run : (ns : List Network) (n : Network) (rest : List Network) (at : ℕ) (l : List ℕ) → Coming ns (n ∷ rest) → length ns < 8
    → sheet (rows 0 at (encode_network n l)) (settings_of ns) ≡ sheet (rows 0 (at + size ns n) l) (settings_of (ns ++ (n ∷ [])))
unfolding EachInRange all
first_run ns n rest at l g h =
    network_run ns n at l g.in_range.0 h
    (fresh_left _ (handles_of n) (all handles_of rest) g.handles)
    (fresh_left _ (controllers_of n) (all controllers_of rest) g.controllers)
    (fresh_left _ (transceivers_of n) (all transceivers_of rest) g.transceivers)

networks_run : (ns rest : List Network) (at : ℕ) → Coming ns rest → length ns + length rest ≤ 8
    → sheet (rows 0 at (encode_networks rest [])) (settings_of ns) ≡ closed (settings_of (ns ++ rest)) (at + length (encode_networks rest []))
unfolding encode_networks sheet rows
networks_run ns [] at g h = rw (append-nil ns) (ap (closed (settings_of ns)) (omega arith))
networks_run ns (n ∷ rest) at g h =
    let j : length (ns ++ (n ∷ [])) + length rest ≤ 8 = simp length-append (omega arith) in
    let e : length (encode_network n (encode_networks rest [])) ≡ size ns n + length (encode_networks rest []) =
    length_size ns n (encode_networks rest []) in
    first_run ns n rest at (encode_networks rest []) g (omega arith)
    ∙ networks_run (ns ++ (n ∷ [])) rest (at + size ns n) (coming_later ns n rest g) j
    ∙ rw (append_snoc ns n rest) (ap (closed (settings_of (ns ++ n ∷ rest))) (omega arith))

module _ (s : Settings) (g : Good s) where
  networks_count : length (networks_of s) ≡ s.count
  networks_count = padded_count 8 blank_network s.networks s.count g.few_networks g.blank_slots

  same_settings : settings_of (networks_of s) ≡ s
  same_settings = λ i. record { networks = sym g.blank_slots i; count = networks_count i }

  all_coming : Coming [] (networks_of s)
  unfolding all
  all_coming = record { in_range = g.in_range; handles = g.handles; controllers = g.controllers; transceivers = g.transceivers }

  -- what is read from a written sheet is the settings that were written, with the sheet's length as place
  pub write_then_read : decode (encode s) ≡ (let r : Reading = record { answer = Ok tt; place = length (encode s); settings = s } in r)
  unfolding read_from encode blank_settings closed
  write_then_read =
      let u : length (networks_of s) ≡ s.count = networks_count in
      networks_run [] (networks_of s) 0 all_coming (omega (arith, g.few_networks))
      ∙ rw (ne_eqb (length (networks_of s)) 0 (λ e. omega (arith, g.some_network)))
      (λ i. record { answer = Ok tt; place = zero-add (length (encode_networks (networks_of s) [])) i; settings = same_settings i })
