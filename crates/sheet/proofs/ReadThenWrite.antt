-- The settings of an accepted sheet are good, and their sheet is the very bytes that were read. One induction over the row of fields shows
-- both: `Part` says what holds of an unfinished network after each progress, and `encode_part` which bytes it has been read from.
use Rattle.lists.proofs.Basics.{ℕ, ◌+◌, ◌<◌, ◌≤◌, arith, eqb-true, eqb-false, leb-false, ◌≡◌, refl, sym, ap, subst, ◌∙◌, List, ◌∷◌, ◌++◌, Bool, true}
use Rattle.lists.proofs.Basics.{false, false≢true, cond, eqb, leb, length, get_or, set, length-append, length-take-le, []}
use Rattle.lists.specs.Lists.{padded, Bytes}
use mathlib.Core.Path.{fun_ext}
use Rattle.lists.proofs.Tests.{split}
use Rattle.lists.proofs.Any.{any_append_none, ending}
use Rattle.lists.proofs.Parts.{take_set_more, padded_set, padded_length}
use Rattle.fields.specs.Fields.{Row, stop, stub, overrun, field, row_at, field_bytes}
use Rattle.fields.proofs.Laws.{bytes_of, Ends, ByteRow, bytes_back, bytes_row, two_bytes}
use Rattle.std.specs.Prelude.{Option, None, Some, Result, Ok, Err}
use Rattle.settings.specs.declared.Relation.{Relation}
use Rattle.settings.specs.declared.Relation.TheVariants.{Above, AtOrAbove}
use Rattle.settings.specs.declared.Network.{Network}
use Rattle.settings.specs.declared.Id.TheVariants.{OfNetwork, OfController, OfTransceiver}
use Rattle.settings.specs.Settings.{blank_network, blank_settings, networks_of, handles_of, controllers_of, transceivers_of, listed, member, has, used}
use Rattle.settings.specs.Good.{Below, Fresh, Distinct, all, InRange, EachInRange, Good}
use Rattle.settings.proofs.Good.{below_append, fresh_append, fresh_more, all_snoc, each_snoc, each_last, used_handle, used_controller}
use Rattle.settings.proofs.Good.{used_transceiver}
use Rattle.entries.specs.declared.Fault.{Fault}
use Rattle.entries.specs.declared.Fault.TheVariants.{Cut, Empty}
use Rattle.entries.specs.declared.Entry.{Entry}
use Rattle.entries.specs.declared.Entry.TheVariants.{End, Bad}
use Rattle.entries.specs.declared.Layout.{Layout}
use Rattle.entries.specs.declared.Layout.TheVariants.{Byte}
use Rattle.entries.specs.declared.Progress.{Progress}
use Rattle.entries.specs.declared.Progress.TheVariants.{Named, Listed, Fitted, Timed, Limited}
use Rattle.entries.specs.declared.Opening.{Opening}
use Rattle.entries.specs.declared.Opening.TheVariants.{Closes, Begins, Amends}
use Rattle.entries.specs.declared.Filled.{Filled}
use Rattle.sheet.specs.declared.Reading.{Reading}
use Rattle.entries.specs.Entries.{layout_of, overrun_fault, byte_entry, times_entry, whole_entry, field_entry}
use Rattle.entries.specs.Grammar.{opens_with, is_above, takes_relation, on_relation, add_relation, opens, begun, present, add_controller, add_transceiver}
use Rattle.entries.specs.Grammar.{add_times, add_threshold, add_partial, on_controller, on_transceiver, on_times, on_threshold, on_partial, fills}
use Rattle.sheet.specs.Reading.{pushed, amended, place_of, refused_at, closed, after_opening, after_field, after_filling, sheet, network, read_from, decode}
use Rattle.sheet.specs.Encode.{byte_field, times_field, encode_controllers, encode_transceiver, encode_relation, encode_network, encode_networks, encode}
use Rattle.entries.proofs.Laws.{Says, layout_says}
use Rattle.sheet.proofs.Writes.{controllers_onto, networks_onto}
use Rattle.sheet.proofs.WriteThenRead.{settings_of, networks_of_lem, push, amend}

-- ---- what an entry says of the field that it was read from
abbrev Means : ℕ → List ℕ → Entry → Type 0
Means tag v End = ⊥
Means tag v (Bad fault) = Unit
Means tag v (Entry.Handle x) = (x < 256) × (byte_field 1 x ≡ field_bytes tag v)
Means tag v (Entry.Controller x) = byte_field 2 x ≡ field_bytes tag v
Means tag v (Entry.Transceiver x) = byte_field 3 x ≡ field_bytes tag v
Means tag v (Entry.Times x y z) = (x < 65536) × (y < 65536) × (z < 65536) × (times_field x y z ≡ field_bytes tag v)
Means tag v (Entry.Threshold x) = byte_field 5 x ≡ field_bytes tag v
Means tag v (Entry.Partial x) = byte_field 6 x ≡ field_bytes tag v
Means tag v (Entry.Relation x) = byte_field 7 x ≡ field_bytes tag v

-- a field of one byte, by its tag
tagged : (tag k x : ℕ) → tag ≡ k → byte_field k x ≡ field_bytes tag (x ∷ [])
tagged tag k x e = ap (λ (t : ℕ). byte_field t x) (sym e)

-- a tag that is none of the lower ones
past : (tag k : ℕ) → k ≤ tag → (tag ≡ k → ⊥) → k + 1 ≤ tag
past tag k h n = omega (arith, n)

byte_means : (tag x : ℕ) → x < 256 → 1 ≤ tag → tag ≤ 7 → (tag ≡ 4 → ⊥) → Means tag (x ∷ []) (byte_entry tag x)
unfolding byte_entry
byte_means tag x h low high four =
    split (Means tag (x ∷ [])) (eqb tag 1) (λ a. (h, tagged tag 1 x (eqb-true tag 1 a)))
    (λ a. split (Means tag (x ∷ [])) (eqb tag 2) (λ b. tagged tag 2 x (eqb-true tag 2 b))
    (λ b. split (Means tag (x ∷ [])) (eqb tag 3) (λ c. tagged tag 3 x (eqb-true tag 3 c))
    (λ c. split (Means tag (x ∷ [])) (eqb tag 5) (λ d. tagged tag 5 x (eqb-true tag 5 d))
    (λ d. split (Means tag (x ∷ [])) (eqb tag 6) (λ e. tagged tag 6 x (eqb-true tag 6 e))
    (λ e.
    let third = past tag 2 (past tag 1 low (eqb-false tag 1 a)) (eqb-false tag 2 b) in
    let fifth = past tag 4 (past tag 3 third (eqb-false tag 3 c)) four in
    let seventh = past tag 6 (past tag 5 fifth (eqb-false tag 5 d)) (eqb-false tag 6 e) in
    tagged tag 7 x (omega (arith, seventh, high)))))))

times_means : (tag : ℕ) (v : List ℕ) → Bytes v → length v ≡ 6 → tag ≡ 4 → Means tag v (times_entry v)
unfolding times_entry Bytes
times_means tag (a ∷ b ∷ c ∷ d ∷ e ∷ f ∷ []) w n t =
    let x = two_bytes a b w.1.0 in
    let y = two_bytes c d w.1.1.1.0 in
    let z = two_bytes e f w.1.1.1.1.1.0 in (
      omega (arith, w.0, w.1.0),
      omega (arith, w.1.1.0, w.1.1.1.0),
      omega (arith, w.1.1.1.1.0, w.1.1.1.1.1.0),
      fun_ext (λ l. rw (t, x.0, x.1, y.0, y.1, z.0, z.1) refl),
    )
times_means tag [] w n t = absurd (omega arith)
times_means tag (a ∷ []) w n t = absurd (omega arith)
times_means tag (a ∷ b ∷ []) w n t = absurd (omega arith)
times_means tag (a ∷ b ∷ c ∷ []) w n t = absurd (omega arith)
times_means tag (a ∷ b ∷ c ∷ d ∷ []) w n t = absurd (omega arith)
times_means tag (a ∷ b ∷ c ∷ d ∷ e ∷ []) w n t = absurd (omega arith)
times_means tag (a ∷ b ∷ c ∷ d ∷ e ∷ f ∷ g ∷ v) w n t = absurd (omega arith)

one_means : (tag : ℕ) (v : List ℕ) → Bytes v → length v ≡ 1 → 1 ≤ tag → tag ≤ 7 → (tag ≡ 4 → ⊥) → Means tag v (byte_entry tag (get_or v 0 0))
unfolding Bytes
one_means tag [] w n low high four = absurd (omega arith)
one_means tag (x ∷ []) w n low high four = byte_means tag x w.0 low high four
one_means tag (x ∷ y ∷ v) w n low high four = absurd (omega arith)

by_layout : (tag : ℕ) (v : List ℕ) (layout : Result Layout Fault) → Says tag (length v) layout → Bytes v → Means tag v (whole_entry layout tag v)
unfolding whole_entry
by_layout tag v (Err fault) s w = tt
by_layout tag v (Ok Byte) s w = one_means tag v w s.0 s.1 s.2 s.3
by_layout tag v (Ok Layout.Times) s w = times_means tag v w s.0 s.1

entry_means : (tag : ℕ) (v : List ℕ) → Bytes v → Means tag v (field_entry tag v)
unfolding field_entry
entry_means tag v w = by_layout tag v (layout_of tag (length v)) (layout_says tag (length v)) w

-- ---- an unfinished network
-- what holds from the handle on
record Base (ns : List Network) (n : Network) : Type 0 where
  handle : n.handle < 256
  fresh_handle : Fresh (all handles_of ns) (handles_of n)
  few : n.count ≤ 4
  slots : n.controllers ≡ padded 4 0 (controllers_of n)
  below : Below 32 (controllers_of n)
  fresh : Fresh (all controllers_of ns) (controllers_of n)
  older : n.relation ≡ Above

abbrev Link : List Network → Option ℕ → Type 0
Link ns t = Below 8 (listed t) × Fresh (all transceivers_of ns) (listed t)

abbrev Timing : Network → Type 0
Timing n = ((0 < n.short) × (n.short < 65536)) × ((0 < n.long) × (n.long < 65536)) × ((0 < n.ensure) × (n.ensure < 65536))

abbrev Part : List Network → Progress → Network → Type 0
Part ns Named n = Base ns n × (n.transceiver ≡ None)
Part ns Listed n = Base ns n × (n.transceiver ≡ None) × (0 < n.count)
Part ns Fitted n = Base ns n × Link ns n.transceiver × (0 < n.count)
Part ns Timed n = Base ns n × Link ns n.transceiver × (0 < n.count) × Timing n
Part ns Limited n = Base ns n × Link ns n.transceiver × (0 < n.count) × Timing n × (n.threshold < 255)

-- a network that can follow the networks ns
record Fits (ns : List Network) (n : Network) : Type 0 where
  in_range : InRange n
  handles : Fresh (all handles_of ns) (handles_of n)
  controllers : Fresh (all controllers_of ns) (controllers_of n)
  transceivers : Fresh (all transceivers_of ns) (transceivers_of n)

-- the bytes of a network so far, by its progress
unfoldable encode_part : Progress → Network → List ℕ → List ℕ
encode_part Named n l = byte_field 1 n.handle (encode_controllers (controllers_of n) l)
encode_part Listed n l = byte_field 1 n.handle (encode_controllers (controllers_of n) l)
encode_part Fitted n l = byte_field 1 n.handle (encode_controllers (controllers_of n) (encode_transceiver n.transceiver l))
encode_part Timed n l =
    byte_field 1
    n.handle (encode_controllers (controllers_of n) (encode_transceiver n.transceiver (times_field n.short n.long n.ensure l)))
encode_part Limited n l =
    byte_field 1 n.handle (encode_controllers
    (controllers_of n) (encode_transceiver n.transceiver (times_field n.short n.long n.ensure (byte_field 5 n.threshold l))))

-- what a move leads to, where `bytes` is how the bytes so far go on
abbrev Leads : List Network → (List ℕ → List ℕ) → Option Progress → Network → Type 0
Leads ns bytes (Some progress) n = Part ns progress n × ((l : List ℕ) → encode_part progress n l ≡ bytes l)
Leads ns bytes None n = Fits ns n × ((l : List ℕ) → encode_network n l ≡ bytes l)

abbrev Led : List Network → (List ℕ → List ℕ) → Result Filled Fault → Type 0
Led ns bytes (Ok filled) = Leads ns bytes filled.progress filled.network
Led ns bytes (Err fault) = Unit

-- the same for a field that is written in another way
led_same : (ns : List Network) (bytes : List ℕ → List ℕ) (m : Result Filled Fault) {f g : List ℕ → List ℕ} →
    f ≡ g → Led ns (λ l. bytes (f l)) m → Led ns (λ l. bytes (g l)) m
led_same ns bytes m e p = subst (λ (f : List ℕ → List ℕ). Led ns (λ l. bytes (f l)) m) e p

-- ---- field 02
module _ (ns : List Network) (n : Network) (x : ℕ) (b : Base ns n) (h : n.count < 4) where
  four : length n.controllers ≡ 4
  four = padded_length 4 0 n.controllers n.count b.few b.slots

  controllers_more : controllers_of (add_controller n x) ≡ controllers_of n ++ (x ∷ [])
  unfolding add_controller
  controllers_more = take_set_more n.controllers n.count x (omega (arith, four))

  base_more : x < 32 → member x (all controllers_of ns ++ controllers_of n) ≡ false → Base ns (add_controller n x)
  unfolding add_controller Below
  base_more k e =
      let u : length (controllers_of n) ≡ n.count = length-take-le n.count n.controllers (omega (arith, four)) in
      let t = controllers_more in
      record {
        handle = b.handle;
        fresh_handle = b.fresh_handle;
        few = omega arith;
        slots =
            ap (λ (l : List ℕ). set l n.count x) b.slots
            ∙ ap (λ (k : ℕ). set (padded 4 0 (controllers_of n)) k x) (sym u)
            ∙ padded_set 4 0 x (controllers_of n) (omega arith)
            ∙ ap (padded 4 0) (sym t);
        below = subst (Below 32) (sym t) (below_append 32 (controllers_of n) (x ∷ []) b.below (k, tt));
        fresh = subst (Fresh (all controllers_of ns)) (sym t) (fresh_more (all controllers_of ns) (controllers_of n) x b.fresh e);
        older = b.older;
      }

-- the tests of field 02 that follow that of the order
controller_led : (ns : List Network) (n : Network) (x : ℕ) → Base ns n → n.transceiver ≡ None
    → Led ns (λ l. byte_field 1 n.handle (encode_controllers (controllers_of n) (byte_field 2 x l))) (on_controller (settings_of ns) n Listed x)
unfolding on_controller encode_part add_controller encode_controllers
controller_led ns n x b t =
    split (Led ns _) (leb 32 x) (λ a. tt)
    (λ a. split (Led ns _) (used (OfController x) (networks_of (settings_of ns))) (λ u. tt)
    (λ u. split (Led ns _) (has (OfController x) n) (λ o. tt)
    (λ o. split (Led ns _) (leb 4 n.count) (λ k. tt)
    (λ k.
    let h : n.count < 4 = leb-false 4 n.count k in
    let v : member x (all controllers_of ns) ≡ false = sym (used_controller x ns) ∙ ap (used (OfController x)) (sym (networks_of_lem ns)) ∙ u in (
      (base_more ns n x b h (leb-false 32 x a) (any_append_none _ (all controllers_of ns) (controllers_of n) v o), t, omega arith),
      λ l. ap (byte_field 1 n.handle)
          (ap (λ (cs : List ℕ). encode_controllers cs l) (controllers_more ns n x b h) ∙ controllers_onto (controllers_of n) (x ∷ []) l),
    )))))

controller_leads : (ns : List Network) (n : Network) (progress : Progress) (x : ℕ) →
    Part ns progress n → Led ns (λ l. encode_part progress n (byte_field 2 x l)) (on_controller (settings_of ns) n progress x)
unfolding on_controller encode_part
controller_leads ns n Named x p = controller_led ns n x p.0 p.1
controller_leads ns n Listed x p = controller_led ns n x p.0 p.1
controller_leads ns n Fitted x p = tt
controller_leads ns n Timed x p = tt
controller_leads ns n Limited x p = tt

-- ---- field 03
-- a change of what stands beside the handle and the controllers keeps `Base`
module _ (ns : List Network) (n m : Network) (h : m.handle ≡ n.handle) (c : m.controllers ≡ n.controllers) (k : m.count ≡ n.count)
    (r : m.relation ≡ n.relation) where
  base_kept : Base ns n → Base ns m
  base_kept b =
      let t : controllers_of m ≡ controllers_of n = rw (c, k) refl in
      record {
        handle = rw h b.handle;
        fresh_handle = rw h b.fresh_handle;
        few = rw k b.few;
        slots = c ∙ b.slots ∙ ap (padded 4 0) (sym t);
        below = rw t b.below;
        fresh = rw t b.fresh;
        older = r ∙ b.older;
      }

transceiver_leads : (ns : List Network) (n : Network) (progress : Progress) (x : ℕ) →
    Part ns progress n → Led ns (λ l. encode_part progress n (byte_field 3 x l)) (on_transceiver (settings_of ns) n progress x)
unfolding on_transceiver encode_part add_transceiver encode_transceiver Below Fresh
transceiver_leads ns n Named x p = tt
transceiver_leads ns n Listed x p =
    split (Led ns _) (leb 8 x) (λ a. tt)
    (λ a. split (Led ns _) (used (OfTransceiver x) (networks_of (settings_of ns))) (λ u. tt)
    (λ u.
    let v : member x (all transceivers_of ns) ≡ false = sym (used_transceiver x ns) ∙ ap (used (OfTransceiver x)) (sym (networks_of_lem ns)) ∙ u in
    ((base_kept ns n (add_transceiver n x) refl refl refl refl p.0, ((leb-false 8 x a, tt), (v, tt)), p.2), λ l. refl)))
transceiver_leads ns n Fitted x p = tt
transceiver_leads ns n Timed x p = tt
transceiver_leads ns n Limited x p = tt

-- ---- field 04
no_transceiver : (t : Option ℕ) (l : List ℕ) → t ≡ None → encode_transceiver t l ≡ l
unfolding encode_transceiver
no_transceiver t l e = rw e refl

no_link : (ns : List Network) (t : Option ℕ) → t ≡ None → Link ns t
unfolding Below Fresh
no_link ns t e = rw e (tt, tt)

above_zero : (x : ℕ) → eqb x 0 ≡ false → 0 < x
above_zero x e = omega (arith, eqb-false x 0 e)

module _ (ns : List Network) (n : Network) (x y z : ℕ) (hx : x < 65536) (hy : y < 65536) (hz : z < 65536) where
  times_led : Base ns n → Link ns n.transceiver → 0 < n.count → (bytes : List ℕ → List ℕ) → ((l : List ℕ) →
      byte_field 1 n.handle (encode_controllers (controllers_of n) (encode_transceiver n.transceiver (times_field x y z l))) ≡ bytes l) →
      Led ns bytes (on_times n Fitted x y z)
  unfolding on_times encode_part add_times
  times_led b k c bytes e =
      split (Led ns bytes) (eqb x 0) (λ p. tt)
      (λ p. split (Led ns bytes) (eqb y 0) (λ q. tt)
      (λ q. split (Led ns bytes) (eqb z 0) (λ r. tt)
      (λ r. ((base_kept ns n (add_times n x y z) refl refl refl refl b, k, c, ((above_zero x p, hx), (above_zero y q, hy), (above_zero z r, hz))), e))))

  times_leads : (progress : Progress) → Part ns progress n → Led ns (λ l. encode_part progress n (times_field x y z l)) (on_times n progress x y z)
  unfolding on_times encode_part
  times_leads Named p = tt
  times_leads Listed p =
      times_led p.0 (no_link ns n.transceiver p.1) p.2 _ (λ l. ap (λ (k : List ℕ). byte_field 1
      n.handle (encode_controllers (controllers_of n) k)) (no_transceiver n.transceiver (times_field x y z l) p.1))
  times_leads Fitted p = times_led p.0 p.1 p.2 _ (λ l. refl)
  times_leads Timed p = tt
  times_leads Limited p = tt

-- ---- field 05
threshold_leads : (ns : List Network) (n : Network) (progress : Progress) (x : ℕ) →
    Part ns progress n → Led ns (λ l. encode_part progress n (byte_field 5 x l)) (on_threshold n progress x)
unfolding on_threshold encode_part add_threshold
threshold_leads ns n Named x p = tt
threshold_leads ns n Listed x p = tt
threshold_leads ns n Fitted x p = tt
threshold_leads ns n Timed x p =
    split (Led ns _) (leb 255 x) (λ a. tt)
    (λ a. ((base_kept ns n (add_threshold n x) refl refl refl refl p.0, p.1, p.2, p.3, leb-false 255 x a), λ l. refl))
threshold_leads ns n Limited x p = tt

-- ---- field 06
is_present : (t : Option ℕ) → present t ≡ true → t ≡ None → ⊥
is_present None e a = cc
is_present (Some x) e a = cc

finished : (ns : List Network) (n : Network) (partial : Bool) →
    Part ns Limited n → (partial ≡ true → n.transceiver ≡ None → ⊥) → Fits ns (add_partial n partial)
unfolding add_partial
finished ns n partial p h = record {
  in_range = record {
    handle = p.0.handle;
    some_controller = p.2;
    few_controllers = p.0.few;
    blank_slots = p.0.slots;
    controllers = p.0.below;
    transceiver = p.1.0;
    short = p.3.0;
    long = p.3.1;
    ensure = p.3.2;
    threshold = p.4;
    partial = h;
  };
  handles = p.0.fresh_handle;
  controllers = p.0.fresh;
  transceivers = p.1.1;
}

partial_leads : (ns : List Network) (n : Network) (progress : Progress) (x : ℕ) →
    Part ns progress n → Led ns (λ l. encode_part progress n (byte_field 6 x l)) (on_partial n progress x)
unfolding on_partial encode_part add_partial encode_network encode_relation
partial_leads ns n Named x p = tt
partial_leads ns n Listed x p = tt
partial_leads ns n Fitted x p = tt
partial_leads ns n Timed x p = tt
partial_leads ns n Limited x p =
    split (Led ns _) (eqb x 0)
    (λ a. let e : x ≡ 0 = eqb-true x 0 a in (finished ns n false p (λ f. cc), λ l. rw (e, p.0.older) refl))
    (λ a. split (Led ns _) (eqb x 1)
    (λ b. let e : x ≡ 1 = eqb-true x 1 b in
    split (Led ns _) (present n.transceiver) (λ t. (finished ns n true p (λ f. is_present n.transceiver t), λ l. rw (e, p.0.older) refl))
    (λ t. tt))
    (λ b. tt))

-- ---- any entry in a network
by_entry : (ns : List Network) (n : Network) (progress : Progress) (tag : ℕ) (v : List ℕ) (entry : Entry) → Means tag v entry → Part ns progress n
    → Led ns (λ l. encode_part progress n (field_bytes tag v l)) (fills (settings_of ns) n progress entry)
unfolding fills
by_entry ns n progress tag v End m p = tt
by_entry ns n progress tag v (Bad fault) m p = tt
by_entry ns n progress tag v (Entry.Handle x) m p = tt
by_entry ns n progress tag v (Entry.Controller x) m p =
    led_same ns (encode_part progress n) (on_controller (settings_of ns) n progress x) m (controller_leads ns n progress x p)
by_entry ns n progress tag v (Entry.Transceiver x) m p =
    led_same ns (encode_part progress n) (on_transceiver (settings_of ns) n progress x) m (transceiver_leads ns n progress x p)
by_entry ns n progress tag v (Entry.Times x y z) m p =
    led_same ns (encode_part progress n) (on_times n progress x y z) m.3 (times_leads ns n x y z m.0 m.1 m.2 progress p)
by_entry ns n progress tag v (Entry.Threshold x) m p =
    led_same ns (encode_part progress n) (on_threshold n progress x) m (threshold_leads ns n progress x p)
by_entry ns n progress tag v (Entry.Partial x) m p =
    led_same ns (encode_part progress n) (on_partial n progress x) m (partial_leads ns n progress x p)
by_entry ns n progress tag v (Entry.Relation x) m p = tt

-- ---- where a network may begin
abbrev Starts : List Network → (List ℕ → List ℕ) → Result Opening Fault → Type 0
Starts ns bytes (Ok Closes) = ⊥
Starts ns bytes (Ok (Begins handle)) = Part ns Named (begun handle) × ((l : List ℕ) → encode_part Named (begun handle) l ≡ bytes l) × (length ns < 8)
Starts ns bytes (Err fault) = Unit
Starts ns bytes (Ok Amends) = (takes_relation ns ≡ true) × ((l : List ℕ) → byte_field 7 1 l ≡ bytes l)

begun_part : (ns : List Network) (handle : ℕ) → handle < 256 → member handle (all handles_of ns) ≡ false → Part ns Named (begun handle)
unfolding begun Below Fresh
begun_part ns handle h e = (record { handle = h; fresh_handle = (e, tt); few = omega arith; slots = refl; below = tt; fresh = tt; older = refl }, refl)

handle_starts : (ns : List Network) (x : ℕ) → x < 256 → Starts ns (λ l. byte_field 1 x l) (opens_with (settings_of ns) x)
unfolding opens_with begun encode_part encode_controllers
handle_starts ns x h =
    split (Starts ns _) (used (OfNetwork x) (networks_of (settings_of ns))) (λ u. tt)
    (λ u. split (Starts ns _) (leb 8 (length ns)) (λ k. tt)
    (λ k. (begun_part ns x h (sym (used_handle x ns) ∙ ap (used (OfNetwork x)) (sym (networks_of_lem ns)) ∙ u), (λ l. refl), leb-false 8 (length ns) k)))

relation_starts : (ns : List Network) (x : ℕ) → Starts ns (λ l. byte_field 7 x l) (on_relation (settings_of ns) x)
unfolding on_relation
relation_starts ns x =
    split (Starts ns _) (takes_relation (networks_of (settings_of ns)))
    (λ t. split (Starts ns _) (eqb x 1)
    (λ a. let e : x ≡ 1 = eqb-true x 1 a in (ap takes_relation (sym (networks_of_lem ns)) ∙ t, λ l. rw e refl)) (λ a. tt)) (λ t. tt)

entry_starts : (ns : List Network) (tag : ℕ) (v : List ℕ) (entry : Entry) →
    Means tag v entry → Starts ns (field_bytes tag v) (opens (settings_of ns) entry)
unfolding opens
entry_starts ns tag v End m = m
entry_starts ns tag v (Bad fault) m = tt
entry_starts ns tag v (Entry.Handle x) m =
    subst (λ (f : List ℕ → List ℕ). Starts ns f (opens_with (settings_of ns) x)) m.1 (handle_starts ns x m.0)
entry_starts ns tag v (Entry.Controller x) m = tt
entry_starts ns tag v (Entry.Transceiver x) m = tt
entry_starts ns tag v (Entry.Times x y z) m = tt
entry_starts ns tag v (Entry.Threshold x) m = tt
entry_starts ns tag v (Entry.Partial x) m = tt
entry_starts ns tag v (Entry.Relation x) m = subst (λ (f : List ℕ → List ℕ). Starts ns f (on_relation (settings_of ns) x)) m (relation_starts ns x)

-- ---- the networks so far
record SoFar (ns : List Network) : Type 0 where
  in_range : EachInRange ns
  handles : Distinct (all handles_of ns)
  controllers : Distinct (all controllers_of ns)
  transceivers : Distinct (all transceivers_of ns)

distinct_more : (ids : Network → List ℕ) (ns : List Network) (n : Network) →
    Distinct (all ids ns) → Fresh (all ids ns) (ids n) → Distinct (all ids (ns ++ (n ∷ [])))
distinct_more ids ns n p q = rw (all_snoc ids ns n) (fresh_append [] (all ids ns) (ids n) p q)

so_far_more : (ns : List Network) (n : Network) → SoFar ns → Fits ns n → SoFar (ns ++ (n ∷ []))
so_far_more ns n s f = record {
  in_range = each_snoc ns n s.in_range f.in_range;
  handles = distinct_more handles_of ns n s.handles f.handles;
  controllers = distinct_more controllers_of ns n s.controllers f.controllers;
  transceivers = distinct_more transceivers_of ns n s.transceivers f.transceivers;
}

-- field 07 of the last network: it is in its range as it was before, and its ids are the same
related_in_range : (n : Network) → InRange n → InRange (add_relation n)
unfolding add_relation
related_in_range n g = record {
  handle = g.handle;
  some_controller = g.some_controller;
  few_controllers = g.few_controllers;
  blank_slots = g.blank_slots;
  controllers = g.controllers;
  transceiver = g.transceiver;
  short = g.short;
  long = g.long;
  ensure = g.ensure;
  threshold = g.threshold;
  partial = g.partial;
}

so_far_related : (ns : List Network) (n : Network) → SoFar (ns ++ (n ∷ [])) → SoFar (ns ++ (add_relation n ∷ []))
unfolding add_relation
so_far_related ns n s =
    let same : (ids : Network → List ℕ) → ids n ≡ ids (add_relation n) → all ids (ns ++ (n ∷ [])) ≡ all ids (ns ++ (add_relation n ∷ [])) =
    λ ids e. all_snoc ids ns n ∙ ap (λ (l : List ℕ). all ids ns ++ l) e ∙ sym (all_snoc ids ns (add_relation n)) in
    record {
      in_range = each_last ns n (add_relation n) (related_in_range n) s.in_range;
      handles = subst Distinct (same handles_of refl) s.handles;
      controllers = subst Distinct (same controllers_of refl) s.controllers;
      transceivers = subst Distinct (same transceivers_of refl) s.transceivers;
    }

so_far_good : (ns : List Network) → SoFar ns → length ns ≤ 8 → (length ns ≡ 0 → ⊥) → Good (settings_of ns)
so_far_good ns s h k =
    let e = sym (networks_of_lem ns) in
    record {
      some_network = omega (arith, k);
      few_networks = h;
      blank_slots = ap (padded 8 blank_network) e;
      in_range = subst EachInRange e s.in_range;
      handles = subst (λ (l : List Network). Distinct (all handles_of l)) e s.handles;
      controllers = subst (λ (l : List Network). Distinct (all controllers_of l)) e s.controllers;
      transceivers = subst (λ (l : List Network). Distinct (all transceivers_of l)) e s.transceivers;
    }

-- ---- the row
-- what an accepted reading of a row says, after the networks ns and the bytes of an unfinished one
abbrev Told : List Network → (List ℕ → List ℕ) → Row → Reading → Type 0
Told ns bytes row d = d.answer ≡ Ok tt → Good d.settings × Ends row × (encode d.settings ≡ encode_networks ns (bytes (bytes_of row)))

refused_told : (ns : List Network) (bytes : List ℕ → List ℕ) (row : Row) (fault : Fault) (place : ℕ) → Told ns bytes row (refused_at fault place)
unfolding refused_at
refused_told ns bytes row fault place e = absurd cc

abbrev Same : List ℕ → List ℕ
Same l = l

closed_told : (ns : List Network) (at : ℕ) → SoFar ns → length ns ≤ 8 → Told ns Same (stop at) (closed (settings_of ns) at)
unfolding closed bytes_of encode
closed_told ns at s h = by_test (eqb (length ns) 0) refl
  where
    by_test : (b : Bool) → eqb (length ns) 0 ≡ b → Told ns Same
        (stop at) (cond b (refused_at Empty 0) (let r : Reading = record { answer = Ok tt; place = at; settings = settings_of ns } in r))
    by_test true q = refused_told ns Same (stop at) Empty 0
    by_test false q = λ e. (so_far_good ns s h (eqb-false (length ns) 0 q), tt, ap (λ (l : List Network). encode_networks l []) (networks_of_lem ns))

abbrev NetworkTold : Row → List Network → Type 0
NetworkTold row ns =
    (n : Network) (progress : Progress) → Part ns progress n → Told ns (encode_part progress n) row (network row (settings_of ns) n progress)

abbrev SheetTold : Row → Type 0
SheetTold row = (ns : List Network) → SoFar ns → length ns ≤ 8 → Told ns Same row (sheet row (settings_of ns))

field_told : (to : Option Progress) (m : Network) (at tag : ℕ) (v : List ℕ) (row : Row) (ns : List Network) (bytes : List ℕ → List ℕ) → SoFar
    ns → length ns < 8 → Leads ns (λ l. bytes (field_bytes tag v l)) to m → NetworkTold row ns → SheetTold row → Told ns bytes (field at tag v row)
    (after_field to m (λ n progress. network row (settings_of ns) n progress) (λ n. sheet row (pushed (settings_of ns) n)))
unfolding bytes_of encode_networks
field_told (Some progress) m at tag v row ns bytes s h p net sh =
    λ e. let x = net m progress p.0 e in (x.0, x.1, x.2 ∙ ap (encode_networks ns) (p.1 (bytes_of row)))
field_told None m at tag v row ns bytes s h p net sh = λ e.
    let k : length (ns ++ (m ∷ [])) ≤ 8 = simp length-append (omega arith) in
    let x = sh (ns ++ (m ∷ [])) (so_far_more ns m s p.0) k (rw (push ns m h) at e) in
    rw (push ns m h) (x.0, x.1, x.2 ∙ networks_onto ns (m ∷ []) (bytes_of row) ∙ ap (encode_networks ns) (p.1 (bytes_of row)))

move_told : (to : Result Filled Fault) (entry : Entry) (at tag : ℕ) (v : List ℕ) (row : Row) (ns : List Network) (bytes : List ℕ → List ℕ) → SoFar
    ns → length ns < 8 → Led ns (λ l. bytes (field_bytes tag v l)) to → NetworkTold row ns → SheetTold row → Told ns bytes (field at tag v row)
    (after_filling to entry at (λ n progress. network row (settings_of ns) n progress) (λ n. sheet row (pushed (settings_of ns) n)))
unfolding after_filling
move_told (Ok filled) entry at tag v row ns bytes s h p net sh = field_told filled.progress filled.network at tag v row ns bytes s h p net sh
move_told (Err fault) entry at tag v row ns bytes s h p net sh =
    refused_told ns bytes (field at tag v row) fault (place_of fault entry at)

-- the bytes of a network with field 07 are its bytes without it, and then that field
related_bytes : (n : Network) (l : List ℕ) → n.relation ≡ Above → encode_network (add_relation n) l ≡ encode_network n (byte_field 7 1 l)
unfolding encode_network add_relation encode_relation
related_bytes n l e = rw e refl

still_above : (r : Relation) → is_above r ≡ true → r ≡ Above
still_above Above e = refl
still_above AtOrAbove e = absurd (false≢true e)

-- what follows field 07
related_told : (row : Row) (ns : List Network) → SheetTold row → SoFar ns → length ns ≤ 8 → takes_relation ns ≡ true
    → Told ns (byte_field 7 1) row (sheet row (amended (settings_of ns)))
unfolding takes_relation encode_networks
related_told row ns sh s h t =
    let k = ending (λ (n : Network). is_above n.relation) ns t in
    subst (λ (l : List Network). Told l (byte_field 7 1) row (sheet row (amended (settings_of l)))) (sym k.parts)
    (λ e.
    let more : List Network = k.before ++ (add_relation k.end ∷ []) in
    let few : length more ≤ 8 = omega (
      arith,
      h,
      ap length k.parts,
      length-append k.before (k.end ∷ []),
      length-append k.before (add_relation k.end ∷ []),
    ) in
    let x = sh more (so_far_related k.before k.end (subst SoFar k.parts s)) few (rw (amend k.before k.end) at e) in
    rw (amend k.before k.end) (
      x.0,
      x.1,
      x.2
          ∙ networks_onto k.before (add_relation k.end ∷ []) (bytes_of row)
          ∙ ap (encode_networks k.before) (related_bytes k.end (bytes_of row) (still_above k.end.relation k.passes))
          ∙ sym (networks_onto k.before (k.end ∷ []) (byte_field 7 1 (bytes_of row))),
    ))

opening_told : (o : Result Opening Fault) (entry : Entry) (at tag : ℕ) (v : List ℕ) (row : Row) (ns : List Network) →
    Starts ns (field_bytes tag v) o → SoFar ns → length ns ≤ 8 → (length ns < 8 → NetworkTold row ns) → SheetTold row →
    Told ns Same (field at tag v row)
    (after_opening o (settings_of ns) entry at (λ handle. network row (settings_of ns) (begun handle) Named) (λ more. sheet row more))
unfolding after_opening bytes_of
opening_told (Ok Closes) entry at tag v row ns p s h net sh = absurd p
opening_told (Ok (Begins handle)) entry at tag v row ns p s h net sh =
    λ e. let x = net p.2 (begun handle) Named p.0 e in (x.0, x.1, x.2 ∙ ap (encode_networks ns) (p.1 (bytes_of row)))
opening_told (Err fault) entry at tag v row ns p s h net sh = refused_told ns Same (field at tag v row) fault (place_of fault entry at)
opening_told (Ok Amends) entry at tag v row ns p s h net sh =
    λ e. let x = related_told row ns sh s h p.0 e in (x.0, x.1, x.2 ∙ ap (encode_networks ns) (p.1 (bytes_of row)))

mutual
  unfolding sheet network

  sheet_told : (row : Row) → ByteRow row → SheetTold row
  sheet_told (stop at) w = λ ns s h. closed_told ns at s h
  sheet_told (stub at tag) w = λ ns s h. refused_told ns Same (stub at tag) Cut at
  sheet_told (overrun at tag k) w = λ ns s h. refused_told ns Same (overrun at tag k) (overrun_fault (layout_of tag k)) _
  sheet_told (field at tag v row) w =
      λ ns s h. opening_told (opens (settings_of ns) (field_entry tag v)) (field_entry tag v) at tag v row ns
      (entry_starts ns tag v (field_entry tag v) (entry_means tag v w.0)) s h (λ k. network_told row w.1 ns s k) (sheet_told row w.1)

  network_told : (row : Row) → ByteRow row → (ns : List Network) → SoFar ns → length ns < 8 → NetworkTold row ns
  network_told (stop at) w = λ ns s h n progress p. refused_told ns (encode_part progress n) (stop at) Cut at
  network_told (stub at tag) w = λ ns s h n progress p. refused_told ns (encode_part progress n) (stub at tag) Cut at
  network_told (overrun at tag k) w =
      λ ns s h n progress p. refused_told ns (encode_part progress n) (overrun at tag k) (overrun_fault (layout_of tag k)) _
  network_told (field at tag v row) w =
      λ ns s h n progress p. move_told (fills (settings_of ns) n progress (field_entry tag v)) (field_entry tag v) at tag v row ns (encode_part progress n) s h
      (by_entry ns n progress tag v (field_entry tag v) (entry_means tag v w.0) p) (network_told row w.1 ns s h) (sheet_told row w.1)

-- ---- the whole sheet
nothing_yet : SoFar []
unfolding EachInRange all Fresh
nothing_yet = record { in_range = tt; handles = tt; controllers = tt; transceivers = tt }

module _ (b : List ℕ) (w : Bytes b) (e : (decode b).answer ≡ Ok tt) where
  told : Good (decode b).settings × Ends (row_at b 0) × (encode (decode b).settings ≡ bytes_of (row_at b 0))
  unfolding read_from blank_settings encode_networks
  told = sheet_told (row_at b 0) (bytes_row 0 b w) [] nothing_yet (omega arith) e

  -- the settings of an accepted sheet are good
  pub accepted_good : Good (decode b).settings
  accepted_good = told.0

  -- an accepted reading's settings, written, give the very bytes read
  pub read_then_write : encode (decode b).settings ≡ b
  read_then_write = told.2 ∙ bytes_back 0 b w told.1
