-- Where the events begin, by the field that stands at a place.
use Rattle.lists.proofs.Basics.{ℕ, zero, suc, ◌-◌, ◌≤◌, ◌<◌, arith, ◌≡◌, refl, sym, ap, ◌∙◌, List, Bool, true, false, cond, ltb, length, drop}
use Rattle.std.proofs.Common.{◌⊎◌, inl, inr}
use Rattle.fields.specs.declared.Field.{Field}
use Rattle.fields.specs.declared.Field.TheVariants.{End, Stub, Overrun, Whole}
use Rattle.fields.specs.Fields.{front}
use Rattle.fields.proofs.Laws.{row_further, row_from, row_from_lem}
use Rattle.trace.specs.Splitting.{first_event, events_in, events_from}

pub events_by : (s : List ℕ) (at : ℕ) (f : Field) → front at (drop at s) ≡ f → events_from s at ≡ events_in (length s) (row_from s at f)
unfolding events_from
events_by s at f e = ap (events_in (length s)) (row_from_lem s at f e)

-- a field that is cut: all is sheet, or its own place where its tag is that of an event
pub events_cut : (s : List ℕ) (at : ℕ) {f : Field} {tag : ℕ} → f ≡ front at (drop at s) → (f ≡ Stub tag) ⊎ ((n : ℕ) × (f ≡ Overrun tag n))
    → events_from s at ≡ cond (ltb tag first_event) (length s) at
unfolding events_in
events_cut s at {tag = tag} e (inl f) = events_by s at (Stub tag) (sym e ∙ f)
events_cut s at {tag = tag} e (inr (n, f)) = events_by s at (Overrun tag n) (sym e ∙ f)

-- ---- the events begin within the input
either : (total at : ℕ) (c : Bool) → at ≤ total → cond c total at ≤ total
either total at true h = omega arith
either total at false h = h

further : (total at later : ℕ) (c : Bool) → at ≤ total → later ≤ total → cond c later at ≤ total
further total at later true h l = l
further total at later false h l = h

module _ (s : List ℕ) (at : ℕ) (h : at ≤ length s) (later : (next : ℕ) → at < next → next ≤ length s → events_from s next ≤ length s) where
  within_field : (f : Field) → front at (drop at s) ≡ f → events_from s at ≤ length s
  unfolding events_in events_from
  within_field End e = rw (events_by s at End e) (omega arith)
  within_field (Stub tag) e = rw (events_by s at (Stub tag) e) (either (length s) at (ltb tag first_event) h)
  within_field (Overrun tag n) e = rw (events_by s at (Overrun tag n) e) (either (length s) at (ltb tag first_event) h)
  within_field (Whole tag n next) e =
      let r = row_further s at tag n next e in
      let l = later next (omega (arith, r.1)) r.2 in
      rw (events_by s at (Whole tag n next) e) (further (length s) at (events_from s next) (ltb tag first_event) h l)

within_by : (k : ℕ) (s : List ℕ) (at : ℕ) → length s - at < k → at ≤ length s → events_from s at ≤ length s
within_by zero s at b h = absurd (omega arith)
within_by (suc k) s at b h = within_field s at h (λ next l m. within_by k s next (omega arith) m) (front at (drop at s)) refl

pub events_within : (s : List ℕ) → events_from s 0 ≤ length s
events_within s = within_by (suc (length s)) s 0 (omega arith) (omega arith)
