-- Laws of events: what stands at a place, and the call that an event is.
use Rattle.lists.proofs.Basics.{ℕ, ◌+◌, ◌-◌, arith, ◌≡◌, refl, sym, ap, subst, ◌∙◌, List, [], length, take, drop}
use Rattle.std.proofs.Common.{◌⊎◌, inl, inr}
use Rattle.fields.specs.declared.Field.{Field}
use Rattle.fields.specs.declared.Field.TheVariants.{Stub, Overrun, Whole}
use Rattle.fields.specs.Fields.{front, ReadAt}
use Rattle.fields.proofs.Laws.{row_further, read_at}
use Rattle.records.specs.Records.{bytes}
use Rattle.slots.specs.declared.Manager.{Manager}
use Rattle.slots.specs.declared.Outcome.{Outcome}
use Rattle.slots.specs.Calls.{Call, outcome, handed_out, buffer_with, Gives}
use Rattle.trace.specs.declared.Event.{Event}
use Rattle.trace.specs.declared.Item.{Item}
use Rattle.trace.specs.Events.{item_of, item_at, call_of}

-- ---- what stands at a place
module _ (s : List ℕ) (at : ℕ) where
  -- a field that is cut is bad
  pub bad_at : {f : Field} → f ≡ front at (drop at s) → ((tag : ℕ) × (f ≡ Stub tag)) ⊎ ((tag : ℕ) × (n : ℕ) × (f ≡ Overrun tag n)) → ReadAt item_at s at Item.Bad at
  unfolding item_at
  bad_at e (inl (tag, f)) = read_at (Stub tag) (sym e ∙ f) refl refl
  bad_at e (inr (tag, n, f)) = read_at (Overrun tag n) (sym e ∙ f) refl refl

  -- a whole field is what its tag and its value say
  pub whole_at : {tag n next : ℕ} {item : Item} → front at (drop at s) ≡ Whole tag n next
      → item ≡ item_of tag (take (next - (at + 3)) (drop (at + 3) s)) → ReadAt item_at s at item next
  unfolding item_at
  whole_at {tag} {n} {next} e f =
      let r = row_further s at tag n next e in
      let size : next - (at + 3) ≡ n = omega arith in
      read_at (Whole tag n next) e (rw size at f) refl

-- ---- the call that an event is
-- a call that is lent no buffer leaves every byte of it
pub quiet_gives : (m : Manager) (event e : Event) (r : Outcome) {b : List ℕ} →
    event ≡ e → r ≡ outcome m (call_of e) → handed_out m (call_of e) ≡ [] → Gives m (call_of event) b r b
unfolding buffer_with bytes
quiet_gives m event e r {b} p q none =
    subst (λ (x : Event). Gives m (call_of x) b r b) (sym p) (record { result = q; buffer = ap (buffer_with b) (sym none) })

-- a call that is lent the whole buffer
pub lent_gives : (m : Manager) (event : Event) (call : ℕ → Call) (r : Outcome) (b : List ℕ) {after : List ℕ} →
    call_of event ≡ call 144 → length b ≡ 144 → Gives m (call (length b)) b r after → Gives m (call_of event) b r after
lent_gives m event call r b {after} p l g = subst (λ (x : Call). Gives m x b r after) (ap call l ∙ sym p) g
