-- Laws that the proofs of the calls cite, each in the shape that the code has.
use Rattle.std.specs.Prelude.{Result, Ok, Err}
use Rattle.lists.proofs.Basics.{ℕ, ◌≡◌, sym, ap, ◌∙◌, List, [], length}
use Rattle.records.specs.declared.Record.{Record}
use Rattle.network.specs.declared.Part.{Part}
use Rattle.network.specs.Parts.{Sight, part_of, records_of}
use Rattle.slots.specs.declared.CallRefusal.{CallRefusal}
use Rattle.slots.specs.declared.Manager.{Manager}
use Rattle.slots.specs.declared.Outcome.{Outcome}
use Rattle.slots.specs.Manager.{network_at, state_at, refused}
use Rattle.slots.specs.Calls.{by_slot, settled, slot_outcome}

-- ---- a call that names an id, by the slot that was found
-- it is refused
pub slot_refused : (m : Manager) (slot : Result ℕ CallRefusal) (refusal : CallRefusal) (r : Outcome) (found : ℕ → Outcome) (x : Result ℕ CallRefusal) → x ≡ slot → x ≡ Err refusal
    → r ≡ refused m refusal → r ≡ by_slot m slot found
slot_refused m slot refusal r found x p e f = f ∙ ap (λ (y : Result ℕ CallRefusal). by_slot m y found) (sym e ∙ p)

-- the network of the slot plays its part
pub slot_settled : (m : Manager) (slot : Result ℕ CallRefusal) (sight : Sight) (i : ℕ) (x : Result ℕ CallRefusal) (part : Part) (r : Outcome) →
    x ≡ slot → x ≡ Ok i → part ≡ part_of (network_at m i) (state_at m i) sight → records_of (network_at m i) (state_at m i) sight ≡ [] →
    r ≡ settled m i part.reply part.state 0 → r ≡ by_slot m slot (λ j. slot_outcome m j sight)
unfolding slot_outcome
slot_settled m slot sight i x part r p e q none f =
    f ∙ ap (λ (y : Part). settled m i y.reply y.state 0) q
    ∙ ap (λ (rs : List Record). settled m i
    (part_of (network_at m i) (state_at m i) sight).reply (part_of (network_at m i) (state_at m i) sight).state (length rs)) (sym none)
    ∙ ap (λ (y : Result ℕ CallRefusal). by_slot m y (λ j. slot_outcome m j sight)) (sym e ∙ p)
