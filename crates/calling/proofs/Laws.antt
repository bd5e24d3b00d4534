-- What each call's promise gives to its caller.
use Rattle.lists.proofs.Basics.{ℕ, zero, suc, ◌≡◌, sym, subst, List, [], ◌∷◌, get_or}
use mir.Syntax.{w8}
use mir.Val.{Fits}
use Rattle.lists.specs.Lists.{Bytes}
use Rattle.slots.specs.declared.Manager.{Manager}
use Rattle.slots.specs.declared.Outcome.{Outcome}
use Rattle.slots.specs.Calls.{outcome}
use Rattle.calling.specs.declared.Task.{Task}
use Rattle.calling.specs.Returned.{call_of, lent_after, Returned}

-- a list with a byte at each place is bytes
each_byte : (l : List ℕ) → ((i : ℕ) → Fits w8 (get_or l i 0)) → Bytes l
unfolding Bytes
each_byte [] f = tt
each_byte (x ∷ l) f = ((f zero).fits, each_byte l (λ i. f (suc i)))

-- what was returned of a task, which is this one
pub returned : {m : Manager} {task made : Task} {bytes before : List ℕ} {r : Outcome} {after : List ℕ} → task ≡ made
    → ((i : ℕ) → Fits w8 (get_or bytes i 0)) → r ≡ outcome m (call_of made bytes before) → after ≡ lent_after m (call_of made bytes before) before
    → Returned m task bytes before r after
returned {m} {task} {made} {bytes} {before} {r} {after} same fits result buffer =
    subst (λ (t : Task). Returned m t bytes before r after) (sym same) (record { reads = each_byte bytes fits; result = result; buffer = buffer })
