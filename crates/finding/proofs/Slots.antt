-- The slot that an id names in a started manager, by the place of the first network that has it.
use Rattle.std.specs.Prelude.{Option, Some, None, Ok}
use Rattle.std.specs.Option.{ok_or}
use Rattle.lists.proofs.Basics.{◌≡◌, ℕ, refl}
use Rattle.settings.specs.declared.Id.{Id}
use Rattle.settings.specs.Settings.{holder_of}
use Rattle.slots.specs.declared.CallRefusal.{CallRefusal}
use Rattle.slots.specs.declared.Manager.{Manager}
use Rattle.slots.specs.declared.Stage.{Stage}
use Rattle.slots.specs.Manager.{networks_of}
use Rattle.slots.specs.Calls.{unknown, slot_at, slot_of}

-- the slot of a place that was found, or the refusal
by_place : (id : Id) (place : Option ℕ) → slot_at id place ≡ ok_or place (unknown id)
by_place id (Some i) = refl
by_place id None = refl

-- of a started manager it is the place, or the refusal where there is none
pub started_slot : (m : Manager) (id : Id) → m.stage ≡ Stage.Started → slot_of m id ≡ ok_or (holder_of id (networks_of m)) (unknown id)
unfolding slot_of
started_slot m id e = rw e (by_place id _)

-- a slot that was found is the place that was found
pub same_place : (place : Option ℕ) (refusal : CallRefusal) (i : ℕ) → ok_or place refusal ≡ Ok i → place ≡ Some i
same_place (Some j) refusal i e = cc
same_place None refusal i e = cc
