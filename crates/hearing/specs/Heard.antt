-- What a message does to the record of one network where it stands, and to the manager that has it. The rules R2 and N16 of docs/RULES.md.
use Rattle.std.specs.Prelude.{ℕ, ◌≡◌, Result}
use Rattle.settings.specs.declared.Network.{Network}
use Rattle.network.specs.declared.Message.{Message}
use Rattle.network.specs.declared.Part.{Part}
use Rattle.network.specs.declared.Refusal.{Refusal}
use Rattle.network.specs.declared.State.{State}
use Rattle.network.specs.Parts.{part_of, said}
use Rattle.slots.specs.declared.Manager.{Manager}
use Rattle.slots.specs.Manager.{network_at, state_at, with_state}

-- R2: the reply and the record after it are the network's part
abbrev pub HeardIn : Network → State → Message → Result Unit Refusal → State → Type 0
HeardIn n s message reply after = (let p : Part = record { reply = reply; state = after } in p) ≡ part_of n s (said message)

-- N16: the record of slot i is the one after it, and nothing else of the manager changes
pub record HeardAt (m : Manager) (i : ℕ) (message : Message) (reply : Result Unit Refusal) (after : Manager) : Type 0 where
  pub replies : reply ≡ (part_of (network_at m i) (state_at m i) (said message)).reply
  pub stored : after ≡ with_state m i (part_of (network_at m i) (state_at m i) (said message)).state
