-- What every call keeps: a refusal changes nothing, a call that names an id leaves the other networks alone, and what holds of every manager from
-- `new` on. The rules R2, R3, N16, L4 and L5 of docs/RULES.md.
use Rattle.std.specs.Prelude.{ℕ, ◌<◌, ◌≡◌, List, [], false, length, Result, Ok}
use Rattle.slots.specs.declared.CallRefusal.{CallRefusal}
use Rattle.records.specs.declared.Record.{Record}
use Rattle.settings.specs.declared.Network.{Network}
use Rattle.settings.specs.Good.{EachInRange, Good}
use Rattle.network_theorems.specs.Kept.{Kept}
use Rattle.slots.specs.declared.Stage.{Stage}
use Rattle.slots.specs.declared.Manager.{Manager}
use Rattle.slots.specs.declared.Outcome.{Outcome}
use Rattle.slots.specs.Manager.{networks_of, settings_of, network_at, state_at, summed, controller_count}
use Rattle.calls.specs.Histories.{is_accepted}

-- R2, R3: the manager is as it was, the count and the polled mode are 0, and nothing is handed out
pub record Refuses (m : Manager) (o : Outcome) (rs : List Record) : Type 0 where
  pub manager : o.manager ≡ m
  pub count : o.count ≡ 0
  pub mode : o.mode ≡ 0
  pub records : rs ≡ []

-- R2, R3: that is so whichever refusal is the answer
abbrev pub Careful : Manager → Outcome → List Record → Type 0
Careful m o rs = is_accepted o.answer ≡ false → Refuses m o rs

-- N16: the settings stay, and so does the record of every slot but the one that was named
pub record LeavesOthers (m : Manager) (slot : Result ℕ CallRefusal) (o : Outcome) : Type 0 where
  pub networks : o.manager.settings.networks ≡ m.settings.networks
  pub count : o.manager.settings.count ≡ m.settings.count
  pub others : (j : ℕ) → (slot ≡ Ok j → ⊥) → state_at o.manager j ≡ state_at m j

-- all controllers of all networks
abbrev pub all_controllers : List Network → ℕ
all_controllers ns = summed controller_count ns

-- L4: the stage, the settings and the record of every network stay: of the manager nothing changes but whether it listens
pub record OnlyListens (m : Manager) (o : Outcome) : Type 0 where
  pub stage : o.manager.stage ≡ m.stage
  pub settings : settings_of o.manager ≡ settings_of m
  pub states : o.manager.states ≡ m.states

-- what holds of a manager from `new` on: its arrays have eight slots, its networks are in range, once it has a sheet its settings are good, and once
-- started each record is kept
pub record Sound (m : Manager) : Type 0 where
  pub networks : length m.settings.networks ≡ 8
  pub states : length m.states ≡ 8
  pub in_range : EachInRange (networks_of m)
  pub good : (m.stage ≡ Stage.Empty → ⊥) → Good (settings_of m)
  pub kept : m.stage ≡ Stage.Started → (i : ℕ) → i < length (networks_of m) → Kept (network_at m i) (state_at m i)
