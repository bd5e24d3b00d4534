-- Demand 3, the figures, listening, and that nothing leaks across, of what calls returned to the code that made them: of a manager that code had from
-- `new` on, since any start of it that was accepted.
use Rattle.std.specs.Prelude.{ℕ, ◌<◌, length}
use Rattle.slots.specs.declared.Manager.{Manager}
use Rattle.slots.specs.Manager.{networks_of, network_at}
use Rattle.calls.specs.Histories.{History, Since}
use Rattle.demands.specs.Demands.{Begun, Demand3}
use Rattle.demands.specs.ComesUp.{ComesUp}
use Rattle.demands.specs.Listening.{Listening, ListensIn}
use Rattle.demands.specs.Across.{NothingLeaks}

-- what code noted since a start that was accepted: the manager which that start returned, that the notes are a history since it, and what demand 3,
-- the figures, listening and `NothingLeaks` say of it and of each of its networks
pub record SinceStart (m : Manager) (s : History) : Type 0 where
  pub started : Manager
  pub begun : Begun started
  pub since : Since started m s
  pub demand : (i : ℕ) → i < length (networks_of started) → Demand3 started (network_at started i)
  pub comes_up : (i : ℕ) → i < length (networks_of started) → ComesUp started (network_at started i)
  pub listening : Listening started
  pub listens_in : (i : ℕ) → i < length (networks_of started) → ListensIn started i
  pub nothing_leaks : (i : ℕ) → i < length (networks_of started) → NothingLeaks started i
