-- What holds of every network's record from the start on: it is said to be full just in steps 4 and 5; silent is wanted only in up steps; and a
-- record has one form. The rules N3 and N5 of docs/RULES.md.
use Rattle.std.specs.Prelude.{◌≡◌, Bool, true, false}
use Rattle.lists.specs.Lists.{padded}
use Rattle.records.specs.declared.Mode.{Mode}
use Rattle.settings.specs.declared.Network.{Network}
use Rattle.settings.specs.Settings.{most_controllers}
use Rattle.steps.specs.declared.Step.{Step}
use Rattle.steps.specs.Steps.{is_up, is_full_step, is_asking}
use Rattle.network.specs.declared.LastAnswer.{LastAnswer}
use Rattle.network.specs.declared.State.{State}
use Rattle.network.specs.State.{blank_answers, heard_of}

-- N5: the told mode with which a network is said to be full
abbrev pub is_full_mode : Mode → Bool
is_full_mode Mode.No = false
is_full_mode Mode.Silent = false
is_full_mode Mode.Full = true

-- a step that is up and asks for nothing: 4, 5, 7 and 8
pub record Quiet (step : Step) : Type 0 where
  pub up : is_up step ≡ true
  pub quiet : is_asking step ≡ false

-- one of which full is not said: 7 and 8
pub record Unsaid (step : Step) : Type 0 where
  pub up : is_up step ≡ true
  pub quiet : is_asking step ≡ false
  pub unsaid : is_full_step step ≡ false

-- it holds of a network's record at the start, and every call keeps it
pub record Kept (n : Network) (s : State) : Type 0 where
  -- N5: told is full exactly in steps 4 and 5
  pub told : is_full_mode s.told ≡ is_full_step s.step
  -- wanted is silent only in up steps
  pub wanted : s.wanted ≡ Mode.Silent → is_up s.step ≡ true
  -- N3: in a step that asks nothing, asked is no, and nothing is kept as answered or reported
  pub asked : is_asking s.step ≡ false → s.asked ≡ false
  pub answers : is_asking s.step ≡ false → s.answers ≡ blank_answers
  pub reported : is_asking s.step ≡ false → s.reported ≡ false
  -- unused slots are pending
  pub slots : s.answers ≡ padded most_controllers LastAnswer.Pending (heard_of n s)
