-- The record of a network: at the start, and after a request. A record has one form: in a step that asks nothing, asked is no and nothing is kept as
-- answered; unused slots are pending. The rules N3, N7, N8 and N14 of docs/RULES.md.
use Rattle.std.specs.Prelude.{List, false, take, replicate}
use Rattle.records.specs.declared.Mode.{Mode}
use Rattle.settings.specs.declared.Network.{Network}
use Rattle.settings.specs.Settings.{most_controllers}
use Rattle.steps.specs.After.{first_down}
use Rattle.network.specs.declared.LastAnswer.{LastAnswer}
use Rattle.network.specs.declared.State.{State}

-- no controller has answered
abbrev pub blank_answers : List LastAnswer
blank_answers = replicate most_controllers LastAnswer.Pending

-- N3: the last answers of the network's controllers, in the order of the sheet
abbrev pub heard_of : Network → State → List LastAnswer
heard_of n s = take n.count s.answers

-- N7, N8: at the start the first down step, which has not asked; no is wanted and counts as told, and there was no bus-off
unfoldable pub started : Network → State
started n =
    record { step = first_down n.partial; wanted = Mode.No; told = Mode.No; count = 0; asked = false; answers = blank_answers; reported = false }

-- N14: the wanted mode is the one requested, and all else stays
unfoldable pub wants : State → Mode → State
wants s mode =
    record { step = s.step; wanted = mode; told = s.told; count = s.count; asked = s.asked; answers = s.answers; reported = s.reported }
