-- Answers of controllers and reports of the transceiver: which of them a step takes, and the record after it. The rules N3 and A1 to A5 of
-- docs/RULES.md.
use Rattle.std.specs.Prelude.{ℕ, List, Bool, true, false, cond, eqb, set}
use Rattle.lists.specs.Lists.{first}
use Rattle.records.specs.Records.{controller_number, transceiver_number}
use Rattle.settings.specs.declared.Network.{Network}
use Rattle.settings.specs.Settings.{controllers_of, member}
use Rattle.steps.specs.declared.Ask.{Ask}
use Rattle.steps.specs.Steps.{asks_for}
use Rattle.network.specs.declared.LastAnswer.{LastAnswer}
use Rattle.network.specs.declared.Report.{Report}
use Rattle.network.specs.declared.State.{State}

-- A2 to A5: a step awaits what it asks for: of controllers and transceiver that very mode, of the wake flag that it was cleared or was checked
abbrev pub awaits : Ask → Report → Bool
awaits Ask.Nothing report = false
awaits (Ask.Controllers asked) (Report.Controller mode) = eqb (controller_number asked) mode
awaits (Ask.Controllers asked) (Report.Transceiver mode) = false
awaits (Ask.Controllers asked) Report.Cleared = false
awaits (Ask.Controllers asked) Report.Checked = false
awaits (Ask.Transceiver asked) (Report.Controller mode) = false
awaits (Ask.Transceiver asked) (Report.Transceiver mode) = eqb (transceiver_number asked) mode
awaits (Ask.Transceiver asked) Report.Cleared = false
awaits (Ask.Transceiver asked) Report.Checked = false
awaits Ask.ClearWake (Report.Controller mode) = false
awaits Ask.ClearWake (Report.Transceiver mode) = false
awaits Ask.ClearWake Report.Cleared = true
awaits Ask.ClearWake Report.Checked = false
awaits Ask.CheckWake (Report.Controller mode) = false
awaits Ask.CheckWake (Report.Transceiver mode) = false
awaits Ask.CheckWake Report.Cleared = false
awaits Ask.CheckWake Report.Checked = true

-- A2 to A5: a step takes what it awaits once it has asked; so nothing is taken between a bus-off and the next tick (E10)
unfoldable pub takes_report : State → Report → Bool
takes_report s report = cond s.asked (awaits (asks_for s.step) report) false

-- A1: 1, here true, is ok, and 0 is a refusal
abbrev pub answer_of : Bool → LastAnswer
answer_of ok = cond ok LastAnswer.Okay LastAnswer.Refused

-- the answers with one of them new
abbrev pub with_answers : State → List LastAnswer → State
with_answers s answers =
    record { step = s.step; wanted = s.wanted; told = s.told; count = s.count; asked = s.asked; answers = answers; reported = s.reported }

-- N3, A2: the controller's slot holds its latest answer, which takes the place of an earlier one
unfoldable pub after_answer : Network → State → ℕ → Bool → State
after_answer n s id ok =
    cond (member id (controllers_of n))
    (with_answers s (set s.answers (first (λ (x : ℕ). eqb x id) (controllers_of n)) (answer_of ok)))
    s

-- N3: the report of transceiver, clearing or checking has come
unfoldable pub after_report : State → State
after_report s =
    record { step = s.step; wanted = s.wanted; told = s.told; count = s.count; asked = s.asked; answers = s.answers; reported = true }
