-- The record of a network after a move and after a tick, and what a tick hands out. The rules N11, N12, T1, T10, T23 to T25 and T28 of docs/RULES.md.
use Rattle.std.specs.Prelude.{ℕ, List, Bool, true, false, cond}
use Rattle.records.specs.declared.Record.{Record}
use Rattle.records.specs.declared.Mode.{Mode}
use Rattle.settings.specs.declared.Network.{Network}
use Rattle.steps.specs.declared.Move.{Move}
use Rattle.steps.specs.declared.Move.TheVariants.{Stay, AskAgain, Count, EnterFull, EnterSilent, Pass, Wait, GoDown, EnterNoCommunication, Enter}
use Rattle.steps.specs.After.{step_after}
use Rattle.handing.specs.Handing.{move_records}
use Rattle.network.specs.declared.State.{State}
use Rattle.network.specs.State.{blank_answers}
use Rattle.network.specs.Rules.{move_of}

-- T25: going down tells silent where full was told
abbrev pub lowered : Mode → Mode
lowered Mode.No = Mode.No
lowered Mode.Silent = Mode.Silent
lowered Mode.Full = Mode.Silent

-- T23 to T25, T28: the mode that kind 6 last told, after a move
abbrev pub told_after : Move → Mode → Mode
told_after Stay told = told
told_after AskAgain told = told
told_after (Count next) told = told
told_after EnterFull told = Mode.Full
told_after EnterSilent told = Mode.Silent
told_after Pass told = told
told_after Wait told = told
told_after GoDown told = lowered told
told_after EnterNoCommunication told = Mode.No
told_after (Enter next) told = told

-- T10: the bus-offs count from 0 after passed, and after no other move
abbrev pub count_after : Move → ℕ → ℕ
count_after Stay count = count
count_after AskAgain count = count
count_after (Count next) count = count
count_after EnterFull count = count
count_after EnterSilent count = count
count_after Pass count = 0
count_after Wait count = count
count_after GoDown count = count
count_after EnterNoCommunication count = count
count_after (Enter next) count = count

-- N11, N12: a step that is entered in order to ask has asked, and so has one that asks again
abbrev pub asks_after : Move → Bool → Bool
asks_after Stay asked = asked
asks_after AskAgain asked = true
asks_after (Count next) asked = asked
asks_after EnterFull asked = false
asks_after EnterSilent asked = false
asks_after Pass asked = false
asks_after Wait asked = false
asks_after GoDown asked = true
asks_after EnterNoCommunication asked = false
asks_after (Enter next) asked = true

-- N11, N12: the answers are forgotten where another step is entered, and kept where the step stays or asks again
abbrev pub keeps_answers : Move → Bool
keeps_answers Stay = true
keeps_answers AskAgain = true
keeps_answers (Count next) = true
keeps_answers EnterFull = false
keeps_answers EnterSilent = false
keeps_answers Pass = false
keeps_answers Wait = false
keeps_answers GoDown = false
keeps_answers EnterNoCommunication = false
keeps_answers (Enter next) = false

-- the record after a move
unfoldable pub after_move : Network → State → Move → State
after_move n s m =
    record {
      step = step_after m s.step n.partial;
      wanted = s.wanted;
      told = told_after m s.told;
      count = count_after m s.count;
      asked = asks_after m s.asked;
      answers = cond (keeps_answers m) s.answers blank_answers;
      reported = cond (keeps_answers m) s.reported false;
    }

-- T1: the record after a tick, which makes one move
unfoldable pub tick_state : Network → State → State
tick_state n s = after_move n s (move_of n s)

-- T1: what a tick hands out: the records of that move
unfoldable pub tick_records : Network → State → List Record
tick_records n s = move_records n s.step s.told (move_of n s)
