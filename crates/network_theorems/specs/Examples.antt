-- Examples of the rules of the tick, by computation on the definitions: at least one for each rule, as one list under one statement. A case is a
-- network, its record, what a tick hands out and the record after it. The rules N11, N12, T3 to T25 and T28 to T30 of docs/RULES.md.
use Rattle.std.specs.Prelude.{ℕ, ◌≡◌, refl, List, [], ◌∷◌, ◌++◌, map, Bool, true, false, Option, None, Some}
use Rattle.lists.specs.Lists.{any, every}
use Rattle.records.specs.declared.Record.{Record}
use Rattle.records.specs.declared.Mode.{Mode}
use Rattle.records.specs.Records.{handed}
use Rattle.settings.specs.declared.Relation.{Relation}
use Rattle.settings.specs.declared.Network.{Network}
use Rattle.steps.specs.declared.Step.{Step}
use Rattle.steps.specs.declared.Step.TheVariants.{NoCommunication, TransceiverNormal, ControllersStopped, ControllersStarted}
use Rattle.steps.specs.declared.Step.TheVariants.{Checking, Full, Restarting, Waiting, Silent}
use Rattle.steps.specs.declared.Step.TheVariants.{ClearWake, DownStopped, TransceiverStandby, ControllersSleep, CheckWake, CheckWakeAgain}
use Rattle.steps.specs.declared.Step.TheVariants.{ResetStopped, ResetStarted}
use Rattle.steps.specs.Decision.{decision}
use Rattle.handing.specs.Handing.{requests, entering, entering_full, entering_silent, down_notices, going_down, move_records}
use Rattle.network.specs.declared.LastAnswer.{LastAnswer}
use Rattle.network.specs.declared.LastAnswer.TheVariants.{Pending, Okay, Refused}
use Rattle.network.specs.declared.State.{State}
use Rattle.network.specs.Rules.{is_done, delay_of, move_of}
use Rattle.network.specs.Moving.{after_move, tick_state, tick_records}

-- ---- four networks: handle 7, controllers 3 and 4, delays 2 and 5, ensure time 3, threshold 1
abbrev network : Option ℕ → Bool → Relation → Network
network transceiver partial relation =
    record {
      handle = 7;
      controllers = 3 ∷ 4 ∷ 0 ∷ 0 ∷ [];
      count = 2;
      transceiver = transceiver;
      short = 2;
      long = 5;
      ensure = 3;
      threshold = 1;
      partial = partial;
      relation = relation;
    }

-- without transceiver: up from step 2, down by 10 and 12
abbrev bare : Network
bare = network None false Relation.Above

-- the same with field 07
abbrev newer : Network
newer = network None false Relation.AtOrAbove

-- with transceiver 6 and without partial networking: up from step 1, down by 10, 12 and 11
abbrev fitted : Network
fitted = network (Some 6) false Relation.Above

-- with transceiver 6 and partial networking: up from step 1, down by 9, 10, 11, 12 and 13, or 14 and again from 9
abbrev partial : Network
partial = network (Some 6) true Relation.Above

-- a record: step, wanted and told mode, bus-off count, asked, the answers of the two controllers, the report
abbrev at : Step → Mode → Mode → ℕ → Bool → LastAnswer → LastAnswer → Bool → State
at step wanted told count asked first second reported =
    record {
      step = step;
      wanted = wanted;
      told = told;
      count = count;
      asked = asked;
      answers = first ∷ second ∷ Pending ∷ Pending ∷ [];
      reported = reported;
    }

-- a step that has not asked
abbrev quiet : Step → Mode → Mode → ℕ → State
quiet step wanted told count = at step wanted told count false Pending Pending false

-- asked, and no answer and no report has come
abbrev asking : Step → Mode → Mode → ℕ → State
asking step wanted told count = at step wanted told count true Pending Pending false

-- asked, and both controllers answered ok: a controller step is done
abbrev agreed : Step → Mode → Mode → ℕ → State
agreed step wanted told count = at step wanted told count true Okay Okay false

-- asked, and the report has come: a transceiver, clear or check step is done
abbrev told_so : Step → Mode → Mode → ℕ → State
told_so step wanted told count = at step wanted told count true Pending Pending true

-- asked, with these answers of the two controllers
abbrev answered : Step → Mode → Mode → LastAnswer → LastAnswer → State
answered step wanted told first second = at step wanted told 0 true first second false

-- one tick of one network: its settings, its record before, what is handed out, its record after
pub record Case : Type 0 where
  pub settings : Network
  pub before : State
  pub records : List Record
  pub after : State

-- an example as one line of the list
abbrev case : Network → State → List Record → State → Case
case n before records after = record { settings = n; before = before; records = records; after = after }

-- a record for each of the two controllers
abbrev both : ℕ → ℕ → List Record
both kind argument = handed kind 3 argument ∷ handed kind 4 argument ∷ []

-- what entering full hands out
abbrev full : List Record
full = both 3 0 ++ (handed 6 7 2 ∷ handed 7 7 2 ∷ [])

-- what entering silent hands out
abbrev silent : List Record
silent = both 3 1 ++ (handed 6 7 1 ∷ handed 7 7 1 ∷ [])

-- above each group stands the rule that it shows
abbrev pub examples : List Case
examples =
    -- T4, N11: where full is wanted it comes up by step 1, without a transceiver by step 2, and the step that it enters asks at once
    case fitted (quiet NoCommunication Mode.Full Mode.No 0) (handed 2 6 0 ∷ []) (asking TransceiverNormal Mode.Full Mode.No 0)
    ∷ case bare (quiet NoCommunication Mode.Full Mode.No 0) (both 1 0) (asking ControllersStopped Mode.Full Mode.No 0)
    ∷ case bare (quiet NoCommunication Mode.No Mode.No 0) [] (quiet NoCommunication Mode.No Mode.No 0)
    -- T3, T25: no is looked at first, and brings 7 no, 6 silent where full was told, and the requests of the first down step
    ∷ case bare (agreed ControllersStarted Mode.No Mode.No 0) (handed 7 7 0 ∷ both 1 0) (asking DownStopped Mode.No Mode.No 0)
    ∷ case bare (quiet (Checking 2) Mode.No Mode.Full 1) (handed 7 7 0 ∷ handed 6 7 1 ∷ both 1 0) (asking DownStopped Mode.No Mode.Silent 1)
    ∷ case partial (quiet Full Mode.No Mode.Full 0) (handed 7 7 0 ∷ handed 6 7 1 ∷ handed 4 6 0 ∷ []) (asking ClearWake Mode.No Mode.Silent 0)
    ∷ case bare (quiet (Waiting 1) Mode.No Mode.Silent 1) (handed 7 7 0 ∷ both 1 0) (asking DownStopped Mode.No Mode.Silent 1)
    -- T5: done in 1, on to 2
    ∷ case fitted (told_so TransceiverNormal Mode.Full Mode.No 0) (both 1 0) (asking ControllersStopped Mode.Full Mode.No 0)
    -- T6: done in 2, on to 3
    ∷ case fitted (agreed ControllersStopped Mode.Full Mode.No 0) (both 1 1) (asking ControllersStarted Mode.Full Mode.No 0)
    -- T7, T23: done in 3, it becomes full: both controllers online, 6 full and 7 full
    ∷ case fitted (agreed ControllersStarted Mode.Full Mode.No 0) full (quiet (Checking 0) Mode.Full Mode.Full 0)
    -- N12: not done, both are asked again, and the answer that came is kept
    ∷ case bare (answered ControllersStarted Mode.Full Mode.No Okay Pending) (both 1 1) (answered ControllersStarted Mode.Full Mode.No Okay Pending)
    ∷ case bare (quiet Restarting Mode.Full Mode.Silent 1) (both 1 1) (asking Restarting Mode.Full Mode.Silent 1)
    -- T8, T24: silent is wanted in 4 and in 5: both controllers TX offline, 6 silent and 7 silent
    ∷ case bare (quiet (Checking 2) Mode.Silent Mode.Full 1) silent (quiet Silent Mode.Silent Mode.Silent 1)
    ∷ case bare (quiet Full Mode.Silent Mode.Full 0) silent (quiet Silent Mode.Silent Mode.Silent 0)
    -- T9: one tick more in 4
    ∷ case bare (quiet (Checking 1) Mode.Full Mode.Full 2) [] (quiet (Checking 2) Mode.Full Mode.Full 2)
    -- T10: with the third the ensure time is reached, and 8 passed clears the count
    ∷ case bare (quiet (Checking 2) Mode.Full Mode.Full 2) (handed 8 7 0 ∷ []) (quiet Full Mode.Full Mode.Full 0)
    -- T11: done in 6, both controllers TX offline, and the wait begins
    ∷ case bare (agreed Restarting Mode.Full Mode.Silent 1) (both 3 1) (quiet (Waiting 0) Mode.Full Mode.Silent 1)
    -- T12, T13: one tick more in 7; the count 1 is not above the threshold, so the second tick ends the wait
    ∷ case bare (quiet (Waiting 0) Mode.Full Mode.Silent 1) [] (quiet (Waiting 1) Mode.Full Mode.Silent 1)
    ∷ case bare (quiet (Waiting 1) Mode.Full Mode.Silent 1) full (quiet (Checking 0) Mode.Full Mode.Full 1)
    -- T12, T13: the count 2 is above it, so the fifth tick does; and where silent is wanted the network becomes silent
    ∷ case bare (quiet (Waiting 1) Mode.Full Mode.Silent 2) [] (quiet (Waiting 2) Mode.Full Mode.Silent 2)
    ∷ case bare (quiet (Waiting 4) Mode.Full Mode.Silent 2) full (quiet (Checking 0) Mode.Full Mode.Full 2)
    -- S27, T12, T13: with field 07 the count 1 is as many as the threshold, and it is the fifth tick that ends the wait
    ∷ case newer (quiet (Waiting 1) Mode.Full Mode.Silent 1) [] (quiet (Waiting 2) Mode.Full Mode.Silent 1)
    ∷ case newer (quiet (Waiting 4) Mode.Full Mode.Silent 1) full (quiet (Checking 0) Mode.Full Mode.Full 1)
    ∷ case bare (quiet (Waiting 1) Mode.Silent Mode.Silent 1) silent (quiet Silent Mode.Silent Mode.Silent 1)
    -- T14: full is wanted in 8, and where it is not the network stays
    ∷ case bare (quiet Silent Mode.Full Mode.Silent 1) full (quiet (Checking 0) Mode.Full Mode.Full 1)
    ∷ case bare (quiet Silent Mode.Silent Mode.Silent 1) [] (quiet Silent Mode.Silent Mode.Silent 1)
    -- T15: without partial networking from 10 on to 12
    ∷ case bare (agreed DownStopped Mode.No Mode.No 0) (both 1 2) (asking ControllersSleep Mode.No Mode.No 0)
    -- T16, T28: from 12 to 0 with 6 no, and with a transceiver to 11
    ∷ case bare (agreed ControllersSleep Mode.No Mode.No 0) (handed 6 7 0 ∷ []) (quiet NoCommunication Mode.No Mode.No 0)
    ∷ case fitted (agreed ControllersSleep Mode.No Mode.Silent 1) (handed 2 6 1 ∷ []) (asking TransceiverStandby Mode.No Mode.Silent 1)
    -- T17, T28: from 11 to 0
    ∷ case fitted (told_so TransceiverStandby Mode.No Mode.Silent 1) (handed 6 7 0 ∷ []) (quiet NoCommunication Mode.No Mode.No 1)
    -- T18: with partial networking from 9 to 10, 11 and 12
    ∷ case partial (told_so ClearWake Mode.No Mode.No 0) (both 1 0) (asking DownStopped Mode.No Mode.No 0)
    ∷ case partial (agreed DownStopped Mode.No Mode.No 0) (handed 2 6 1 ∷ []) (asking TransceiverStandby Mode.No Mode.No 0)
    ∷ case partial (told_so TransceiverStandby Mode.No Mode.No 0) (both 1 2) (asking ControllersSleep Mode.No Mode.No 0)
    -- T19: one refusal is enough to go from 12 to 14, and the other answer is not waited for
    ∷ case partial (answered ControllersSleep Mode.No Mode.No Pending Refused) (handed 5 6 0 ∷ []) (asking CheckWakeAgain Mode.No Mode.No 0)
    -- N12: without partial networking a refusal only makes it ask again
    ∷ case bare (answered ControllersSleep Mode.No Mode.No Okay Refused) (both 1 2) (answered ControllersSleep Mode.No Mode.No Okay Refused)
    -- T20: done in 12, on to 13
    ∷ case partial (agreed ControllersSleep Mode.No Mode.No 0) (handed 5 6 0 ∷ []) (asking CheckWake Mode.No Mode.No 0)
    -- T21, T28: from 13 to 0, also where full is wanted again
    ∷ case partial (told_so CheckWake Mode.Full Mode.No 0) (handed 6 7 0 ∷ []) (quiet NoCommunication Mode.Full Mode.No 0)
    -- T22: from 14 back to 9, which tells nothing
    ∷ case partial (told_so CheckWakeAgain Mode.No Mode.No 0) (handed 4 6 0 ∷ []) (asking ClearWake Mode.No Mode.No 0)
    -- N12, T3: after a stall step 15 asks both controllers to stop; where no is wanted it goes down, without 6 silent, which was told
    ∷ case bare (quiet ResetStopped Mode.Full Mode.Silent 1) (both 1 0) (asking ResetStopped Mode.Full Mode.Silent 1)
    ∷ case bare (agreed ResetStopped Mode.No Mode.Silent 1) (handed 7 7 0 ∷ both 1 0) (asking DownStopped Mode.No Mode.Silent 1)
    ∷ case partial (agreed ResetStarted Mode.No Mode.Silent 1) (handed 7 7 0 ∷ handed 4 6 0 ∷ []) (asking ClearWake Mode.No Mode.Silent 1)
    -- T29: done in 15, on to 16
    ∷ case bare (agreed ResetStopped Mode.Silent Mode.Silent 1) (both 1 1) (asking ResetStarted Mode.Silent Mode.Silent 1)
    -- T30: done in 16, it becomes full with the count as it was, or silent where that is wanted
    ∷ case bare (agreed ResetStarted Mode.Full Mode.Silent 1) full (quiet (Checking 0) Mode.Full Mode.Full 1)
    ∷ case fitted (agreed ResetStarted Mode.Silent Mode.Silent 2) silent (quiet Silent Mode.Silent Mode.Silent 2)
    ∷ []

-- what a tick gives for a case's network and record
abbrev ticked : Case → Case
ticked c = case c.settings c.before (tick_records c.settings c.before) (tick_state c.settings c.before)

-- the definitions give just these records handed out and these records after them
pub tick_examples : map ticked examples ≡ examples
unfolding any every decision requests entering entering_full entering_silent down_notices going_down move_records
    is_done delay_of move_of after_move tick_state tick_records
tick_examples = refl
