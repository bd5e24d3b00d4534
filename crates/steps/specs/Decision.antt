-- What a tick decides for one network: one decision over the step, the wanted mode, whether the step is done, whether a refusal is among the last
-- answers, whether the timer is reached, and the outfit. It is total: a step that asks and is not done asks again, and where no rule speaks the step
-- stays. The rules N12, T3 to T22, T29 and T30 of docs/RULES.md.
use Rattle.std.specs.Prelude.{ℕ, ◌+◌, Bool, true, false, cond, ltb}
use Rattle.records.specs.declared.Mode.{Mode}
use Rattle.steps.specs.declared.Step.{Step}
use Rattle.steps.specs.declared.Step.TheVariants.{NoCommunication, TransceiverNormal, ControllersStopped, ControllersStarted}
use Rattle.steps.specs.declared.Step.TheVariants.{Checking, Full, Restarting, Waiting, Silent}
use Rattle.steps.specs.declared.Step.TheVariants.{ClearWake, DownStopped, TransceiverStandby, ControllersSleep, CheckWake, CheckWakeAgain}
use Rattle.steps.specs.declared.Step.TheVariants.{ResetStopped, ResetStarted}
use Rattle.steps.specs.declared.Outfit.{Outfit}
use Rattle.steps.specs.declared.Outfit.TheVariants.{Bare, Fitted, Partial}
use Rattle.steps.specs.declared.Move.{Move}
use Rattle.steps.specs.declared.Move.TheVariants.{Stay, AskAgain, Count, EnterFull, EnterSilent, Pass, Wait}
use Rattle.steps.specs.declared.Move.TheVariants.{GoDown, EnterNoCommunication, Enter}
use Rattle.steps.specs.Steps.{is_on}

-- ---- what the rules are put together from
-- one of three, where no, silent or full is wanted
abbrev pub by_mode : {A : Type 0} → Mode → A → A → A → A
by_mode Mode.No a b c = a
by_mode Mode.Silent a b c = b
by_mode Mode.Full a b c = c

-- one of two: without partial networking, and with it
abbrev pub by_partial : {A : Type 0} → Outfit → A → A → A
by_partial Bare a b = a
by_partial Fitted a b = a
by_partial Partial a b = b

-- one of two: without a transceiver, and with one
abbrev pub by_transceiver : {A : Type 0} → Outfit → A → A → A
by_transceiver Bare a b = a
by_transceiver Fitted a b = b
by_transceiver Partial a b = b

-- N12: an asking step that is not done asks again, and one that is makes its move
abbrev pub when_done : Bool → Move → Move
when_done done move = cond done move AskAgain

-- T9, T12: one tick more is counted, up to the largest number of two bytes, which no time exceeds
abbrev pub risen : ℕ → ℕ
risen ticks = cond (ltb ticks 65535) (ticks + 1) ticks

-- ---- going down
-- no is wanted: what a tick looks at first
abbrev pub is_no : Mode → Bool
is_no Mode.No = true
is_no Mode.Silent = false
is_no Mode.Full = false

-- T3: no is wanted in a step from 1 to 8, in 15 or in 16
abbrev pub goes_down : Step → Mode → Bool
goes_down step wanted = cond (is_no wanted) (is_on step) false

-- ---- the rules
-- the rule of each step, where the network does not go down; steps 9, 13 and 14 without partial networking stay where they are done
abbrev pub rule_of : Step → Mode → Bool → Bool → Bool → Outfit → Move
-- T4: where full is wanted it comes up by step 1, without a transceiver by step 2
rule_of NoCommunication wanted done refused reached outfit =
    by_mode wanted Stay Stay (by_transceiver outfit (Enter ControllersStopped) (Enter TransceiverNormal))
-- T5: done, it goes on to 2
rule_of TransceiverNormal wanted done refused reached outfit = when_done done (Enter ControllersStopped)
-- T6: done, it goes on to 3
rule_of ControllersStopped wanted done refused reached outfit = when_done done (Enter ControllersStarted)
-- T7: done, it becomes full
rule_of ControllersStarted wanted done refused reached outfit = when_done done EnterFull
-- T8 to T10: silent where that is wanted; else one tick more, and passed with the tick that reaches the ensure time
rule_of (Checking ticks) wanted done refused reached outfit =
    let checked = cond reached Pass (Count (Checking (risen ticks))) in
    by_mode wanted checked EnterSilent checked
-- T8: silent where that is wanted
rule_of Full wanted done refused reached outfit = by_mode wanted Stay EnterSilent Stay
-- T11: done, the wait begins
rule_of Restarting wanted done refused reached outfit = when_done done Wait
-- T12, T13: one tick more, and with the tick that reaches the delay it becomes full, or silent where that is wanted
rule_of (Waiting ticks) wanted done refused reached outfit =
    cond reached (by_mode wanted EnterFull EnterSilent EnterFull) (Count (Waiting (risen ticks)))
-- T14: full where that is wanted
rule_of Silent wanted done refused reached outfit = by_mode wanted Stay Stay EnterFull
-- T18: done, with partial networking on to 10
rule_of ClearWake wanted done refused reached outfit = when_done done (by_partial outfit Stay (Enter DownStopped))
-- T15, T18: done, on to 12, with partial networking to 11
rule_of DownStopped wanted done refused reached outfit = when_done done (by_partial outfit (Enter ControllersSleep) (Enter TransceiverStandby))
-- T17, T18: done, on to 0, with partial networking to 12
rule_of TransceiverStandby wanted done refused reached outfit = when_done done (by_partial outfit EnterNoCommunication (Enter ControllersSleep))
-- T16, T19, T20: done, on to 11 or without a transceiver to 0; with partial networking on to 14 after a refusal, else, done, to 13
rule_of ControllersSleep wanted done refused reached outfit =
    by_partial outfit
    (when_done done (by_transceiver outfit EnterNoCommunication (Enter TransceiverStandby)))
    (cond refused (Enter CheckWakeAgain) (when_done done (Enter CheckWake)))
-- T21: done, with partial networking on to 0
rule_of CheckWake wanted done refused reached outfit = when_done done (by_partial outfit Stay EnterNoCommunication)
-- T22: done, with partial networking back to 9
rule_of CheckWakeAgain wanted done refused reached outfit = when_done done (by_partial outfit Stay (Enter ClearWake))
-- T29: done, it goes on to 16
rule_of ResetStopped wanted done refused reached outfit = when_done done (Enter ResetStarted)
-- T30: done, it becomes full, or silent where that is wanted
rule_of ResetStarted wanted done refused reached outfit = when_done done (by_mode wanted EnterFull EnterSilent EnterFull)

-- T3: what a tick decides, where going down is looked at first
unfoldable pub decision : Step → Mode → Bool → Bool → Bool → Outfit → Move
decision step wanted done refused reached outfit =
    cond (goes_down step wanted) GoDown (rule_of step wanted done refused reached outfit)
