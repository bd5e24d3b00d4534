-- The seventeen steps as one table, with a row for each: its number, its phase, what it asks for and what it counts. What holds of whole groups of
-- steps is said of the phase. The rules N1, N2, N4, N5, N10 and L3 of docs/RULES.md.
use Rattle.std.specs.Prelude.{ℕ, Bool, true, false, eqb}
use Rattle.records.specs.declared.ControllerMode.{ControllerMode}
use Rattle.records.specs.declared.TransceiverMode.{TransceiverMode}
use Rattle.steps.specs.declared.Step.{Step}
use Rattle.steps.specs.declared.Step.TheVariants.{NoCommunication, TransceiverNormal, ControllersStopped, ControllersStarted}
use Rattle.steps.specs.declared.Step.TheVariants.{Checking, Full, Restarting, Waiting, Silent}
use Rattle.steps.specs.declared.Step.TheVariants.{ClearWake, DownStopped, TransceiverStandby, ControllersSleep, CheckWake, CheckWakeAgain}
use Rattle.steps.specs.declared.Step.TheVariants.{ResetStopped, ResetStarted}
use Rattle.steps.specs.declared.Phase.{Phase}
use Rattle.steps.specs.declared.Ask.{Ask}
use Rattle.steps.specs.declared.Timer.{Timer}
use Rattle.steps.specs.declared.Profile.{Profile}

-- a row: the number, the phase, what is asked for, what is counted
abbrev pub row : ℕ → Phase → Ask → Timer → Profile
row number phase ask timer = record { number = number; phase = phase; ask = ask; timer = timer }

-- the controllers are to stop, as steps 2, 10 and 15 ask
abbrev stopped : Ask
stopped = Ask.Controllers ControllerMode.Stopped

-- the controllers are to start, as steps 3, 6 and 16 ask
abbrev started : Ask
started = Ask.Controllers ControllerMode.Started

-- N1, N2: the table of the steps; 4 and 7 have the number of their ticks with them
abbrev pub profile_of : Step → Profile
profile_of NoCommunication = row 0 Phase.Off Ask.Nothing Timer.Idle
profile_of TransceiverNormal = row 1 Phase.Rising (Ask.Transceiver TransceiverMode.Normal) Timer.Idle
profile_of ControllersStopped = row 2 Phase.Rising stopped Timer.Idle
profile_of ControllersStarted = row 3 Phase.Rising started Timer.Idle
profile_of (Checking ticks) = row 4 Phase.Checking Ask.Nothing (Timer.Ensure ticks)
profile_of Full = row 5 Phase.Full Ask.Nothing Timer.Idle
profile_of Restarting = row 6 Phase.Recovering started Timer.Idle
profile_of (Waiting ticks) = row 7 Phase.Recovering Ask.Nothing (Timer.Delay ticks)
profile_of Silent = row 8 Phase.Silent Ask.Nothing Timer.Idle
profile_of ClearWake = row 9 Phase.Falling Ask.ClearWake Timer.Idle
profile_of DownStopped = row 10 Phase.Falling stopped Timer.Idle
profile_of TransceiverStandby = row 11 Phase.Falling (Ask.Transceiver TransceiverMode.Standby) Timer.Idle
profile_of ControllersSleep = row 12 Phase.Falling (Ask.Controllers ControllerMode.Sleep) Timer.Idle
profile_of CheckWake = row 13 Phase.Falling Ask.CheckWake Timer.Idle
profile_of CheckWakeAgain = row 14 Phase.Falling Ask.CheckWake Timer.Idle
profile_of ResetStopped = row 15 Phase.Resetting stopped Timer.Idle
profile_of ResetStarted = row 16 Phase.Resetting started Timer.Idle

-- the number of a step, 0 to 16, whatever its tick count is
abbrev pub step_number : Step → ℕ
step_number step = (profile_of step).number

-- what a network is about in a step
abbrev pub phase_of : Step → Phase
phase_of step = (profile_of step).phase

-- what a step asks for
abbrev pub asks_for : Step → Ask
asks_for step = (profile_of step).ask

-- N2: what a step counts: step 4 the ticks up to the ensure time, step 7 those up to the delay
abbrev pub timer_of : Step → Timer
timer_of step = (profile_of step).timer

-- ---- groups of steps
-- the phases of steps 1 to 8, 15 and 16, which a network leaves where no is wanted
abbrev pub on_phase : Phase → Bool
on_phase Phase.Off = false
on_phase Phase.Rising = true
on_phase Phase.Checking = true
on_phase Phase.Full = true
on_phase Phase.Recovering = true
on_phase Phase.Silent = true
on_phase Phase.Falling = false
on_phase Phase.Resetting = true

-- N4: up are the phases of steps 4 to 8, 15 and 16
abbrev pub up_phase : Phase → Bool
up_phase Phase.Off = false
up_phase Phase.Rising = false
up_phase Phase.Checking = true
up_phase Phase.Full = true
up_phase Phase.Recovering = true
up_phase Phase.Silent = true
up_phase Phase.Falling = false
up_phase Phase.Resetting = true

-- N5: the phases of steps 4 and 5
abbrev pub full_phase : Phase → Bool
full_phase Phase.Off = false
full_phase Phase.Rising = false
full_phase Phase.Checking = true
full_phase Phase.Full = true
full_phase Phase.Recovering = false
full_phase Phase.Silent = false
full_phase Phase.Falling = false
full_phase Phase.Resetting = false

-- L3: the phases of steps 4, 5, 15 and 16
abbrev pub online_phase : Phase → Bool
online_phase Phase.Off = false
online_phase Phase.Rising = false
online_phase Phase.Checking = true
online_phase Phase.Full = true
online_phase Phase.Recovering = false
online_phase Phase.Silent = false
online_phase Phase.Falling = false
online_phase Phase.Resetting = true

-- steps 1 to 8, 15 and 16
abbrev pub is_on : Step → Bool
is_on step = on_phase (phase_of step)

-- N4: up are steps 4 to 8, 15 and 16
abbrev pub is_up : Step → Bool
is_up step = up_phase (phase_of step)

-- N5: steps 4 and 5
abbrev pub is_full_step : Step → Bool
is_full_step step = full_phase (phase_of step)

-- L3: steps 4, 5, 15 and 16, whose controllers were last handed online
abbrev pub is_online_step : Step → Bool
is_online_step step = online_phase (phase_of step)

-- B2: step 6, in which the controllers are started again after a bus-off
abbrev pub is_restarting : Step → Bool
is_restarting step = eqb 6 (step_number step)

-- ---- what is asked for
-- there is something to ask for: not in steps 0, 4, 5, 7 and 8
abbrev pub is_ask : Ask → Bool
is_ask Ask.Nothing = false
is_ask (Ask.Controllers mode) = true
is_ask (Ask.Transceiver mode) = true
is_ask Ask.ClearWake = true
is_ask Ask.CheckWake = true

-- N10: the steps that ask are 1 to 3, 6 and 9 to 16
abbrev pub is_asking : Step → Bool
is_asking step = is_ask (asks_for step)

-- the controllers are to start, as in steps 3, 6 and 16
abbrev pub asks_to_start : Ask → Bool
asks_to_start Ask.Nothing = false
asks_to_start (Ask.Controllers ControllerMode.Stopped) = false
asks_to_start (Ask.Controllers ControllerMode.Started) = true
asks_to_start (Ask.Controllers ControllerMode.Sleep) = false
asks_to_start (Ask.Transceiver mode) = false
asks_to_start Ask.ClearWake = false
asks_to_start Ask.CheckWake = false

-- the controllers are to sleep, as in step 12
abbrev pub asks_to_sleep : Ask → Bool
asks_to_sleep Ask.Nothing = false
asks_to_sleep (Ask.Controllers ControllerMode.Stopped) = false
asks_to_sleep (Ask.Controllers ControllerMode.Started) = false
asks_to_sleep (Ask.Controllers ControllerMode.Sleep) = true
asks_to_sleep (Ask.Transceiver mode) = false
asks_to_sleep Ask.ClearWake = false
asks_to_sleep Ask.CheckWake = false
