-- A bus-off of one of the network's controllers, and a stall of its sending: what it does in a step, the record after it, and what it hands out. The
-- rules B2 to B6 and X2 to X5 of docs/RULES.md.
use Rattle.std.specs.Prelude.{ℕ, ◌+◌, List, [], false, cond, ltb, Option, None, Some}
use Rattle.records.specs.declared.Record.{Record}
use Rattle.records.specs.declared.Mode.{Mode}
use Rattle.settings.specs.declared.Network.{Network}
use Rattle.handing.specs.Handing.{recovery, reset}
use Rattle.steps.specs.declared.Step.{Step}
use Rattle.steps.specs.declared.Step.TheVariants.{Restarting, ResetStopped}
use Rattle.steps.specs.Steps.{asks_for, is_up, is_full_step, is_restarting, asks_to_start}
use Rattle.network.specs.declared.Hit.{Hit}
use Rattle.network.specs.declared.Trouble.{Trouble}
use Rattle.network.specs.declared.State.{State}
use Rattle.network.specs.State.{blank_answers}

-- B4 to B6: in an up step a recovery begins, in step 3 the controllers are asked anew, in any other step it is not taken
unfoldable pub hit_of : Step → Option Hit
hit_of step = cond (is_up step) (Some Hit.Recover) (cond (asks_to_start (asks_for step)) (Some Hit.Restart) None)

-- X2, X5: in steps 4 and 5 a reset begins, in any other step it is not taken
unfoldable pub stall_of : Step → Option Hit
stall_of step = cond (is_full_step step) (Some Hit.Reset) None

-- what trouble does in a step, where the step takes it
abbrev pub hit_by : Trouble → Step → Option Hit
hit_by Trouble.BusOff step = hit_of step
hit_by Trouble.Stall step = stall_of step

-- B2: one more, up to 255 where it stays
abbrev pub raised : ℕ → ℕ
raised count = cond (ltb count 255) (count + 1) count

-- B2: the count after a bus-off that was taken in an up step: in step 6 it stays, since the fault that led there was counted; else one more
abbrev pub counted_in : Step → ℕ → ℕ
counted_in step count = cond (is_restarting step) count (raised count)

-- B4, B5, X3: the step has not asked, and the answers are forgotten
unfoldable pub made_anew : State → Step → Mode → ℕ → State
made_anew s step told count =
    record { step = step; wanted = s.wanted; told = told; count = count; asked = false; answers = blank_answers; reported = false }

-- B2 to B5, X2 to X4: a recovery is step 6 with silent told and the bus-off counted; in step 3 the step, the told mode and the count stay; a reset
-- is step 15 with silent told, and the count stays
unfoldable pub after_hit : State → Hit → State
after_hit s Hit.Recover = made_anew s Restarting Mode.Silent (counted_in s.step s.count)
after_hit s Hit.Restart = made_anew s s.step s.told s.count
after_hit s Hit.Reset = made_anew s ResetStopped Mode.Silent s.count

-- B3, B5, X2: the three records of a recovery; none in step 3; the one of a reset; none where it is not taken
unfoldable pub hit_records : Network → Option Hit → List Record
hit_records n (Some Hit.Recover) = recovery n.handle
hit_records n (Some Hit.Restart) = []
hit_records n (Some Hit.Reset) = reset n.handle
hit_records n None = []
