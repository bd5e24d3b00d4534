-- Which networks rest. This is no rule of the product but a shortcut of the code: the tick of such a network changes nothing and hands out nothing,
-- whatever its settings, its answers and its timer are (`resting_stays`, `resting_hands_out_nothing`).
use Rattle.std.specs.Prelude.{Bool, false, true}
use Rattle.records.specs.declared.Mode.{Mode}
use Rattle.steps.specs.declared.Step.{Step}
use Rattle.steps.specs.declared.Phase.{Phase}
use Rattle.steps.specs.Steps.{phase_of}
use Rattle.steps.specs.Decision.{by_mode}

-- the phases that last where what is wanted is there: no communication, full or silent
abbrev pub rests_in_phase : Phase → Mode → Bool
rests_in_phase Phase.Off wanted = by_mode wanted true false false
rests_in_phase Phase.Rising wanted = false
rests_in_phase Phase.Checking wanted = false
rests_in_phase Phase.Full wanted = by_mode wanted false false true
rests_in_phase Phase.Recovering wanted = false
rests_in_phase Phase.Silent wanted = by_mode wanted false true false
rests_in_phase Phase.Falling wanted = false
rests_in_phase Phase.Resetting wanted = false

-- what is wanted is there
abbrev pub rests_in : Step → Mode → Bool
rests_in step wanted = rests_in_phase (phase_of step) wanted
