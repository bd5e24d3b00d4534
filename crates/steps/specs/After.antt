-- The first down step, and the step after a move. The rules N7, T10, T11 and T23 to T25 of docs/RULES.md.
use Rattle.std.specs.Prelude.{Bool, cond}
use Rattle.steps.specs.declared.Step.{Step}
use Rattle.steps.specs.declared.Step.TheVariants.{NoCommunication, Checking, Full, Waiting, Silent, ClearWake, DownStopped}
use Rattle.steps.specs.declared.Move.{Move}
use Rattle.steps.specs.declared.Move.TheVariants.{Stay, AskAgain, Count, EnterFull, EnterSilent, Pass, Wait}
use Rattle.steps.specs.declared.Move.TheVariants.{GoDown, EnterNoCommunication, Enter}

-- N7: the first down step is 9 with partial networking, else 10
abbrev pub first_down : Bool → Step
first_down partial = cond partial ClearWake DownStopped

-- T10, T11, T23 to T25: step 5 after passed, 7 with 0 ticks for the wait, 4 with 0 ticks for full, 8 for silent, the first down step on going down
abbrev pub step_after : Move → Step → Bool → Step
step_after Stay step partial = step
step_after AskAgain step partial = step
step_after (Count next) step partial = next
step_after EnterFull step partial = Checking 0
step_after EnterSilent step partial = Silent
step_after Pass step partial = Full
step_after Wait step partial = Waiting 0
step_after GoDown step partial = first_down partial
step_after EnterNoCommunication step partial = NoCommunication
step_after (Enter next) step partial = next
