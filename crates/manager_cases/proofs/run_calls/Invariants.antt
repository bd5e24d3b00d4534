-- `manager_cases::run_calls` is safe and ends.
use Rattle.std.proofs.Common.{◌+◌, ◌≤◌, length}
use Rattle.manager_cases.proofs.run_calls.Given as goal

abbrev pub invariant-loop-call : goal.invariant-loop-call
invariant-loop-call g l = l.number + length l.rest ≤ length l.input

abbrev pub decreases-loop-call : goal.decreases-loop-call
decreases-loop-call g l = length l.rest
