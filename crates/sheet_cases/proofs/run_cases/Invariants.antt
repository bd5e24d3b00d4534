-- `sheet_cases::run_cases` is safe and ends.
use Rattle.std.proofs.Common.{◌+◌, ◌≤◌, length}
use Rattle.sheet_cases.proofs.run_cases.Given as goal

abbrev pub invariant-loop-sheet : goal.invariant-loop-sheet
invariant-loop-sheet g l = l.case + length l.rest ≤ length l.input

abbrev pub decreases-loop-sheet : goal.decreases-loop-sheet
decreases-loop-sheet g l = length l.rest
