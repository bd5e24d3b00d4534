-- `workload::proved_answers` is safe and ends.
use Rattle.std.proofs.Common.{◌≤◌}
use Rattle.workload.proofs.proved_answers.Given as goal

abbrev pub invariant-loop : goal.invariant-loop
invariant-loop l = (l.id ≤ 254) × (l.ok ≤ 1)
