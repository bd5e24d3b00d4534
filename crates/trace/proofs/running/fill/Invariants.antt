-- `trace::running::fill` meets its contract: so far the lines up to the point stand in the block.
use Rattle.lists.proofs.Basics.{◌+◌, ◌-◌, ◌≤◌, length}
use Rattle.trace.proofs.Blocks.{SoFar}
use Rattle.trace.proofs.running.fill.Given as goal

abbrev pub invariant-loop-point : goal.invariant-loop-point
invariant-loop-point l =
    (l.point.number ≤ l.point.next + 1) × (l.point.length ≤ length l.block) × SoFar l.input l.initial.point l.point l.initial.block l.block

abbrev pub decreases-loop-point : goal.decreases-loop-point
decreases-loop-point l = length l.input - l.point.next
