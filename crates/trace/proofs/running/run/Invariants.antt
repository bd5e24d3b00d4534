-- `trace::running::run` meets its contract: what stands in the block waits to be written, and after it come the lines that are left. What came
-- before it in the output is written.
use Rattle.lists.proofs.Basics.{◌-◌, length, take}
use Rattle.std.specs.Io.KnownBytes.{Appends}
use Rattle.trace.specs.Trace.{output_of}
use Rattle.trace.proofs.Blocks.{Waits}
use Rattle.trace.proofs.running.run.Given as goal

abbrev pub invariant-loop-point : goal.invariant-loop-point
invariant-loop-point g l =
    Waits l.input l.block l.point l.written
    × Appends (g.W.Write.contents l.initial.out) (g.W.Write.contents l.out) (take l.written (output_of l.input))

abbrev pub decreases-loop-point : goal.decreases-loop-point
decreases-loop-point g l = length l.input - l.point.next
