-- `trace::lines::put_said` meets its contract.
use Rattle.text.proofs.Appending.{appended_then}
use Rattle.trace.specs.Lines.{said_of}
use Rattle.trace.proofs.lines.put_said.Goals as goal

pub returns-then-polled-clause-line : goal.returns-then-polled-clause-line
unfolding said_of
returns-then-polled-clause-line c =
    rw c.if-polled.true (appended_then c.byte.ensures c.small.ensures.appended)

pub returns-else-polled-clause-line : goal.returns-else-polled-clause-line
unfolding said_of
returns-else-polled-clause-line c = rw c.if-polled.false c.records.ensures.appended
