-- `trace::lines::put_stop` meets its contract.
use Rattle.lists.proofs.Basics.{rules}
use Rattle.text.proofs.Appending.{appended_then}
use Rattle.trace.specs.Lines.{stop_line}
use Rattle.trace.proofs.lines.put_stop.Goals as goal

pub returns-clause-line : goal.returns-clause-line
unfolding stop_line
returns-clause-line c = search (rules, appended_then)
