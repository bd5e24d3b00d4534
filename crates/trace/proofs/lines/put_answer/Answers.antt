-- `trace::lines::put_answer` meets its contract.
use Rattle.text.proofs.Appending.{appended_then}
use Rattle.trace.proofs.lines.put_answer.Goals as goal

pub returns-clause-line : goal.returns-clause-line
returns-clause-line c = appended_then c.decimal.ensures.appended (appended_then c.byte.ensures c.small.ensures.appended)
