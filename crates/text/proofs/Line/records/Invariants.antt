-- `text::Line::records` meets its contract: the first `i` records are appended.
use Rattle.lists.proofs.Basics.{◌+◌, ◌*◌, ◌≤◌, take}
use Rattle.records.specs.Records.{records_at}
use Rattle.text.specs.Text.{records_text}
use Rattle.text.specs.Line.{Appended}
use Rattle.text.proofs.Line.records.Given as goal

abbrev pub invariant-loop-kind : goal.invariant-loop-kind
invariant-loop-kind l =
    record { appended : Appended l.initial.self (records_text (take l.kind-index (records_at l.count l.buffer))) l.self; room : l.self.length ≤ l.initial.self.length + 12 * l.kind-index }
