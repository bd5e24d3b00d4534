-- `text::Line::record` meets its contract.
use Rattle.text.proofs.Appending.{record_appended}
use Rattle.text.proofs.Line.record.Goals as goal

pub returns-clause-appended : goal.returns-clause-appended
returns-clause-appended c =
    record_appended c.args.handed c.byte.ensures c.small.ensures.appended c.byte-2.ensures c.small-2.ensures.appended
    c.byte-3.ensures c.small-3.ensures.appended
