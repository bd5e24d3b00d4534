-- `handing::put_recovery` meets its contract: three records, one after the other.
use Rattle.records.proofs.Trays.{handed_then}
use Rattle.handing.specs.Handing.{recovery}
use Rattle.handing.proofs.put_recovery.Goals as goal

pub returns : goal.returns
unfolding recovery
returns c =
    rw (c.report.ensures, c.tell.ensures, c.note.ensures)
    at (handed_then c.put.ensures (handed_then c.put-2.ensures c.put-3.ensures))
