-- `handing::put_entering` meets its contract: the records of the controllers, and then the two of the handle.
use Rattle.records.proofs.Trays.{handed_then}
use Rattle.handing.specs.Handing.{entering}
use Rattle.handing.proofs.put_entering.Goals as goal

pub returns : goal.returns
unfolding entering
returns c =
    rw (c.tell.ensures, c.note.ensures)
    at (handed_then c.put_round.ensures (handed_then c.put.ensures c.put-2.ensures))
