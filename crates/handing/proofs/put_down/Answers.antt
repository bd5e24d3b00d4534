-- `handing::put_down` meets its contract: the notices, and then the requests of the first down step.
use Rattle.records.proofs.Trays.{handed_then}
use Rattle.handing.specs.Handing.{going_down}
use Rattle.handing.proofs.put_down.Goals as goal

pub returns : goal.returns
unfolding going_down
returns c = handed_then c.put_down_notices.ensures (rw (c.asks.ensures, c.first_down.ensures) at c.put_requests.ensures)
