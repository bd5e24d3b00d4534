-- `handing::put_round` meets its contract: after some controllers their records were handed out.
use Rattle.lists.proofs.Basics.{arith}
use Rattle.records.proofs.Trays.{handed_none, handed_more}
use Rattle.handing.specs.Handing.{round_record}
use Rattle.handing.proofs.put_round.Goals as goal

pub loop-id-init : goal.loop-id-init
loop-id-init c = handed_none _

pub loop-id-preserved : goal.loop-id-preserved
loop-id-preserved c =
    handed_more (round_record c.args.round) _ c.loop-id.id-index 0 (omega arith) c.loop-id.invariant (rw c.round_record.ensures at c.put.ensures)
