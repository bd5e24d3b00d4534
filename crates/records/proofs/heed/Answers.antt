-- `records::heed` meets its contract: after k records the first k are as they go out.
use Rattle.lists.proofs.Basics.{arith, ◌≡◌, ◌∙◌}
use Rattle.records.proofs.Laws.{heed_begins, heed_more, heed_done, heed_none}
use Rattle.records.proofs.heed.Goals as goal

pub loop-k-init : goal.loop-k-init
loop-k-init c = heed_begins _

pub loop-k-preserved : goal.loop-k-preserved
loop-k-preserved c =
    heed_more _ (omega (arith, c.requires)) c.loop-k.invariant (rw c.read-handed.ensures at c.turn.ensures) c.put_record.ensures

pub returns-after-loop-k : goal.returns-after-loop-k
returns-after-loop-k c =
    let l = c.loop-k in
    let all : l.k ≡ c.args.count = omega arith in
    heed_done l.invariant ∙ rw (all, c.if-listening.true)

pub returns-else-listening : goal.returns-else-listening
returns-else-listening c = heed_none _ _ c.requires ∙ rw c.if-listening.false
