-- `slots::room::needs_of` meets its contract: the total is the sum of the shares of the networks so far.
use Rattle.lists.proofs.Basics.{◌<◌, arith, length, rules}
use Rattle.slots.specs.Manager.{needs_of, summed}
use Rattle.slots.proofs.Shares.{summed_more, summed_all}
use Rattle.slots.proofs.room.needs_of.Goals as goal

pub loop-network-init : goal.loop-network-init
unfolding summed
loop-network-init c = search rules

pub loop-network-preserved : goal.loop-network-preserved
loop-network-preserved c =
    let l = c.loop-network in
    let h : l.network-index < length c.in_use-network-items.result.now = omega arith in
    record {
      added = summed_more _ _ _ _ h _ _ l.invariant.added c.share_of-total.ensures.0;
      few = omega (arith, c.share_of-total.ensures.1);
    }

pub returns : goal.returns
unfolding needs_of
returns c = search (rules, summed_all)
