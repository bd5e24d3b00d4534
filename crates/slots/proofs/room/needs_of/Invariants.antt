-- `slots::room::needs_of` meets its contract: the total is the sum of the shares of the networks so far.
use Rattle.lists.proofs.Basics.{◌*◌, ◌≤◌, ◌≡◌, take}
use Rattle.slots.specs.Manager.{share_in, summed}
use Rattle.slots.proofs.room.needs_of.Given as goal

abbrev pub invariant-loop-network : goal.invariant-loop-network
invariant-loop-network l =
    record {
      added : l.total ≡ summed (share_in l.share) (take l.network-index l.network-items);
      few : l.total ≤ 6 * l.network-index;
    }
