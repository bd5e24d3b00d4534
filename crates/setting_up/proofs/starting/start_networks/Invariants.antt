-- `setting_up::starting::start_networks` meets its contract: the records of the first `i` networks are at the start.
use Rattle.lists.proofs.Basics.{◌≡◌, length, take}
use Rattle.settings.specs.declared.Network.{Network}
use Rattle.network.specs.declared.State.{State}
use Rattle.network.specs.State.{started}
use Rattle.slots.specs.Manager.{each}
use Rattle.setting_up.proofs.starting.start_networks.Given as goal

abbrev pub invariant-loop-i : goal.invariant-loop-i
invariant-loop-i l =
    record {
      eight : length l.states ≡ 8;
      records : l.states ≡ each (λ (n : Network) (s : State). started n) (take l.i l.network-items) l.initial.states;
    }
