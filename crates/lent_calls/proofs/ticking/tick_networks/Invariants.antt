-- `lent_calls::ticking::tick_networks` meets its contract: after i networks their records are those after a tick, and the tray has what they hand
-- out.
use Rattle.lists.proofs.Basics.{◌≡◌, take}
use Rattle.records.specs.Tray.{Handed}
use Rattle.network.specs.Moving.{tick_state, tick_records}
use Rattle.slots.specs.Manager.{each, gathered}
use Rattle.lent_calls.proofs.ticking.tick_networks.Given as goal

abbrev pub invariant-loop-i : goal.invariant-loop-i
invariant-loop-i l =
    record {
      ticked : l.states ≡ each tick_state (take l.i l.network-items) l.initial.states;
      handed : Handed l.initial.tray (gathered tick_records (take l.i l.network-items) l.initial.states) l.tray;
    }
