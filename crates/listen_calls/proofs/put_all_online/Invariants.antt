-- `listen_calls::put_all_online` meets its contract: after i networks the tray has what is handed out for them.
use Rattle.lists.proofs.Basics.{take}
use Rattle.records.specs.Tray.{Handed}
use Rattle.slots.specs.Manager.{gathered}
use Rattle.listen_calls.proofs.Online.{online_of}
use Rattle.listen_calls.proofs.put_all_online.Given as goal

abbrev pub invariant-loop-i : goal.invariant-loop-i
invariant-loop-i l = Handed l.initial.tray (gathered online_of (take l.i l.network-items) l.fn.manager.states) l.tray
