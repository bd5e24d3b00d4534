-- `handing::put_round` meets its contract: after some controllers their records were handed out.
use Rattle.lists.proofs.Basics.{map, take}
use Rattle.records.specs.Tray.{Handed}
use Rattle.handing.specs.Handing.{round_record}
use Rattle.handing.proofs.put_round.Given as goal

abbrev pub invariant-loop-id : goal.invariant-loop-id
invariant-loop-id l = Handed l.initial.tray (map (round_record l.round) (take l.id-index l.id-items)) l.tray
