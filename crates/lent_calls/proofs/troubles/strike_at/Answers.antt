-- `lent_calls::troubles::strike_at` meets its contract.
use Rattle.lists.proofs.Basics.{rules}
use Rattle.lent_calls.proofs.Ticks.{hit_room, slot_struck, slot_ended_in}
use Rattle.lent_calls.proofs.troubles.strike_at.Goals as goal

pub strike-part-requires : goal.strike-part-requires
strike-part-requires c =
    hit_room _ c.state_at.result c.args.trouble _ c.requires

pub returns : goal.returns
returns c =
    let h = c.strike-part.ensures.records in
    let struck = slot_struck _ _ _ _ c.args.trouble _ _ c.network_at.ensures c.state_at.ensures c.strike-part.ensures.part
    h.wrote c.requires c.settle.ensures in
    search (rules, slot_ended_in)
