-- `lent_calls::troubles::strike_started` meets its contract.
use Rattle.lent_calls.proofs.Ticks.{slot_shut}
use Rattle.lent_calls.proofs.troubles.strike_started.Goals as goal

pub returns-in-Err : goal.returns-in-Err
returns-in-Err c =
    slot_shut _ _ _ _ _ _ _ c.slot_in.ensures.found c.in-Err.is c.refuse.ensures
