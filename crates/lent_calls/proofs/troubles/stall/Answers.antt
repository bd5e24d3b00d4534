-- `lent_calls::troubles::stall` meets its contract.
use Rattle.lists.proofs.Basics.{refl, sym, ◌∙◌}
use Rattle.lent_calls.proofs.Ticks.{gate_shut, open_roomy, trouble_open}
use Rattle.network.specs.declared.Trouble.{Trouble}
use Rattle.slots.specs.Calls.{outcome, by_rules}
use Rattle.lent_calls.proofs.troubles.stall.Goals as goal

pub strike_started-requires : goal.strike_started-requires
strike_started-requires c = open_roomy _ _ 3 (sym c.gate_of.ensures ∙ c.in-Ok.is)

pub returns-in-Err : goal.returns-in-Err
unfolding outcome by_rules
returns-in-Err c =
    gate_shut _ _ _ _ _ _ _ _ _ c.gate_of.ensures c.in-Err.is c.refuse.ensures refl refl

pub returns-in-Ok : goal.returns-in-Ok
unfolding outcome by_rules
returns-in-Ok c =
    trouble_open _ _ _ _ _ Trouble.Stall _ _ _ c.gate_of.ensures c.in-Ok.is
    c.strike_started.ensures refl refl
