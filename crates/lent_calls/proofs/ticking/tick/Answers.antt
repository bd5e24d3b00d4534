-- `lent_calls::ticking::tick` meets its contract.
use Rattle.lists.proofs.Basics.{refl, sym, ap, ◌∙◌}
use Rattle.lent_calls.proofs.Ticks.{gate_shut, gate_open, open_roomy}
use Rattle.slots.specs.Calls.{gate_of, all_ticked, outcome, by_rules}
use Rattle.lent_calls.proofs.ticking.tick.Goals as goal

pub tick_started-requires : goal.tick_started-requires
tick_started-requires c =
    let a = c.args in
    open_roomy
    a.manager _ _ (ap (gate_of a.manager _) (sym c.tick_needs.ensures) ∙ sym c.gate_of.ensures ∙ c.in-Ok.is)

pub returns-in-Err : goal.returns-in-Err
unfolding outcome by_rules
returns-in-Err c =
    let a = c.args in
    gate_shut _ _ _ _ _ _ _ _ _
    (c.gate_of.ensures ∙ ap (gate_of a.manager _) c.tick_needs.ensures) c.in-Err.is c.refuse.ensures refl refl

pub returns-in-Ok : goal.returns-in-Ok
unfolding outcome by_rules all_ticked
returns-in-Ok c =
    let a = c.args in
    let t = c.tick_started.ensures in
    gate_open _ _ _ _ _ _ _ _ _
    (c.gate_of.ensures ∙ ap (gate_of a.manager _) c.tick_needs.ensures) c.in-Ok.is t.0 t.1 refl refl
