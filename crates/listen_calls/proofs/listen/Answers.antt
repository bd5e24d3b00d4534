-- `listen_calls::listen` meets its contract.
use Rattle.lists.proofs.Basics.{refl, sym, ap, ◌∙◌}
use Rattle.lent_calls.proofs.Ticks.{gate_shut, open_roomy}
use Rattle.listen_calls.proofs.Online.{listen_open}
use Rattle.slots.specs.Calls.{gate_of, outcome, by_rules}
use Rattle.listen_calls.proofs.listen.Goals as goal

pub listen_started-requires : goal.listen_started-requires
listen_started-requires c =
    let a = c.args in
    open_roomy
    a.manager _ _ (ap (gate_of a.manager _) (sym c.listen_needs.ensures) ∙ sym c.gate_of.ensures ∙ c.in-Ok.is)

pub returns-in-Err : goal.returns-in-Err
unfolding outcome by_rules
returns-in-Err c =
    let a = c.args in
    gate_shut _ _ _ _ _ _ _ _ _
    (c.gate_of.ensures ∙ ap (gate_of a.manager _) c.listen_needs.ensures) c.in-Err.is c.refuse.ensures refl refl

pub returns-in-Ok : goal.returns-in-Ok
unfolding outcome by_rules
returns-in-Ok c =
    let a = c.args in
    listen_open _ _ _ _ _ _ _ _ _
    (c.gate_of.ensures ∙ ap (gate_of a.manager _) c.listen_needs.ensures) c.in-Ok.is
    c.listen_started.ensures refl refl
