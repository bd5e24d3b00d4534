-- `quiet_calls::requesting::request` meets its contract.
use Rattle.lists.proofs.Basics.{refl, ap, ◌∙◌}
use Rattle.quiet_calls.proofs.Laws.{slot_refused, slot_settled}
use Rattle.slots.specs.Calls.{outcome, named}
use Rattle.network.specs.Parts.{a_request, request_part, part_of, records_of}
use Rattle.network.specs.declared.State.{State}
use Rattle.quiet_calls.proofs.requesting.request.Goals as goal

pub returns-in-Err : goal.returns-in-Err
unfolding outcome named
returns-in-Err c =
    slot_refused _ _ _ _ _ _ c.slot_in.ensures.found c.in-Err.is c.refuse.ensures

pub returns-in-Ok : goal.returns-in-Ok
unfolding outcome named part_of records_of
returns-in-Ok c =
    let a = c.args in
    slot_settled _ _ (a_request a.mode) _ _ _ _ c.slot_in.ensures.found c.in-Ok.is
    (c.request_part.ensures ∙ ap (λ (t : State). request_part t a.mode) c.state_at.ensures) refl c.settle.ensures
