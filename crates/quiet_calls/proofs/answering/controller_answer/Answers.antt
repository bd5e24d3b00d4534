-- `quiet_calls::answering::controller_answer` meets its contract.
use Rattle.lists.proofs.Basics.{refl, ◌∙◌}
use Rattle.quiet_calls.proofs.Laws.{slot_refused, slot_settled}
use Rattle.slots.specs.Calls.{outcome, named}
use Rattle.network.specs.Parts.{an_answer, answer_part, part_of, records_of}
use Rattle.quiet_calls.proofs.answering.controller_answer.Goals as goal

pub returns-in-Err : goal.returns-in-Err
unfolding outcome named
returns-in-Err c =
    slot_refused _ _ _ _ _ _ c.slot_in.ensures.found c.in-Err.is c.refuse.ensures

pub returns-in-Ok : goal.returns-in-Ok
unfolding outcome named part_of records_of
returns-in-Ok c =
    let a = c.args in
    slot_settled _ _ (an_answer a.id a.mode a.ok) _ _ _ _ c.slot_in.ensures.found c.in-Ok.is
    (c.answer_part.ensures ∙ (λ i. answer_part (c.network_at.ensures i) (c.state_at.ensures i) a.id a.mode a.ok))
    refl c.settle.ensures
