-- `network::answers::with_answer` meets its contract.
use Rattle.lists.proofs.Basics.{sym, ◌∙◌}
use Rattle.network.proofs.Laws.{answer_found, answer_none}
use Rattle.network.proofs.answers.with_answer.Goals as goal

pub returns-in-Some : goal.returns-in-Some
returns-in-Some c = answer_found _ _ _ _ _ _ c.from.ensures (sym c.in-Some.is ∙ c.slot_of.ensures)

pub returns-in_default : goal.returns-in_default
returns-in_default c = answer_none _ _ _ _ (sym c.in_default.is ∙ c.slot_of.ensures)
