-- `hearing::hear` meets its contract where the slot that the message names is found.
use Rattle.lists.proofs.Basics.{rules}
use Rattle.hearing.proofs.Laws.{found_hears}
use Rattle.hearing.proofs.hear.Goals as goal

pub returns : goal.returns
returns c = found_hears c.args.manager.now c.args.message _ (search rules) _ _ c.hear_at.ensures _ c.answer_of.ensures
