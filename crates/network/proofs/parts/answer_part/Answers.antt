-- `network::parts::answer_part` meets its contract.
use Rattle.lists.proofs.Basics.{lt-ltb, le-ltb}
use Rattle.network.specs.Parts.{answer_part}
use Rattle.network.proofs.parts.answer_part.Goals as goal

pub returns-then-ok-gt-OKAY : goal.returns-then-ok-gt-OKAY
unfolding answer_part
returns-then-ok-gt-OKAY c = simp (lt-ltb _ _ c.if-ok-gt-OKAY.true, c.decline.ensures)

pub returns : goal.returns
unfolding answer_part
returns c = simp (le-ltb _ _ c.if-ok-gt-OKAY.false, c.with_answer-after.ensures, c.take_report.ensures)
