-- `network_ticks::moving::after_move` meets its contract.
use Rattle.lists.proofs.Basics.{sym, ◌∙◌}
use Rattle.network.specs.Moving.{after_move}
use Rattle.network_ticks.proofs.moving.after_move.Goals as goal

pub returns-then-keeps_answers : goal.returns-then-keeps_answers
unfolding after_move
returns-then-keeps_answers c =
    let kept = sym c.keeps_answers.ensures ∙ c.if-keeps_answers.true in
    simp (c.step_after.ensures, c.told_after.ensures, c.count_after.ensures, c.asks_after.ensures, kept)

pub returns : goal.returns
unfolding after_move
returns c =
    let kept = sym c.keeps_answers.ensures ∙ c.if-keeps_answers.false in
    simp (
      c.step_after.ensures,
      c.told_after.ensures,
      c.count_after.ensures,
      c.asks_after.ensures,
      kept,
    )
