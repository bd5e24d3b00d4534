-- `network_ticks::ticking::choose` meets its contract.
use Rattle.lists.proofs.Basics.{sym, ap, ◌∙◌}
use Rattle.steps.specs.Steps.{asks_to_sleep}
use Rattle.network_ticks.proofs.Laws.{move_refused, move_awake}
use Rattle.network_ticks.proofs.ticking.choose.Goals as goal
use Rattle.network_ticks.proofs.ticking.choose.Goals.{then-is_to_sleep, else-is_to_sleep}

pub returns : goal.returns
returns c =
    let a = c.args in
    elim c.if-is_to_sleep.branch [
      | then-is_to_sleep w ↦
          move_refused a.network a.state _ _ _ _ _ _ _
          c.is_done-done.ensures c.timer.ensures c.delay_of.ensures
          c.is_reached-reached.ensures c.outfit_of-outfit.ensures (w.refused-is ∙ w.any_refused-refused.ensures) c.decide.ensures
      | else-is_to_sleep w ↦
          move_awake a.network a.state _ c.is_to_sleep.result _ _ _ _ _
          c.is_done-done.ensures c.timer.ensures c.delay_of.ensures
          c.is_reached-reached.ensures c.outfit_of-outfit.ensures
          (sym (c.is_to_sleep.ensures ∙ ap asks_to_sleep c.asks.ensures) ∙ w.if-is_to_sleep.false) (rw (w.refused-is ∙ w.if-is_to_sleep.false) at c.decide.ensures)
    ]
