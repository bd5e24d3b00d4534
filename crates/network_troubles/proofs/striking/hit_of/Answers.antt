-- `network_troubles::striking::hit_of` meets its contract.
use Rattle.lists.proofs.Basics.{sym, ap, ◌∙◌}
use Rattle.steps.specs.Steps.{asks_to_start}
use Rattle.network.specs.BusOff.{hit_of}
use Rattle.network_troubles.proofs.Laws.{then_some-cond}
use Rattle.network_troubles.proofs.striking.hit_of.Goals as goal

pub returns-then-is_up : goal.returns-then-is_up
unfolding hit_of
returns-then-is_up c = simp (sym c.is_up.ensures ∙ c.if-is_up.true)

pub returns : goal.returns
unfolding hit_of
returns c =
    let start = c.is_to_start.ensures ∙ ap asks_to_start c.asks.ensures in
    c.then_some.ensures ∙ then_some-cond _ _ ∙ simp (sym c.is_up.ensures ∙ c.if-is_up.false, start)
