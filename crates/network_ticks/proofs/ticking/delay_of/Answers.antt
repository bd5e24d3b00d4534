-- `network_ticks::ticking::delay_of` meets its contract.
use Rattle.lists.proofs.Basics.{sym, ◌∙◌}
use Rattle.network.specs.Rules.{delay_of}
use Rattle.network_ticks.proofs.ticking.delay_of.Goals as goal

pub returns-then-is_long : goal.returns-then-is_long
unfolding delay_of
returns-then-is_long c = simp (sym c.is_long.ensures ∙ c.if-is_long.true)

pub returns-else-is_long : goal.returns-else-is_long
unfolding delay_of
returns-else-is_long c = simp (sym c.is_long.ensures ∙ c.if-is_long.false)
