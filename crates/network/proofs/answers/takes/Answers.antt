-- `network::answers::takes` meets its contract.
use Rattle.network.specs.Answers.{takes_report}
use Rattle.network.proofs.answers.takes.Goals as goal

pub returns-then-state : goal.returns-then-state
unfolding takes_report
returns-then-state c = simp (c.if-state.true, c.asks.ensures, c.is_awaited.ensures)

pub returns-else-state : goal.returns-else-state
unfolding takes_report
returns-else-state c = simp c.if-state.false
