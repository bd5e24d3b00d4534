-- `listen_calls::listen_started` meets its contract.
use Rattle.listen_calls.proofs.Online.{value_refused, value_taken}
use Rattle.listen_calls.proofs.listen_started.Goals as goal

pub returns-then-value-gt-LISTENS : goal.returns-then-value-gt-LISTENS
returns-then-value-gt-LISTENS c = value_refused _ _ _ _ c.if-value-gt-LISTENS.true c.refuse.ensures

pub returns : goal.returns
returns c = value_taken _ _ _ _ _ c.if-value-gt-LISTENS.false c.set_listening.ensures
