-- `quiet_calls::requesting::poll` meets its contract.
use Rattle.lists.proofs.Basics.{rules}
use Rattle.slots.specs.Calls.{outcome}
use Rattle.quiet_calls.proofs.requesting.poll.Goals as goal

pub returns-in-Err : goal.returns-in-Err
unfolding outcome
returns-in-Err c = search rules

pub returns-in-Ok : goal.returns-in-Ok
unfolding outcome
returns-in-Ok c = search rules
