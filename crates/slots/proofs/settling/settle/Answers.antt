-- `slots::settling::settle` meets its contract.
use Rattle.lists.proofs.Basics.{rules}
use Rattle.slots.specs.Calls.{settled}
use Rattle.slots.proofs.settling.settle.Goals as goal

pub returns-in-Ok : goal.returns-in-Ok
unfolding settled
returns-in-Ok c = search rules

pub returns-in-Err : goal.returns-in-Err
unfolding settled
returns-in-Err c = search rules
