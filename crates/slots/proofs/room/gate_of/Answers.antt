-- `slots::room::gate_of` meets its contract.
use Rattle.lists.proofs.Basics.{lt-ltb, le-ltb, rules}
use Rattle.slots.specs.Calls.{gate_of}
use Rattle.slots.proofs.room.gate_of.Goals as goal

pub returns-in-Empty : goal.returns-in-Empty
unfolding gate_of
returns-in-Empty c = search rules

pub returns-in-Started : goal.returns-in-Started
unfolding gate_of
returns-in-Started c = search (rules, lt-ltb)

pub returns-in-Started-2 : goal.returns-in-Started-2
unfolding gate_of
returns-in-Started-2 c = search (rules, le-ltb)
