-- `setting_up::starting::start` meets its contract.
use Rattle.lists.proofs.Basics.{rules}
use Rattle.slots.specs.Calls.{outcome}
use Rattle.setting_up.proofs.starting.start.Goals as goal

pub returns-in-Empty : goal.returns-in-Empty
unfolding outcome
returns-in-Empty c = search rules

pub returns-in-Loaded : goal.returns-in-Loaded
unfolding outcome
returns-in-Loaded c = search rules

pub returns-in-Started : goal.returns-in-Started
unfolding outcome
returns-in-Started c = search rules
