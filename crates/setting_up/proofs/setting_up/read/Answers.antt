-- `setting_up::setting_up::read` meets its contract.
use Rattle.lists.proofs.Basics.{rules}
use Rattle.slots.specs.Calls.{read_into, outcome}
use Rattle.setting_up.proofs.setting_up.read.Goals as goal

pub returns-in-Empty : goal.returns-in-Empty
unfolding outcome read_into
returns-in-Empty c = search rules

pub returns-in-Started : goal.returns-in-Started
unfolding outcome
returns-in-Started c = search rules
