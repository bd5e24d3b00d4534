-- `setting_up::setting_up::write` meets its contract.
use Rattle.lists.proofs.Basics.{rules}
use Rattle.slots.specs.Calls.{outcome, written_into}
use Rattle.setting_up.proofs.setting_up.write.Goals as goal

pub returns-in-Empty : goal.returns-in-Empty
unfolding outcome written_into
returns-in-Empty c = record { result = search rules; buffer = search rules }

pub returns-in-Loaded : goal.returns-in-Loaded
unfolding outcome written_into
returns-in-Loaded c = record { result = search rules; buffer = search rules }
