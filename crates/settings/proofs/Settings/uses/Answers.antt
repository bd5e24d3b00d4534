-- `settings::Settings::uses` meets its contract.
use Rattle.std.proofs.Common.{rules}
use Rattle.settings.proofs.Laws.{used-held}
use Rattle.settings.proofs.Settings.uses.Goals as goal

pub returns : goal.returns
returns c = search (rules, used-held)
