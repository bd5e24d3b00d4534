-- `settings::Settings::holder` meets its contract.
use Rattle.std.proofs.Common.{sym, ◌∙◌}
use Rattle.lists.proofs.Any.{first-position}
use Rattle.settings.specs.Settings.{holder_of}
use Rattle.settings.proofs.Settings.holder.Goals as goal

pub returns-clause-found : goal.returns-clause-found
unfolding holder_of
returns-clause-found c = c.place_of.ensures.found ∙ sym (first-position _ _)
