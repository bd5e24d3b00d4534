-- `settings::Settings::blank` meets its contract.
use Rattle.lists.proofs.Basics.{ap, replicate}
use Rattle.settings.specs.declared.Network.{Network}
use Rattle.settings.specs.declared.Settings.{Settings}
use Rattle.settings.specs.Settings.{blank_settings}
use Rattle.settings.proofs.Settings.blank.Goals as goal

pub returns : goal.returns
unfolding blank_settings
returns c =
    ap (λ (n : Network). let s : Settings = record { networks = replicate 8 n; count = 0 } in s) c.blank.ensures
