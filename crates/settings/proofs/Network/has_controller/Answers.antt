-- `settings::Network::has_controller` meets its contract.
use Rattle.std.proofs.Common.{rules}
use Rattle.lists.proofs.Any.{any-list}
use Rattle.settings.proofs.Network.has_controller.Goals as goal

pub returns : goal.returns
returns c = search (rules, any-list)
