-- `network_troubles::striking::anew` meets its contract.
use Rattle.std.proofs.Common.{rules}
use Rattle.network.specs.BusOff.{made_anew}
use Rattle.network_troubles.proofs.striking.anew.Goals as goal

pub returns : goal.returns
unfolding made_anew
returns c = search rules
