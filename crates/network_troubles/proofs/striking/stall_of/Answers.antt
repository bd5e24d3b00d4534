-- `network_troubles::striking::stall_of` meets its contract.
use Rattle.lists.proofs.Basics.{◌∙◌}
use Rattle.network.specs.declared.Hit.{Hit}
use Rattle.network.specs.BusOff.{stall_of}
use Rattle.network_troubles.proofs.Laws.{then_some-cond}
use Rattle.network_troubles.proofs.striking.stall_of.Goals as goal

pub returns : goal.returns
unfolding stall_of
returns c = c.then_some.ensures ∙ then_some-cond c.is_full.result Hit.Reset ∙ simp c.is_full.ensures
