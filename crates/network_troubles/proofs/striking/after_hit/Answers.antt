-- `network_troubles::striking::after_hit` meets its contract.
use Rattle.network.specs.BusOff.{after_hit}
use Rattle.network_troubles.proofs.striking.after_hit.Goals as goal

pub returns-in-Recover : goal.returns-in-Recover
unfolding after_hit
returns-in-Recover c = simp (c.in-Recover.is, c.count_in-count.ensures, c.anew.ensures)

pub returns-in-Restart : goal.returns-in-Restart
unfolding after_hit
returns-in-Restart c = simp (c.in-Restart.is, c.anew-in-Restart.ensures)

pub returns-in-Reset : goal.returns-in-Reset
unfolding after_hit
returns-in-Reset c = simp (c.in-Reset.is, c.anew-in-Reset.ensures)
