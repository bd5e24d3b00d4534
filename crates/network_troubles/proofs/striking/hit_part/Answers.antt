-- `network_troubles::striking::hit_part` meets its contract.
use Rattle.network.specs.Parts.{hit_part}
use Rattle.network_troubles.proofs.striking.hit_part.Goals as goal

pub returns-in-Some : goal.returns-in-Some
unfolding hit_part
returns-in-Some c = simp (c.in-Some.is, c.after_hit.ensures, c.take.ensures)

pub returns-in-None : goal.returns-in-None
unfolding hit_part
returns-in-None c = simp (c.in-None.is, c.decline.ensures)
