-- `network::State::start` meets its contract.
use Rattle.network.specs.State.{started}
use Rattle.network.proofs.State.start.Goals as goal

pub returns : goal.returns
unfolding started
returns c = simp c.first_down.ensures
