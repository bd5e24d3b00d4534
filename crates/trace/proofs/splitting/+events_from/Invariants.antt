-- The measure is the number of bytes from the place on.
use Rattle.lists.proofs.Basics.{◌-◌, length}
use Rattle.trace.proofs.splitting.+events_from.Given as goal

abbrev pub decreases-events_from : goal.decreases-events_from
decreases-events_from l = length l.bytes.now - l.at
