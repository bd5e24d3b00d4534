-- `handing::put_down_notices` meets its contract: one record, and a second where full was told.
use Rattle.lists.proofs.Basics.{rules, ◌≡◌}
use Rattle.records.specs.declared.Mode.{Mode}
use Rattle.records.proofs.Trays.{handed_then}
use Rattle.handing.specs.Handing.{down_notices}
use Rattle.handing.proofs.put_down_notices.Goals as goal

pub returns-then-eq : goal.returns-then-eq
unfolding down_notices
returns-then-eq c =
    let full : c.args.told ≡ Mode.Full = search rules in
    rw full (rw (c.note.ensures, c.tell.ensures) at (handed_then c.put.ensures c.put-then-eq.ensures))
