-- `text::Line::text` meets its contract.
use Rattle.text.proofs.Appending.{stored_over}
use Rattle.lists.proofs.Stores.{stored_length}
use Rattle.lists.proofs.Basics.{refl}
use Rattle.text.proofs.Line.text.Goals as goal

pub returns : goal.returns
returns c =
    let s = stored_over c.args.self.now.bytes.now c.args.self.now.length c.args.text.now _ c.copy_from_slice.ensures.after c.requires in
    record { same = refl; size = stored_length s; stored = s }
