-- `writing::write` meets its contract: refused before the first store, or written from the front.
use Rattle.lists.proofs.Basics.{arith}
use Rattle.sheet.proofs.Writes.{refused_untouched, written_from_front}
use Rattle.writing.proofs.write.Goals as goal

pub returns-then-buffer-length : goal.returns-then-buffer-length
returns-then-buffer-length c = let a = c.args in refused_untouched a.settings a.buffer.now (omega arith)

pub returns : goal.returns
returns c =
    let length = c.sheet_length-length in
    let a = c.args in
    written_from_front a.settings a.buffer.now
    length.result c.put_networks.new.buffer length.ensures (omega arith) c.put_networks.ensures
