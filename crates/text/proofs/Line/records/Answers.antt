-- `text::Line::records` meets its contract: the records of the first chunks are appended.
use Rattle.lists.proofs.Basics.{arith, take_all}
use Rattle.lists.proofs.Stores.{run_more}
use Rattle.records.specs.declared.Record.{Record}
use Rattle.records.specs.Records.{handed, records_at}
use Rattle.text.specs.Text.{records_text}
use Rattle.text.proofs.Laws.{text_append, records_length, chunks_length, chunk_at_lem}
use Rattle.text.proofs.Appending.{appended_none, appended_then}
use Rattle.text.proofs.Line.records.Goals as goal

pub loop-kind-init : goal.loop-kind-init
unfolding records_text
loop-kind-init c = record { appended = appended_none _; room = omega arith }

pub loop-kind-preserved : goal.loop-kind-preserved
loop-kind-preserved c =
    let l = c.loop-kind in
    let a = c.args in
    let none : Record = handed 0 0 0 in
    let size = chunks_length a.buffer.now _ a.count c.requires.count_in_bounds c.as_chunks.ensures.front_len in
    let same = chunk_at_lem a.buffer.now _ a.count c.requires.count_in_bounds c.as_chunks.ensures.front l.kind-index none (omega arith) in
    let next = run_more records_text text_append (records_at a.count a.buffer.now) l.kind-index none (omega (arith, records_length a.count a.buffer.now)) in
    record { appended = rw (next, same) (appended_then l.invariant.appended c.record.ensures.appended); room = omega (arith, c.record.ensures.room) }

pub returns-clause-appended : goal.returns-clause-appended
returns-clause-appended c =
    let l = c.loop-kind in let a = c.args in
    let size = chunks_length a.buffer.now _ a.count c.requires.count_in_bounds c.as_chunks.ensures.front_len in
    rw (take_all l.kind-index (records_at a.count a.buffer.now) (omega (arith, records_length a.count a.buffer.now))) at l.invariant.appended
