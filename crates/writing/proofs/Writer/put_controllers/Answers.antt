-- `writing::Writer::put_controllers` meets its contract: the fields of the first controllers are stored.
use Rattle.lists.proofs.Basics.{ℕ, ◌+◌, ◌≤◌, arith, List, [], length, take, take_all}
use Rattle.lists.proofs.Stores.{room_more}
use Rattle.sheet.specs.Encode.{encode_controllers}
use Rattle.sheet.proofs.Writes.{controllers_append}
use Rattle.writing.proofs.Puts.{puts_none, puts_more}
use Rattle.writing.proofs.Writer.put_controllers.Goals as goal

pub loop-id-init : goal.loop-id-init
unfolding encode_controllers
loop-id-init c = puts_none _

pub put_byte_field-requires : goal.put_byte_field-requires
unfolding encode_controllers
put_byte_field-requires c =
    let l = c.loop-id in
    let ids = c.in_use-id-items.result.now in
    let room : c.args.self.now.place + length (encode_controllers (take (length ids) ids) []) ≤ length c.args.self.now.buffer.now =
    rw (take_all (length ids) ids (omega arith), c.in_use-id-items.ensures) c.requires in
    room_more (λ (ids : List ℕ). encode_controllers ids []) controllers_append
    ids l.id-index 0 c.loop-id-test.true l.invariant.stored (length ids) c.loop-id-test.true room

pub loop-id-preserved : goal.loop-id-preserved
unfolding encode_controllers
loop-id-preserved c =
    let l = c.loop-id in
    puts_more (λ (ids : List ℕ). encode_controllers ids []) controllers_append
    c.in_use-id-items.result.now l.id-index 0 c.loop-id-test.true l.invariant c.put_byte_field.ensures
