-- `writing::Writer::put_network` meets its contract: its fields one after the other are the network.
use Rattle.lists.proofs.Basics.{arith, [], Bool, true, false, ◌≡◌, refl, ◌∙◌}
use Rattle.std.specs.Int.{from_bool}
use Rattle.sheet.specs.Encode.{bit}
use Rattle.writing.proofs.Puts.{puts_then}
use Rattle.sheet.proofs.Writes.{network_fields, length_parts}
use Rattle.writing.proofs.Writer.put_network.Goals as goal

bit_from : (b : Bool) → from_bool b ≡ bit b
bit_from false = refl
bit_from true = refl

pub put_byte_field-requires : goal.put_byte_field-requires
put_byte_field-requires c = omega (arith, length_parts c.args.network)

pub put_controllers-requires : goal.put_controllers-requires
put_controllers-requires c = omega (arith, length_parts c.args.network)

pub put_transceiver-requires : goal.put_transceiver-requires
put_transceiver-requires c =
    omega (arith, length_parts c.args.network)

pub put_times-requires : goal.put_times-requires
put_times-requires c =
    omega (arith, length_parts c.args.network)

pub put_byte_field-requires-2 : goal.put_byte_field-requires-2
put_byte_field-requires-2 c =
    omega (arith, length_parts c.args.network)

pub put_byte_field-requires-3 : goal.put_byte_field-requires-3
put_byte_field-requires-3 c =
    omega (arith, length_parts c.args.network)

pub put_relation-requires : goal.put_relation-requires
put_relation-requires c =
    omega (arith, length_parts c.args.network)

pub returns : goal.returns
returns c =
    let e = network_fields c.args.network c.from.result [] (c.from.ensures ∙ bit_from c.args.network.partial) in
    rw (← e) (puts_then
    c.put_byte_field.ensures (puts_then c.put_controllers.ensures (puts_then c.put_transceiver.ensures
    (puts_then c.put_times.ensures (puts_then c.put_byte_field-2.ensures
    (puts_then c.put_byte_field-3.ensures c.put_relation.ensures))))))
