-- `writing::Writer::put_transceiver` meets its contract: the field, or nothing.
use Rattle.lists.proofs.Basics.{arith, ◌≡◌, refl, [], length}
use Rattle.sheet.specs.Encode.{encode_transceiver}
use Rattle.writing.proofs.Puts.{puts_none}
use Rattle.writing.proofs.Writer.put_transceiver.Goals as goal

pub put_byte_field-requires : goal.put_byte_field-requires
unfolding encode_transceiver
put_byte_field-requires c =
    let e : length (encode_transceiver c.args.transceiver []) ≡ 4 = rw c.in-Some.is refl in
    omega (arith, c.requires)

pub returns-in-None : goal.returns-in-None
unfolding encode_transceiver
returns-in-None c = rw c.in-None.is (puts_none _)

pub returns-in-Some : goal.returns-in-Some
unfolding encode_transceiver
returns-in-Some c = rw c.in-Some.is c.put_byte_field.ensures
