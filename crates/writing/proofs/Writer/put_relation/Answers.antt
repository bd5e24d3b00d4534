-- `writing::Writer::put_relation` meets its contract: the field, or nothing.
use Rattle.lists.proofs.Basics.{arith, ◌≡◌, refl, [], length}
use Rattle.sheet.specs.Encode.{encode_relation}
use Rattle.writing.proofs.Puts.{puts_none}
use Rattle.writing.proofs.Writer.put_relation.Goals as goal

pub put_byte_field-requires : goal.put_byte_field-requires
unfolding encode_relation
put_byte_field-requires c =
    let e : length (encode_relation c.args.relation []) ≡ 4 = rw c.in-AtOrAbove.is refl in
    omega (arith, c.requires)

pub returns-in-Above : goal.returns-in-Above
unfolding encode_relation
returns-in-Above c = rw c.in-Above.is (puts_none _)

pub returns-in-AtOrAbove : goal.returns-in-AtOrAbove
unfolding encode_relation
returns-in-AtOrAbove c = rw c.in-AtOrAbove.is c.put_byte_field.ensures
