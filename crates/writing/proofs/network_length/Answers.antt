-- `writing::network_length` meets its contract: by the number of its fields.
use Rattle.lists.proofs.Basics.{ℕ, ◌*◌, arith, ◌≡◌, refl, [], length, length-take, rules}
use Rattle.std.specs.Prelude.{Option, Some, None, is_some}
use Rattle.std.specs.Int.{from_bool}
use Rattle.settings.specs.Settings.{controllers_of, listed}
use Rattle.sheet.specs.Encode.{encode_relation}
use Rattle.sheet.proofs.Writes.{length_network, listed_few, relation_few}
use Rattle.writing.proofs.network_length.Goals.{in-AtOrAbove, in_default}
use Rattle.writing.proofs.network_length.Goals as goal

listed_count : (t : Option ℕ) → from_bool (is_some t) ≡ length (listed t)
listed_count None = refl
listed_count (Some id) = refl

pub returns : goal.returns
unfolding encode_relation
returns c =
    let n = c.args.network in
    let four : length n.controllers ≡ 4 = search rules in
    let ids : length c.in_use-controllers.result.now ≡ length (controllers_of n) = rw c.in_use-controllers.ensures refl in
    let k = length-take n.count n.controllers in
    let t : c.from-transceivers.result ≡ length (listed n.transceiver) = rw (c.from-transceivers.ensures, c.is_some.ensures) (listed_count n.transceiver) in
    let r : length (encode_relation n.relation []) ≡ 4 * c.from-relations.result =
    elim c.match-matches.branch [
      | in-AtOrAbove w ↦ rw (w.in-AtOrAbove.is, c.from-relations.ensures, w.matches-is) refl
      | in_default w ↦ rw (w.in_default.is, c.from-relations.ensures, w.matches-is) refl
    ] in
    (omega (arith, length_network n []), omega (arith, listed_few n.transceiver, relation_few n.relation))
