-- `fields::field_at` meets its contract: each answer is what `front` gives of the bytes at their places.
use Rattle.lists.proofs.Basics.{arith, ◌≤◌, sym, refl, length}
use lib.ListN.{drop_of_length-le}
use Rattle.fields.specs.Fields.{front}
use Rattle.fields.proofs.Laws.{front_short, front_overrun, front_fits}
use Rattle.fields.proofs.field_at.Goals as goal

pub returns-then-bytes-at : goal.returns-then-bytes-at
unfolding front
returns-then-bytes-at c =
    let a = c.args in
    let h : length a.bytes.now ≤ a.at = omega arith in
    rw (drop_of_length-le a.bytes.now h) refl

pub returns-then-left-lt-HEAD : goal.returns-then-left-lt-HEAD
returns-then-left-lt-HEAD c =
    let a = c.args in
    sym (front_short a.bytes.now a.at (omega arith) (omega arith))

pub returns-then-value-length : goal.returns-then-value-length
returns-then-value-length c =
    let a = c.args in
    sym (front_overrun a.bytes.now a.at c.number-length.result c.number-length.ensures (omega arith) (omega arith))

pub returns : goal.returns
returns c =
    let a = c.args in
    sym (front_fits a.bytes.now a.at c.number-length.result c.number-length.ensures (omega arith))
