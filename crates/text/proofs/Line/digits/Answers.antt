-- `text::Line::digits` meets its contract: what `io::decimal` writes is the decimal text.
use Rattle.lists.proofs.Basics.{◌∙◌}
use Rattle.text.proofs.Laws.{decimal_digits}
use Rattle.text.proofs.Line.digits.Goals as goal

pub text-requires : goal.text-requires
text-requires c =
    let d = c.decimal-count in
    rw (d.ensures.digits ∙ decimal_digits c.args.number d.result d.ensures.len) c.requires

pub returns : goal.returns
returns c =
    let d = c.decimal-count in
    rw (d.ensures.digits ∙ decimal_digits c.args.number d.result d.ensures.len) at c.text.ensures
