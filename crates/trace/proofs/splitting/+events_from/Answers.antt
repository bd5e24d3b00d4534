-- Where the events begin, by the field that stands at the place.
use Rattle.lists.proofs.Basics.{arith, lt-ltb, le-ltb, refl, sym, ◌∙◌}
use Rattle.fields.proofs.Laws.{row_further}
use Rattle.trace.specs.Splitting.{events_in, events_from}
use Rattle.trace.proofs.Splits.{events_by, events_cut}
use Rattle.trace.proofs.splitting.+events_from.Goals as goal

pub events_from-requires : goal.events_from-requires
events_from-requires t c =
    let r = row_further c.args.bytes.now c.args.at _ _ _ (sym c.field_at.ensures ∙ c.in-Whole.is) in
    (omega (arith, r.1, r.2, c.decreases), tt)

pub returns-in-End : goal.returns-in-End
unfolding events_in
returns-in-End t c = sym (events_by c.args.bytes.now c.args.at _ (sym c.field_at.ensures ∙ c.in-End.is))

pub returns-in-Stub : goal.returns-in-Stub
returns-in-Stub t c = sym (events_cut _ _ c.field_at.ensures c.in-Stub.is ∙ rw (lt-ltb _ _ c.if-tag-lt-REQUEST-2.true) refl)

pub returns-in-Whole : goal.returns-in-Whole
unfolding events_in events_from
returns-in-Whole t c =
    let e = events_by c.args.bytes.now c.args.at _ (sym c.field_at.ensures ∙ c.in-Whole.is) in
    c.events_from.ensures ∙ sym (e ∙ rw (lt-ltb _ _ c.if-tag-lt-REQUEST.true) refl)

pub returns-in_default : goal.returns-in_default
unfolding events_in
returns-in_default t c =
    let e = events_by c.args.bytes.now c.args.at _ (sym c.field_at.ensures ∙ c.in-Whole.is) in
    sym (e ∙ rw (le-ltb _ _ c.if-tag-lt-REQUEST.false) refl)

pub returns-in_default-2 : goal.returns-in_default-2
returns-in_default-2 t c = sym (events_cut _ _ c.field_at.ensures c.in-Stub.is ∙ rw (le-ltb _ _ c.if-tag-lt-REQUEST-2.false) refl)
