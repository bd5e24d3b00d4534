-- `trace::lines::event_line` meets its contract.
use Rattle.lists.proofs.Basics.{arith, rules, refl}
use Rattle.lists.proofs.Stores.{stored_none}
use Rattle.trace.specs.declared.Item.{Item}
use Rattle.trace.proofs.Telling.{tells_item, tells_at, told_in}
use Rattle.trace.proofs.lines.event_line.Goals as goal

pub returns-in-End : goal.returns-in-End
returns-in-End c =
    let a = c.args in
    tells_at a.input.now a.point Item.End c.event_at-found.ensures c.in-End.is
    (tells_item a.point Item.End _ c.moved.ensures refl (stored_none _ _) (omega arith))

pub returns-in-Bad : goal.returns-in-Bad
returns-in-Bad c =
    let a = c.args in
    let stop = c.put_stop.ensures in
    let told = tells_at a.input.now a.point Item.Bad c.event_at-found.ensures c.in-Bad.is
    (tells_item a.point Item.Bad _ c.moved-in-Bad.ensures refl stop.line.stored stop.room) in
    search (rules, told_in)

pub returns-in-Known : goal.returns-in-Known
returns-in-Known c =
    let a = c.args in
    tells_at a.input.now a.point _ c.event_at-found.ensures c.in-Known.is c.tell.ensures
