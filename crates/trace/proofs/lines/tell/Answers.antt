-- `trace::lines::tell` meets its contract.
use Rattle.lists.proofs.Basics.{arith, rules, ap}
use Rattle.slots.specs.declared.Outcome.{Outcome}
use Rattle.trace.specs.declared.Item.{Item}
use Rattle.trace.proofs.Telling.{event_fits, event_appended, tells_item, told_in}
use Rattle.trace.proofs.lines.tell.Goals as goal

pub put_said-requires-clause-count_bound : goal.put_said-requires-clause-count_bound
put_said-requires-clause-count_bound c = event_fits c.args.point.manager c.args.event c.run_event-outcome.result c.run_event-outcome.ensures

pub returns : goal.returns
returns c =
    let a = c.args in let event = c.run_event-outcome.ensures in
    let line = event_appended a.point.number a.point.manager a.event _ _ _ _ event c.number.ensures c.is_poll.ensures
    c.put_answer.ensures.line c.put_said.ensures.line c.byte.ensures in
    let told = tells_item a.point (Item.Known a.event) a.next c.moved.ensures (ap (λ (o : Outcome). o.manager) event.result) line.stored
    (omega (arith, c.put_answer.ensures.room, c.put_said.ensures.room, c.byte.ensures)) in
    search (rules, told_in)
