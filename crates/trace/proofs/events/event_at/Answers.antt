-- `trace::events::event_at` meets its contract: each arm is a case of `read_at`.
use Rattle.lists.proofs.Basics.{arith, rules, refl, sym, ◌∙◌, ◌≡◌, ◌+◌, ◌≤◌, length}
use Rattle.fields.proofs.Laws.{row_further, read_at}
use Rattle.trace.specs.Events.{item_at}
use Rattle.trace.proofs.EventLaws.{bad_at, whole_at}
use Rattle.trace.proofs.events.event_at.Goals as goal

-- a whole field ends after its value and within the bytes
lies : (c : goal.In-Whole) → (c.in-Whole.next ≡ c.args.at + 3 + c.in-Whole.length) × (c.in-Whole.next ≤ length c.args.bytes.now)
lies c =
    let r = row_further c.args.bytes.now c.args.at _ _ _ (sym c.field_at.ensures ∙ c.in-Whole.is) in
    (r.1, r.2)

pub overflow_add-at : goal.overflow_add-at
overflow_add-at c = let l = lies c in omega arith

pub slice_bounds-whole_item-count : goal.slice_bounds-whole_item-count
slice_bounds-whole_item-count c = let l = lies c in omega arith

pub slice_bounds-whole_item-start : goal.slice_bounds-whole_item-start
slice_bounds-whole_item-start c = let l = lies c in omega arith

pub slice_bounds-whole_item-end : goal.slice_bounds-whole_item-end
slice_bounds-whole_item-end c = let l = lies c in search rules

pub returns-in-End : goal.returns-in-End
unfolding item_at
returns-in-End c = read_at _ (sym c.field_at.ensures ∙ c.in-End.is) refl refl

pub returns-in-Stub : goal.returns-in-Stub
returns-in-Stub c = bad_at _ _ c.field_at.ensures c.in-Stub.is

pub returns-in-Whole : goal.returns-in-Whole
returns-in-Whole c = whole_at _ _ (sym c.field_at.ensures ∙ c.in-Whole.is) c.whole_item.ensures
