-- `trace::running::fill` meets its contract: so far the lines up to the point stand in the block.
use Rattle.lists.proofs.Basics.{ℕ, List, ◌+◌, ◌<◌, ◌≤◌, arith, ◌≡◌, ap, length}
use Rattle.lists.proofs.Stores.{stored_length}
use Rattle.trace.specs.declared.Point.{Point}
use Rattle.trace.specs.Trace.{next_at, point_after, over, full}
use Rattle.trace.proofs.Telling.{next_further}
use Rattle.trace.proofs.Blocks.{so_far_none, so_far_more, so_far_done}
use Rattle.trace.proofs.running.fill.Goals as goal

-- the next event stands further on
further : (s : List ℕ) (p q : Point) → q ≡ point_after s p → p.next < length s → p.next + 1 ≤ q.next
unfolding point_after
further s p q e h =
    let after : q.next ≡ next_at s p.next = ap (λ (r : Point). r.next) e in
    omega (arith, after, next_further s p.next h)

pub loop-point-init : goal.loop-point-init
loop-point-init c = (c.requires.number_bound, c.requires.length_in_bounds, so_far_none _ _ _)

pub returns-then-block-point-lt-LINE : goal.returns-then-block-point-lt-LINE
returns-then-block-point-lt-LINE c =
    let l = c.loop-point in
    let size = stored_length l.invariant.2.stored in
    so_far_done l.invariant.2 (omega (arith, l.invariant.1, size))
    (full l.point c.loop-point-test.true (omega (arith, c.if-block-point-lt-LINE.true, l.invariant.1, size)))

pub loop-point-smaller : goal.loop-point-smaller
loop-point-smaller c = omega (arith, further c.args.input.now c.loop-point.point c.event_line-point.result c.event_line-point.ensures.point c.loop-point-test.true, c.loop-point-test.true)

pub loop-point-preserved : goal.loop-point-preserved
unfolding point_after
loop-point-preserved c =
    let told = c.event_line-point.ensures in
    let l = c.loop-point in
    let old = stored_length l.invariant.2.stored in
    let e : c.event_line-point.result.number ≡ l.point.number + 1 = ap (λ (q : Point). q.number) told.point in (
      omega (arith, e, l.invariant.0, further c.args.input.now c.loop-point.point c.event_line-point.result c.event_line-point.ensures.point c.loop-point-test.true),
      omega (arith, told.room, c.if-block-point-lt-LINE.false, l.invariant.1, stored_length told.line),
      so_far_more l.invariant.2 c.loop-point-test.true (omega (arith, c.if-block-point-lt-LINE.false, l.invariant.1, old)) told,
    )

pub returns : goal.returns
returns c =
    let l = c.loop-point in
    let size = stored_length l.invariant.2.stored in
    so_far_done l.invariant.2 (omega (arith, l.invariant.1, size)) (over l.point c.loop-point-test.false)
