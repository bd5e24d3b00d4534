-- `trace::running::run` meets its contract: what stands in the block waits to be written, and after it come the lines that are left. What came
-- before it in the output is written.
use Rattle.lists.proofs.Basics.{arith, refl, sym, ap, subst, ◌∙◌, length, take}
use Rattle.std.proofs.Common.{take_all}
use Rattle.std.specs.Io.KnownBytes.{Appends}
use Rattle.std.proofs.KnownBytes.{Appends-nil}
use Rattle.streams.specs.Streams.{AppendsFront}
use Rattle.trace.specs.declared.Point.{Point}
use Rattle.trace.proofs.Blocks.{long_output, first_waits, filled_next, all_written, waits_on, waits_again}
use Rattle.trace.proofs.Writes.{on_err, part_gained, front_gained}
use Rattle.trace.proofs.running.run.Goals as goal

pub put_next-requires-clause-next : goal.put_next-requires-clause-next
put_next-requires-clause-next g c = ap (take 9) (long_output c.args.input.now c.if-input-gt-MOST_BYTES.true)

pub returns-in_err-put_next-clause-front : goal.returns-in_err-put_next-clause-front
returns-in_err-put_next-clause-front g c =
    on_err _ _ (subst (AppendsFront _ _) (sym (long_output c.args.input.now c.if-input-gt-MOST_BYTES.true)) c.in_err-put_next.ensures.front)

pub returns-then-input-gt-MOST_BYTES-clause-count : goal.returns-then-input-gt-MOST_BYTES-clause-count
returns-then-input-gt-MOST_BYTES-clause-count g c =
    c.in_ok-put_next.ensures.counted ∙ sym (ap length (long_output c.args.input.now c.if-input-gt-MOST_BYTES.true))

pub returns-then-input-gt-MOST_BYTES-clause-all : goal.returns-then-input-gt-MOST_BYTES-clause-all
returns-then-input-gt-MOST_BYTES-clause-all g c =
    subst (Appends _ _) (sym (long_output c.args.input.now c.if-input-gt-MOST_BYTES.true)) c.in_ok-put_next.ensures.all

pub loop-point-init : goal.loop-point-init
loop-point-init g c =
    (first_waits c.args.input.now c.if-input-gt-MOST_BYTES.false refl c.first_line-point.ensures, Appends-nil _)

pub put_next-requires-in-loop-point-clause-next : goal.put_next-requires-in-loop-point-clause-next
put_next-requires-in-loop-point-clause-next g c = filled_next c.loop-point.invariant.0 c.fill-point.ensures

pub returns-in_err-put_next-2-clause-front : goal.returns-in_err-put_next-2-clause-front
returns-in_err-put_next-2-clause-front g c =
    on_err _ _
    (front_gained _ _ _ _ _ _ c.loop-point.invariant.1 (filled_next c.loop-point.invariant.0 c.fill-point.ensures)
    c.in_err-put_next-2.ensures.front)

pub returns-then-input-point-clause-count : goal.returns-then-input-point-clause-count
returns-then-input-point-clause-count g c =
    all_written c.loop-point.invariant.0 c.fill-point.ensures c.in_ok-put_next-2.ensures.counted c.if-input-point.true

pub returns-then-input-point-clause-all : goal.returns-then-input-point-clause-all
returns-then-input-point-clause-all g c =
    let counted = c.in_ok-put_next-2.ensures.counted in
    let whole = all_written c.loop-point.invariant.0 c.fill-point.ensures counted c.if-input-point.true in
    let gained =
    part_gained _ _ _ _ _ _ _ c.loop-point.invariant.1 (filled_next c.loop-point.invariant.0 c.fill-point.ensures)
    c.in_ok-put_next-2.ensures.all counted in
    subst (Appends _ _) (take_all _ _ (omega (arith, whole))) gained

pub loop-point-smaller : goal.loop-point-smaller
loop-point-smaller g c =
    let on = waits_on c.loop-point.invariant.0 c.fill-point.ensures c.if-input-point.false in
    omega (arith, on, c.if-input-point.false, ap (λ (p : Point). p.next) c.emptied-point.ensures)

pub loop-point-preserved : goal.loop-point-preserved
loop-point-preserved g c =
    let counted = c.in_ok-put_next-2.ensures.counted in (
      waits_again c.loop-point.invariant.0 c.fill-point.ensures counted c.emptied-point.ensures c.if-input-point.false,
      part_gained _ _ _ _ _ _ _ c.loop-point.invariant.1 (filled_next c.loop-point.invariant.0 c.fill-point.ensures)
          c.in_ok-put_next-2.ensures.all counted,
    )
