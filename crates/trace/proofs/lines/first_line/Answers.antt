-- `trace::lines::first_line` meets its contract.
use Rattle.lists.proofs.Basics.{ℕ, rules, sym, ap, ◌∙◌, length-take-le, true, false, eqb}
use Rattle.slots.specs.Manager.{answer_number}
use Rattle.trace.proofs.Splits.{events_within}
use Rattle.trace.proofs.Telling.{refusal_numbered, first_told, told_in}
use Rattle.trace.proofs.lines.first_line.Goals as goal
use Rattle.trace.proofs.lines.first_line.Goals.{in-Ok, in-Err}

pub slice_bounds-read-end : goal.slice_bounds-read-end
slice_bounds-read-end c =
    let input = c.args.input.now in
    sym (length-take-le _ input (rw c.events_from-at.ensures (events_within input)))

pub returns : goal.returns
returns c =
    let first = first_told c.args.input.now c.events_from-at.ensures c.new.ensures c.read-reading.ensures c.number.ensures c.start.ensures in
    let line = c.put_config.ensures in
    elim c.match-reading.branch [
      | in-Ok w ↦ (let told = first true (ap (λ (n : ℕ). eqb n 0) (c.number.ensures ∙ ap answer_number w.in-Ok.is)) _ _ _ _ _
          (ap (λ (p : ℕ × ℕ). p.0) w.shown-is) (ap (λ (p : ℕ × ℕ). p.1) w.shown-is) line.line.stored line.room in search (rules, told_in))
      | in-Err w ↦ (let told = first false (ap (λ (n : ℕ). eqb n 0) (c.number.ensures ∙ ap answer_number w.in-Err.is) ∙ refusal_numbered _) _ _ _ _ _
          (ap (λ (p : ℕ × ℕ). p.0) w.shown-is) (ap (λ (p : ℕ × ℕ). p.1) w.shown-is) line.line.stored line.room in search (rules, told_in))
    ]
