-- Laws of blocks: a block is filled line by line, and the blocks of an input are its output, one after the other.
use Rattle.lists.proofs.Basics.{ℕ, ◌+◌, ◌*◌, ◌^◌, ◌≤◌, ◌<◌, arith, ◌≡◌, refl, sym, ap, subst, ◌∙◌, List, [], ◌∷◌, ◌++◌, append_assoc, append-nil}
use Rattle.lists.proofs.Basics.{Bool, true, false, cond, eqb, length, take, drop, length-append, length-drop, sets, sets-eq, take-append_seam}
use Rattle.lists.proofs.Basics.{drop-append_seam, drop-drop, length-take-le}
use mathlib.Core.List.{flatten}
use lib.Seq.{take_at}
use Rattle.lists.specs.Stores.{Stored}
use Rattle.lists.proofs.Stores.{stored_none, stored_then, stored_length}
use Rattle.slots.specs.Manager.{answer_number}
use Rattle.trace.specs.declared.Point.{Point}
use Rattle.trace.specs.Splitting.{events_from}
use Rattle.trace.specs.Lines.{too_long}
use Rattle.trace.specs.Trace.{TellsAt, line_at, point_after, reading_of, first_next, first_point, TellsFirst, output_of, left}
use Rattle.trace.specs.Trace.{Fills, over, full, more, Filled, emptied, Next}
use Rattle.trace.proofs.Splits.{events_within}
use Rattle.trace.proofs.Telling.{next_further}
use Rattle.trace.proofs.Theorems.{over_left, fills_left, fills_one, trace_too_long, trace_lines}

-- ---- lines one after the other
flatten_append : (l m : List (List ℕ)) → flatten (l ++ m) ≡ flatten l ++ flatten m
unfolding flatten
flatten_append [] m = refl
flatten_append (x ∷ l) m = ap (λ (t : List ℕ). x ++ t) (flatten_append l m) ∙ sym (append_assoc x (flatten l) (flatten m))

-- ---- a block is filled line by line
-- the lines so far, from the point p to the point q: whatever comes after them is the rest of what the block takes
pub record SoFar (s : List ℕ) (p q : Point) (before after : List ℕ) : Type 0 where
  pub lines : List (List ℕ)
  pub goes : (rest : List (List ℕ)) (r : Point) → Fills s (length before) q rest r → Fills s (length before) p (lines ++ rest) r
  pub stored : Stored before p.length (flatten lines) q.length after

pub so_far_none : (s : List ℕ) (p : Point) (b : List ℕ) → SoFar s p p b b
unfolding flatten
so_far_none s p b = record { lines = []; goes = λ rest r f. f; stored = stored_none b p.length }

module _ {s : List ℕ} {p q : Point} {before after : List ℕ} (f : SoFar s p q before after) where
  pub so_far_more : {r : Point} {after₁ : List ℕ} →
      q.next < length s → q.length + 601 ≤ length before → TellsAt s q r after after₁ → SoFar s p r before after₁
  unfolding flatten
  so_far_more {r} {after₁} h k t = record {
    lines = f.lines ++ (line_at s q ∷ []);
    goes = λ rest e g.
        subst (λ (l : List (List ℕ)). Fills s (length before) p l e) (sym (append_assoc f.lines (line_at s q ∷ []) rest))
        (f.goes (line_at s q ∷ rest) e (more q rest e h k (subst (λ (x : Point). Fills s (length before) x rest e) t.point g)));
    stored =
        rw (flatten_append f.lines (line_at s q ∷ []), append-nil (line_at s q)) (stored_then f.stored t.line);
  }

  pub so_far_done : q.length ≤ length before → Fills s (length before) q [] q → Filled s p q before after
  so_far_done h g = record {
    lines = f.lines;
    fills = subst (λ (l : List (List ℕ)). Fills s (length before) p l q) (append-nil f.lines) (f.goes [] q g);
    stored = f.stored;
    within = h;
  }

-- two outcomes that meet what is said of a filled block are equal
pub filled_one : {s : List ℕ} {p r r' : Point} {before after after' : List ℕ} →
    Filled s p r before after → Filled s p r' before after' → (r ≡ r') × (after ≡ after')
filled_one {s} {p} {before = before} f g =
    let same = fills_one s (length before) p _ _ _ _ f.fills g.fills in
    let bytes = ap (λ (l : List (List ℕ)). sets before p.length (flatten l)) same.0 in
    (same.1, f.stored.buffer ∙ bytes ∙ sym g.stored.buffer)

-- ---- where a block ends
fills_on : {s : List ℕ} {room : ℕ} {p q : Point} {lines : List (List ℕ)} → Fills s room p lines q → p.next ≤ q.next
unfolding point_after
fills_on (over _ h) = omega arith
fills_on (full _ h k) = omega arith
fills_on {s} (more p _ _ h k f) = omega (arith, next_further s p.next h, fills_on f)

-- a block with room for a line takes one, unless the input has no more
pub fills_further : {s : List ℕ} {room : ℕ} {p q : Point} {lines : List (List ℕ)} →
    Fills s room p lines q → q.next < length s → p.length + 601 ≤ room → p.next < q.next
unfolding point_after
fills_further (over _ h) l r = absurd (omega arith)
fills_further (full _ h k) l r = absurd (omega arith)
fills_further {s} (more p _ _ h k f) l r = omega (arith, next_further s p.next h, fills_on f)

-- there are no more lines than bytes
pub fills_numbered : {s : List ℕ} {room : ℕ} {p q : Point} {lines : List (List ℕ)} →
    Fills s room p lines q → p.number ≤ p.next + 1 → q.number ≤ q.next + 1
unfolding point_after
fills_numbered (over _ h) n = n
fills_numbered (full _ h k) n = n
fills_numbered {s} (more p _ _ h k f) n = fills_numbered f (omega (arith, next_further s p.next h))

-- ---- the blocks, one after the other
-- the front of a block up to the end of what was stored last
stored_front : {b b₁ run : List ℕ} {i j : ℕ} → Stored b i run j b₁ → j ≤ length b → take j b₁ ≡ take i b ++ run
stored_front {b} {b₁} {run} {i} {j} s h =
    let size : length (take i b ++ run) ≡ j =
    omega (arith, length-append (take i b) run, length-take-le i b (omega (arith, s.place)), s.place) in
    let whole : b₁ ≡ (take i b ++ run) ++ drop (i + length run) b =
    s.buffer ∙ sets-eq run b i (omega (arith, s.place)) in
    ap (take j) whole ∙ take_at (take i b ++ run) (drop (i + length run) b) j size

-- of the output so many bytes are written; those that come next stand at the front of the block, and after them come the lines that are left
pub record Waits (s block : List ℕ) (p : Point) (written : ℕ) : Type 0 where
  pub size : 65536 ≡ length block
  pub room : p.length ≤ 601
  pub place : p.next ≤ length s
  pub number : p.number ≤ p.next + 1
  pub few : written ≤ 65536 * p.next
  pub within : written ≤ length (output_of s)
  pub next : drop written (output_of s) ≡ take p.length block ++ flatten (left s p)

-- of a long input the output is one line
pub long_output : (s : List ℕ) → 65536 < length s → output_of s ≡ too_long
unfolding output_of flatten
long_output s h = ap flatten (trace_too_long s h)

first_within : (s : List ℕ) → (first_point s).next ≤ length s
unfolding first_point first_next
first_within s = either (eqb (answer_number (reading_of s).answer) 0)
  where
    either : (c : Bool) → cond c (events_from s 0) (length s) ≤ length s
    either true = events_within s
    either false = omega arith

-- after the first line it waits to be written
pub first_waits : (s : List ℕ) {r : Point} {before after : List ℕ} →
    length s ≤ 65536 → 65536 ≡ length before → TellsFirst s r before after → Waits s after r 0
unfolding output_of flatten first_point
first_waits s {r} {before} {after} h size t =
    let number : r.number ≡ 1 = ap (λ (q : Point). q.number) t.point in
    let place = ap (λ (q : Point). q.next) t.point in
    record {
      size = size ∙ sym (stored_length t.line);
      room = t.room;
      place = omega (arith, place, first_within s);
      number = omega (arith, number);
      few = omega arith;
      within = omega arith;
      next =
          ap flatten (trace_lines s h)
          ∙ ap (λ (l : List ℕ). l ++ flatten (left s (first_point s))) (sym (stored_front t.line (omega (arith, t.room, size))))
          ∙ ap (λ (q : Point). take r.length after ++ flatten (left s q)) (sym t.point);
    }

module _ {s b b₁ : List ℕ} {p q : Point} {written : ℕ} (w : Waits s b p written) (f : Filled s p q b b₁) where
  abbrev part : List ℕ
  part = take q.length b₁

  part_size : length part ≡ q.length
  part_size = length-take-le q.length b₁ (omega (arith, f.within, stored_length f.stored))

  part_then : drop written (output_of s) ≡ part ++ flatten (left s q)
  part_then =
      w.next
      ∙ ap (λ (l : List (List ℕ)). take p.length b ++ flatten l) (fills_left s (length b) p f.lines q f.fills)
      ∙ ap (λ (l : List ℕ). take p.length b ++ l) (flatten_append f.lines (left s q))
      ∙ sym (append_assoc (take p.length b) (flatten f.lines) (flatten (left s q)))
      ∙ ap (λ (l : List ℕ). l ++ flatten (left s q)) (sym (stored_front f.stored f.within))

  -- what the block holds comes next in the output
  pub filled_next : Next s written part
  filled_next = ap (take (length part)) part_then ∙ take-append_seam part (flatten (left s q))

  pub filled_size : q.length ≡ length part
  filled_size = sym part_size

  pub filled_fits : length s ≤ 65536 → written + length part < 2 ^ 64
  filled_fits h = omega (arith, w.few, w.place, w.size, f.within, part_size)

  pub waits_on : q.next < length s → p.next < q.next
  waits_on h = fills_further f.fills h (omega (arith, w.room, w.size))

  module _ {written' : ℕ} (e : written' ≡ written + length part) where
    -- after it comes what is left
    after : drop written' (output_of s) ≡ flatten (left s q)
    after =
        ap (λ (k : ℕ). drop k (output_of s)) e
        ∙ sym (drop-drop (length part) written (output_of s))
        ∙ ap (drop (length part)) part_then ∙ drop-append_seam part (flatten (left s q))

    within : written' ≤ length (output_of s)
    within =
        omega (arith, e, w.within, length-drop written (output_of s), ap length part_then, length-append part (flatten (left s q)))

    -- at the end of the input all is written
    pub all_written : length s ≤ q.next → written' ≡ length (output_of s)
    unfolding flatten
    all_written h =
        let none : drop written' (output_of s) ≡ [] = after ∙ ap flatten (over_left s q h) in
        omega (arith, within, length-drop written' (output_of s), ap length none)

    -- before it the next block is filled
    pub waits_again : {r : Point} → r ≡ emptied q → q.next < length s → Waits s b₁ r written'
    unfolding left
    waits_again same h = subst (λ (r : Point). Waits s b₁ r written') (sym same) (record {
      size = w.size ∙ sym (stored_length f.stored);
      room = omega arith;
      place = omega arith;
      number = fills_numbered f.fills w.number;
      few = omega (arith, e, w.few, w.size, f.within, part_size, waits_on h);
      within = within;
      next = after;
    })
