-- What one read more gave stands after what came before it.
use Rattle.std.proofs.Common.{◌≡◌, ℕ, ◌+◌, ◌-◌, ◌≤◌, List, ◌++◌, rules, length, take, drop, sym, ap, ◌∙◌, subst, le_refl, drop_at, length-take-le}
use Rattle.std.proofs.lemmas.Slice.{take-put_mid_below}
use Rattle.std.proofs.Math.Seq.{take-add, take-append-le}
use Rattle.std.specs.Io.KnownBytes.{Consumes}
use Rattle.std.proofs.KnownBytes.{Consumes-trans}
use borrow.Rule.Slice.PartMut.{put_mid, post_of}
use Rattle.streams.proofs.read_full.Goals as goal

joined : (i k n : ℕ) (s t : List ℕ) → i ≤ length s → n ≤ length t → take i s ++ take n t ≡ take (i + n) (put_mid i k s t)
joined i k n s t within fits =
    let front = take-put_mid_below i k s t i (le_refl i) within in
    let after = post_of i k s in
    let part : drop i (put_mid i k s t) ≡ t ++ after = drop_at (take i s) (t ++ after) i (length-take-le i s within) in
    ap (λ l. l ++ take n t) (sym front) ∙ ap (λ l. take i (put_mid i k s t) ++ l) (sym (take-append-le n t after fits)) ∙ ap (λ l. take i (put_mid i k s t) ++ take n l) (sym part) ∙ sym (take-add i n (put_mid i k s t))

pub loop-done-preserved : goal.loop-done-preserved
loop-done-preserved g c = (
  search rules,
  subst (Consumes _ _) (joined c.loop-done.done (length c.loop-done.buffer - c.loop-done.done) c.in_ok-count.count c.loop-done.buffer c.read.new.buf c.loop-done.invariant.0 c.in_ok-count.ensures.bound.0)
      (Consumes-trans _ _ _ _ _ c.loop-done.invariant.1 c.in_ok-count.ensures.bytes.0),
)
