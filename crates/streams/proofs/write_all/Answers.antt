-- What one write more took stands after what was written before it.
use Rattle.std.proofs.Common.{◌≡◌, ℕ, ◌+◌, List, ◌++◌, take, drop, sym, ap, ◌∙◌, subst}
use Rattle.std.proofs.lemmas.List.{take_rest, drop-drop}
use Rattle.std.proofs.Math.Seq.{take-add}
use Rattle.std.specs.Io.KnownBytes.{Appends}
use Rattle.std.proofs.KnownBytes.{Appends-trans}
use Rattle.streams.proofs.write_all.Goals as goal

joined : (n k : ℕ) (s rest : List ℕ) → rest ≡ drop n s → take n s ++ take k rest ≡ take (n + k) s
joined n k s rest is = ap (λ l. take n s ++ take k l) is ∙ sym (take-add n k s)

pub loop-rest-preserved : goal.loop-rest-preserved
loop-rest-preserved g c =
    let n = c.loop-rest.invariant.0 in
    let is = c.loop-rest.invariant.1 in
    let count = c.in_ok-count.count in (
      n + count,
      take_rest c.loop-rest.rest.now count ∙ ap (drop count) is ∙ drop-drop count n c.args.bytes.now,
      subst (Appends _ _) (joined n count c.args.bytes.now _ is) (Appends-trans _ _ _ _ _ c.loop-rest.invariant.2 c.in_ok-count.ensures.bytes),
    )
