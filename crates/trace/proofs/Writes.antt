-- Laws of what a writer gains, part by part of an output.
use Rattle.std.proofs.Common.{ℕ, ◌+◌, ◌≤◌, ◌<◌, ◌⊎◌, inl, inr, arith, ◌≡◌, sym, ap, subst, ◌∙◌, List, ◌++◌, length, take, drop, take_all}
use Rattle.std.proofs.Math.Seq.{take-add}
use Rattle.std.proofs.lemmas.Bool.{cases_lt}
use Rattle.std.proofs.lemmas.List.{take-take}
use Rattle.std.specs.Prelude.{OnErr, Ok, Err, Result}
use Rattle.std.specs.declared.option.Option.{Option}
use Rattle.std.specs.Io.KnownBytes.{Appends}
use Rattle.std.proofs.KnownBytes.{Appends-trans}
use Rattle.streams.specs.Streams.{AppendsFront}

-- what holds anyway holds of an error
pub on_err : {T E : Type 0} (r : Result T E) (P : Type 0) → P → OnErr r P
on_err (Ok x) P p = tt
on_err (Err e) P p = p

-- after the part that comes next, that much more
pub part_gained : (a b c : Option (List ℕ)) (all part : List ℕ) (written written' : ℕ) → Appends a b (take written all) → take (length part) (drop written all) ≡ part
    → Appends b c part → written' ≡ written + length part → Appends a c (take written' all)
part_gained a b c all part written written' before next more e =
    let joined : take written all ++ part ≡ take written' all =
    ap (λ (t : List ℕ). take written all ++ t) (sym next) ∙ sym (take-add written (length part) all) ∙ ap (λ (n : ℕ). take n all) (sym e) in
    subst (Appends a c) joined (Appends-trans a b c _ _ before more)

-- a front of that part is a front of what comes next
front_next : (part rest : List ℕ) (n : ℕ) → take (length part) rest ≡ part → (k : ℕ) × (take n part ≡ take k rest)
front_next part rest n next = by_size (cases_lt n (length part))
  where
    by_size : (n < length part) ⊎ (length part ≤ n) → (k : ℕ) × (take n part ≡ take k rest)
    by_size (inl h) = (n, ap (take n) (sym next) ∙ take-take n (length part) rest (omega arith))
    by_size (inr h) = (length part, take_all n part h ∙ sym next)

-- after a front of the part that comes next, a front of all
pub front_gained : (a b c : Option (List ℕ)) (all part : List ℕ) (written : ℕ) → Appends a b (take written all) → take (length part) (drop written all) ≡ part
    → AppendsFront b c part → AppendsFront a c all
front_gained a b c all part written before next more =
    let front = front_next part (drop written all) more.0 next in
    let joined : take written all ++ take more.0 part ≡ take (written + front.0) all =
    ap (λ (t : List ℕ). take written all ++ t) front.1 ∙ sym (take-add written front.0 all) in
    (written + front.0, subst (Appends a c) joined (Appends-trans a b c _ _ before more.1))
