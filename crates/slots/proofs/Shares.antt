-- A number of each network, as a loop adds them.
use Rattle.lists.proofs.Basics.{ℕ, zero, suc, ◌+◌, ◌≤◌, ◌<◌, arith, add-one, ◌≡◌, ap, ◌∙◌, List, [], ◌∷◌, length, get_or, take, take_all}
use Rattle.settings.specs.declared.Network.{Network}
use Rattle.slots.specs.Manager.{summed}

module _ (f : Network → ℕ) where
  summed_suc : (ns : List Network) (i : ℕ) (d : Network) → i < length ns → summed f (take (suc i) ns) ≡ summed f (take i ns) + f (get_or ns i d)
  unfolding summed
  summed_suc [] i d h = absurd (omega arith)
  summed_suc (n ∷ ns) zero d h = omega arith
  summed_suc (n ∷ ns) (suc i) d h = omega (arith, summed_suc ns i d (omega arith))

  -- one turn of the loop that adds them
  pub summed_more : (ns : List Network) (i : ℕ) (d : Network) →
      i < length ns → (total one : ℕ) → total ≡ summed f (take i ns) → one ≡ f (get_or ns i d) → total + one ≡ summed f (take (i + 1) ns)
  summed_more ns i d h total one p q = rw add-one (omega (arith, p, q, summed_suc ns i d h))

  -- the loop has added them all
  pub summed_all : (ns : List Network) (i total : ℕ) → length ns ≤ i → total ≡ summed f (take i ns) → total ≡ summed f ns
  summed_all ns i total h p = p ∙ ap (summed f) (take_all i ns h)
