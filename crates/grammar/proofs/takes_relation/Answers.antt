-- `grammar::takes_relation` meets its contract: the last network in use is the last one of the list.
use Rattle.lists.proofs.Basics.{suc, ◌-◌, arith, ◌≡◌, refl, sym, ap, ◌∙◌, List, [], ◌∷◌, Bool, false, length}
use Rattle.std.specs.Prelude.{Some, None, slice_get}
use Rattle.lists.specs.Lists.{lastly}
use Rattle.settings.specs.declared.Network.{Network}
use Rattle.entries.specs.Grammar.{is_above, takes_relation}
use Rattle.grammar.proofs.takes_relation.Goals as goal

module _ {A : Type 0} (p : A → Bool) where
  lastly_some : (l : List A) (x : A) → Some x ≡ slice_get l (length l - 1) → lastly p l ≡ p x
  unfolding lastly
  lastly_some [] x e = absurd cc
  lastly_some (y ∷ []) x e = let same : y ≡ x = cc in ap p same
  lastly_some (y ∷ z ∷ l) x e =
      let i : length (y ∷ z ∷ l) - 1 ≡ suc (length (z ∷ l) - 1) = omega arith in lastly_some (z ∷ l) x (rw i at e)

  lastly_none : (l : List A) → None ≡ slice_get l (length l - 1) → lastly p l ≡ false
  unfolding lastly
  lastly_none [] e = refl
  lastly_none (y ∷ []) e = absurd cc
  lastly_none (y ∷ z ∷ l) e =
      let i : length (y ∷ z ∷ l) - 1 ≡ suc (length (z ∷ l) - 1) = omega arith in lastly_none (z ∷ l) (rw i at e)

abbrev above : Network → Bool
above n = is_above n.relation

pub returns-in-Above : goal.returns-in-Above
unfolding takes_relation
returns-in-Above c =
    let e = rw (c.in_use.ensures, c.in-Some.is) at c.last.ensures.value in
    sym (lastly_some above _ c.in-Some.network.now e ∙ rw c.in-Above.is refl)

pub returns-in_default : goal.returns-in_default
unfolding takes_relation
returns-in_default c =
    let e = rw (c.in_use.ensures, c.in-Some.is) at c.last.ensures.value in
    sym (lastly_some above _ c.in-Some.network.now e ∙ rw c.in_default.is refl)

pub returns-in-None : goal.returns-in-None
unfolding takes_relation
returns-in-None c = sym (lastly_none above _ (rw (c.in_use.ensures, c.in-None.is) at c.last.ensures.value))
