-- Each network's record in sheet order, replaced by a loop one by one.
use Rattle.lists.proofs.Basics.{ℕ, zero, suc, ◌+◌, ◌<◌, arith, add-one, ◌≡◌, refl, sym, ap, ◌∙◌, List, [], ◌∷◌, length, get_or, take, set}
use lib.Seq.{set-get_or}
use Rattle.settings.specs.declared.Network.{Network}
use Rattle.network.specs.declared.State.{State}
use Rattle.slots.specs.Manager.{each}

module _ (f : Network → State → State) where
  pub length_each : (ns : List Network) (ss : List State) → length (each f ns ss) ≡ length ss
  unfolding each
  length_each [] ss = refl
  length_each (n ∷ ns) [] = refl
  length_each (n ∷ ns) (s ∷ ss) = ap suc (length_each ns ss)

  pub each_none : (ss : List State) → ss ≡ each f [] ss
  unfolding each
  each_none ss = refl

  -- the record at i is still the old one
  pub each_read : (ns : List Network) (ss : List State) (i : ℕ) (d : State) → get_or (each f (take i ns) ss) i d ≡ get_or ss i d
  unfolding each
  each_read ns ss zero d = refl
  each_read [] ss (suc i) d = refl
  each_read (n ∷ ns) [] (suc i) d = refl
  each_read (n ∷ ns) (s ∷ ss) (suc i) d = each_read ns ss i d

  one_more : (ns : List Network) (ss : List State) (i : ℕ) (d : Network) (e : State) → i < length ns → i < length ss →
      set (each f (take i ns) ss) i (f (get_or ns i d) (get_or ss i e)) ≡ each f (take (suc i) ns) ss
  unfolding each
  one_more [] ss i d e h k = absurd (omega arith)
  one_more (n ∷ ns) [] i d e h k = absurd (omega arith)
  one_more (n ∷ ns) (s ∷ ss) zero d e h k = refl
  one_more (n ∷ ns) (s ∷ ss) (suc i) d e h k = ap (λ (r : List State). f n s ∷ r) (one_more ns ss i d e (omega arith) (omega arith))

  -- one turn of the loop, which has put x, f of what it read
  pub each_more : (ns : List Network) (ss now : List State) (i : ℕ) (d : Network) (e : State) → i < length ns → i < length ss →
      now ≡ each f (take i ns) ss → (x : State) → x ≡ f (get_or ns i d) (get_or now i e) → set now i x ≡ each f (take (i + 1) ns) ss
  each_more ns ss now i d e h k q x p =
      let r : get_or now i e ≡ get_or ss i e = ap (λ (l : List State). get_or l i e) q ∙ each_read ns ss i e in
      let g : x ≡ f (get_or ns i d) (get_or ss i e) = p ∙ ap (f (get_or ns i d)) r in
      ap (λ (y : State). set now i y) g ∙ ap (λ (l : List State). set l i (f (get_or ns i d) (get_or ss i e))) q
      ∙ one_more ns ss i d e h k ∙ ap (λ (j : ℕ). each f (take j ns) ss) (sym (add-one i))

  -- one turn of the loop that leaves what it read, since f does
  pub each_same : (ns : List Network) (ss now : List State) (i : ℕ) (d : Network) (e : State) → i < length ns → i < length ss →
      now ≡ each f (take i ns) ss → f (get_or ns i d) (get_or now i e) ≡ get_or now i e → now ≡ each f (take (i + 1) ns) ss
  each_same ns ss now i d e h k q p = sym (set-get_or now i e) ∙ each_more ns ss now i d e h k q (get_or now i e) (sym p)
