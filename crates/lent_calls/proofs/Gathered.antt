-- What each network hands out, in sheet order, as a loop writes it: one network more, and room for it.
use Rattle.lists.proofs.Basics.{ℕ, zero, suc, ◌+◌, ◌*◌, ◌≤◌, ◌<◌, arith, add-one, ◌≡◌, refl, sym, ap, ◌∙◌, List, [], ◌∷◌, ◌++◌, append-nil}
use Rattle.lists.proofs.Basics.{append_assoc, length, get_or, take, length-append}
use Rattle.records.specs.declared.Record.{Record}
use Rattle.records.specs.declared.Tray.{Tray}
use Rattle.records.specs.Tray.{HasRoom, Handed}
use Rattle.records.proofs.Trays.{handed_none, handed_then}
use Rattle.settings.specs.declared.Network.{Network}
use Rattle.network.specs.declared.State.{State}
use Rattle.slots.specs.Manager.{gathered, summed}

-- the numbers of all networks are no fewer than those of fewer and of the next
summed_within : (most : Network → ℕ) (ns : List Network) (i : ℕ) (d : Network) →
    i < length ns → summed most (take i ns) + most (get_or ns i d) ≤ summed most ns
unfolding summed
summed_within most [] i d h = absurd (omega arith)
summed_within most (m ∷ ns) zero d h = omega arith
summed_within most (m ∷ ns) (suc i) d h = omega (arith, summed_within most ns i d (omega arith))

module _ (f : Network → State → List Record) where
  records_none : (ss : List State) → gathered f [] ss ≡ []
  unfolding gathered
  records_none ss = refl

  pub gathered_none : (t : Tray) (ss : List State) → Handed t (gathered f [] ss) t
  gathered_none t ss = rw (records_none ss) (handed_none t)

  records_suc : (ns : List Network) (ss : List State) (i : ℕ) (d : Network) (e : State) → i < length ns → i < length ss →
      gathered f (take (suc i) ns) ss ≡ gathered f (take i ns) ss ++ f (get_or ns i d) (get_or ss i e)
  unfolding gathered
  records_suc [] ss i d e h k = absurd (omega arith)
  records_suc (n ∷ ns) [] i d e h k = absurd (omega arith)
  records_suc (n ∷ ns) (s ∷ ss) zero d e h k = append-nil (f n s)
  records_suc (n ∷ ns) (s ∷ ss) (suc i) d e h k =
      ap (λ (r : List Record). f n s ++ r) (records_suc ns ss i d e (omega arith) (omega arith))
      ∙ sym (append_assoc (f n s) (gathered f (take i ns) ss) (f (get_or ns i d) (get_or ss i e)))

  -- one turn of the loop, which has written what one network more hands out
  pub gather_handed : (ns : List Network) (ss : List State) (i : ℕ) (d : Network) (e : State) → i < length ns → i < length ss
      → {t t₁ t₂ : Tray} → Handed t (gathered f (take i ns) ss) t₁ → Handed t₁ (f (get_or ns i d) (get_or ss i e)) t₂
      → Handed t (gathered f (take (i + 1) ns) ss) t₂
  gather_handed ns ss i d e h k w v = rw (add-one i, records_suc ns ss i d e h k) (handed_then w v)

  -- where a network hands out at most so many
  module _ (most : Network → ℕ) (fits : (n : Network) (s : State) → length (f n s) ≤ most n) where
    -- all hand out no more than the sum of it
    pub gathered_summed : (ns : List Network) (ss : List State) → length (gathered f ns ss) ≤ summed most ns
    unfolding gathered summed
    gathered_summed [] ss = omega arith
    gathered_summed (n ∷ ns) [] = omega arith
    gathered_summed (n ∷ ns) (s ∷ ss) = omega (arith, length-append (f n s) (gathered f ns ss), fits n s, gathered_summed ns ss)

    -- room for all is room for what the next one hands out, which is at most its number
    pub gather_room : (ns : List Network) (ss : List State) (i : ℕ) (d : Network) → i < length ns
        → {t t₁ : Tray} → t.count ≡ 0 → Handed t (gathered f (take i ns) ss) t₁ → (rs : List Record) → length rs ≤ most (get_or ns i d)
        → 3 * summed most ns ≤ length t.out.now → HasRoom t₁ rs
    gather_room ns ss i d h front w rs few room =
        record {
          fits = omega (
            arith,
            room,
            front,
            w.wrote.count,
            w.size,
            gathered_summed (take i ns) ss,
            summed_within most ns i d h,
            few,
          );
        }
