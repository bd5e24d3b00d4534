-- Runs of stores into a buffer, one after the other.
use Rattle.lists.proofs.Basics.{ℕ, suc, ◌+◌, ◌-◌, ◌≤◌, ◌<◌, arith, ◌≡◌, refl, ap, ◌∙◌, List, [], ◌∷◌, ◌++◌, length, get_or, take, drop, set}
use Rattle.lists.proofs.Basics.{length-append, sets, length-sets}
use lib.Seq.{take-add}
use Rattle.lists.specs.Stores.{Stored}
use Rattle.lists.proofs.Parts.{take_more}

module _ {A : Type 0} where
  -- ---- sets
  pub sets_append : (l : List A) (i : ℕ) (vs ws : List A) → sets (sets l i vs) (i + length vs) ws ≡ sets l i (vs ++ ws)
  sets_append l i [] ws = ap (λ (k : ℕ). sets l k ws) (omega arith)
  sets_append l i (a ∷ vs) ws = ap (λ (k : ℕ). sets (sets (set l i a) (suc i) vs) k ws) (omega arith) ∙ sets_append (set l i a) (suc i) vs ws

  -- a store of ws right after a store of vs
  pub sets_then : (b b₁ b₂ : List A) (i j : ℕ) (vs ws : List A) → b₁ ≡ sets b i vs → j ≡ i + length vs → b₂ ≡ sets b₁ j ws → b₂ ≡ sets b i (vs ++ ws)
  sets_then b b₁ b₂ i j vs ws p e q = q ∙ ap (λ (k : ℕ). sets b₁ k ws) e ∙ ap (λ (l : List A). sets l (i + length vs) ws) p ∙ sets_append b i vs ws

  -- ---- Stored
  pub stored_none : (b : List A) (i : ℕ) → Stored b i [] i b
  stored_none b i = record { place = omega arith; buffer = refl }

  pub stored_one : (b : List A) (i : ℕ) (a : A) → Stored b i (a ∷ []) (i + 1) (set b i a)
  stored_one b i a = record { place = refl; buffer = refl }

  -- a run right after another
  pub stored_then : {b b₁ b₂ vs ws : List A} {i j k : ℕ} → Stored b i vs j b₁ → Stored b₁ j ws k b₂ → Stored b i (vs ++ ws) k b₂
  stored_then {b} {b₁} {b₂} {vs} {ws} {i} {j} {k} s t =
      record {
        place = let e = s.place in let f = t.place in omega (arith, length-append vs ws);
        buffer = sets_then b b₁ b₂ i j vs ws s.buffer s.place t.buffer;
      }

  pub stored_length : {b b₁ vs : List A} {i j : ℕ} → Stored b i vs j b₁ → length b₁ ≡ length b
  stored_length {b} {b₁} {vs} {i} s = ap length s.buffer ∙ length-sets b i vs

-- ---- a list as a run: a run for each element, one after the other
module _ {A B : Type 0}
    (run : List A → List B) (run-append : (l m : List A) → run (l ++ m) ≡ run l ++ run m) (l : List A) (i : ℕ) (d : A) (h : i < length l) where
  pub run_more : run (take (i + 1) l) ≡ run (take i l) ++ run (get_or l i d ∷ [])
  run_more = ap run (take_more l i d h) ∙ run-append (take i l) (get_or l i d ∷ [])

  pub length_more : (total more : ℕ) →
      total ≡ length (run (take i l)) → more ≡ length (run (get_or l i d ∷ [])) → total + more ≡ length (run (take (i + 1) l))
  length_more total more p q = omega (arith, ap length run_more ∙ length-append (run (take i l)) (run (get_or l i d ∷ [])))

  -- the run of the first n elements is no shorter than that of fewer and of the next
  pub length_within : (n : ℕ) → i < n → length (run (take i l)) + length (run (get_or l i d ∷ [])) ≤ length (run (take n l))
  length_within n k =
      let rest : List A = take (n - (i + 1)) (drop (i + 1) l) in
      let m : n ≡ (i + 1) + (n - (i + 1)) = omega arith in
      let e : run (take n l) ≡ run (take (i + 1) l) ++ run rest =
      ap (λ (j : ℕ). run (take j l)) m ∙ ap run (take-add (i + 1) (n - (i + 1)) l) ∙ run-append (take (i + 1) l) rest in
      omega (arith, length_more _ _ refl refl, ap length e ∙ length-append (run (take (i + 1) l)) (run rest))

  module _ {b b₁ : List B} {at to : ℕ} (s : Stored b at (run (take i l)) to b₁) where
    pub stored_more : {b₂ : List B} {next : ℕ} → Stored b₁ to (run (get_or l i d ∷ [])) next b₂ → Stored b at (run (take (i + 1) l)) next b₂
    stored_more t = rw run_more (stored_then s t)

    -- where there is room for the run of the first n elements there is room for one more
    pub room_more : (n : ℕ) → i < n → at + length (run (take n l)) ≤ length b → to + length (run (get_or l i d ∷ [])) ≤ length b₁
    room_more n k r = omega (arith, s.place, stored_length s, length_within n k)
