-- The first elements of a list, and lists that are filled up.
use Rattle.lists.proofs.Basics.{ℕ, zero, suc, ◌+◌, ◌-◌, ◌≤◌, ◌<◌, min, arith, add-one, ◌≡◌, refl, sym, ap, ◌∙◌, List, [], ◌∷◌, ◌++◌, map}
use Rattle.lists.proofs.Basics.{length, get_or, take, drop, set, replicate, length-append, length-replicate, length-take, length-map}
use Rattle.lists.proofs.Basics.{length-set, take_all, length-take-le, append_snoc}
use lib.Seq.{drop-cons, take-suc, take-suc-set, get_or-append_seam, set-append_seam, set-append_left, take-set-lt}
use Rattle.lists.specs.Lists.{padded, Bytes}

module _ {A : Type 0} where
  -- ---- one element more
  pub drop_more : (l : List A) (i j : ℕ) (d : A) → i < length l → j ≡ i + 1 → drop i l ≡ get_or l i d ∷ drop j l
  drop_more l i j d h e = drop-cons l i d h ∙ ap (λ (k : ℕ). get_or l i d ∷ drop k l) (sym (e ∙ add-one i))

  pub take_more : (l : List A) (i : ℕ) (d : A) → i < length l → take (i + 1) l ≡ take i l ++ (get_or l i d ∷ [])
  take_more l i d h = rw add-one (take-suc l i d h)

  pub take_set_more : (l : List A) (i : ℕ) (a : A) → i < length l → take (i + 1) (set l i a) ≡ take i l ++ (a ∷ [])
  take_set_more l i a h = rw add-one (take-suc-set l i a h)

  -- an element of the list is the same with whatever default
  pub get_d_any : (l : List A) (i : ℕ) (d e : A) → i < length l → get_or l i d ≡ get_or l i e
  get_d_any [] i d e h = absurd (omega arith)
  get_d_any (x ∷ l) zero d e h = refl
  get_d_any (x ∷ l) (suc i) d e h = get_d_any l i d e (omega arith)

  -- ---- how many there are among the first n
  pub count_below : (l : List A) (k n : ℕ) → length l ≡ k → n < k → n ≡ length (take n l)
  count_below l k n e h = sym (length-take-le n l (omega arith))

  pub count_above : (l : List A) (k n : ℕ) → length l ≡ k → k ≤ n → k ≡ length (take n l)
  count_above l k n e h = sym (ap length (take_all n l (omega arith)) ∙ e)

  again : (l : List A) (k : ℕ) → take (length (take k l)) l ≡ take k l
  again [] zero = refl
  again [] (suc k) = refl
  again (x ∷ l) zero = refl
  again (x ∷ l) (suc k) = ap (λ (r : List A). x ∷ r) (again l k)

  -- the first elements, by how many they are
  pub take_count : (l : List A) (k i : ℕ) → i ≡ length (take k l) → take i l ≡ take k l
  take_count l k i e = ap (λ (j : ℕ). take j l) e ∙ again l k

  -- the first n, of which only so many are there
  pub take_min : (l : List A) (n i : ℕ) → i ≡ min n (length l) → take i l ≡ take n l
  take_min l n i e = take_count l n i (e ∙ sym (length-take n l))

  -- ---- padded
  -- one more element, where the filling begins
  pub padded_set : (n : ℕ) (d a : A) (l : List A) → length l < n → set (padded n d l) (length l) a ≡ padded n d (l ++ (a ∷ []))
  padded_set n d a l h =
      let e : n - length l ≡ suc (n - (length l + 1)) = omega arith in
      ap (λ (k : ℕ). set (l ++ replicate k d) (length l) a) e
      ∙ set-append_seam l d (replicate (n - (length l + 1)) d) a
      ∙ sym (append_snoc l a (replicate (n - (length l + 1)) d))
      ∙ ap (λ (k : ℕ). (l ++ (a ∷ [])) ++ replicate (n - k) d) (sym (length-append l (a ∷ [])))

  -- the last element before the filling, and another in its place
  pub padded_last : (n : ℕ) (d x e : A) (l : List A) → get_or (padded n d (l ++ (x ∷ []))) (length l) e ≡ x
  padded_last n d x e l = rw (append_snoc l x (replicate (n - length (l ++ (x ∷ []))) d)) (get_or-append_seam l x _ e)

  pub padded_set_last : (n : ℕ) (d x a : A) (l : List A) → set (padded n d (l ++ (x ∷ []))) (length l) a ≡ padded n d (l ++ (a ∷ []))
  padded_set_last n d x a l =
      let same : length (l ++ (x ∷ [])) ≡ length (l ++ (a ∷ [])) = length-append l (x ∷ []) ∙ sym (length-append l (a ∷ [])) in
      let filling : List A = replicate (n - length (l ++ (x ∷ []))) d in
      ap (λ (k : List A). set k (length l) a) (append_snoc l x filling)
      ∙ set-append_seam l x filling a
      ∙ sym (append_snoc l a filling)
      ∙ ap (λ (k : ℕ). (l ++ (a ∷ [])) ++ replicate (n - k) d) same

  -- where a list is its first k elements, filled up, it has n elements, and there are k of these
  pub padded_length : (n : ℕ) (d : A) (l : List A) (k : ℕ) → k ≤ n → l ≡ padded n d (take k l) → length l ≡ n
  padded_length n d l k h e =
      let f = length-take k l in
      omega (arith, f, ap length e ∙ length-append (take k l) (replicate (n - length (take k l)) d), length-replicate (n - length (take k l)) d)

  pub padded_count : (n : ℕ) (d : A) (l : List A) (k : ℕ) → k ≤ n → l ≡ padded n d (take k l) → length (take k l) ≡ k
  padded_count n d l k h e = length-take-le k l (omega (arith, padded_length n d l k h e))

  -- a store among the first k keeps the filling
  pub padded_store : (n : ℕ) (d a : A) (l : List A) (k i : ℕ) →
      l ≡ padded n d (take k l) → i < length (take k l) → set l i a ≡ padded n d (take k (set l i a))
  padded_store n d a l k i e h =
      let j : i < k = let t = length-take k l in omega arith in
      let t : take k (set l i a) ≡ set (take k l) i a = take-set-lt k l i a j in
      ap (λ (m : List A). set m i a) e
      ∙ set-append_left (take k l) (replicate (n - length (take k l)) d) i a h
      ∙ ap (λ (m : ℕ). set (take k l) i a ++ replicate (n - m) d) (sym (length-set (take k l) i a))
      ∙ ap (padded n d) (sym t)

-- ---- map
-- a mapped list is as long
pub unmapped : (A B : Type 0) (f : A → B) (l : List A) (n : ℕ) → length (map f l) ≡ n → length l ≡ n
unmapped A B f l n e = sym (length-map l f) ∙ e

-- ---- bytes
pub drop_bytes : (k : ℕ) (l : List ℕ) → Bytes l → Bytes (drop k l)
unfolding Bytes
drop_bytes zero l b = b
drop_bytes (suc k) [] b = b
drop_bytes (suc k) (x ∷ l) b = drop_bytes k l b.1

pub take_bytes : (k : ℕ) (l : List ℕ) → Bytes l → Bytes (take k l)
unfolding Bytes
take_bytes zero l b = tt
take_bytes (suc k) [] b = tt
take_bytes (suc k) (x ∷ l) b = (b.0, take_bytes k l b.1)
