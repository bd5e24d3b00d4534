-- What a search through the first n elements of a list learns, once for every test and every type.
use Rattle.lists.proofs.Basics.{ℕ, zero, suc, ◌+◌, ◌<◌, min, arith, add-one, sym, ap, ◌∙◌, List, ◌∷◌, ◌++◌, map, Bool, true, false, cond, not}
use Rattle.lists.proofs.Basics.{◌||◌, ◌&&◌, false≢true, true≢false, length, get_or, take, take_all, ◌≤◌, ◌≡◌, refl, []}
use Rattle.lists.proofs.Parts.{take_min}
use Rattle.std.specs.List.{list_any, list_all, position_from}
use Rattle.std.proofs.lemmas.Iterator.Adapters.{position_from-zero}
use Rattle.std.specs.Prelude.{Some, None, position}
use Rattle.lists.specs.Lists.{any, every, lastly, first}

or_left : (a b : Bool) → a || b ≡ false → a ≡ false
or_left true b e = e
or_left false b e = refl

or_right : (a b : Bool) → a || b ≡ false → b ≡ false
or_right true b e = absurd (true≢false e)
or_right false b e = e

or_assoc : (a b c : Bool) → a || (b || c) ≡ (a || b) || c
or_assoc true b c = refl
or_assoc false b c = refl

pub or_first : (a b : Bool) → a ≡ true → a || b ≡ true
or_first true b e = refl
or_first false b e = absurd (false≢true e)

pub or_second : (a b : Bool) → b ≡ true → a || b ≡ true
or_second true b e = refl
or_second false b e = e

not_or : (a b : Bool) → not (a || b) ≡ not a && not b
not_or true b = refl
not_or false b = refl

not_not_or : (a b : Bool) → not (not a || b) ≡ a && not b
not_not_or true b = refl
not_not_or false b = refl

pub and_both : (a b : Bool) → a && b ≡ true → (a ≡ true) × (b ≡ true)
and_both true b e = (refl, e)
and_both false b e = absurd (false≢true e)

module _ {A : Type 0} (p : A → Bool) where
  -- ---- any
  pub any_append : (l m : List A) → any p (l ++ m) ≡ any p l || any p m
  unfolding any
  any_append [] m = refl
  any_append (x ∷ l) m = rw (any_append l m) (or_assoc (p x) (any p l) (any p m))

  -- none passes in the first list, and none in the second
  pub any_append_left : (l m : List A) → any p (l ++ m) ≡ false → any p l ≡ false
  any_append_left l m e = or_left (any p l) (any p m) (sym (any_append l m) ∙ e)

  pub any_append_right : (l m : List A) → any p (l ++ m) ≡ false → any p m ≡ false
  any_append_right l m e = or_right (any p l) (any p m) (sym (any_append l m) ∙ e)

  pub any_append_none : (l m : List A) → any p l ≡ false → any p m ≡ false → any p (l ++ m) ≡ false
  any_append_none l m e f = any_append l m ∙ rw (e, f) refl

  one_more : (l : List A) (i : ℕ) (d : A) → any p (take i l) ≡ false → p (get_or l i d) ≡ false → any p (take (suc i) l) ≡ false
  unfolding any
  one_more [] i d e f = refl
  one_more (x ∷ l) zero d e f = rw f refl
  one_more (x ∷ l) (suc i) d e f = rw (or_left (p x) _ e) (one_more l i d (or_right (p x) _ e) f)

  -- one element more that does not pass
  pub any_more : (l : List A) (i : ℕ) (d : A) → any p (take i l) ≡ false → p (get_or l i d) ≡ false → any p (take (i + 1) l) ≡ false
  any_more l i d e f = rw add-one (one_more l i d e f)

  -- one that passes
  pub any_found : (l : List A) (i n : ℕ) (d : A) → i < n → i < length l → p (get_or l i d) ≡ true → any p (take n l) ≡ true
  unfolding any
  any_found [] i n d h k f = absurd (omega arith)
  any_found (x ∷ l) i zero d h k f = absurd (omega arith)
  any_found (x ∷ l) zero (suc n) d h k f = rw f refl
  any_found (x ∷ l) (suc i) (suc n) d h k f = or_second (p x) _ (any_found l i n d (omega arith) (omega arith) f)

  -- none passes among the first n, once as many have been seen as are there
  pub any_end : (l : List A) (i n : ℕ) → i ≡ min n (length l) → any p (take i l) ≡ false → any p (take n l) ≡ false
  any_end l i n h e = ap (any p) (sym (take_min l n i h)) ∙ e

  -- ---- first
  -- the first that passes, none having passed before it
  pub first_found : (l : List A) (i n : ℕ) (d : A) → any p (take i l) ≡ false → i < n → i < length l → p (get_or l i d) ≡ true → first p (take n l) ≡ i
  unfolding any first
  first_found [] i n d e h k f = absurd (omega arith)
  first_found (x ∷ l) i zero d e h k f = absurd (omega arith)
  first_found (x ∷ l) zero (suc n) d e h k f = rw f refl
  first_found (x ∷ l) (suc i) (suc n) d e h k f =
      rw (or_left (p x) _ e) (ap suc (first_found l i n d (or_right (p x) _ e) (omega arith) (omega arith) f))

  -- where some element passes, the first that does is one of the list
  pub first_below : (l : List A) → any p l ≡ true → first p l < length l
  unfolding any first
  first_below [] e = absurd cc
  first_below (x ∷ l) e = by_test (p x) e (first_below l)
    where
      by_test : (b : Bool) → b || any p l ≡ true → (any p l ≡ true → first p l < length l) → cond b 0 (suc (first p l)) < length (x ∷ l)
      by_test true f ih = omega arith
      by_test false f ih = let h = ih f in omega arith

-- ---- every
module _ {A : Type 0} (p : A → Bool) where
  -- every element passes where none fails, and not where one does
  pub every_true : (l : List A) → any (λ (x : A). not (p x)) l ≡ false → every p l ≡ true
  unfolding every
  every_true l e = rw e refl

  pub every_false : (l : List A) → any (λ (x : A). not (p x)) l ≡ true → every p l ≡ false
  unfolding every
  every_false l e = rw e refl

  pub every_cons : (x : A) (l : List A) → every p (x ∷ l) ≡ p x && every p l
  unfolding every any
  every_cons x l = not_not_or (p x) _

  pub every_append : (l m : List A) → every p (l ++ m) ≡ every p l && every p m
  unfolding every
  every_append l m =
      let fails : A → Bool = λ (x : A). not (p x) in
      ap not (any_append fails l m) ∙ not_or (any fails l) (any fails m)

  -- another test that every element passes that passes this one
  pub every_weaken : (q : A → Bool) → ((x : A) → p x ≡ true → q x ≡ true) → (l : List A) → every p l ≡ true → every q l ≡ true
  unfolding every any
  every_weaken q h [] e = refl
  every_weaken q h (x ∷ l) e =
      let f : p x && every p l ≡ true = sym (every_cons x l) ∙ e in
      not_not_or (q x) _ ∙ rw (h x (and_both (p x) _ f).0, every_weaken q h l (and_both (p x) _ f).1) refl

pub every_map : {A B : Type 0} (p : B → Bool) (f : A → B) (l : List A) → every p (map f l) ≡ every (λ (x : A). p (f x)) l
unfolding every any
every_map p f [] = refl
every_map {A} p f (x ∷ l) = every_cons p (f x) (map f l) ∙ rw (every_map p f l) (sym (every_cons (λ (y : A). p (f y)) x l))

-- ---- lastly
-- the last element of a list, and those before it
pub record Ending {A : Type 0} (p : A → Bool) (l : List A) : Type 0 where
  pub before : List A
  pub end : A
  pub parts : l ≡ before ++ (end ∷ [])
  pub passes : p end ≡ true

module _ {A : Type 0} (p : A → Bool) where
  -- the last one is the one that was added
  pub lastly_snoc : (l : List A) (x : A) → lastly p (l ++ (x ∷ [])) ≡ p x
  unfolding lastly
  lastly_snoc [] x = refl
  lastly_snoc (y ∷ []) x = refl
  lastly_snoc (y ∷ z ∷ l) x = lastly_snoc (z ∷ l) x

  -- where the last one passes, the list ends in one that does
  pub ending : (l : List A) → lastly p l ≡ true → Ending p l
  unfolding lastly
  ending [] e = absurd (false≢true e)
  ending (x ∷ []) e = record { before = []; end = x; parts = refl; passes = e }
  ending (x ∷ y ∷ l) e =
      let rest = ending (y ∷ l) e in
      record { before = x ∷ rest.before; end = rest.end; parts = ap (λ (k : List A). x ∷ k) rest.parts; passes = rest.passes }

  -- the last of the first n, by its place
  pub lastly_take : (l : List A) (n k : ℕ) (d : A) → length (take n l) ≡ suc k → lastly p (take n l) ≡ p (get_or l k d)
  unfolding lastly
  lastly_take l zero k d e = absurd (omega arith)
  lastly_take [] (suc n) k d e = absurd (omega arith)
  lastly_take (x ∷ l) (suc zero) k d e = let z : k ≡ 0 = omega arith in rw z refl
  lastly_take (x ∷ []) (suc (suc n)) k d e = let z : k ≡ 0 = omega arith in rw z refl
  lastly_take (x ∷ y ∷ l) (suc (suc n)) zero d e = absurd (omega arith)
  lastly_take (x ∷ y ∷ l) (suc (suc n)) (suc k) d e = lastly_take (y ∷ l) (suc n) k d (omega arith)

-- where some element passes, the first that does passes
pub first_passes : {A : Type 0} (p : A → Bool) (l : List A) (d : A) → any p l ≡ true → p (get_or l (first p l) d) ≡ true
unfolding any first
first_passes p [] d e = absurd (false≢true e)
first_passes p (x ∷ l) d e = by_test (p x) refl e (first_passes p l d)
  where
    by_test : (b : Bool) →
        p x ≡ b → b || any p l ≡ true → (any p l ≡ true → p (get_or l (first p l) d) ≡ true) → p (get_or (x ∷ l) (cond b 0 (suc (first p l))) d) ≡ true
    by_test true q f next = q
    by_test false q f next = next f

-- where every one of the first n passes, so does each of them
pub every_at : {A : Type 0} (p : A → Bool) (l : List A) (i n : ℕ) (d : A) → every p (take n l) ≡ true → i < n → i < length l → p (get_or l i d) ≡ true
every_at {A} p l i n d e h k = by_test (p (get_or l i d)) refl
  where
    by_test : (b : Bool) → p (get_or l i d) ≡ b → b ≡ true
    by_test true q = refl
    by_test false q = absurd (false≢true (sym (every_false p (take n l) (any_found (λ (x : A). not (p x)) l i n d h k (ap not q))) ∙ e))

-- what a search through a whole list has found, none having passed before
pub found_at : {A : Type 0} (p : A → Bool) (l : List A) (i : ℕ) (d : A) →
    any p (take i l) ≡ false → i < length l → p (get_or l i d) ≡ true → cond (any p l) (Some (first p l)) None ≡ Some i
found_at p l i d e h f =
    let whole : take (length l) l ≡ l = take_all (length l) l (omega arith) in
    let some : any p l ≡ true = ap (any p) (sym whole) ∙ any_found p l i (length l) d h h f in
    let at : first p l ≡ i = ap (first p) (sym whole) ∙ first_found p l i (length l) d e h h f in
    rw (some, at) refl

-- and that none has passed, at its end
pub none_found : {A : Type 0} (p : A → Bool) (l : List A) (i : ℕ) → any p (take i l) ≡ false → length l ≤ i → cond (any p l) (Some (first p l)) None ≡ None
none_found p l i e h = let none : any p l ≡ false = ap (any p) (sym (take_all i l h)) ∙ e in rw none refl

-- ---- the library's words for the same
pub any-list : {A : Type 0} (p : A → Bool) (l : List A) → any p l ≡ list_any p l
unfolding any
any-list p [] = refl
any-list p (x ∷ l) = rw (any-list p l) refl

not_any_not : {A : Type 0} (p : A → Bool) (l : List A) → not (list_any (λ (x : A). not (p x)) l) ≡ list_all p l
not_any_not p [] = refl
not_any_not p (x ∷ l) = not_not_or (p x) _ ∙ rw (not_any_not p l) refl

pub every-list : {A : Type 0} (p : A → Bool) (l : List A) → every p l ≡ list_all p l
unfolding every
every-list {A} p l = rw (any-list (λ (x : A). not (p x)) l) (not_any_not p l)

-- the place of the first that passes, counted from a number on
first_from : {A : Type 0} (p : A → Bool) (i : ℕ) (l : List A) → cond (any p l) (Some (first p l + i)) None ≡ position_from p i l
unfolding any first
first_from p i [] = refl
first_from p i (x ∷ l) = by_test (p x) (first_from p (i + 1) l)
  where
    by_test : (b : Bool) → cond (any p l) (Some (first p l + (i + 1))) None ≡ position_from p (i + 1) l →
        cond (b || any p l) (Some (cond b 0 (suc (first p l)) + i)) None ≡ cond b (Some i) (position_from p (i + 1) l)
    by_test true e = ap Some (omega arith)
    by_test false e = ap (λ (n : ℕ). cond (any p l) (Some n) None) (omega arith) ∙ e

-- where the first that passes stands is where the library says that it does
pub first-position : {A : Type 0} (p : A → Bool) (l : List A) → cond (any p l) (Some (first p l)) None ≡ position p l
first-position p l = ap (λ (n : ℕ). cond (any p l) (Some n) None) (omega arith) ∙ (first_from p 0 l ∙ sym (position_from-zero p l))
