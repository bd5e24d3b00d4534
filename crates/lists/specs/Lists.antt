-- Definitions on lists that several crates need. Nothing here is about networks.
use Rattle.std.specs.Prelude.{ℕ, suc, ◌-◌, ◌<◌, List, [], ◌∷◌, ◌++◌, Bool, false, cond, not, ◌||◌, length, replicate}

-- some element passes the test
unfoldable pub any : {A : Type 0} → (A → Bool) → List A → Bool
any p [] = false
any p (x ∷ l) = p x || any p l

-- every element passes the test: none fails it
unfoldable pub every : {A : Type 0} → (A → Bool) → List A → Bool
every {A} p l = not (any (λ (x : A). not (p x)) l)

-- the last element passes the test; there is one
unfoldable pub lastly : {A : Type 0} → (A → Bool) → List A → Bool
lastly p [] = false
lastly p (x ∷ []) = p x
lastly p (x ∷ y ∷ l) = lastly p (y ∷ l)

-- how many elements stand before the first that passes the test
unfoldable pub first : {A : Type 0} → (A → Bool) → List A → ℕ
first p [] = 0
first p (x ∷ l) = cond (p x) 0 (suc (first p l))

-- a list, filled up to n elements with the blank one
abbrev pub padded : {A : Type 0} → ℕ → A → List A → List A
padded n blank l = l ++ replicate (n - length l) blank

-- numbers that are bytes
unfoldable pub Bytes : List ℕ → Type 0
Bytes [] = Unit
Bytes (x ∷ l) = (x < 256) × Bytes l
