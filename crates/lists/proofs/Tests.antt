-- Tests taken apart: what holds of both branches holds of what the test picks.
use Rattle.lists.proofs.Basics.{◌≡◌, refl, Bool, true, false, cond}

-- each branch may use how the test came out
pub split : {A : Type 0} (P : A → Type 0) (b : Bool) {x y : A} → (b ≡ true → P x) → (b ≡ false → P y) → P (cond b x y)
split P true p q = p refl
split P false p q = q refl
