-- Laws that the proofs of the functions cite, each in the shape that the code has.
use Rattle.lists.proofs.Basics.{◌≡◌, refl, Bool, true, false, cond}
use Rattle.std.specs.Prelude.{None, Some}
use Rattle.std.specs.Bool.{then_some}

-- ---- hit_of and stall_of
pub then_some-cond : {A : Type 0} (b : Bool) (x : A) → then_some b x ≡ cond b (Some x) None
then_some-cond true x = refl
then_some-cond false x = refl
