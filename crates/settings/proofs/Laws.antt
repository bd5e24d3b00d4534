-- Who has an id: an id is used where somebody has it.
use Rattle.std.specs.Prelude.{Some, None, is_some}
use Rattle.lists.proofs.Basics.{ℕ, ◌≡◌, List, Bool, true, false, cond, refl}
use Rattle.lists.specs.Lists.{any, first}
use Rattle.settings.specs.declared.Network.{Network}
use Rattle.settings.specs.declared.Id.{Id}
use Rattle.settings.specs.Settings.{has, used, holder_of}

by_test : (b : Bool) (i : ℕ) → is_some (cond b (Some i) None) ≡ b
by_test true i = refl
by_test false i = refl

pub used-held : (id : Id) (l : List Network) → is_some (holder_of id l) ≡ used id l
unfolding used holder_of
used-held id l = by_test (any (has id) l) (first (has id) l)
