-- Laws that the proofs of the functions cite, each in the shape that the code has.
use Rattle.std.specs.Prelude.{Ok, Err}
use Rattle.lists.proofs.Basics.{ℕ, ◌≡◌, refl, List, Bool, true, false, cond, leb, length}
use Rattle.sheet.specs.Encode.{encode}
use Rattle.sheet.specs.Writing.{written}
use Rattle.slots.specs.declared.CallRefusal.{CallRefusal}
use Rattle.slots.specs.declared.Manager.{Manager}
use Rattle.slots.specs.Manager.{settings_of, refused, accepted}
use Rattle.slots.specs.Calls.{after_writing, writing_of}

-- the writer's answer, by the room that it has
pub written_in_room : (m : Manager) (b : List ℕ) → after_writing m (written (settings_of m) b) ≡ writing_of m (length b)
unfolding written writing_of
written_in_room m b = by_room (leb (length (encode (settings_of m))) (length b))
  where
    by_room : (fits : Bool) → after_writing m (cond fits (Ok (length (encode (settings_of m)))) (Err (record {})))
        ≡ cond fits (accepted m (length (encode (settings_of m)))) (refused m CallRefusal.TooShort)
    by_room true = refl
    by_room false = refl
