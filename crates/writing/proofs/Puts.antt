-- Runs that a writer stores, one after the other.
use Rattle.lists.proofs.Basics.{ℕ, ◌+◌, ◌<◌, ◌≡◌, refl, ◌∙◌, List, [], ◌∷◌, ◌++◌, length, get_or, take}
use Rattle.lists.proofs.Stores.{stored_none, stored_then, stored_more}
use Rattle.writing.specs.declared.Writer.{Writer}
use Rattle.writing.specs.Writer.{Puts}

pub puts_none : (w : Writer) → Puts w [] w
puts_none w = record { stored = stored_none _ _; same = refl; kept = refl }

-- a run right after another
pub puts_then : {a b c : Writer} {vs ws : List ℕ} → Puts a vs b → Puts b ws c → Puts a (vs ++ ws) c
puts_then s t = record { stored = stored_then s.stored t.stored; same = t.same ∙ s.same; kept = t.kept ∙ s.kept }

-- a list as a run: a run for each element, one after the other
pub puts_more : {A : Type 0} {a b c : Writer} (run : List A → List ℕ) (run-append : (l m : List A) → run (l ++ m) ≡ run l ++ run m)
    (l : List A) (i : ℕ) (d : A) → i < length l → Puts a (run (take i l)) b → Puts b (run (get_or l i d ∷ [])) c → Puts a (run (take (i + 1) l)) c
puts_more run run-append l i d h s t = record { stored = stored_more run run-append l i d h s.stored t.stored; same = t.same ∙ s.same; kept = t.kept ∙ s.kept }
