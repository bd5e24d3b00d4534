-- Records that are handed out one after the other.
use Rattle.lists.proofs.Basics.{ℕ, ◌+◌, ◌<◌, refl, ◌∙◌, List, [], ◌∷◌, ◌++◌, map, map-append, length, take, get_or}
use Rattle.lists.proofs.Stores.{run_more}
use Rattle.records.specs.declared.Record.{Record}
use Rattle.records.specs.declared.Tray.{Tray}
use Rattle.records.specs.Tray.{Handed}
use Rattle.records.proofs.Laws.{wrote_none, wrote_then}

pub handed_none : (a : Tray) → Handed a [] a
handed_none a = record { same = refl; size = refl; wrote = wrote_none _ _ }

-- one after the other
pub handed_then : {a b c : Tray} {xs ys : List Record} → Handed a xs b → Handed b ys c → Handed a (xs ++ ys) c
handed_then s t = record { same = t.same ∙ s.same; size = t.size ∙ s.size; wrote = wrote_then s.wrote t.wrote }

-- a record for one element more
pub handed_more : {A : Type 0} {a b c : Tray} (f : A → Record) (l : List A) (i : ℕ) (d : A) → i < length l
    → Handed a (map f (take i l)) b → Handed b (f (get_or l i d) ∷ []) c → Handed a (map f (take (i + 1) l)) c
handed_more f l i d h s t = rw (run_more (map f) (map-append f) l i d h) (handed_then s t)
