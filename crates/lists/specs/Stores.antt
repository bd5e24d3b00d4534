-- Stores into a buffer. Nothing here is about networks.
use Rattle.std.specs.Prelude.{ℕ, ◌+◌, ◌≡◌, List, length}
use Rattle.std.proofs.lemmas.List.Edits.{sets}

-- a run of elements was stored into a buffer from a place on: the place after the run, and the buffer after it
pub record Stored {A : Type 0} (before : List A) (at : ℕ) (run : List A) (next : ℕ) (after : List A) : Type 0 where
  pub place : next ≡ at + length run
  pub buffer : after ≡ sets before at run
