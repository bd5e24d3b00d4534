-- What a writer does to its buffer.
use Rattle.std.specs.Prelude.{ℕ, ◌+◌, ◌≤◌, ◌≡◌, List, length}
use Rattle.lists.specs.Stores.{Stored}
use Rattle.writing.specs.declared.Writer.{Writer}

-- there is room for so many bytes
abbrev pub Room : Writer → ℕ → Type 0
Room w n = w.place + n ≤ length w.buffer.now

-- a run of bytes was stored from the place of a writer on, and the writer stands behind it, in the same buffer, which is as long as it was
pub record Puts (before : Writer) (run : List ℕ) (after : Writer) : Type 0 where
  pub stored : Stored before.buffer.now before.place run after.place after.buffer.now
  pub same : after.buffer.ghost_name ≡ before.buffer.ghost_name
  pub kept : length after.buffer.now ≡ length before.buffer.now
