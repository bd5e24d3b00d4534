-- A lent buffer with its filled part, and what appending to it does.
use Rattle.std.specs.Prelude.{ℕ, ◌+◌, ◌≤◌, ◌≡◌, List, length}
use Rattle.lists.specs.Stores.{Stored}
use Rattle.text.specs.declared.Line.{Line}

-- there is room for so many bytes after the filled part
abbrev pub HasRoom : Line → ℕ → Type 0
HasRoom line more = line.length + more ≤ length line.bytes.now

-- a run was appended: it is stored after the filled part of the same buffer, and the filled part ends after it
pub record Appended (before : Line) (run : List ℕ) (after : Line) : Type 0 where
  pub same : after.bytes.ghost_name ≡ before.bytes.ghost_name
  pub size : length after.bytes.now ≡ length before.bytes.now
  pub stored : Stored before.bytes.now before.length run after.length after.bytes.now
