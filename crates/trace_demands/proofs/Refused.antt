-- C16: what `cantrace` writes for a recording whose sheet is refused: one line, and its place points at what has to be mended.
use Rattle.lists.proofs.Basics.{ℕ, ◌≤◌, le-ltb, ◌≡◌, refl, List, [], ◌∷◌, length, take}
use Rattle.std.specs.Prelude.{Err}
use Rattle.slots.specs.declared.CallRefusal.{CallRefusal}
use Rattle.entries.specs.declared.Fault.{Fault}
use Rattle.entries.specs.Entries.{fault_number}
use Rattle.sheet.specs.Pointing.{Points}
use Rattle.slots.specs.Calls.{new_manager}
use Rattle.manager_theorems.proofs.Places.{read_points}
use Rattle.trace.specs.Lines.{config_line}
use Rattle.trace.specs.Splitting.{events_from}
use Rattle.trace.proofs.Telling.{refusal_numbered}
use Rattle.trace.specs.Trace.{reading_of, first_line, lines_after, trace_of}

module _ (s : List ℕ) (fault : Fault) (refused : (reading_of s).answer ≡ Err (CallRefusal.Sheet fault)) where
  -- the whole output is one line, with the number of the refusal and a place
  pub refused_line : length s ≤ 65536 → trace_of s ≡ config_line (fault_number fault) (reading_of s).place ∷ []
  unfolding trace_of lines_after first_line
  refused_line few = rw (le-ltb 65536 (length s) few, refused, refusal_numbered (CallRefusal.Sheet fault)) refl

  -- in the sheet, which is the front of the recording, the place points at what the refusal says
  pub refused_line_points : Points fault (take (events_from s 0) s) (reading_of s).place
  unfolding reading_of
  refused_line_points = read_points new_manager (take (events_from s 0) s) fault refused
