-- What `cantrace` writes for a recording, as the demands see it: each event is a call of the manager, each line is the entry of that call in a
-- history.
use Rattle.std.specs.Prelude.{ℕ, ◌+◌, ◌≤◌, ◌≡◌, List, [], ◌∷◌, ◌++◌, Bool, true, false, eqb, length, Ok}
use Rattle.lists.specs.Lists.{any}
use Rattle.fields.specs.Fields.{row_at}
use Rattle.slots.specs.declared.Manager.{Manager}
use Rattle.slots.specs.Calls.{outcome}
use Rattle.calls.specs.Histories.{Entry, entry_of, History, Since}
use Rattle.trace.specs.declared.Event.{Event}
use Rattle.trace.specs.Events.{call_of}
use Rattle.trace.specs.Lines.{polls, entry_line}
use Rattle.trace.specs.Splitting.{events_from}
use Rattle.trace.specs.Trace.{first_line, first_manager, decoded, ending, trace_of}
use Rattle.demands.specs.Demands.{Begun, paper_needs}

-- the lines of a history, numbered from 1: the latest entry, which is its first, has the last line
unfoldable pub history_lines : History → List (List ℕ)
history_lines [] = []
history_lines (e ∷ h) = history_lines h ++ (entry_line (length h + 1) e ∷ [])

-- the history after events that are run one after the other, on a manager with the history h
unfoldable pub history_after : Manager → History → List Event → History
history_after m h [] = h
history_after m h (e ∷ es) = history_after (outcome m (call_of e)).manager (entry_of m (call_of e) ∷ h) es

-- the manager after them
unfoldable pub manager_after : Manager → List Event → Manager
manager_after m [] = m
manager_after m (e ∷ es) = manager_after (outcome m (call_of e)).manager es

-- the events of a recording: from the split on, to the first bad field or the end
abbrev pub events_of : List ℕ → List Event
events_of s = decoded (row_at s (events_from s 0))

-- a recording whose sheet is taken: its manager was just started; its events, and the first of them to any place, are a history since the start; and
-- the output is the first line, the lines of that history, and `stop` where a field is bad
pub record Recorded (s : List ℕ) : Type 0 where
  pub begun : Begun (first_manager s)
  pub since : (es : List Event) → Since (first_manager s) (manager_after (first_manager s) es) (history_after (first_manager s) [] es)
  pub output : trace_of s ≡ first_line s ∷ (history_lines (history_after (first_manager s) [] (events_of s)) ++ ending (row_at s (events_from s 0)))

-- an entry with the answer 20: what its call was lent was too short
abbrev pub too_short : Entry → Bool
too_short e = eqb e.number 0x20

-- what a call of a recording is lent is room for any call: a tick needs no more, no entry of the history has the answer 20, and after any events a
-- tick is accepted
pub record HasRoom (s : List ℕ) : Type 0 where
  pub needs : paper_needs (first_manager s) ≤ 144
  pub not_short : (es : List Event) → any too_short (history_after (first_manager s) [] es) ≡ false
  pub ticks : (es : List Event) → (outcome (manager_after (first_manager s) es) (call_of Event.Tick)).answer ≡ Ok tt

-- two entries of one call that show the same: the answer, and the mode where the call is a poll, the records where it is none
pub record SameShown (e f : Entry) : Type 0 where
  pub answer : e.number ≡ f.number
  pub mode : polls e.call ≡ true → e.mode ≡ f.mode
  pub records : polls e.call ≡ false → e.records ≡ f.records
