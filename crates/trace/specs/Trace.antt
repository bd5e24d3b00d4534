-- The lines of an input: what one call of the library gives, and the whole output. The rules C1, C6, C15 to C17 and C21 of docs/RULES.md.
use Rattle.std.specs.Prelude.{ℕ, ◌+◌, ◌<◌, ◌≤◌, ◌≡◌, cond, eqb, ltb, length, take, drop}
use mathlib.Core.List.{List, [], ◌∷◌, ◌++◌, flatten}
use Rattle.lists.specs.Stores.{Stored}
use Rattle.fields.specs.Fields.{Row, stop, stub, overrun, field, front, row_at, next_of}
use Rattle.slots.specs.declared.Manager.{Manager}
use Rattle.slots.specs.declared.Outcome.{Outcome}
use Rattle.slots.specs.Manager.{answer_number}
use Rattle.slots.specs.Calls.{read, start, new_manager, outcome}
use Rattle.trace.specs.declared.Event.{Event}
use Rattle.trace.specs.declared.Item.{Item}
use Rattle.trace.specs.declared.Point.{Point}
use Rattle.trace.specs.Splitting.{events_from}
use Rattle.trace.specs.Events.{item_of, item_at, call_of}
use Rattle.trace.specs.Lines.{config_line, stop_line, event_line, too_long}

-- ---- where a run stands

-- the point after a line: the next line has the next number
abbrev pub moved : Point → Manager → ℕ → ℕ → Point
moved p manager next length = record { manager = manager; next = next; number = p.number + 1; length = length }

-- the same point with an empty block
abbrev pub emptied : Point → Point
emptied p = record { manager = p.manager; next = p.next; number = p.number; length = 0 }

-- ---- one line

-- a line in a block, from a place on: the point after it, its bytes, and that there are no more of them than the longest line has
pub record Tells (q : Point) (text : List ℕ) (at : ℕ) (r : Point) (before after : List ℕ) : Type 0 where
  pub point : r ≡ q
  pub line : Stored before at text r.length after
  pub room : r.length ≤ at + 601

-- C17, C21: the end gives no bytes, a bad field `stop` and its place, an event its numbered line
abbrev pub item_line : ℕ → Manager → ℕ → Item → List ℕ
item_line number m at Item.End = []
item_line number m at Item.Bad = stop_line at
item_line number m at (Item.Known event) = event_line number m event

-- C6: the manager after it; only an event is a call
abbrev pub item_manager : Manager → Item → Manager
item_manager m Item.End = m
item_manager m Item.Bad = m
item_manager m (Item.Known event) = (outcome m (call_of event)).manager

-- C21: after a `stop` nothing is left
abbrev pub item_next : ℕ → ℕ → Item → ℕ
item_next total next Item.End = total
item_next total next Item.Bad = total
item_next total next (Item.Known event) = next

-- the line of what stands at a point's place
abbrev pub line_of : Point → Item → List ℕ
line_of p item = item_line p.number p.manager p.next item

-- the point after it, where the next place is known
abbrev pub point_past : Point → Item → ℕ → Point
point_past p item next = moved p (item_manager p.manager item) next (p.length + length (line_of p item))

-- what its line leaves, where the block was `before` and is `after`
abbrev pub TellsItem : Point → Item → ℕ → Point → List ℕ → List ℕ → Type 0
TellsItem p item next r before after = Tells (point_past p item next) (line_of p item) p.length r before after

-- the place after the event; the input's length where no event stands there, so that no line follows
unfoldable pub next_at : List ℕ → ℕ → ℕ
next_at s at = item_next (length s) (next_of (front at (drop at s)) at) (item_at (row_at s at))

-- the next line of an input, from a point on
unfoldable pub line_at : List ℕ → Point → List ℕ
line_at s p = line_of p (item_at (row_at s p.next))

-- the point after it
unfoldable pub point_after : List ℕ → Point → Point
point_after s p = point_past p (item_at (row_at s p.next)) (next_at s p.next)

-- what the next line leaves, where the block was `before` and is `after`
abbrev pub TellsAt : List ℕ → Point → Point → List ℕ → List ℕ → Type 0
TellsAt s p r before after = Tells (point_after s p) (line_at s p) p.length r before after

-- ---- the first line

-- C6: the reading of the sheet, by a new manager
unfoldable pub reading_of : List ℕ → Outcome
reading_of s = outcome new_manager (read (take (events_from s 0) s))

-- R1: one of two, by whether the reading was accepted
abbrev pub by_reading : {A : Type 0} → Outcome → A → A → A
by_reading o accepted refused = cond (eqb (answer_number o.answer) 0) accepted refused

-- C15, C16: with answer 0 the number of networks is shown, with a refusal its place
unfoldable pub first_line : List ℕ → List ℕ
first_line s = config_line (answer_number (reading_of s).answer) (by_reading (reading_of s) (reading_of s).count (reading_of s).place)

-- C6: the manager that has read the sheet and was started
unfoldable pub first_manager : List ℕ → Manager
first_manager s = (outcome (reading_of s).manager start).manager

-- C16: the first event's place; after a refused sheet no line follows
unfoldable pub first_next : List ℕ → ℕ
first_next s = by_reading (reading_of s) (events_from s 0) (length s)

-- the point after it: the lines of events are numbered from 1
unfoldable pub first_point : List ℕ → Point
first_point s = record { manager = first_manager s; next = first_next s; number = 1; length = length (first_line s) }

-- what the first line leaves, where the block was `before` and is `after`
abbrev pub TellsFirst : List ℕ → Point → List ℕ → List ℕ → Type 0
TellsFirst s r before after = Tells (first_point s) (first_line s) 0 r before after

-- ---- the whole output

-- an event comes before those of the rest; nothing after a bad field is an event
abbrev pub decoded_item : Item → List Event → List Event
decoded_item Item.End rest = []
decoded_item Item.Bad rest = []
decoded_item (Item.Known event) rest = event ∷ rest

-- the events of a row, to the first bad field or the end
unfoldable pub decoded : Row → List Event
decoded (stop at) = []
decoded (stub at tag) = []
decoded (overrun at tag n) = []
decoded (field at tag v rest) = decoded_item (item_of tag v) (decoded rest)

-- C21: a bad field ends the output with its place; after an event it is the ending of the rest
abbrev pub ending_item : ℕ → Item → List (List ℕ) → List (List ℕ)
ending_item at Item.End rest = []
ending_item at Item.Bad rest = stop_line at ∷ []
ending_item at (Item.Known event) rest = rest

-- C21: the last line, where the row has a bad field
unfoldable pub ending : Row → List (List ℕ)
ending (stop at) = []
ending (stub at tag) = stop_line at ∷ []
ending (overrun at tag n) = stop_line at ∷ []
ending (field at tag v rest) = ending_item at (item_of tag v) (ending rest)

-- C6, C17: the events one after the other: a line each, numbered, each on the manager that the one before left
unfoldable pub run_lines : ℕ → Manager → List Event → List (List ℕ)
run_lines number m [] = []
run_lines number m (event ∷ events) = event_line number m event ∷ run_lines (number + 1) (outcome m (call_of event)).manager events

-- C17, C21: the lines of the events, and `stop` after them where a field is bad
unfoldable pub event_lines : ℕ → Manager → Row → List (List ℕ)
event_lines number m row = run_lines number m (decoded row) ++ ending row

-- C16: the lines after the first; there is none after a refused sheet
unfoldable pub lines_after : List ℕ → List (List ℕ)
lines_after s = by_reading (reading_of s) (event_lines 1 (first_manager s) (row_at s (events_from s 0))) []

-- C1: the whole output for an input
unfoldable pub trace_of : List ℕ → List (List ℕ)
trace_of s = cond (ltb 65536 (length s)) (too_long ∷ []) (first_line s ∷ lines_after s)

-- the bytes of the lines, one after the other
unfoldable pub output_of : List ℕ → List ℕ
output_of s = flatten (trace_of s)

-- ---- block by block

-- the lines that are still to come, from a point on
unfoldable pub left : List ℕ → Point → List (List ℕ)
left s p = event_lines p.number p.manager (row_at s p.next)

-- the lines from a point on, into a block with so much room: one more while the input has more and there is room for the longest line
pub data Fills (s : List ℕ) (room : ℕ) : Point → List (List ℕ) → Point → Type 0 where
  over : (p : Point) → length s ≤ p.next → Fills s room p [] p
  full : (p : Point) → p.next < length s → room < p.length + 601 → Fills s room p [] p
  more : (p : Point) (lines : List (List ℕ)) (q : Point) → p.next < length s → p.length + 601 ≤ room
      → Fills s room (point_after s p) lines q → Fills s room p (line_at s p ∷ lines) q

-- a block that was filled from a point on: whole lines, their bytes after those that it held, later bytes as they were, and all within it
pub record Filled (s : List ℕ) (p r : Point) (before after : List ℕ) : Type 0 where
  pub lines : List (List ℕ)
  pub fills : Fills s (length before) p lines r
  pub stored : Stored before p.length (flatten lines) r.length after
  pub within : r.length ≤ length before

-- bytes that come next in the output of an input, after so many of it
abbrev pub Next : List ℕ → ℕ → List ℕ → Type 0
Next s written part = take (length part) (drop written (output_of s)) ≡ part
