-- The lines that `cantrace` writes: the rules C1 and C15 to C21 of docs/RULES.md. The codes are ASCII.
use Rattle.std.specs.Prelude.{ℕ, List, [], ◌∷◌, ◌++◌, Bool, true, false, cond}
use Rattle.text.specs.Text.{blank, newline, decimal, records_text}
use Rattle.records.specs.declared.Record.{Record}
use Rattle.slots.specs.declared.Manager.{Manager}
use Rattle.slots.specs.Calls.{Call, read, write, start, request, poll, bus_off, stall, answer, transceiver_mode, clear_done, check_done, tick, listen}
use Rattle.calls.specs.Histories.{Entry, entry_of}
use Rattle.trace.specs.declared.Event.{Event}
use Rattle.trace.specs.Events.{call_of}

-- c, o, n, f, i, g and a blank: what stands before the answer
abbrev pub config_word : List ℕ
config_word = 99 ∷ 111 ∷ 110 ∷ 102 ∷ 105 ∷ 103 ∷ 32 ∷ []

-- s, t, o, p and a blank: what stands before the offset
abbrev pub stop_word : List ℕ
stop_word = 115 ∷ 116 ∷ 111 ∷ 112 ∷ 32 ∷ []

-- C1: the line for an input that is too long, with its end
abbrev pub too_long : List ℕ
too_long = 116 ∷ 111 ∷ 111 ∷ 32 ∷ 108 ∷ 111 ∷ 110 ∷ 103 ∷ 10 ∷ []

-- C15, C16: the first line, with the answer to the sheet and what is shown beside it
unfoldable pub config_line : ℕ → ℕ → List ℕ
config_line number shown = config_word ++ (decimal number ++ (blank ∷ (decimal shown ++ (newline ∷ []))))

-- C21: the last line, with the place of a bad field
unfoldable pub stop_line : ℕ → List ℕ
stop_line at = stop_word ++ (decimal at ++ (newline ∷ []))

-- a poll, whose line has a mode in place of records
abbrev pub polls : Call → Bool
polls (read bytes) = false
polls (write room) = false
polls start = false
polls (request handle mode) = false
polls (poll handle) = true
polls (bus_off controller room) = false
polls (stall handle room) = false
polls (answer controller mode ok) = false
polls (transceiver_mode transceiver mode) = false
polls (clear_done transceiver) = false
polls (check_done transceiver) = false
polls (tick room) = false
polls (listen value room) = false

-- C18, C19: what follows the answer: the records, or of a poll its mode
unfoldable pub said_of : Bool → ℕ → List Record → List ℕ
said_of polled mode records = cond polled (blank ∷ decimal mode) (records_text records)

-- C17: the line of an entry of a history: its number, the answer, and what follows
unfoldable pub entry_line : ℕ → Entry → List ℕ
entry_line number e =
    decimal number ++ (blank ∷ (decimal e.number ++ (said_of (polls e.call) e.mode e.records ++ (newline ∷ []))))

-- the line of an event is that of the call that it is
unfoldable pub event_line : ℕ → Manager → Event → List ℕ
event_line number m event = entry_line number (entry_of m (call_of event))
