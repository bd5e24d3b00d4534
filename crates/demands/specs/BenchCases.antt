-- The examples E1 to E12, E18 and E19 of docs/RULES.md, by computation on the definitions: one list, one statement. While ticks are counted full is
-- wanted, an ok answers every request before the tick that follows it, and there is no bus-off but those of the example.
use Rattle.std.specs.Prelude.{ℕ, ◌≡◌, refl, List, [], ◌∷◌, ◌++◌, map, take, drop, set}
use Rattle.sheet.specs.Bench.{bench_sheet, newer_sheet}
use Rattle.records.specs.declared.Record.{Record}
use Rattle.records.specs.Records.{handed}
use Rattle.slots.specs.declared.Manager.{Manager}
use Rattle.slots.specs.declared.Outcome.{Outcome}
use Rattle.slots.specs.Manager.{answer_number}
use Rattle.slots.specs.Calls.{Call, read, start, request, poll, bus_off, answer, tick, new_manager, outcome, handed_out, run}
use Rattle.calls.specs.Computed.{computed_outcome}

-- what a call gives: its number, count, polled mode, place, and the records that it hands out
pub record Seen : Type 0 where
  pub number : ℕ
  pub count : ℕ
  pub mode : ℕ
  pub place : ℕ
  pub records : List Record

-- an outcome with its answer as a number, beside the records; the next manager is left out
abbrev pub seen_of : Outcome → List Record → Seen
seen_of o rs = record { number = answer_number o.answer; count = o.count; mode = o.mode; place = o.place; records = rs }

-- what each of the calls gives, one after the other
unfoldable pub seen : Manager → List Call → List Seen
seen m [] = []
seen m (c ∷ cs) = seen_of (outcome m c) (handed_out m c) ∷ seen (outcome m c).manager cs

-- calls that come before, on a new manager; the calls that are looked at, and what they give
pub record Case : Type 0 where
  pub before : List Call
  pub calls : List Call
  pub expected : List Seen

-- one bench case as one line of the list
abbrev case : List Call → List Call → List Seen → Case
case before calls expected = record { before = before; calls = calls; expected = expected }

-- a reading that is refused with a number at a place
abbrev refused_at_place : ℕ → ℕ → Seen
refused_at_place number place = record { number = number; count = 0; mode = 0; place = place; records = [] }

-- R5: an accepted reading of a sheet with one network and so many bytes
abbrev sheet_taken : ℕ → Seen
sheet_taken bytes = record { number = 0; count = 1; mode = 0; place = bytes; records = [] }

-- a refusal of any other call
abbrev refused_with : ℕ → Seen
refused_with number = record { number = number; count = 0; mode = 0; place = 0; records = [] }

-- accepted, and nothing is handed out: a controller's answer, or a tick that only counts
abbrev taken : Seen
taken = record { number = 0; count = 0; mode = 0; place = 0; records = [] }

-- accepted with one record: a request to the one controller, its TX offline, or 8 passed
abbrev taken_with : Record → Seen
taken_with r = record { number = 0; count = 1; mode = 0; place = 0; records = r ∷ [] }

-- accepted with three records, which fill the 9 lent bytes
abbrev taken_with_three : Record → Record → Record → Seen
taken_with_three r s t = record { number = 0; count = 3; mode = 0; place = 0; records = r ∷ s ∷ t ∷ [] }

-- the poll after the fourth tick of E9: the polled mode is 2, full
abbrev polled_full : Seen
polled_full = record { number = 0; count = 0; mode = 2; place = 0; records = [] }

-- T23: what enters full hands out, for controller 3 and handle 7
abbrev full_told : Seen
full_told = taken_with_three (handed 3 3 0) (handed 6 7 2) (handed 7 7 2)

-- B3: what a bus-off while up hands out, for handle 7
abbrev bus_off_told : Seen
bus_off_told = taken_with_three (handed 8 7 1) (handed 6 7 1) (handed 7 7 3)

-- ---- the calls

-- a tick with the bytes that it needs
abbrev ticks : Call
ticks = tick 9

-- the started manager goes down to step 0
abbrev pub down : List Call
down = ticks ∷ answer 3 0 1 ∷ ticks ∷ answer 3 2 1 ∷ ticks ∷ []

-- full is wanted, and told: step 4
abbrev pub up : List Call
up = request 7 2 ∷ ticks ∷ answer 3 0 1 ∷ ticks ∷ answer 3 1 1 ∷ ticks ∷ []

-- the bench sheet is read, the manager started, and the network has come to step 0: here E11 asks for silent
abbrev is_at_rest : List Call
is_at_rest = read bench_sheet ∷ start ∷ down

-- full was told on the last of these ticks: step 4 with tick count 0
abbrev in_step4 : List Call
in_step4 = is_at_rest ++ up

-- three ticks more, the ensure time
abbrev ensured : List Call
ensured = ticks ∷ ticks ∷ ticks ∷ []

-- with them passed was told: step 5, where E9 and E10 begin
abbrev in_step5 : List Call
in_step5 = in_step4 ++ ensured

-- a bus-off, and the network is restarted: step 7
abbrev back : List Call
back = bus_off 3 9 ∷ ticks ∷ answer 3 1 1 ∷ ticks ∷ []

-- what the calls of `back` give: the records of a bus-off, the request to start, an answer that is taken, TX offline
abbrev back_seen : List Seen
back_seen = bus_off_told ∷ taken_with (handed 1 3 1) ∷ taken ∷ taken_with (handed 3 3 1) ∷ []

-- E1 to E12, E18, E19: each with what the definitions give for it, and what is expected
abbrev pub bench_cases : List Case
bench_cases =
    -- E1: no bytes
    case [] (read [] ∷ []) (refused_at_place 0x38 0 ∷ [])
    -- E2: the sheet
    ∷ case [] (read bench_sheet ∷ []) (sheet_taken 25 ∷ [])
    -- E3: 24 bytes of it
    ∷ case [] (read (take 24 bench_sheet) ∷ []) (refused_at_place 0x30 21 ∷ [])
    -- E4: 21 bytes of it
    ∷ case [] (read (take 21 bench_sheet) ∷ []) (refused_at_place 0x30 21 ∷ [])
    -- E5: a short delay of 0, a long one of 0
    ∷ case [] (read (set bench_sheet 12 0) ∷ read (set bench_sheet 14 0) ∷ []) (refused_at_place 0x34 11 ∷ refused_at_place 0x34 13 ∷ [])
    -- E6: the field of the controller a second time
    ∷ case [] (read (take 8 bench_sheet ++ drop 4 bench_sheet) ∷ []) (refused_at_place 0x35 8 ∷ [])
    -- E7: the thresholds 254 and 255
    ∷ case [] (read (set bench_sheet 20 254) ∷ read (set bench_sheet 20 255) ∷ []) (sheet_taken 25 ∷ refused_at_place 0x34 20 ∷ [])
    -- E8: partial networking without a transceiver
    ∷ case [] (read (set bench_sheet 24 1) ∷ []) (refused_at_place 0x37 21 ∷ [])
    -- E9: one bus-off, with the short delay
    ∷ case in_step5 (back ++ (ticks ∷ ticks ∷ poll 7 ∷ [])) (back_seen ++ (taken ∷ full_told ∷ polled_full ∷ []))
    -- E9: another in the wait, with the long delay
    ∷ case (in_step5 ++ back) (back ++ (ticks ∷ ticks ∷ ticks ∷ ticks ∷ ticks ∷ [])) (back_seen ++ (taken ∷ taken ∷ taken ∷ taken ∷ full_told ∷ []))
    -- E10: an answer from before the request
    ∷ case in_step5 (bus_off 3 9 ∷ answer 3 1 1 ∷ []) (bus_off_told ∷ refused_with 0x22 ∷ [])
    -- E11: silent in step 0
    ∷ case is_at_rest (request 7 1 ∷ []) (refused_with 0x08 ∷ [])
    -- E12: ticks with 8 and with 9 bytes
    ∷ case (read bench_sheet ∷ start ∷ []) (tick 8 ∷ tick 9 ∷ []) (refused_with 0x20 ∷ taken_with (handed 1 3 0) ∷ [])
    -- E12: the ensure time
    ∷ case in_step4 ensured (taken ∷ taken ∷ taken_with (handed 8 7 0) ∷ [])
    -- E18: field 07 once, a second time, with the value 0, before field 06, and at the front
    ∷ case [] (read newer_sheet ∷ []) (sheet_taken 29 ∷ [])
    ∷ case [] (read (newer_sheet ++ drop 25 newer_sheet) ∷ []) (refused_at_place 0x33 29 ∷ [])
    ∷ case [] (read (set newer_sheet 28 0) ∷ []) (refused_at_place 0x34 28 ∷ [])
    ∷ case [] (read (take 21 bench_sheet ++ drop 25 newer_sheet) ∷ []) (refused_at_place 0x33 21 ∷ [])
    ∷ case [] (read (drop 25 newer_sheet) ∷ []) (refused_at_place 0x33 0 ∷ [])
    -- E19: one bus-off, which is as many as the threshold, with the long delay
    ∷ case (read newer_sheet ∷ start ∷ (down ++ (up ++ ensured))) (back ++ (ticks ∷ ticks ∷ ticks ∷ ticks ∷ ticks ∷ []))
    (back_seen ++ (taken ∷ taken ∷ taken ∷ taken ∷ full_told ∷ []))
    ∷ []

-- E1 to E12, E18, E19: the definitions give just what is expected
pub bench : map (λ (c : Case). seen (run new_manager c.before) c.calls) bench_cases ≡ map (λ (c : Case). c.expected) bench_cases
unfolding computed_outcome seen
bench = refl
