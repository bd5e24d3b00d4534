-- The sheets of the examples E1 to E12, E18 and E19 of docs/RULES.md, and what a proof has to open that computes with a sheet. What each example
-- gives is `bench`, in the crate `demands`.
use Rattle.std.specs.Prelude.{ℕ, List, [], ◌∷◌, ◌++◌}
use Rattle.lists.specs.Lists.{any, lastly}
use Rattle.fields.specs.Fields.{holds, measured, front, onto, past, rows}
use Rattle.settings.specs.Settings.{blank_network, blank_settings, used}
use Rattle.entries.specs.Entries.{layout_of, byte_entry, times_entry, whole_entry, field_entry}
use Rattle.entries.specs.Grammar.{opens_with, takes_relation, on_relation, add_relation, opens, begun, add_controller, add_transceiver, add_times}
use Rattle.entries.specs.Grammar.{add_threshold, add_partial, on_controller, on_transceiver, on_times, on_threshold, on_partial, fills}
use Rattle.sheet.specs.declared.Reading.{Reading}
use Rattle.sheet.specs.Reading.{pushed, amended, first_zero, refused_at, closed, after_opening, after_filling, sheet, read_from, decode}

-- E1 to E12: the sheet of these examples: handle 7, controller 3, times 2, 5 and 3, threshold 1, no transceiver, no partial networking
abbrev pub bench_sheet : List ℕ
bench_sheet =
    0x01 ∷ 0 ∷ 1 ∷ 7
    ∷ 0x02 ∷ 0 ∷ 1 ∷ 3
    ∷ 0x04 ∷ 0 ∷ 6 ∷ 0 ∷ 2 ∷ 0 ∷ 5 ∷ 0 ∷ 3
    ∷ 0x05 ∷ 0 ∷ 1 ∷ 1
    ∷ 0x06 ∷ 0 ∷ 1 ∷ 0 ∷ []

-- E18, E19: the same with field 07 behind it
abbrev pub newer_sheet : List ℕ
newer_sheet = bench_sheet ++ (0x07 ∷ 0 ∷ 1 ∷ 1 ∷ [])

-- what a sheet says, with all open that it takes to compute it: `unfolding` of this name opens what stands on its line
unfoldable pub computed_reading : List ℕ → Reading
unfolding any lastly holds measured front onto past rows blank_network blank_settings used layout_of byte_entry times_entry whole_entry field_entry opens_with
    takes_relation on_relation add_relation opens begun add_controller add_transceiver add_times add_threshold add_partial on_controller on_transceiver on_times
    on_threshold on_partial fills pushed amended first_zero refused_at closed after_opening after_filling sheet read_from
computed_reading l = decode l
