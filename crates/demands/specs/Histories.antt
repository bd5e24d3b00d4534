-- Histories of the product in which the premises of demand 3 hold, all of them, by computation on the definitions: told full after the start, after a
-- short and after a long delay by either relation, with refused ticks in between, with a late answer, with two controllers, with a transceiver and
-- partial networking, of two networks, after a stall, and after faults that two chips report.
use Rattle.std.specs.Prelude.{ℕ, ◌+◌, ◌≡◌, refl, List, [], ◌∷◌, ◌++◌, Bool, true, false, set}
use Rattle.settings.specs.declared.Network.{Network}
use Rattle.sheet.specs.Bench.{bench_sheet, newer_sheet}
use Rattle.lists.specs.Lists.{any}
use Rattle.handing.specs.Handing.{targets_of, own_record}
use Rattle.slots.specs.declared.Manager.{Manager}
use Rattle.slots.specs.Manager.{network_at}
use Rattle.slots.specs.Calls.{Call, read, start, request, bus_off, stall, answer, transceiver_mode, clear_done, check_done, tick, new_manager, outcome}
use Rattle.slots.specs.Calls.{run}
use Rattle.calls.specs.Histories.{Entry, entry_of, History, Since, goes}
use Rattle.calls.specs.Computed.{computed_outcome}
use Rattle.network_demands.specs.Words.{since, tally, ticked, told_by, told, wanted, fell, shut, fell_up, restarting, falls, delay_at, struck}
use Rattle.network_demands.specs.Words.{granted, last_handed, granted_at_ticks, full_from, runs, first_running}
use Rattle.demands.specs.View.{keep, unturned, view_of, views_of}
use Rattle.demands.specs.BenchCases.{down, up}

-- the history of a list of calls, the first call first, after a history
unfoldable pub history_of : Manager → List Call → History → History
history_of m [] h = h
history_of m (c ∷ cs) h = history_of (outcome m c).manager cs (entry_of m c ∷ h)

-- with all open that it takes to compute one, and what the words of demand 3 say of it
unfoldable pub computed_history : Manager → List Call → History → History
unfolding computed_outcome history_of keep unturned targets_of own_record since tally told_by told wanted restarting falls runs first_running granted last_handed
    granted_at_ticks full_from
computed_history m cs h = history_of m cs h

-- it is one of the calls since the start
pub history_since : (m₀ m : Manager) (h : History) (cs : List Call) → Since m₀ m h → Since m₀ (run m cs) (history_of m cs h)
unfolding run history_of
history_since m₀ m h [] s = s
history_since m₀ m h (c ∷ cs) s = history_since m₀ (outcome m c).manager (entry_of m c ∷ h) cs (goes m h c s)

-- a new manager with a sheet, started
abbrev pub started_by : List ℕ → Manager
started_by sheet = run new_manager (read sheet ∷ start ∷ [])

-- the history of calls since then
abbrev pub lived : List ℕ → List Call → History
lived sheet cs = history_of (started_by sheet) cs []

-- the mode last told of the first network, after calls since the start of a manager with the sheet
abbrev told_after : List ℕ → List Call → ℕ
told_after sheet cs = told (network_at (started_by sheet) 0) (views_of (network_at (started_by sheet) 0) (lived sheet cs))

-- what demand 3 speaks of, in a history that is `after` a bus-off `b` after `earlier`: the premises, and what follows from them
pub record Summary : Type 0 where
  pub up_bus_off : Bool
  pub further_bus_off : Bool
  pub shutdown : Bool
  pub full_wanted : Bool
  pub granted : Bool
  pub struck : Bool
  pub first_running : ℕ
  pub told : ℕ
  pub ticks : ℕ
  pub due : ℕ

-- told is at the end of all; due is the delay of b plus two; all else but the first is of what is after b
abbrev summary_of : Network → History → Entry → History → Summary
summary_of n after b earlier =
    record {
      up_bus_off = fell_up n (view_of n b) (views_of n earlier);
      further_bus_off = any fell (views_of n after);
      shutdown = any (shut n) (views_of n after);
      full_wanted = full_from 1 (views_of n after) (views_of n (b ∷ earlier));
      granted = granted_at_ticks (views_of n after);
      struck = any Rattle.network_demands.specs.Words.struck (views_of n after);
      first_running = first_running n (views_of n after);
      told = Rattle.network_demands.specs.Words.told n (views_of n (after ++ (b ∷ earlier)));
      ticks = tally ticked (views_of n after);
      due = delay_at n (views_of n (b ∷ earlier)) + 2;
    }

-- of the network in a slot, since the start of a manager with the sheet: calls, a bus-off, and calls after it
abbrev summary_by : List ℕ → ℕ → List Call → Call → List Call → Summary
summary_by sheet slot before b after =
    let m = run (started_by sheet) before in
    summary_of (network_at (started_by sheet) slot) (history_of (outcome m b).manager after []) (entry_of m b) (lived sheet before)

-- a bus-off while up and good ticks since, but for whether each request is granted in time, with the first tick before which all run, the mode told,
-- the ticks and the tick that is due
abbrev calm_summary : Bool → ℕ → ℕ → ℕ → ℕ → Summary
calm_summary granted first_running told ticks due =
    record {
      up_bus_off = true;
      further_bus_off = false;
      shutdown = false;
      full_wanted = true;
      granted = granted;
      struck = false;
      first_running = first_running;
      told = told;
      ticks = ticks;
      due = due;
    }

-- with good ticks all run before the second
abbrev good_summary : ℕ → ℕ → ℕ → Summary
good_summary told ticks due = calm_summary true 2 told ticks due

-- the calls from the start to step 5: down to step 0, up to step 4, and the ensure time of three ticks
abbrev pub step5 : List Call
step5 = down ++ (up ++ (tick 9 ∷ tick 9 ∷ tick 9 ∷ []))

-- after a bus-off: the tick that asks controller 3 to start, its ok, and the tick that enters step 7
abbrev restarted : List Call
restarted = tick 9 ∷ answer 3 1 1 ∷ tick 9 ∷ []

-- ---- told full after the start
pub full_after_the_start : told_after bench_sheet (down ++ up) ≡ 2
unfolding computed_history
full_after_the_start = refl

-- ---- told full on the fourth tick after a bus-off, by the short delay, and not on the third
pub full_after_the_short_delay : summary_by bench_sheet 0 step5 (bus_off 3 9) (restarted ++ (tick 9 ∷ tick 9 ∷ [])) ≡ good_summary 2 4 4
unfolding computed_history
full_after_the_short_delay = refl

-- on the third tick after the bus-off silent is still told, where full is due on the fourth
pub not_full_before : summary_by bench_sheet 0 step5 (bus_off 3 9) (restarted ++ (tick 9 ∷ [])) ≡ good_summary 1 3 4
unfolding computed_history
not_full_before = refl

-- a tick that is refused, of 8 bytes, counts nowhere: one comes before each of the first ticks
pub full_with_refused_ticks :
    summary_by bench_sheet 0 step5 (bus_off 3 9) (tick 8 ∷ tick 9 ∷ answer 3 1 1 ∷ tick 8 ∷ tick 9 ∷ tick 8 ∷ tick 9 ∷ tick 9 ∷ []) ≡ good_summary 2 4 4
unfolding computed_history
full_with_refused_ticks = refl

-- ---- told full on the seventh tick after a second one, by the long delay
pub full_after_the_long_delay :
    summary_by bench_sheet 0 (step5 ++ (bus_off 3 9 ∷ restarted)) (bus_off 3 9) (restarted ++ (tick 9 ∷ tick 9 ∷ tick 9 ∷ tick 9 ∷ tick 9 ∷ []))
    ≡ good_summary 2 7 7
unfolding computed_history
full_after_the_long_delay = refl

-- ---- with field 07 one bus-off is as many as the threshold: told full on the seventh tick, by the long delay, and not on the fourth
pub full_at_the_threshold :
    summary_by newer_sheet 0 step5 (bus_off 3 9) (restarted ++ (tick 9 ∷ tick 9 ∷ tick 9 ∷ tick 9 ∷ tick 9 ∷ [])) ≡ good_summary 2 7 7
unfolding computed_history
full_at_the_threshold = refl

pub not_full_at_the_threshold : summary_by newer_sheet 0 step5 (bus_off 3 9) (restarted ++ (tick 9 ∷ tick 9 ∷ [])) ≡ good_summary 1 4 7
unfolding computed_history
not_full_at_the_threshold = refl

-- where the threshold is 2, one is fewer: told full on the fourth, by the short delay
pub full_below_the_threshold :
    summary_by (set newer_sheet 20 2) 0 step5 (bus_off 3 9) (restarted ++ (tick 9 ∷ tick 9 ∷ [])) ≡ good_summary 2 4 4
unfolding computed_history
full_below_the_threshold = refl

-- ---- a late answer, after the third tick: all run before the fourth, and full is told on the sixth, not on the fifth
abbrev late : List Call
late = tick 9 ∷ tick 9 ∷ tick 9 ∷ answer 3 1 1 ∷ tick 9 ∷ tick 9 ∷ []

pub full_after_a_late_answer : summary_by bench_sheet 0 step5 (bus_off 3 9) (late ++ (tick 9 ∷ [])) ≡ calm_summary false 4 2 6 4
unfolding computed_history
full_after_a_late_answer = refl

-- on the fifth tick silent is still told
pub not_full_before_the_late_delay : summary_by bench_sheet 0 step5 (bus_off 3 9) late ≡ calm_summary false 4 1 5 4
unfolding computed_history
not_full_before_the_late_delay = refl

-- ---- two controllers, a transceiver and partial networking: handle 9, controllers 1 and 2, transceiver 4
abbrev partial_sheet : List ℕ
partial_sheet =
    0x01 ∷ 0 ∷ 1 ∷ 9
    ∷ 0x02 ∷ 0 ∷ 1 ∷ 1
    ∷ 0x02 ∷ 0 ∷ 1 ∷ 2
    ∷ 0x03 ∷ 0 ∷ 1 ∷ 4
    ∷ 0x04 ∷ 0 ∷ 6 ∷ 0 ∷ 2 ∷ 0 ∷ 5 ∷ 0 ∷ 3
    ∷ 0x05 ∷ 0 ∷ 1 ∷ 1
    ∷ 0x06 ∷ 0 ∷ 1 ∷ 1 ∷ []

-- controllers 1 and 2 answer ok to the request for a mode
abbrev both : ℕ → List Call
both mode = answer 1 mode 1 ∷ answer 2 mode 1 ∷ []

-- down by steps 9, 10, 11, 12, 13 to 0; full is wanted; up by steps 1, 2, 3 to 4. A tick here needs 3 x (2 + 2 x 1) = 12 bytes
abbrev down_and_up : List Call
down_and_up =
    (tick 12 ∷ clear_done 4 ∷ tick 12 ∷ both 0) ++ (tick 12 ∷ transceiver_mode 4 1 ∷ tick 12 ∷ both 2) ++ (tick
    12 ∷ check_done 4 ∷ tick 12 ∷ request 9 2 ∷ []) ++ (tick 12 ∷ transceiver_mode 4 0 ∷ tick 12 ∷ both 0) ++ (tick 12 ∷ both 1) ++ (tick 12 ∷ [])

-- with partial networking: full is told at the end of these calls
pub full_with_partial_networking : told_after partial_sheet down_and_up ≡ 2
unfolding computed_history
full_with_partial_networking = refl

-- and after a bus-off of its second controller again, on the fourth tick
pub full_again_with_partial_networking :
    summary_by partial_sheet 0 down_and_up (bus_off 2 9) ((tick 12 ∷ both 1) ++ (tick 12 ∷ tick 12 ∷ tick 12 ∷ [])) ≡ good_summary 2 4 4
unfolding computed_history
full_again_with_partial_networking = refl

-- ---- two networks: that of the bench sheet, and one with handle 9 and controllers 1 and 2, without a transceiver
abbrev sheet_of_two : List ℕ
sheet_of_two =
    bench_sheet ++ (0x01 ∷ 0 ∷ 1 ∷ 9
    ∷ 0x02 ∷ 0 ∷ 1 ∷ 1
    ∷ 0x02 ∷ 0 ∷ 1 ∷ 2
    ∷ 0x04 ∷ 0 ∷ 6 ∷ 0 ∷ 2 ∷ 0 ∷ 5 ∷ 0 ∷ 3
    ∷ 0x05 ∷ 0 ∷ 1 ∷ 0
    ∷ 0x06 ∷ 0 ∷ 1 ∷ 0 ∷ [])

-- both go down to step 0; then the first comes up to step 4, and full is wanted of the second. A tick here needs 3 x (3 + 2 x 2) = 21 bytes
abbrev first_up : List Call
first_up =
    (tick 21 ∷ answer 3 0 1 ∷ both 0) ++ (tick 21 ∷ answer 3 2 1 ∷ both 2) ++ (tick 21 ∷ request 7 2 ∷ tick 21 ∷ answer 3 0 1 ∷ tick
    21 ∷ answer 3 1 1 ∷ tick 21 ∷ request 9 2 ∷ [])

-- after a bus-off of the first the second comes up beside it, to step 4; a tick that is refused is among the calls
abbrev second_up : List Call
second_up = (tick 21 ∷ answer 3 1 1 ∷ both 0) ++ (tick 20 ∷ tick 21 ∷ both 1) ++ (tick 21 ∷ tick 21 ∷ [])

-- the first is told full on the fourth tick
pub full_beside_another : summary_by sheet_of_two 0 first_up (bus_off 3 9) second_up ≡ good_summary 2 4 4
unfolding computed_history
full_beside_another = refl

-- and after a bus-off of a controller of the second, that network is told full on the seventh: its threshold is 0
pub full_of_the_second : summary_by sheet_of_two 1 (first_up ++ (bus_off 3 9 ∷ second_up)) (bus_off 2 9)
    ((tick 21 ∷ both 1) ++ (tick 21 ∷ tick 21 ∷ tick 21 ∷ tick 21 ∷ tick 21 ∷ tick 21 ∷ [])) ≡ good_summary 2 7 7
unfolding computed_history
full_of_the_second = refl

-- ---- two networks whose ids cross: that of the bench sheet, and one with handle 3 and controller 7
abbrev pub crossed_sheet : List ℕ
crossed_sheet =
    bench_sheet ++ (0x01 ∷ 0 ∷ 1 ∷ 3
    ∷ 0x02 ∷ 0 ∷ 1 ∷ 7
    ∷ 0x04 ∷ 0 ∷ 6 ∷ 0 ∷ 2 ∷ 0 ∷ 5 ∷ 0 ∷ 3
    ∷ 0x05 ∷ 0 ∷ 1 ∷ 0
    ∷ 0x06 ∷ 0 ∷ 1 ∷ 0 ∷ [])

-- ---- a stall in step 5
-- the reset: the tick that asks controller 3 to stop, its ok, the tick that asks it to start, its ok
abbrev reset : List Call
reset = tick 9 ∷ answer 3 0 1 ∷ tick 9 ∷ answer 3 1 1 ∷ []

-- the mode last told after it, and after the third tick
pub silent_by_a_stall : told_after bench_sheet (step5 ++ (stall 7 3 ∷ reset)) ≡ 1
unfolding computed_history
silent_by_a_stall = refl

pub full_on_the_third_tick : told_after bench_sheet (step5 ++ (stall 7 3 ∷ (reset ++ (tick 9 ∷ [])))) ≡ 2
unfolding computed_history
full_on_the_third_tick = refl

-- no bus-off is counted for it: the first bus-off after it brings the short delay, and full on the fourth tick
pub short_delay_after_a_stall :
    summary_by bench_sheet 0 (step5 ++ (stall 7 3 ∷ (reset ++ (tick 9 ∷ [])))) (bus_off 3 9) (restarted ++ (tick 9 ∷ tick 9 ∷ [])) ≡ good_summary 2 4 4
unfolding computed_history
short_delay_after_a_stall = refl

-- a bus-off in the midst of it is taken, counted, and begins a recovery: full on the fourth tick after it
pub bus_off_in_a_reset : summary_by bench_sheet 0 (step5 ++ (stall 7 3 ∷ reset)) (bus_off 3 9) (restarted ++ (tick 9 ∷ tick 9 ∷ [])) ≡ good_summary 2 4 4
unfolding computed_history
bus_off_in_a_reset = refl

-- ---- faults that both chips of a network report: controllers 1 and 2 of `partial_sheet`, whose threshold is 1
-- the tick that asks both to start, their oks, and the tick that enters step 7
abbrev both_restarted : List Call
both_restarted = (tick 12 ∷ both 1) ++ (tick 12 ∷ [])

-- one fault: the second report is not counted, and the delay is the short one, where a box that counts every report takes the long one
pub short_delay_after_one_fault :
    summary_by partial_sheet 0 (down_and_up ++ (bus_off 1 9 ∷ [])) (bus_off 2 9) (both_restarted ++ (tick 12 ∷ tick 12 ∷ [])) ≡ good_summary 2 4 4
unfolding computed_history
short_delay_after_one_fault = refl

-- the second report comes late, when both were asked to start and the first has answered: the recovery begins anew, with the short delay
pub short_delay_after_a_late_report : summary_by partial_sheet 0 (down_and_up ++ (bus_off 1 9 ∷ tick 12 ∷ answer 1 1 1 ∷ [])) (bus_off 2 9)
    (both_restarted ++ (tick 12 ∷ tick 12 ∷ [])) ≡ good_summary 2 4 4
unfolding computed_history
short_delay_after_a_late_report = refl

-- a second fault, in step 7: the long delay, and full on the seventh tick after its second report
pub long_delay_after_two_faults : summary_by partial_sheet 0 (down_and_up ++ (bus_off 1 9 ∷ bus_off 2 9 ∷ (both_restarted ++ (bus_off 2 9 ∷ [])))) (bus_off 1 9)
    (both_restarted ++ (tick 12 ∷ tick 12 ∷ tick 12 ∷ tick 12 ∷ tick 12 ∷ [])) ≡ good_summary 2 7 7
unfolding computed_history
long_delay_after_two_faults = refl

-- a shutdown in step 6, and up again: a bus-off then is a second fault, though nobody went TX offline since the first
pub long_delay_after_a_shutdown :
    summary_by bench_sheet 0 (step5 ++ (bus_off 3 9 ∷ request 7 0 ∷ tick 9 ∷ answer 3 0 1 ∷ tick 9 ∷ answer 3 2 1 ∷ tick 9 ∷ up)) (bus_off 3 9)
    (restarted ++ (tick 9 ∷ tick 9 ∷ tick 9 ∷ tick 9 ∷ tick 9 ∷ [])) ≡ good_summary 2 7 7
unfolding computed_history
long_delay_after_a_shutdown = refl
