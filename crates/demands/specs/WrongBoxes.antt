-- Wrong boxes that demand 3 rules out, by computation: for each a history that such a box would have, and the sentence of demand 3 that is false of
-- it. The network is that of the bench sheet: handle 7, controller 3, delays 2 and 5, threshold 1. A history has the latest call first.
use Rattle.std.specs.Prelude.{ℕ, ◌≤◌, Bool, false, Option, None}
use native.Mathlib.Omega.{arith}
use Rattle.std.proofs.Math.Path.{◌≡◌, refl}
use Rattle.std.proofs.Common.{sym, ◌∙◌}
use mathlib.Core.List.{List, [], ◌∷◌, ◌++◌}
use Rattle.std.proofs.Math.Bool.{true≢false, false≢true}
use Rattle.lists.specs.Lists.{any, every}
use Rattle.records.specs.declared.Record.{Record}
use Rattle.records.specs.Records.{handed}
use Rattle.settings.specs.declared.Relation.{Relation}
use Rattle.settings.specs.declared.Network.{Network}
use Rattle.network.specs.Parts.{Sight, a_tick, a_bus_off, a_stall, an_answer, a_request}
use Rattle.handing.specs.Handing.{targets_of, own_record}
use Rattle.slots.specs.Calls.{Call, request, answer, tick}
use Rattle.calls.specs.Histories.{Entry, History}
use Rattle.network_demands.specs.Words.{Seen, OwnHistory, since, tally, setback, told_by, told, wanted, wanted_at_tick, restarting, falls, owed, runs}
use Rattle.network_demands.specs.Words.{first_running, granted, last_handed, granted_at_ticks, full_from, CountedOnce, Told, ToldNo, Answered, Delayed}
use Rattle.network_demands.specs.Words.{LateAnswers}
use Rattle.network_demands.specs.Words.{OnJustThatTick, SaidFrom, LateAfterStall, OnTheThirdTick, SaidFromTheThird}
use Rattle.demands.specs.View.{keep, unturned, views_of}
use Rattle.demands.specs.Demands.{TickTaken}

-- as the bench sheet says it, but for the handle, the controllers, the transceiver, partial networking and how bus-offs are held against which
-- threshold: delays 2 and 5, ensure time 3
abbrev pub network_named : ℕ → ℕ → List ℕ → Option ℕ → Bool → ℕ → Relation → Network
network_named handle count controllers transceiver partial threshold relation =
    record {
      handle = handle;
      count = count;
      controllers = controllers;
      transceiver = transceiver;
      short = 2;
      long = 5;
      ensure = 3;
      threshold = threshold;
      partial = partial;
      relation = relation;
    }

-- with its handle
abbrev pub network_with : ℕ → List ℕ → Option ℕ → Bool → ℕ → Relation → Network
network_with = network_named 7

-- with controller 3, without a transceiver
abbrev pub network : Network
network = network_with 1 (3 ∷ 0 ∷ 0 ∷ 0 ∷ []) None false 1 Relation.Above

-- the same with field 07 and this threshold: the long delay from as many bus-offs on
abbrev newer : ℕ → Network
newer threshold = network_with 1 (3 ∷ 0 ∷ 0 ∷ 0 ∷ []) None false threshold Relation.AtOrAbove

-- ---- entries

-- a call that was accepted, with the records that the box handed out on it
abbrev pub taken : Sight → List Record → Seen
taken sight records = record { sight = sight; number = 0; records = records }

-- a call that was refused with a number
abbrev pub refused_with : ℕ → Sight → Seen
refused_with number sight = record { sight = sight; number = number; records = [] }

-- one that was refused with 22
abbrev pub refused : Sight → Seen
refused sight = refused_with 0x22 sight

-- a tick
abbrev pub ticks : List Record → Seen
ticks records = taken a_tick records

-- a tick that asks controller 3 to start: kind 1, argument 1
abbrev pub asks : Seen
asks = ticks (handed 1 3 1 ∷ [])

-- controller 3 answers that it runs: mode started, ok 1
abbrev pub answers : Seen
answers = taken (an_answer 3 1 1) []

-- a request for handle 7: 0 no, 1 silent, 2 full
abbrev pub wants : ℕ → Seen
wants mode = taken (a_request mode) []

-- T23: a tick that enters full
abbrev pub tells_full : Seen
tells_full = ticks (handed 3 3 0 ∷ handed 6 7 2 ∷ handed 7 7 2 ∷ [])

-- T24: a tick that enters silent
abbrev tells_silent : Seen
tells_silent = ticks (handed 3 3 1 ∷ handed 6 7 1 ∷ handed 7 7 1 ∷ [])

-- T11: the tick that enters step 7
abbrev waits : Seen
waits = ticks (handed 3 3 1 ∷ [])

-- B3: a bus-off of controller 3 while up
abbrev bus_off : Seen
bus_off = taken a_bus_off (handed 8 7 1 ∷ handed 6 7 1 ∷ handed 7 7 3 ∷ [])

-- a bus-off that is accepted, and hands out nothing
abbrev quiet_bus_off : Seen
quiet_bus_off = taken a_bus_off []

-- a bus-off that is refused with 22
abbrev refused_bus_off : Seen
refused_bus_off = refused a_bus_off

-- X2: a stall while full is told
abbrev stall : Seen
stall = taken a_stall (handed 6 7 1 ∷ [])

-- a tick that asks controller 3 to stop, and its ok
abbrev stops : OwnHistory
stops = taken (an_answer 3 0 1) [] ∷ ticks (handed 1 3 0 ∷ []) ∷ []

-- the network came up and is full
abbrev came_up : OwnHistory
came_up = tells_full ∷ answers ∷ asks ∷ wants 2 ∷ []

-- the mode last told, with all open that it takes to compute what the words say
unfoldable pub computed_words : Network → OwnHistory → ℕ
unfolding any every since tally told_by told wanted wanted_at_tick restarting falls owed runs first_running granted last_handed granted_at_ticks full_from
computed_words n h = told n h

-- ---- exactly when full is told
module _ where
  -- it stops the controllers while full is told, without 7 no: no was wanted at the last tick
  pub stops_while_full : Told network (ticks (handed 1 3 0 ∷ []) ∷ wants 0 ∷ came_up) → ⊥
  unfolding computed_words
  stops_while_full = true≢false

  -- it tells full after the delay though silent is wanted
  pub full_though_silent : Told network (tells_full ∷ ticks [] ∷ waits ∷ answers ∷ asks ∷ wants 1 ∷ bus_off ∷ came_up) → ⊥
  unfolding computed_words
  full_though_silent = true≢false

  -- it tells full a tick late, coming up: all run before the second tick
  pub full_a_tick_late : Told network (ticks [] ∷ answers ∷ asks ∷ wants 2 ∷ []) → ⊥
  unfolding computed_words
  full_a_tick_late told = false≢true told

  -- it tells silent before it has ever told full: a shutdown while coming up
  pub silent_before_full : ToldNo network (ticks (handed 7 7 0 ∷ handed 6 7 1 ∷ handed 1 3 0 ∷ []) ∷ wants 0 ∷ asks ∷ wants 2 ∷ []) → ⊥
  unfolding computed_words
  silent_before_full told = false≢true told

-- ---- the first sentence
module _ where
  not_running : (h : OwnHistory) → told network h ≡ 2 → runs 3 (since (setback network) h) ≡ false → Answered network h → ⊥
  unfolding any
  not_running h t r a = false≢true (sym r ∙ a t 3 refl)

  -- E14: it keeps the answers over a bus-off: a second one comes after the answer, and full is told without a new one
  pub answers_kept : Answered network (tells_full ∷ ticks [] ∷ waits ∷ bus_off ∷ answers ∷ asks ∷ bus_off ∷ came_up) → ⊥
  unfolding computed_words
  answers_kept = not_running (tells_full ∷ ticks [] ∷ waits ∷ bus_off ∷ answers ∷ asks ∷ bus_off ∷ came_up) refl refl

  -- it keeps the answers over a bus-off in step 3, which hands out nothing
  pub answers_kept_in_step_3 : Answered network (tells_full ∷ asks ∷ quiet_bus_off ∷ answers ∷ asks ∷ wants 2 ∷ []) → ⊥
  unfolding computed_words
  answers_kept_in_step_3 = not_running (tells_full ∷ asks ∷ quiet_bus_off ∷ answers ∷ asks ∷ wants 2 ∷ []) refl refl

  -- it goes on without an answer: the controller was asked to start, and full is told on the next tick
  pub full_without_an_answer : Answered network (tells_full ∷ asks ∷ wants 2 ∷ []) → ⊥
  unfolding computed_words
  full_without_an_answer = not_running (tells_full ∷ asks ∷ wants 2 ∷ []) refl refl

  -- E16: it says full while the controllers are being stopped: 7 no, and no 6 silent
  pub told_stays_full : Answered network (ticks (handed 7 7 0 ∷ handed 1 3 0 ∷ []) ∷ wants 0 ∷ came_up) → ⊥
  unfolding computed_words
  told_stays_full = not_running (ticks (handed 7 7 0 ∷ handed 1 3 0 ∷ []) ∷ wants 0 ∷ came_up) refl refl

  -- it takes a bus-off that it refuses with 22, coming up, for no bus-off: the answer from before it counts
  pub refused_bus_off_forgotten : Answered network (tells_full ∷ refused_bus_off ∷ answers ∷ asks ∷ wants 2 ∷ []) → ⊥
  unfolding computed_words
  refused_bus_off_forgotten = not_running (tells_full ∷ refused_bus_off ∷ answers ∷ asks ∷ wants 2 ∷ []) refl refl

  -- of two controllers, 3 and 4, it asks only the first, and takes its answer for both
  pub second_not_asked :
      Answered (network_with 2 (3 ∷ 4 ∷ 0 ∷ 0 ∷ []) None false 1 Relation.Above) (tells_full ∷ answers ∷ asks ∷ wants 2 ∷ []) → ⊥
  unfolding computed_words
  second_not_asked a = false≢true (a refl 4 refl)

  -- it takes a stall, and full stays told
  pub told_stays_full_over_a_stall : Answered network (taken a_stall [] ∷ came_up) → ⊥
  unfolding computed_words
  told_stays_full_over_a_stall = not_running (taken a_stall [] ∷ came_up) refl refl

  -- after a stall it stops the controllers, and tells full without starting them: their answers from before the stall count
  pub answers_kept_over_a_stall : Answered network (tells_full ∷ (stops ++ (stall ∷ came_up))) → ⊥
  unfolding computed_words
  answers_kept_over_a_stall = not_running (tells_full ∷ (stops ++ (stall ∷ came_up))) refl refl

-- an entry of the manager's history: a call, the number of its answer, the records handed out
abbrev pub entry : Call → ℕ → List Record → Entry
entry call number records = record { call = call; number = number; mode = 0; records = records }

-- such a history in which the network came up and is full
abbrev pub came_up_by_calls : History
came_up_by_calls =
    entry (tick 9) 0 tells_full.records ∷ entry (answer 3 1 1) 0 [] ∷ entry (tick 9) 0 asks.records ∷ entry (request 7 2) 0 [] ∷ []

module _ where
  -- it accepts a bus-off that is lent 8 bytes, hands out nothing, and does not restart the controllers: full stays told
  pub short_bus_off_forgotten : Answered network (views_of network (entry (Call.bus_off 3 8) 0 [] ∷ came_up_by_calls)) → ⊥
  unfolding computed_words keep unturned own_record targets_of
  short_bus_off_forgotten a = false≢true (a refl 3 refl)

  -- it refuses a bus-off with 20 though 9 bytes are lent: full stays told
  pub room_denied : Answered network (views_of network (entry (Call.bus_off 3 9) 0x20 [] ∷ came_up_by_calls)) → ⊥
  unfolding computed_words keep unturned own_record targets_of
  room_denied a = false≢true (a refl 3 refl)

-- ---- the second sentence
module _ where
  -- it tells full on the tick before: the third after the bus-off, where the delay of 2 and two are four
  pub full_on_the_tick_before : Delayed network (tells_full ∷ waits ∷ answers ∷ asks ∷ []) bus_off came_up → ⊥
  unfolding computed_words
  full_on_the_tick_before d = let z : 4 ≤ 3 = d refl refl refl refl in omega arith

  -- E17: it takes leaving for silent as the all-clear: the second bus-off since passed, which exceeds the threshold, brings the short delay
  pub silent_clears : Delayed network (tells_full ∷ ticks [] ∷ waits ∷ answers ∷ asks ∷ []) bus_off
      (tells_full ∷ wants 2 ∷ tells_silent ∷ wants 1 ∷ tells_full ∷ ticks [] ∷ waits ∷ answers ∷ asks ∷ bus_off ∷ came_up) → ⊥
  unfolding computed_words
  silent_clears d = let z : 7 ≤ 4 = d refl refl refl refl in omega arith

  -- it leaves the records of a bus-off out, 7 bus-off too, and the delay with them: full on the second tick
  pub no_delay_without_records : Delayed network (tells_full ∷ answers ∷ asks ∷ []) quiet_bus_off came_up → ⊥
  unfolding computed_words
  no_delay_without_records d = let z : 4 ≤ 2 = d refl refl refl refl in omega arith

  -- a second bus-off, which comes in step 7 and hands out nothing, cancels the delay
  pub delay_cancelled : Delayed network (tells_full ∷ answers ∷ asks ∷ []) quiet_bus_off (waits ∷ answers ∷ asks ∷ bus_off ∷ came_up) → ⊥
  unfolding computed_words
  delay_cancelled d = let z : 7 ≤ 2 = d refl refl refl refl in omega arith

  -- a bus-off in step 7, when the controller runs again, is taken for the same fault: the short delay, where two exceed the threshold
  pub fault_in_the_wait_not_counted : Delayed network (tells_full ∷ ticks [] ∷ waits ∷ answers ∷ asks ∷ []) bus_off
      (waits ∷ answers ∷ asks ∷ bus_off ∷ came_up) → ⊥
  unfolding computed_words
  fault_in_the_wait_not_counted d = let z : 7 ≤ 4 = d refl refl refl refl in omega arith

  -- S27: with field 07 it takes the older relation: one bus-off is as many as the threshold, and full is told on the fourth tick
  pub short_at_the_threshold : Delayed (newer 1) (tells_full ∷ ticks [] ∷ waits ∷ answers ∷ asks ∷ []) bus_off came_up → ⊥
  unfolding computed_words
  short_at_the_threshold d = let z : 7 ≤ 4 = d refl refl refl refl in omega arith

  -- that it was restarting is remembered over a shutdown: a bus-off when it is up again is taken for the same fault
  pub restarting_over_a_shutdown : Delayed network (tells_full ∷ ticks [] ∷ waits ∷ answers ∷ asks ∷ []) bus_off
      (came_up ++ (ticks (handed 7 7 0 ∷ handed 1 3 0 ∷ []) ∷ wants 0 ∷ bus_off ∷ came_up)) → ⊥
  unfolding computed_words
  restarting_over_a_shutdown d = let z : 7 ≤ 4 = d refl refl refl refl in omega arith

  -- a second bus-off in step 6, after the request to start, does not begin the recovery anew: full on the third tick after it
  pub recovery_not_begun_anew : Delayed network (tells_full ∷ waits ∷ answers ∷ asks ∷ []) bus_off (asks ∷ bus_off ∷ came_up) → ⊥
  unfolding computed_words
  recovery_not_begun_anew d = let z : 4 ≤ 3 = d refl refl refl refl in omega arith

  -- where the answer is late it takes the delay from the bus-off on: all run before the fourth tick, and full is told on the fifth
  pub delay_from_the_bus_off : LateAnswers network (tells_full ∷ waits ∷ answers ∷ asks ∷ asks ∷ asks ∷ []) bus_off came_up → ⊥
  unfolding computed_words
  delay_from_the_bus_off late = true≢false (late refl refl refl refl).0

  -- it idles where the answer is late: all run before the third tick, and on the fifth full is not told
  pub idles_after_a_late_answer : LateAnswers network (ticks [] ∷ ticks [] ∷ waits ∷ answers ∷ asks ∷ asks ∷ []) bus_off came_up → ⊥
  unfolding computed_words
  idles_after_a_late_answer late = false≢true (late refl refl refl refl).0

-- ---- one fault is counted once
module _ where
  -- TX offline goes out with the bus-off itself, so that the second report is taken for a second fault
  pub offline_with_the_bus_off :
      CountedOnce network (bus_off ∷ []) (taken a_bus_off (handed 8 7 1 ∷ handed 6 7 1 ∷ handed 7 7 3 ∷ handed 3 3 1 ∷ [])) came_up → ⊥
  unfolding computed_words
  offline_with_the_bus_off o = let z : ◌≡◌ {A = ℕ} 2 1 = o refl refl refl in omega arith

  -- passed is said while the controllers are started again, so that the fault is not counted at all
  pub passed_while_restarting : CountedOnce network (ticks (handed 8 7 0 ∷ []) ∷ asks ∷ []) bus_off came_up → ⊥
  unfolding computed_words
  passed_while_restarting o = let z : ◌≡◌ {A = ℕ} 0 1 = o refl refl refl in omega arith

-- ---- the third sentence
-- three ticks after a bus-off, and the fourth
abbrev three : OwnHistory
three = ticks [] ∷ waits ∷ answers ∷ asks ∷ []

abbrev Four : Seen → OwnHistory
Four fourth = fourth ∷ three

module _ where
  -- E15: the long delay begins where the count equals the threshold, or it idles after the first tick: on the fourth tick full is not told
  pub not_told : SaidFrom network (Four (ticks [])) bus_off came_up → ⊥
  unfolding computed_words
  not_told said =
      let z : ◌≡◌ {A = ℕ} 1 2 = said refl (record { full = refl; granted = refl; calm = refl }) in omega arith

  -- S27: with field 07 it is long below the threshold too: one bus-off is fewer than 2, and on the fourth tick full is not told
  pub long_below_the_threshold : SaidFrom (newer 2) (Four (ticks [])) bus_off came_up → ⊥
  unfolding computed_words
  long_below_the_threshold said =
      let z : ◌≡◌ {A = ℕ} 1 2 = said refl (record { full = refl; granted = refl; calm = refl }) in omega arith

  -- S27: with field 07 it idles at the threshold: on the seventh tick full is not told
  pub idles_at_the_threshold : SaidFrom (newer 1) (ticks [] ∷ ticks [] ∷ ticks [] ∷ Four (ticks [])) bus_off came_up → ⊥
  unfolding computed_words
  idles_at_the_threshold said =
      let z : ◌≡◌ {A = ℕ} 1 2 = said refl (record { full = refl; granted = refl; calm = refl }) in omega arith

  -- it counts every bus-off: a second one in step 6 makes two, and on the fourth tick after it full is not told
  pub second_report_counted : SaidFrom network (Four (ticks [])) bus_off (bus_off ∷ came_up) → ⊥
  unfolding computed_words
  second_report_counted said =
      let z : ◌≡◌ {A = ℕ} 1 2 = said refl (record { full = refl; granted = refl; calm = refl }) in omega arith

  -- the same by what the fourth tick hands out
  pub not_on_that_tick : OnJustThatTick network (ticks []) three bus_off came_up → ⊥
  unfolding computed_words
  not_on_that_tick just = false≢true (just refl (record { full = refl; granted = refl; calm = refl }) refl)

  -- it says full once more on the fifth tick
  pub full_said_twice : OnJustThatTick network tells_full (Four tells_full) bus_off came_up → ⊥
  unfolding computed_words
  full_said_twice just = true≢false (just refl (record { full = refl; granted = refl; calm = refl }) refl)

  -- it counts a stall as a bus-off: after the one bus-off that came, full is not told on the fourth tick
  pub stall_counted : SaidFrom network (Four (ticks [])) bus_off (tells_full ∷ answers ∷ asks ∷ (stops ++ (stall ∷ came_up))) → ⊥
  unfolding computed_words
  stall_counted said =
      let z : ◌≡◌ {A = ℕ} 1 2 = said refl (record { full = refl; granted = refl; calm = refl }) in omega arith

  -- it refuses a tick that has the bytes it needs
  pub tick_refused : TickTaken 9 network (entry (tick 9) 0x20 []) → ⊥
  tick_refused taken = false≢true (taken 9 refl (omega arith))

-- ---- after a stall
-- two ticks: asked to stop and stopped, asked to start and running
abbrev reset : OwnHistory
reset = answers ∷ asks ∷ stops

module _ where
  -- it passes over step 15: asked to start at once, full on the second tick
  pub stop_passed_over : LateAfterStall network (tells_full ∷ answers ∷ asks ∷ []) stall came_up → ⊥
  unfolding computed_words
  stop_passed_over late = true≢false (late refl refl refl refl).1

  -- it tells full after the reset though silent is wanted
  pub full_after_a_stall_though_silent : Told network (tells_full ∷ wants 1 ∷ (reset ++ (stall ∷ came_up))) → ⊥
  unfolding computed_words
  full_after_a_stall_though_silent = true≢false

  -- it waits for a delay, as after a bus-off, or idles: on the third tick full is not told
  pub not_told_on_the_third : SaidFromTheThird network (waits ∷ reset) stall came_up → ⊥
  unfolding computed_words
  not_told_on_the_third said = let z : ◌≡◌ {A = ℕ} 1 2 = said refl (record { full = refl; granted = refl; calm = refl }) in omega arith

  -- the same by what the third tick hands out
  pub not_on_the_third_tick : OnTheThirdTick network waits reset stall came_up → ⊥
  unfolding computed_words
  not_on_the_third_tick just = false≢true (just refl (record { full = refl; granted = refl; calm = refl }) refl)
