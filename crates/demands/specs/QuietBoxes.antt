-- Listening by computation. First histories of the product: what is handed out on the calls to listen, and one in which a sentence that sounds right is
-- false. Then wrong boxes: for each a history that it would have, and the sentence that is false of it. The network is that of the bench sheet:
-- handle 7, controller 3. A history has the latest call first.
use Prim.Native.Nat.{ℕ}
use Rattle.std.proofs.Common.{arith}
use Rattle.std.proofs.Math.Path.{◌≡◌, refl, ap}
use mathlib.Core.List.{List, [], ◌∷◌, ◌++◌}
use Rattle.std.proofs.Math.Bool.{true, true≢false, false≢true}
use Rattle.std.proofs.Math.ListN.{length}
use Rattle.records.specs.declared.Record.{Record}
use Rattle.records.specs.Records.{handed}
use Rattle.handing.specs.Handing.{targets_of, own_record}
use Rattle.sheet.specs.Bench.{bench_sheet}
use Rattle.slots.specs.Calls.{Call, bus_off, stall, tick, listen}
use Rattle.calls.specs.Histories.{Entry, History, listening}
use Rattle.network_demands.specs.Words.{Answered}
use Rattle.network_demands.specs.Listening.{pdu_by}
use Rattle.network_demands.specs.Promises.{Ticks}
use Rattle.demands.specs.View.{keep, unturned, view_of, views_of}
use Rattle.demands.specs.BenchCases.{down, up}
use Rattle.demands.specs.Histories.{computed_history, lived, step5}
use Rattle.demands.specs.Listening.{last_pdu, Quiet, LastHeard, HandsAnew, NotAgain}
use Rattle.demands.specs.WrongBoxes.{network, computed_words, entry, came_up_by_calls}

-- ---- histories of the product
-- what the latest call of a history handed out
abbrev latest_records : History → List Record
latest_records [] = []
latest_records (e ∷ h) = e.records

-- the calls to listen, with just the room that they need
abbrev quiet : Call
quiet = listen 1 3

abbrev aloud : Call
aloud = listen 0 3

-- full: the controller goes quiet in the same call, a second one changes nothing, and it goes online again
pub quiet_when_full : latest_records (lived bench_sheet (step5 ++ (quiet ∷ []))) ≡ handed 3 3 2 ∷ []
unfolding computed_history
quiet_when_full = refl

pub quiet_already : latest_records (lived bench_sheet (step5 ++ (quiet ∷ quiet ∷ []))) ≡ []
unfolding computed_history
quiet_already = refl

pub online_again : latest_records (lived bench_sheet (step5 ++ (quiet ∷ aloud ∷ []))) ≡ handed 3 3 0 ∷ []
unfolding computed_history
online_again = refl

-- step 15, after a stall
pub quiet_after_a_stall : latest_records (lived bench_sheet (step5 ++ (stall 7 3 ∷ quiet ∷ []))) ≡ handed 3 3 2 ∷ []
unfolding computed_history
quiet_after_a_stall = refl

-- coming up while it listens: full is told, and the controller is quiet
pub full_and_quiet : latest_records (lived bench_sheet (quiet ∷ (down ++ up))) ≡ handed 3 3 2 ∷ handed 6 7 2 ∷ handed 7 7 2 ∷ []
unfolding computed_history
full_and_quiet = refl

-- a sentence that sounds right and is false: that while the manager listens no controller was last handed online. A bus-off comes, then listening is
-- set in step 6, where nothing is handed out
abbrev fallen : History
fallen = lived bench_sheet (step5 ++ (bus_off 3 9 ∷ quiet ∷ []))

pub listens_when_fallen : listening fallen ≡ true
unfolding computed_history listening
listens_when_fallen = refl

pub online_when_fallen : last_pdu 3 fallen ≡ 0
unfolding computed_history last_pdu pdu_by
online_when_fallen = refl

-- ---- wrong boxes
-- a call to listen that was accepted, with what the box handed out on it
abbrev hears : ℕ → List Record → Entry
hears value records = entry (listen value 3) 0 records

-- listening was set while full was told, as it should be
abbrev quietened : History
quietened = hears 1 (handed 3 3 2 ∷ []) ∷ came_up_by_calls

module _ where
  -- it accepts the call and goes on sending
  pub sends_on : LastHeard network (hears 1 [] ∷ came_up_by_calls) → ⊥
  unfolding computed_words keep unturned own_record targets_of listening last_pdu pdu_by
  sends_on s = let z : ◌≡◌ {A = ℕ} 0 2 = s refl 3 refl in omega (arith, z)

  -- it leaves a network out that is on its way through a stall, in step 15
  pub step_15_left_out : LastHeard network (hears 1 [] ∷ entry (stall 7 3) 0 (handed 6 7 1 ∷ []) ∷ came_up_by_calls) → ⊥
  unfolding computed_words keep unturned own_record targets_of listening last_pdu pdu_by
  step_15_left_out s = let z : ◌≡◌ {A = ℕ} 0 2 = s refl 3 refl in omega (arith, z)

  -- it stays quiet when listening is cleared
  pub stays_quiet : LastHeard network (hears 0 [] ∷ quietened) → ⊥
  unfolding computed_words keep unturned own_record targets_of listening last_pdu pdu_by
  stays_quiet s = let z : ◌≡◌ {A = ℕ} 2 0 = s refl 3 refl in omega (arith, z)

  -- it hands out the form from before
  pub old_form : HandsAnew network (hears 1 (handed 3 3 0 ∷ [])) came_up_by_calls → ⊥
  unfolding computed_words keep unturned own_record targets_of listening
  old_form s = let z : ◌≡◌ {A = ℕ} 0 2 = ap argument_of (s true refl refl) in omega (arith, z)
    where
      argument_of : List Record → ℕ
      argument_of [] = 1
      argument_of (r ∷ rs) = r.argument

  -- it hands out twice where listening is set twice
  pub handed_out_twice : NotAgain (hears 1 (handed 3 3 2 ∷ [])) quietened → ⊥
  unfolding listening
  handed_out_twice s = let z : ◌≡◌ {A = ℕ} 1 0 = ap length (s true refl refl) in omega (arith, z)

  -- a tick lets the controller send while the manager listens
  pub online_on_a_tick : Quiet (entry (tick 9) 0 (handed 3 3 0 ∷ handed 6 7 2 ∷ handed 7 7 2 ∷ [])) (hears 1 [] ∷ []) → ⊥
  unfolding listening computed_words
  online_on_a_tick s = true≢false (s refl)

  -- TX offline goes out with argument 2 too: a tick enters silent and seems to let the controller send
  pub offline_turned : Ticks network (view_of network (entry (tick 9) 0 (handed 3 3 2 ∷ handed 6 7 1 ∷ handed 7 7 1 ∷ []))) (views_of network quietened) → ⊥
  unfolding computed_words keep unturned own_record targets_of
  offline_turned s = true≢false (s.online 3 refl)

  -- a call to listen tells full: the view of the network does not hide that, and no controller was asked to start
  pub full_by_listening : Answered network (views_of network (hears 1 (handed 6 7 2 ∷ []) ∷ [])) → ⊥
  unfolding computed_words keep unturned own_record targets_of
  full_by_listening s = false≢true (s refl 3 refl)
