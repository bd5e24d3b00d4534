-- Wrong boxes that the figures rule out, by computation. Each does all as the product does up to where the part s begins (`lives`), and in s it is
-- slow, hasty or stuck, or hands out one record too many or too few. Histories have the latest first.
use Rattle.std.specs.Prelude.{ℕ, zero, suc, List, [], ◌∷◌, ◌++◌}
use native.Mathlib.Omega.{arith}
use Rattle.std.proofs.Math.Path.{◌≡◌, refl}
use Rattle.std.proofs.Math.Bool.{true≢false}
use Rattle.records.specs.Records.{handed}
use Rattle.network.specs.Parts.{Sight, a_tick, a_request}
use Rattle.network_demands.specs.Words.{Seen, OwnHistory, wanted_at_tick, Told, ToldNo, Answered}
use Rattle.network_demands.specs.ComesUp.{FromRest, OnThatTickFromRest, RecordsFromRest, FromStart, ToRest, OnThatTickFromStart, RecordsFromStart}
use Rattle.network_demands.specs.ComesUp.{NeverStuck}
use Rattle.demands.specs.WrongBoxes.{network, taken, ticks, wants, asks, answers, tells_full}
use Rattle.demands.specs.PromiseBreakers.{lives, ok, both, rest, fitted, clearing, running}
use Rattle.demands.specs.Figures.{reports, checked, cleared, computed_figure}

-- ---- entries of the bench network

-- a tick that asks controller 3 for a mode
abbrev asks_for : ℕ → Seen
asks_for mode = ticks (handed 1 3 mode ∷ [])

-- its ok, which is accepted
abbrev says : ℕ → Seen
says mode = taken (ok mode) []

-- full is wanted; asked to stop, stopped; asked to start, started
abbrev climbed : OwnHistory
climbed = answers ∷ asks ∷ says 0 ∷ asks_for 0 ∷ wants 2 ∷ []

-- a tick that tells no
abbrev tells_no : Seen
tells_no = ticks (handed 6 7 0 ∷ [])

-- ---- from rest
module _ where
  -- it asks a second time before it goes on: on the third tick it asks to start, and full is not told
  pub asks_twice : FromRest network (asks ∷ says 0 ∷ asks_for 0 ∷ says 0 ∷ asks_for 0 ∷ wants 2 ∷ []) (lives network rest) → ⊥
  unfolding computed_figure
  asks_twice from = let z : ◌≡◌ {A = ℕ} 0 2 = from refl (record { full = refl; granted = refl; calm = refl }) in omega arith

  -- so it tells full on the fourth
  pub full_on_the_fourth :
      OnThatTickFromRest network tells_full (answers ∷ asks ∷ says 0 ∷ asks_for 0 ∷ says 0 ∷ asks_for 0 ∷ wants 2 ∷ []) (lives network rest) → ⊥
  unfolding computed_figure
  full_on_the_fourth just = true≢false (just refl (record { full = refl; granted = refl; calm = refl }) refl)

  -- it wakes up a tick late
  pub idles_at_rest : FromRest network (asks ∷ says 0 ∷ asks_for 0 ∷ ticks [] ∷ wants 2 ∷ []) (lives network rest) → ⊥
  unfolding computed_figure
  idles_at_rest from = let z : ◌≡◌ {A = ℕ} 0 2 = from refl (record { full = refl; granted = refl; calm = refl }) in omega arith

  -- it does not stop the controllers first, and is a tick early
  pub stop_left_out : OnThatTickFromRest network tells_full (answers ∷ asks ∷ wants 2 ∷ []) (lives network rest) → ⊥
  unfolding computed_figure
  stop_left_out just = true≢false (just refl (record { full = refl; granted = refl; calm = refl }) refl)

  -- where the first answer is not ok it asks once more, though an ok followed in time
  pub not_ok_remembered : FromRest network
      (asks ∷ says 0 ∷ asks_for 0 ∷ says 0 ∷ taken (Sight.an_answer 3 0 0) [] ∷ asks_for 0 ∷ wants 2 ∷ []) (lives network rest) → ⊥
  unfolding computed_figure
  not_ok_remembered from = let z : ◌≡◌ {A = ℕ} 0 2 = from refl (record { full = refl; granted = refl; calm = refl }) in omega arith

  -- one record too many: it asks the controller twice with one tick
  pub one_too_many : RecordsFromRest network (tells_full ∷ answers ∷ asks ∷ says 0 ∷ ticks (handed 1 3 0 ∷ handed 1 3 0 ∷ []) ∷ wants 2 ∷ [])
      (lives network rest) → ⊥
  unfolding computed_figure
  one_too_many records = let z : ◌≡◌ {A = ℕ} 6 5 = records refl (record { full = refl; granted = refl; calm = refl }) refl in omega arith

  -- one too few: the mode manager does not hear of full
  pub one_too_few : RecordsFromRest network (ticks (handed 3 3 0 ∷ handed 6 7 2 ∷ []) ∷ climbed) (lives network rest) → ⊥
  unfolding computed_figure
  one_too_few records = let z : ◌≡◌ {A = ℕ} 4 5 = records refl (record { full = refl; granted = refl; calm = refl }) refl in omega arith

-- ---- from the start
module _ where
  -- it asks to stop a second time after the start: no is told a tick late, and so is full
  pub rests_late : ToRest network tells_no (says 2 ∷ asks_for 2 ∷ says 0 ∷ asks_for 0 ∷ says 0 ∷ asks_for 0 ∷ wants 2 ∷ []) → ⊥
  unfolding computed_figure
  rests_late at = true≢false (at (record { full = refl; granted = refl; calm = refl }) refl)

  pub starts_late : FromStart network
      (asks ∷ says 0 ∷ asks_for 0 ∷ tells_no ∷ says 2 ∷ asks_for 2 ∷ says 0 ∷ asks_for 0 ∷ says 0 ∷ asks_for 0 ∷ wants 2 ∷ []) → ⊥
  unfolding computed_figure
  starts_late from = let z : ◌≡◌ {A = ℕ} 0 2 = from (record { full = refl; granted = refl; calm = refl }) in omega arith

  -- it comes up from the start without having gone down
  pub starts_hastily : OnThatTickFromStart network tells_full climbed → ⊥
  unfolding computed_figure
  starts_hastily just = true≢false (just (record { full = refl; granted = refl; calm = refl }) refl)

  -- one record too many: no is told twice
  pub no_told_twice : RecordsFromStart network
      (tells_full ∷ (climbed ++ (ticks (handed 6 7 0 ∷ handed 6 7 0 ∷ []) ∷ says 2 ∷ asks_for 2 ∷ says 0 ∷ asks_for 0 ∷ []))) → ⊥
  unfolding computed_figure
  no_told_twice records = let z : ◌≡◌ {A = ℕ} 9 8 = records (record { full = refl; granted = refl; calm = refl }) refl in omega arith

-- ---- from anywhere
-- so many times
unfoldable pub times : ℕ → OwnHistory → OwnHistory
times zero part = []
times (suc k) part = part ++ times k part

-- with that open too
unfoldable computed_times : OwnHistory → OwnHistory
unfolding computed_figure times wanted_at_tick
computed_times h = times 1 h

-- the network with partial networking was full, and goes down: the flag cleared, stopped, standby, asleep; the flag is to be checked, in step 13
abbrev checking_again : List Sight
checking_again = a_tick ∷ both 2 (a_tick ∷ reports 1 ∷ a_tick ∷ both 0 (a_tick ∷ cleared ∷ a_tick ∷ a_request 0 ∷ a_tick ∷ running))

-- full is wanted again; so many ticks ask for the check, and each is answered
abbrev checks : ℕ → OwnHistory
checks k = times k (taken checked [] ∷ ticks (handed 5 5 0 ∷ []) ∷ []) ++ (wants 2 ∷ [])

-- a tick that asks controllers 3 and 4 for a mode, and the oks of both
abbrev asks_both : ℕ → Seen
asks_both mode = ticks (handed 1 3 mode ∷ handed 1 4 mode ∷ [])

abbrev both_say : ℕ → OwnHistory
both_say mode = taken (Sight.an_answer 4 mode 1) [] ∷ says mode ∷ []

module _ where
  -- it waits in step 13 for ever, once it has been full
  pub waits_in_step_13 : NeverStuck fitted (checks 11) (lives fitted checking_again) → ⊥
  unfolding computed_times
  waits_in_step_13 up = let z : ◌≡◌ {A = ℕ} 1 2 = up (record { full = refl; granted = refl; calm = refl }) (omega arith) in omega arith

  -- no sentence of demand 3 is false of it: it never says full, and never has to
  pub waits_in_step_13_told : Told fitted (checks 11 ++ lives fitted checking_again)
  unfolding computed_times
  waits_in_step_13_told = refl

  pub waits_in_step_13_told_no : ToldNo fitted (checks 11 ++ lives fitted checking_again)
  unfolding computed_times
  waits_in_step_13_told_no = refl

  pub waits_in_step_13_answered : Answered fitted (checks 11 ++ lives fitted checking_again)
  unfolding computed_times
  waits_in_step_13_answered told = absurd (let z : ◌≡◌ {A = ℕ} 1 2 = told in omega arith)

  -- it asks for the check of step 14 twice, where sleep was refused: full is a tick late, on the twelfth
  pub twelve_ticks : NeverStuck fitted (asks_both 1 ∷ both_say 0 ++ (asks_both 0 ∷ taken (reports 0) [] ∷ ticks (handed 2 5 0 ∷ []) ∷ tells_no
      ∷ taken checked [] ∷ ticks (handed 5 5 0 ∷ []) ∷ both_say 2 ++ (asks_both 2 ∷ taken (reports 1) [] ∷ ticks (handed 2 5 1 ∷ [])
      ∷ both_say 0 ++ (asks_both 0 ∷ taken cleared [] ∷ ticks (handed 4 5 0 ∷ []) ∷ checks 2))))
      (lives fitted (Sight.an_answer 3 2 0 ∷ a_tick ∷ reports 1 ∷ a_tick ∷ both 0 clearing)) → ⊥
  unfolding computed_times
  twelve_ticks up = let z : ◌≡◌ {A = ℕ} 0 2 = up (record { full = refl; granted = refl; calm = refl }) (omega arith) in omega arith
