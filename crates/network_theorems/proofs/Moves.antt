-- The moves that a tick can make, once: whatever holds of each of them holds of every decision.
use Rattle.lists.proofs.Basics.{◌≡◌, refl, Bool, true, false, cond, false≢true}
use Rattle.records.specs.declared.Mode.{Mode}
use Rattle.steps.specs.declared.Step.{Step}
use Rattle.steps.specs.declared.Step.TheVariants.{NoCommunication, TransceiverNormal, ControllersStopped, ControllersStarted}
use Rattle.steps.specs.declared.Step.TheVariants.{Checking, Full, Restarting, Waiting, Silent}
use Rattle.steps.specs.declared.Step.TheVariants.{ClearWake, DownStopped, TransceiverStandby, ControllersSleep, CheckWake, CheckWakeAgain}
use Rattle.steps.specs.declared.Step.TheVariants.{ResetStopped, ResetStarted}
use Rattle.steps.specs.declared.Phase.{Phase}
use Rattle.steps.specs.declared.Outfit.{Outfit}
use Rattle.steps.specs.declared.Outfit.TheVariants.{Bare, Fitted, Partial}
use Rattle.steps.specs.declared.Move.{Move}
use Rattle.steps.specs.declared.Move.TheVariants.{Stay, AskAgain, Count, EnterFull, EnterSilent, Pass, Wait, GoDown, EnterNoCommunication, Enter}
use Rattle.steps.specs.Steps.{phase_of, asks_for, is_on, is_up, is_full_step, is_asking, asks_to_start}
use Rattle.steps.specs.Decision.{by_mode, by_partial, by_transceiver, when_done, rule_of, decision}
use Rattle.network_theorems.specs.Kept.{Quiet, Unsaid}

-- P step wanted move, for each kind of move, with what is known of the steps that it leaves and enters, and where a step is left because it is
-- done, that it is
pub record ByMove (done : Bool) (P : Step → Mode → Move → Type 0) : Type 0 where
  pub stays : (step : Step) (wanted : Mode) → P step wanted Stay
  pub asks_again : (step : Step) (wanted : Mode) → is_asking step ≡ true → P step wanted AskAgain
  -- 4 and 7, to themselves
  pub counts : (step next : Step) (wanted : Mode) → Quiet step → Quiet next → is_full_step next ≡ is_full_step step → P step wanted (Count next)
  -- 4
  pub passes : (step : Step) (wanted : Mode) → Quiet step → is_full_step step ≡ true → P step wanted Pass
  -- 7 and 8
  pub fills : (step : Step) (wanted : Mode) → Unsaid step → P step wanted EnterFull
  -- 3 and 16
  pub starts : (step : Step) (wanted : Mode) → done ≡ true → asks_to_start (asks_for step) ≡ true → P step wanted EnterFull
  -- 4, 5, 7 and 16
  pub silences : (step : Step) (wanted : Mode) → is_up step ≡ true → P step wanted EnterSilent
  -- 6
  pub waits : (step : Step) (wanted : Mode) → done ≡ true → asks_to_start (asks_for step) ≡ true → phase_of step ≡ Phase.Recovering → P step wanted Wait
  -- 1 to 8, 15 and 16
  pub goes_down_lem : (step : Step) → is_on step ≡ true → P step Mode.No GoDown
  -- the last down step
  pub ends : (step : Step) (wanted : Mode) → is_up step ≡ false → P step wanted EnterNoCommunication
  -- coming up, going down and in a reset: from an asking step, or from 0, to the next
  pub enters : (step next : Step) (wanted : Mode) → is_asking next ≡ true → is_up next ≡ is_up step → is_full_step next ≡ is_full_step step
      → P step wanted (Enter next)

module _ (P : Step → Mode → Move → Type 0) (done : Bool) (by : ByMove done P) where
  -- ---- what the rules are put together from
  either : {step : Step} {wanted : Mode} (test : Bool) (x y : Move) → P step wanted x → P step wanted y → P step wanted (cond test x y)
  either true x y p q = p
  either false x y p q = q

  by_mode_lem : {step : Step} {wanted : Mode} (mode : Mode) (x y z : Move) → P step wanted x → P step wanted y → P step wanted z
      → P step wanted (by_mode mode x y z)
  by_mode_lem Mode.No x y z p q r = p
  by_mode_lem Mode.Silent x y z p q r = q
  by_mode_lem Mode.Full x y z p q r = r

  by_partial_lem : {step : Step} {wanted : Mode} (outfit : Outfit) (x y : Move) → P step wanted x → P step wanted y
      → P step wanted (by_partial outfit x y)
  by_partial_lem Bare x y p q = p
  by_partial_lem Fitted x y p q = p
  by_partial_lem Partial x y p q = q

  by_transceiver_lem : {step : Step} {wanted : Mode} (outfit : Outfit) (x y : Move) → P step wanted x → P step wanted y
      → P step wanted (by_transceiver outfit x y)
  by_transceiver_lem Bare x y p q = p
  by_transceiver_lem Fitted x y p q = q
  by_transceiver_lem Partial x y p q = q

  when_done_lem : (step : Step) (wanted : Mode) (x : Move) → is_asking step ≡ true → (done ≡ true → P step wanted x) → P step wanted (when_done done x)
  when_done_lem step wanted x e p = by_test done refl
    where
      by_test : (test : Bool) → done ≡ test → P step wanted (when_done test x)
      by_test true d = p d
      by_test false d = by.asks_again step wanted e

  -- ---- the rules
  ruled : (step : Step) (wanted : Mode) (refused reached : Bool) (outfit : Outfit) → P step wanted (rule_of step wanted done refused reached outfit)
  ruled NoCommunication wanted refused reached outfit =
      by_mode_lem wanted _ _ _ (by.stays _ _) (by.stays _ _)
      (by_transceiver_lem outfit _ _ (by.enters _ _ _ refl refl refl) (by.enters _ _ _ refl refl refl))
  ruled TransceiverNormal wanted refused reached outfit = when_done_lem _ _ _ refl (λ d. by.enters _ _ _ refl refl refl)
  ruled ControllersStopped wanted refused reached outfit = when_done_lem _ _ _ refl (λ d. by.enters _ _ _ refl refl refl)
  ruled ControllersStarted wanted refused reached outfit = when_done_lem _ _ _ refl (λ d. by.starts _ _ d refl)
  ruled (Checking t) wanted refused reached outfit =
      let quiet : Quiet (Checking t) = record { up = refl; quiet = refl } in
      let checked = either reached _ _ (by.passes _ wanted quiet refl) (by.counts _ _ wanted quiet (record { up = refl; quiet = refl }) refl) in
      by_mode_lem wanted _ _ _ checked (by.silences _ _ refl) checked
  ruled Full wanted refused reached outfit =
      by_mode_lem wanted _ _ _ (by.stays _ _) (by.silences _ _ refl) (by.stays _ _)
  ruled Restarting wanted refused reached outfit = when_done_lem _ _ _ refl (λ d. by.waits _ _ d refl refl)
  ruled (Waiting t) wanted refused reached outfit =
      let quiet : Quiet (Waiting t) = record { up = refl; quiet = refl } in
      let unsaid : Unsaid (Waiting t) = record { up = refl; quiet = refl; unsaid = refl } in
      either reached _ _
      (by_mode_lem wanted _ _ _ (by.fills _ _ unsaid) (by.silences _ _ refl) (by.fills _ _ unsaid))
      (by.counts _ _ _ quiet (record { up = refl; quiet = refl }) refl)
  ruled Silent wanted refused reached outfit =
      by_mode_lem wanted _ _ _ (by.stays _ _) (by.stays _ _) (by.fills _ _ (record { up = refl; quiet = refl; unsaid = refl }))
  ruled ClearWake wanted refused reached outfit =
      when_done_lem _ _ _ refl (λ d. by_partial_lem outfit _ _ (by.stays _ _) (by.enters _ _ _ refl refl refl))
  ruled DownStopped wanted refused reached outfit =
      when_done_lem _ _ _ refl (λ d. by_partial_lem outfit _ _ (by.enters _ _ _ refl refl refl) (by.enters _ _ _ refl refl refl))
  ruled TransceiverStandby wanted refused reached outfit =
      when_done_lem _ _ _ refl (λ d. by_partial_lem outfit _ _ (by.ends _ _ refl) (by.enters _ _ _ refl refl refl))
  ruled ControllersSleep wanted refused reached outfit =
      by_partial_lem outfit _ _
      (when_done_lem _ _ _ refl (λ d. by_transceiver_lem outfit _ _ (by.ends _ _ refl) (by.enters _ _ _ refl refl refl)))
      (either refused _ _ (by.enters _ _ _ refl refl refl) (when_done_lem _ _ _ refl (λ d. by.enters _ _ _ refl refl refl)))
  ruled CheckWake wanted refused reached outfit =
      when_done_lem _ _ _ refl (λ d. by_partial_lem outfit _ _ (by.stays _ _) (by.ends _ _ refl))
  ruled CheckWakeAgain wanted refused reached outfit =
      when_done_lem _ _ _ refl (λ d. by_partial_lem outfit _ _ (by.stays _ _) (by.enters _ _ _ refl refl refl))
  ruled ResetStopped wanted refused reached outfit = when_done_lem _ _ _ refl (λ d. by.enters _ _ _ refl refl refl)
  ruled ResetStarted wanted refused reached outfit =
      when_done_lem _ _ _ refl (λ d. by_mode_lem wanted _ _ _ (by.starts _ _ d refl) (by.silences _ _ refl) (by.starts _ _ d refl))

  -- ---- the decision
  first_down_lem : (step : Step) (test : Bool) (x : Move) → is_on step ≡ test → P step Mode.No x → P step Mode.No (cond test GoDown x)
  first_down_lem step true x e p = by.goes_down_lem step e
  first_down_lem step false x e p = p

  -- whatever holds of each move holds of every decision
  pub by_move : (step : Step) (wanted : Mode) (refused reached : Bool) (outfit : Outfit)
      → P step wanted (decision step wanted done refused reached outfit)
  unfolding decision
  by_move step Mode.No refused reached outfit = first_down_lem step (is_on step) _ refl (ruled step Mode.No refused reached outfit)
  by_move step Mode.Silent refused reached outfit = ruled step Mode.Silent refused reached outfit
  by_move step Mode.Full refused reached outfit = ruled step Mode.Full refused reached outfit

-- a step that is said to be full, 4 or 5, is such a quiet one
pub full_quiet : (step : Step) → is_full_step step ≡ true → Quiet step
full_quiet NoCommunication e = absurd (false≢true e)
full_quiet TransceiverNormal e = absurd (false≢true e)
full_quiet ControllersStopped e = absurd (false≢true e)
full_quiet ControllersStarted e = absurd (false≢true e)
full_quiet (Checking t) e = record { up = refl; quiet = refl }
full_quiet Full e = record { up = refl; quiet = refl }
full_quiet Restarting e = absurd (false≢true e)
full_quiet (Waiting t) e = absurd (false≢true e)
full_quiet Silent e = absurd (false≢true e)
full_quiet ClearWake e = absurd (false≢true e)
full_quiet DownStopped e = absurd (false≢true e)
full_quiet TransceiverStandby e = absurd (false≢true e)
full_quiet ControllersSleep e = absurd (false≢true e)
full_quiet CheckWake e = absurd (false≢true e)
full_quiet CheckWakeAgain e = absurd (false≢true e)
full_quiet ResetStopped e = absurd (false≢true e)
full_quiet ResetStarted e = absurd (false≢true e)
