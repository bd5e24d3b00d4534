-- Laws by cases of the step, for the crates above: each says once what a new step has to answer.
use Prim.Native.Nat.{ℕ}
use mathlib.Core.Path.{◌≡◌, refl, sym, ap, ◌∙◌}
use mathlib.Core.List.{[], ◌∷◌}
use mathlib.Core.Bool.{Bool, true, false, true≢false, false≢true}
use lib.Dec.{eqb}
use lib.ListN.{get_or}
use borrow.Author.Tests.{eqb-true}
use Rattle.records.specs.declared.Mode.{Mode}
use Rattle.steps.specs.declared.Step.{Step}
use Rattle.steps.specs.declared.Step.TheVariants.{NoCommunication, TransceiverNormal, ControllersStopped, ControllersStarted}
use Rattle.steps.specs.declared.Step.TheVariants.{Checking, Full, Restarting, Waiting, Silent}
use Rattle.steps.specs.declared.Step.TheVariants.{ClearWake, DownStopped, TransceiverStandby, ControllersSleep, CheckWake, CheckWakeAgain}
use Rattle.steps.specs.declared.Step.TheVariants.{ResetStopped, ResetStarted}
use Rattle.steps.specs.declared.Phase.{Phase}
use Rattle.steps.specs.declared.Ask.{Ask}
use Rattle.steps.specs.declared.Outfit.{Outfit}
use Rattle.steps.specs.Steps.{step_number, phase_of, asks_for, is_restarting, asks_to_start, asks_to_sleep}
use Rattle.steps.specs.Decision.{decision}

-- ---- phase_of
-- what a phase says of its steps: the phases off, full and silent have one step, a step that is checked asks for nothing, and in a reset the step
-- that does not ask the controllers to start is 15
abbrev pub InPhase : Phase → Step → Type 0
InPhase Phase.Off step = step ≡ NoCommunication
InPhase Phase.Rising step = Unit
InPhase Phase.Checking step = asks_for step ≡ Ask.Nothing
InPhase Phase.Full step = step ≡ Full
InPhase Phase.Recovering step = Unit
InPhase Phase.Silent step = step ≡ Silent
InPhase Phase.Falling step = Unit
InPhase Phase.Resetting step = asks_to_start (asks_for step) ≡ false → step ≡ ResetStopped

pub in_phase : (step : Step) → InPhase (phase_of step) step
in_phase NoCommunication = refl
in_phase TransceiverNormal = tt
in_phase ControllersStopped = tt
in_phase ControllersStarted = tt
in_phase (Checking t) = refl
in_phase Full = refl
in_phase Restarting = tt
in_phase (Waiting t) = tt
in_phase Silent = refl
in_phase ClearWake = tt
in_phase DownStopped = tt
in_phase TransceiverStandby = tt
in_phase ControllersSleep = tt
in_phase CheckWake = tt
in_phase CheckWakeAgain = tt
in_phase ResetStopped = λ e. refl
in_phase ResetStarted = λ e. absurd (true≢false e)

-- ---- step_number
-- the steps in the order of their numbers; 4 and 7, which have ticks, are the step itself
abbrev pub numbered : ℕ → Step → Step
numbered number step =
    get_or (NoCommunication ∷ TransceiverNormal ∷ ControllersStopped ∷ ControllersStarted ∷ step ∷ Full ∷ Restarting ∷ step ∷ Silent ∷ ClearWake
    ∷ DownStopped ∷ TransceiverStandby ∷ ControllersSleep ∷ CheckWake ∷ CheckWakeAgain ∷ ResetStopped ∷ ResetStarted ∷ []) number step

by_number_lem : (step : Step) → numbered (step_number step) step ≡ step
by_number_lem NoCommunication = refl
by_number_lem TransceiverNormal = refl
by_number_lem ControllersStopped = refl
by_number_lem ControllersStarted = refl
by_number_lem (Checking t) = refl
by_number_lem Full = refl
by_number_lem Restarting = refl
by_number_lem (Waiting t) = refl
by_number_lem Silent = refl
by_number_lem ClearWake = refl
by_number_lem DownStopped = refl
by_number_lem TransceiverStandby = refl
by_number_lem ControllersSleep = refl
by_number_lem CheckWake = refl
by_number_lem CheckWakeAgain = refl
by_number_lem ResetStopped = refl
by_number_lem ResetStarted = refl

-- a step is the one that has its number
pub numbered_is : (number : ℕ) (step : Step) → eqb number (step_number step) ≡ true → step ≡ numbered number step
numbered_is number step e = sym (by_number_lem step) ∙ ap (λ (k : ℕ). numbered k step) (sym (eqb-true number (step_number step) e))

-- so a step that passes a test which step 6 does not pass is another one
pub not_restarting : (step : Step) (p : Step → Bool) → p Restarting ≡ false → p step ≡ true → is_restarting step ≡ false
not_restarting step p z e = by_test (is_restarting step) refl
  where
    by_test : (b : Bool) → is_restarting step ≡ b → b ≡ false
    by_test true r = absurd (false≢true (sym z ∙ ap p (sym (numbered_is 6 step r)) ∙ e))
    by_test false r = refl

-- ---- decision
module _ (wanted : Mode) (done refused reached : Bool) (outfit : Outfit) where
  -- only in the step that asks the controllers to sleep does a refusal decide
  pub only_sleep : (step : Step) → asks_to_sleep (asks_for step) ≡ false
      → decision step wanted done false reached outfit ≡ decision step wanted done refused reached outfit
  unfolding decision
  only_sleep NoCommunication e = refl
  only_sleep TransceiverNormal e = refl
  only_sleep ControllersStopped e = refl
  only_sleep ControllersStarted e = refl
  only_sleep (Checking t) e = refl
  only_sleep Full e = refl
  only_sleep Restarting e = refl
  only_sleep (Waiting t) e = refl
  only_sleep Silent e = refl
  only_sleep ClearWake e = refl
  only_sleep DownStopped e = refl
  only_sleep TransceiverStandby e = refl
  only_sleep ControllersSleep e = absurd (true≢false e)
  only_sleep CheckWake e = refl
  only_sleep CheckWakeAgain e = refl
  only_sleep ResetStopped e = refl
  only_sleep ResetStarted e = refl
