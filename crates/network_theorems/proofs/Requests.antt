-- What a network answers to a request, in every step.
use Rattle.lists.proofs.Basics.{ℕ, ◌≡◌, refl, ap, ◌∙◌, cond, eqb, ltb}
use Rattle.settings.specs.declared.Network.{Network}
use Rattle.steps.specs.declared.Step.{Step}
use Rattle.steps.specs.declared.Step.TheVariants.{NoCommunication, TransceiverNormal, ControllersStopped, ControllersStarted}
use Rattle.steps.specs.declared.Step.TheVariants.{Checking, Full, Restarting, Waiting, Silent}
use Rattle.steps.specs.declared.Step.TheVariants.{ClearWake, DownStopped, TransceiverStandby, ControllersSleep, CheckWake, CheckWakeAgain}
use Rattle.steps.specs.declared.Step.TheVariants.{ResetStopped, ResetStarted}
use Rattle.steps.specs.Steps.{step_number, phase_of}
use Rattle.network.specs.declared.State.{State}
use Rattle.network.specs.Replies.{reply_number, silent_reply}
use Rattle.network.specs.Parts.{a_request, part_of}
use Rattle.network_theorems.specs.Requests.{silent_number, request_number}
use Rattle.network_theorems.proofs.Parts.{request_number_lem}

-- R14, R22, R23: silent, step by step
step_silent : (step : Step) → reply_number (silent_reply (phase_of step)) ≡ silent_number (step_number step)
step_silent NoCommunication = refl
step_silent TransceiverNormal = refl
step_silent ControllersStopped = refl
step_silent ControllersStarted = refl
step_silent (Checking ticks) = refl
step_silent Full = refl
step_silent Restarting = refl
step_silent (Waiting ticks) = refl
step_silent Silent = refl
step_silent ClearWake = refl
step_silent DownStopped = refl
step_silent TransceiverStandby = refl
step_silent ControllersSleep = refl
step_silent CheckWake = refl
step_silent CheckWakeAgain = refl
step_silent ResetStopped = refl
step_silent ResetStarted = refl

-- N15, R13, R14, R22, R23: every request has the answer that its mode and the number of the step say
pub request_by_step : (n : Network) (s : State) (mode : ℕ)
    → reply_number (part_of n s (a_request mode)).reply ≡ request_number (step_number s.step) mode
unfolding part_of
request_by_step n s mode = request_number_lem s mode ∙ ap (λ (k : ℕ). cond (ltb 2 mode) 0x21 (cond (eqb 1 mode) k 0)) (step_silent s.step)
