-- What a network makes of a bus-off, in every step.
use Rattle.lists.proofs.Basics.{ℕ, ◌≡◌, refl, ap, ◌∙◌}
use Rattle.std.specs.Prelude.{Option, None, Some}
use Rattle.settings.specs.declared.Network.{Network}
use Rattle.steps.specs.declared.Step.{Step}
use Rattle.steps.specs.declared.Step.TheVariants.{NoCommunication, TransceiverNormal, ControllersStopped, ControllersStarted}
use Rattle.steps.specs.declared.Step.TheVariants.{Checking, Full, Restarting, Waiting, Silent}
use Rattle.steps.specs.declared.Step.TheVariants.{ClearWake, DownStopped, TransceiverStandby, ControllersSleep, CheckWake, CheckWakeAgain}
use Rattle.steps.specs.declared.Step.TheVariants.{ResetStopped, ResetStarted}
use Rattle.steps.specs.Steps.{step_number}
use Rattle.network.specs.declared.Hit.{Hit}
use Rattle.network.specs.declared.State.{State}
use Rattle.network.specs.Replies.{reply_number}
use Rattle.network.specs.BusOff.{counted_in, hit_of, made_anew, after_hit}
use Rattle.network.specs.Parts.{a_bus_off, hit_reply, hit_part, part_of}
use Rattle.network_theorems.specs.BusOffs.{bus_off_number, count_at}
use Rattle.network_theorems.proofs.Parts.{hit_replies}

-- the count after what a step makes of it
abbrev count_by : Option Hit → Step → ℕ → ℕ
count_by (Some Hit.Recover) step count = counted_in step count
count_by (Some Hit.Restart) step count = count
count_by (Some Hit.Reset) step count = count
count_by None step count = count

count_by_lem : (s : State) (hit : Option Hit) → (hit_part s hit).state.count ≡ count_by hit s.step s.count
unfolding hit_part after_hit made_anew
count_by_lem s (Some Hit.Recover) = refl
count_by_lem s (Some Hit.Restart) = refl
count_by_lem s (Some Hit.Reset) = refl
count_by_lem s None = refl

-- B2, B5, B6: step by step
step_bus_off : (step : Step) (count : ℕ)
    → (reply_number (hit_reply (hit_of step)) ≡ bus_off_number (step_number step)) × (count_by (hit_of step) step count ≡ count_at (step_number step) count)
unfolding hit_of
step_bus_off NoCommunication count = (refl, refl)
step_bus_off TransceiverNormal count = (refl, refl)
step_bus_off ControllersStopped count = (refl, refl)
step_bus_off ControllersStarted count = (refl, refl)
step_bus_off (Checking ticks) count = (refl, refl)
step_bus_off Full count = (refl, refl)
step_bus_off Restarting count = (refl, refl)
step_bus_off (Waiting ticks) count = (refl, refl)
step_bus_off Silent count = (refl, refl)
step_bus_off ClearWake count = (refl, refl)
step_bus_off DownStopped count = (refl, refl)
step_bus_off TransceiverStandby count = (refl, refl)
step_bus_off ControllersSleep count = (refl, refl)
step_bus_off CheckWake count = (refl, refl)
step_bus_off CheckWakeAgain count = (refl, refl)
step_bus_off ResetStopped count = (refl, refl)
step_bus_off ResetStarted count = (refl, refl)

-- a bus-off has the answer that the number of the step says, and the count after it is the one that it says
pub bus_off_by_step : (n : Network) (s : State) → (reply_number (part_of n s a_bus_off).reply ≡ bus_off_number (step_number s.step))
    × ((part_of n s a_bus_off).state.count ≡ count_at (step_number s.step) s.count)
unfolding part_of
bus_off_by_step n s =
    let by = step_bus_off s.step s.count in
    (ap reply_number (hit_replies s (hit_of s.step)) ∙ by.0, count_by_lem s (hit_of s.step) ∙ by.1)
