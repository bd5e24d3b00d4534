-- The arrows between the steps: each move that a tick can make, at just the steps and wanted modes at which it can come. Moves that no outfit allows
-- and modes that cannot be wanted there are left out, since a step suits the network's outfit and silent is wanted only while up.
use Rattle.lists.proofs.Basics.{ℕ, ◌≡◌, refl, sym, ap, ◌∙◌, Bool, true, false, cond, ◌||◌, false≢true, eqb}
use Rattle.lists.specs.Lists.{any}
use Rattle.lists.proofs.Tests.{split}
use Rattle.records.specs.declared.Mode.{Mode}
use Rattle.records.specs.Records.{mode_number}
use Rattle.settings.specs.declared.Network.{Network}
use Rattle.steps.specs.declared.Step.{Step}
use Rattle.steps.specs.declared.Step.TheVariants.{NoCommunication, TransceiverNormal, ControllersStopped, ControllersStarted, Checking, Full}
use Rattle.steps.specs.declared.Step.TheVariants.{Restarting, Waiting, Silent, ClearWake, DownStopped, TransceiverStandby, ControllersSleep}
use Rattle.steps.specs.declared.Step.TheVariants.{CheckWake, CheckWakeAgain}
use Rattle.steps.specs.declared.Step.TheVariants.{ResetStopped, ResetStarted}
use Rattle.steps.specs.declared.Phase.{Phase}
use Rattle.steps.specs.declared.Ask.{Ask}
use Rattle.steps.specs.declared.Outfit.{Outfit}
use Rattle.steps.specs.declared.Outfit.TheVariants.{Bare, Fitted, Partial}
use Rattle.steps.specs.declared.Move.{Move}
use Rattle.steps.specs.declared.Move.TheVariants.{Stay, AskAgain, Count, EnterFull, EnterSilent, Pass, Wait, GoDown, EnterNoCommunication, Enter}
use Rattle.steps.specs.Steps.{phase_of, asks_for, on_phase, up_phase, full_phase, is_on, is_up, is_full_step, is_asking, asks_to_start}
use Rattle.steps.specs.Decision.{by_partial, by_transceiver, when_done, risen, is_no, goes_down, decision}
use Rattle.steps.specs.After.{first_down}
use Rattle.network.specs.declared.State.{State}
use Rattle.network.specs.State.{heard_of}
use Rattle.network.specs.Rules.{is_refusal, outfit_of}
use Rattle.network_theorems.specs.Kept.{Kept}
use Rattle.network_demands.specs.Own.{finished, reaches, decides}

-- an outfit has what is asked: a transceiver, and for the wake flag partial networking
abbrev pub suits_ask : Outfit → Ask → Bool
suits_ask outfit Ask.Nothing = true
suits_ask outfit (Ask.Controllers mode) = true
suits_ask outfit (Ask.Transceiver mode) = by_transceiver outfit false true
suits_ask outfit Ask.ClearWake = by_partial outfit false true
suits_ask outfit Ask.CheckWake = by_partial outfit false true

-- a step that a network with this outfit can be in
abbrev pub suits : Outfit → Step → Bool
suits outfit step = suits_ask outfit (asks_for step)

-- no transceiver, a transceiver, or one with partial networking, by the settings
abbrev pub own_outfit : Network → Outfit
own_outfit n = outfit_of n.transceiver n.partial

-- ---- groups of steps
-- every phase but going down: no was told since the last shutdown
abbrev pub rested_phase : Phase → Bool
rested_phase Phase.Off = true
rested_phase Phase.Rising = true
rested_phase Phase.Checking = true
rested_phase Phase.Full = true
rested_phase Phase.Recovering = true
rested_phase Phase.Silent = true
rested_phase Phase.Falling = false
rested_phase Phase.Resetting = true

abbrev pub has_rested : Step → Bool
has_rested step = rested_phase (phase_of step)

-- steps 3 to 8, 15 and 16: the controllers were asked to start
abbrev pub has_begun : Step → Bool
has_begun step = is_up step || asks_to_start (asks_for step)

-- what is up is on, and what is on has rested
pub up_on : (phase : Phase) → up_phase phase ≡ true → on_phase phase ≡ true
up_on Phase.Off e = e
up_on Phase.Rising e = refl
up_on Phase.Checking e = refl
up_on Phase.Full e = refl
up_on Phase.Recovering e = refl
up_on Phase.Silent e = refl
up_on Phase.Falling e = e
up_on Phase.Resetting e = refl

pub on_rested : (phase : Phase) → on_phase phase ≡ true → rested_phase phase ≡ true
on_rested Phase.Off e = refl
on_rested Phase.Rising e = refl
on_rested Phase.Checking e = refl
on_rested Phase.Full e = refl
on_rested Phase.Recovering e = refl
on_rested Phase.Silent e = refl
on_rested Phase.Falling e = e
on_rested Phase.Resetting e = refl

pub up_rested : (phase : Phase) → up_phase phase ≡ true → rested_phase phase ≡ true
up_rested phase e = on_rested phase (up_on phase e)

-- ---- what is known of a step that a tick leaves or enters
-- it goes down, and does not ask to start
pub record Down (step : Step) : Type 0 where
  pub falls : phase_of step ≡ Phase.Falling
  pub starts_not : asks_to_start (asks_for step) ≡ false

-- so does the first down step
pub first_down_lem : (partial : Bool) → Down (first_down partial)
first_down_lem true = record { falls = refl; starts_not = refl }
first_down_lem false = record { falls = refl; starts_not = refl }

-- it asks for something: it suits the outfit, is not full, came to rest only if it is on, and asks to start only if it is on
pub record Asks (outfit : Outfit) (step : Step) : Type 0 where
  pub suited : suits outfit step ≡ true
  pub asking : is_asking step ≡ true
  pub not_full : is_full_step step ≡ false
  pub rested : has_rested step ≡ is_on step
  pub starts_on : asks_to_start (asks_for step) ≡ true → is_on step ≡ true

on_asks : (outfit : Outfit) (step : Step) → suits outfit step ≡ true → is_asking step ≡ true → is_full_step step ≡ false → is_on step ≡ true
    → Asks outfit step
on_asks outfit step u a f o = record { suited = u; asking = a; not_full = f; rested = on_rested (phase_of step) o ∙ sym o; starts_on = λ e. o }

down_asks : (outfit : Outfit) (step : Step) → suits outfit step ≡ true → is_asking step ≡ true → Down step → Asks outfit step
down_asks outfit step u a d = record {
  suited = u;
  asking = a;
  not_full = ap full_phase d.falls;
  rested = ap rested_phase d.falls ∙ sym (ap on_phase d.falls);
  starts_on = λ e. absurd (false≢true (sym d.starts_not ∙ e));
}

-- ---- the arrows
-- P step wanted move, for each arrow
pub record ByArrow (done reached : Bool) (outfit : Outfit) (P : Step → Mode → Move → Type 0) : Type 0 where
  -- 0 stays, or is left where full is wanted
  pub rests : (wanted : Mode) → eqb 2 (mode_number wanted) ≡ false → P NoCommunication wanted Stay
  pub called : suits outfit TransceiverNormal ≡ true → P NoCommunication Mode.Full (Enter TransceiverNormal)
  pub called_bare : outfit ≡ Bare → P NoCommunication Mode.Full (Enter ControllersStopped)
  -- coming up: 1 to 2, 2 to 3, 3 to 4
  pub climbs : done ≡ true → P TransceiverNormal Mode.Full (Enter ControllersStopped)
  pub begins : done ≡ true → P ControllersStopped Mode.Full (Enter ControllersStarted)
  pub starts : done ≡ true → P ControllersStarted Mode.Full EnterFull
  -- any asking step that is not done
  pub asks_again : (step : Step) (wanted : Mode) → Asks outfit step → goes_down step wanted ≡ false → P step wanted AskAgain
  -- 4, 5 and 8 as wanted
  pub checks : (t : ℕ) → reached ≡ false → P (Checking t) Mode.Full (Count (Checking (risen t)))
  pub passes : (t : ℕ) → reached ≡ true → P (Checking t) Mode.Full Pass
  pub stays_full : P Full Mode.Full Stay
  pub stays_silent : P Silent Mode.Silent Stay
  -- 6 to 7, and 7
  pub waits : (wanted : Mode) → is_no wanted ≡ false → done ≡ true → P Restarting wanted Wait
  pub waits_on : (t : ℕ) (wanted : Mode) → is_no wanted ≡ false → reached ≡ false → P (Waiting t) wanted (Count (Waiting (risen t)))
  -- 15 to 16
  pub resumes : (wanted : Mode) → is_no wanted ≡ false → done ≡ true → P ResetStopped wanted (Enter ResetStarted)
  -- 7, 8 and 16 to 4; 4, 5, 7 and 16 to 8
  pub fills : (step : Step) → is_up step ≡ true → is_full_step step ≡ false → P step Mode.Full EnterFull
  pub silences : (step : Step) → is_up step ≡ true → P step Mode.Silent EnterSilent
  -- 1 to 8, 15 and 16, down; going down; to 0
  pub goes_down_lem : (step : Step) → is_on step ≡ true → P step Mode.No GoDown
  pub sinks : (step next : Step) (wanted : Mode) → Down step → Down next → suits outfit next ≡ true → P step wanted (Enter next)
  pub ends : (step : Step) (wanted : Mode) → Down step → P step wanted EnterNoCommunication

module _ (done reached : Bool) (outfit : Outfit) (P : Step → Mode → Move → Type 0) (by : ByArrow done reached outfit P) where
  -- ---- by the outfit
  by_transceiver_lem : {A : Type 0} (Q : A → Type 0) (x y : A) → (outfit ≡ Bare → Q x) → (by_transceiver outfit false true ≡ true → Q y)
      → Q (by_transceiver outfit x y)
  by_transceiver_lem Q x y p q = by_outfit_lem outfit refl
    where
      by_outfit_lem : (o : Outfit) → outfit ≡ o → Q (by_transceiver o x y)
      by_outfit_lem Bare e = p e
      by_outfit_lem Fitted e = q (ap (λ (o : Outfit). by_transceiver o false true) e)
      by_outfit_lem Partial e = q (ap (λ (o : Outfit). by_transceiver o false true) e)

  by_partial_lem : {A : Type 0} (Q : A → Type 0) (x y : A) → (by_partial outfit false true ≡ false → Q x) → (by_partial outfit false true ≡ true → Q y)
      → Q (by_partial outfit x y)
  by_partial_lem Q x y p q = by_outfit_lem outfit refl
    where
      by_outfit_lem : (o : Outfit) → outfit ≡ o → Q (by_partial o x y)
      by_outfit_lem Bare e = p (ap (λ (o : Outfit). by_partial o false true) e)
      by_outfit_lem Fitted e = p (ap (λ (o : Outfit). by_partial o false true) e)
      by_outfit_lem Partial e = q (ap (λ (o : Outfit). by_partial o false true) e)

  -- with partial networking there is a transceiver
  partial_fitted : (o : Outfit) → by_partial o false true ≡ true → by_transceiver o false true ≡ true
  partial_fitted Bare e = e
  partial_fitted Fitted e = refl
  partial_fitted Partial e = refl

  -- ---- by what is done
  when_done_lem : (step : Step) (wanted : Mode) (x : Move) → Asks outfit step → goes_down step wanted ≡ false → (done ≡ true → P step wanted x)
      → P step wanted (when_done done x)
  when_done_lem step wanted x a g p = split (P step wanted) done p (λ _. by.asks_again step wanted a g)

  -- a network that is on and is to be on
  climbing : (step : Step) (x : Move) → suits outfit step ≡ true → is_asking step ≡ true → is_full_step step ≡ false → is_on step ≡ true
      → (wanted : Mode) → goes_down step wanted ≡ false → (done ≡ true → P step wanted x) → P step wanted (when_done done x)
  climbing step x u a f o wanted = when_done_lem step wanted x (on_asks outfit step u a f o)

  -- a network that goes down looks at no wanted mode
  grounded : (step : Step) (wanted : Mode) (x : Move) → Down step → (goes_down step wanted ≡ false → P step wanted x)
      → P step wanted (cond (goes_down step wanted) GoDown x)
  grounded step wanted x d p = by_mode_lem wanted p
    where
      by_mode_lem : (w : Mode) → (goes_down step w ≡ false → P step w x) → P step w (cond (goes_down step w) GoDown x)
      by_mode_lem Mode.No q = let o = ap on_phase d.falls in rw o (q o)
      by_mode_lem Mode.Silent q = q refl
      by_mode_lem Mode.Full q = q refl

  -- ---- the decision
  by_arrow : (step : Step) (wanted : Mode) (refused : Bool) → suits outfit step ≡ true → (wanted ≡ Mode.Silent → is_up step ≡ true)
      → P step wanted (decision step wanted done refused reached outfit)
  unfolding decision
  by_arrow NoCommunication Mode.No refused u w = by.rests Mode.No refl
  by_arrow NoCommunication Mode.Silent refused u w = by.rests Mode.Silent refl
  by_arrow NoCommunication Mode.Full refused u w =
      by_transceiver_lem (P NoCommunication Mode.Full) (Enter ControllersStopped) (Enter TransceiverNormal) by.called_bare by.called
  by_arrow TransceiverNormal Mode.No refused u w = by.goes_down_lem _ refl
  by_arrow TransceiverNormal Mode.Silent refused u w = absurd (false≢true (w refl))
  by_arrow TransceiverNormal Mode.Full refused u w = climbing _ _ u refl refl refl _ refl by.climbs
  by_arrow ControllersStopped Mode.No refused u w = by.goes_down_lem _ refl
  by_arrow ControllersStopped Mode.Silent refused u w = absurd (false≢true (w refl))
  by_arrow ControllersStopped Mode.Full refused u w = climbing _ _ u refl refl refl _ refl by.begins
  by_arrow ControllersStarted Mode.No refused u w = by.goes_down_lem _ refl
  by_arrow ControllersStarted Mode.Silent refused u w = absurd (false≢true (w refl))
  by_arrow ControllersStarted Mode.Full refused u w = climbing _ _ u refl refl refl _ refl by.starts
  by_arrow (Checking t) Mode.No refused u w = by.goes_down_lem _ refl
  by_arrow (Checking t) Mode.Silent refused u w = by.silences _ refl
  by_arrow (Checking t) Mode.Full refused u w = split (P (Checking t) Mode.Full) reached (by.passes t) (by.checks t)
  by_arrow Full Mode.No refused u w = by.goes_down_lem _ refl
  by_arrow Full Mode.Silent refused u w = by.silences _ refl
  by_arrow Full Mode.Full refused u w = by.stays_full
  by_arrow Restarting Mode.No refused u w = by.goes_down_lem _ refl
  by_arrow Restarting Mode.Silent refused u w = climbing _ _ u refl refl refl _ refl (by.waits _ refl)
  by_arrow Restarting Mode.Full refused u w = climbing _ _ u refl refl refl _ refl (by.waits _ refl)
  by_arrow (Waiting t) Mode.No refused u w = by.goes_down_lem _ refl
  by_arrow (Waiting t) Mode.Silent refused u w =
      split (P (Waiting t) Mode.Silent) reached (λ _. by.silences _ refl) (by.waits_on t Mode.Silent refl)
  by_arrow (Waiting t) Mode.Full refused u w =
      split (P (Waiting t) Mode.Full) reached (λ _. by.fills _ refl refl) (by.waits_on t Mode.Full refl)
  by_arrow Silent Mode.No refused u w = by.goes_down_lem _ refl
  by_arrow Silent Mode.Silent refused u w = by.stays_silent
  by_arrow Silent Mode.Full refused u w = by.fills _ refl refl
  by_arrow ClearWake wanted refused u w =
      let d : Down ClearWake = record { falls = refl; starts_not = refl } in
      grounded ClearWake wanted _ d (λ g. when_done_lem _ _ _ (down_asks outfit ClearWake u refl d) g (λ _. by_partial_lem (P ClearWake wanted) _ _
      (λ o. absurd (false≢true (sym o ∙ u))) (λ o. by.sinks _ _ _ d (record { falls = refl; starts_not = refl }) refl)))
  by_arrow DownStopped wanted refused u w =
      let d : Down DownStopped = record { falls = refl; starts_not = refl } in
      grounded DownStopped wanted _ d (λ g. when_done_lem _ _ _ (down_asks outfit DownStopped u refl d) g (λ _. by_partial_lem (P DownStopped wanted) _ _
      (λ o. by.sinks _ _ _ d (record { falls = refl; starts_not = refl }) refl)
      (λ o. by.sinks _ _ _ d (record { falls = refl; starts_not = refl }) (partial_fitted outfit o))))
  by_arrow TransceiverStandby wanted refused u w =
      let d : Down TransceiverStandby = record { falls = refl; starts_not = refl } in
      grounded TransceiverStandby wanted _ d (λ g. when_done_lem _ _ _ (down_asks outfit TransceiverStandby u refl d) g (λ _.
      by_partial_lem (P TransceiverStandby wanted) _ _ (λ o. by.ends _ _ d) (λ o. by.sinks _ _ _ d (record { falls = refl; starts_not = refl }) refl)))
  by_arrow ControllersSleep wanted refused u w =
      let d : Down ControllersSleep = record { falls = refl; starts_not = refl } in
      let a = down_asks outfit ControllersSleep u refl d in
      grounded ControllersSleep wanted _ d (λ g. by_partial_lem (P ControllersSleep wanted) _ _
      (λ o. when_done_lem _ _ _ a g (λ _. by_transceiver_lem (P ControllersSleep wanted) _ _ (λ q. by.ends _ _ d)
      (λ q. by.sinks _ _ _ d (record { falls = refl; starts_not = refl }) q)))
      (λ o. split (P ControllersSleep wanted) refused (λ _. by.sinks _ _ _ d (record { falls = refl; starts_not = refl }) o)
      (λ _. when_done_lem _ _ _ a g (λ _. by.sinks _ _ _ d (record { falls = refl; starts_not = refl }) o))))
  by_arrow CheckWake wanted refused u w =
      let d : Down CheckWake = record { falls = refl; starts_not = refl } in
      grounded CheckWake wanted _ d (λ g. when_done_lem _ _ _ (down_asks outfit CheckWake u refl d) g (λ _. by_partial_lem (P CheckWake wanted) _ _
      (λ o. absurd (false≢true (sym o ∙ u))) (λ o. by.ends _ _ d)))
  by_arrow CheckWakeAgain wanted refused u w =
      let d : Down CheckWakeAgain = record { falls = refl; starts_not = refl } in
      grounded CheckWakeAgain wanted _ d (λ g. when_done_lem _ _ _ (down_asks outfit CheckWakeAgain u refl d) g (λ _.
      by_partial_lem (P CheckWakeAgain wanted) _ _ (λ o. absurd (false≢true (sym o ∙ u)))
      (λ o. by.sinks _ _ _ d (record { falls = refl; starts_not = refl }) u)))
  by_arrow ResetStopped Mode.No refused u w = by.goes_down_lem _ refl
  by_arrow ResetStopped Mode.Silent refused u w = climbing _ _ u refl refl refl _ refl (by.resumes _ refl)
  by_arrow ResetStopped Mode.Full refused u w = climbing _ _ u refl refl refl _ refl (by.resumes _ refl)
  by_arrow ResetStarted Mode.No refused u w = by.goes_down_lem _ refl
  by_arrow ResetStarted Mode.Silent refused u w = climbing _ _ u refl refl refl _ refl (λ _. by.silences _ refl)
  by_arrow ResetStarted Mode.Full refused u w = climbing _ _ u refl refl refl _ refl (λ _. by.fills _ refl refl)

-- whatever holds of each arrow holds of what a tick decides for a network
pub by_tick_arrow : (n : Network) (s : State) (P : Step → Mode → Move → Type 0) → ByArrow (finished n s) (reaches n s) (own_outfit n) P
    → suits (own_outfit n) s.step ≡ true → Kept n s → P s.step s.wanted (decides n s)
by_tick_arrow n s P by u k =
    by_arrow (finished n s) (reaches n s) (own_outfit n) P by s.step s.wanted (any is_refusal (heard_of n s)) u k.wanted
