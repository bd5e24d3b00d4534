-- How far a network is from full, by its step: the ticks that are left, and the records that go out until then, where each tick goes on. What a tick
-- that goes on decides, and that it comes one tick nearer.
use Rattle.lists.proofs.Basics.{ℕ, zero, suc, ◌+◌, ◌-◌, ◌*◌, ◌<◌, ◌≤◌, arith, leb-true, leb-false, lt-ltb, ◌≡◌, refl, sym, ap, ◌∙◌, Bool, true, false}
use Rattle.lists.proofs.Basics.{cond, not, ◌&&◌, false≢true, true≢false, eqb, leb, length, length-map, length-append}
use Rattle.lists.proofs.Tests.{split}
use Rattle.records.specs.declared.ControllerMode.{ControllerMode}
use Rattle.records.specs.declared.TransceiverMode.{TransceiverMode}
use Rattle.records.specs.declared.Mode.{Mode}
use Rattle.settings.specs.declared.Network.{Network}
use Rattle.settings.specs.Settings.{controllers_of, listed}
use Rattle.steps.specs.declared.Step.{Step}
use Rattle.steps.specs.declared.Step.TheVariants.{NoCommunication, TransceiverNormal, ControllersStopped, ControllersStarted, Checking, Full}
use Rattle.steps.specs.declared.Step.TheVariants.{Restarting, Waiting, Silent, ClearWake, DownStopped, TransceiverStandby, ControllersSleep}
use Rattle.steps.specs.declared.Step.TheVariants.{CheckWake, CheckWakeAgain, ResetStopped, ResetStarted}
use Rattle.steps.specs.declared.Outfit.{Outfit}
use Rattle.steps.specs.declared.Outfit.TheVariants.{Bare, Fitted, Partial}
use Rattle.steps.specs.declared.Move.{Move}
use Rattle.steps.specs.declared.Move.TheVariants.{Stay, AskAgain, Count, EnterFull, Pass, Wait, EnterNoCommunication, Enter}
use Rattle.steps.specs.declared.Phase.{Phase}
use Rattle.steps.specs.declared.Ask.{Ask}
use Rattle.steps.specs.Steps.{step_number, phase_of, timer_of, on_phase, is_on, is_up, is_full_step, is_asking}
use Rattle.steps.specs.Decision.{by_partial, by_transceiver, risen, is_no, decision}
use Rattle.steps.specs.After.{step_after}
use Rattle.steps.proofs.Laws.{InPhase, in_phase, numbered_is}
use Rattle.handing.specs.Handing.{requests, entering, entering_full, move_records}
use Rattle.network.specs.Rules.{reached_by}
use Rattle.network.specs.Moving.{told_after}
use Rattle.network_theorems.proofs.Moves.{full_quiet}
use Rattle.network_demands.proofs.Tests.{is_errand}
use Rattle.network_demands.proofs.Handed.{is_end}
use Rattle.network_demands.proofs.Arrows.{suits, rested_phase, has_rested}

-- ---- what is left, by the step
-- one of three, by the outfit
abbrev pub by_each : {A : Type 0} → Outfit → A → A → A → A
by_each Bare bare fitted partial = bare
by_each Fitted bare fitted partial = fitted
by_each Partial bare fitted partial = partial

-- the ticks that are left to full, at a delay
abbrev pub ticks_left : Outfit → ℕ → Step → ℕ
ticks_left outfit delay NoCommunication = by_transceiver outfit 3 4
ticks_left outfit delay TransceiverNormal = 3
ticks_left outfit delay ControllersStopped = 2
ticks_left outfit delay ControllersStarted = 1
ticks_left outfit delay (Checking ticks) = 0
ticks_left outfit delay Full = 0
ticks_left outfit delay Restarting = suc (suc (delay - 1))
ticks_left outfit delay (Waiting ticks) = suc (delay - suc ticks)
ticks_left outfit delay Silent = 1
ticks_left outfit delay ClearWake = 9
ticks_left outfit delay DownStopped = by_each outfit 5 7 8
ticks_left outfit delay TransceiverStandby = by_partial outfit 5 7
ticks_left outfit delay ControllersSleep = by_each outfit 4 6 6
ticks_left outfit delay CheckWake = 5
ticks_left outfit delay CheckWakeAgain = 10
ticks_left outfit delay ResetStopped = 2
ticks_left outfit delay ResetStarted = 1

-- the records that are left, of a network with c controllers that is not up
abbrev records_below : Outfit → ℕ → Step → ℕ
records_below outfit c NoCommunication = 3 * c + by_transceiver outfit 2 3
records_below outfit c TransceiverNormal = 3 * c + 2
records_below outfit c ControllersStopped = 2 * c + 2
records_below outfit c ControllersStarted = c + 2
records_below outfit c (Checking ticks) = 0
records_below outfit c Full = 0
records_below outfit c Restarting = 0
records_below outfit c (Waiting ticks) = 0
records_below outfit c Silent = 0
records_below outfit c ClearWake = 5 * c + 6
records_below outfit c DownStopped = 4 * c + by_each outfit 3 5 6
records_below outfit c TransceiverStandby = by_partial outfit (3 * c + 4) (4 * c + 5)
records_below outfit c ControllersSleep = 3 * c + by_each outfit 3 5 5
records_below outfit c CheckWake = 3 * c + 4
records_below outfit c CheckWakeAgain = 5 * c + 7
records_below outfit c ResetStopped = 0
records_below outfit c ResetStarted = 0

-- of one that is up none is counted
abbrev pub records_left : Outfit → ℕ → Step → ℕ
records_left outfit c step = cond (is_up step) 0 (records_below outfit c step)

-- ---- the move of a tick that goes on
abbrev pub onward : Outfit → Bool → Step → Move
onward outfit reached NoCommunication = by_transceiver outfit (Enter ControllersStopped) (Enter TransceiverNormal)
onward outfit reached TransceiverNormal = Enter ControllersStopped
onward outfit reached ControllersStopped = Enter ControllersStarted
onward outfit reached ControllersStarted = EnterFull
onward outfit reached (Checking ticks) = cond reached Pass (Count (Checking (risen ticks)))
onward outfit reached Full = Stay
onward outfit reached Restarting = Wait
onward outfit reached (Waiting ticks) = cond reached EnterFull (Count (Waiting (risen ticks)))
onward outfit reached Silent = EnterFull
onward outfit reached ClearWake = Enter DownStopped
onward outfit reached DownStopped = by_partial outfit (Enter ControllersSleep) (Enter TransceiverStandby)
onward outfit reached TransceiverStandby = by_partial outfit EnterNoCommunication (Enter ControllersSleep)
onward outfit reached ControllersSleep = by_each outfit EnterNoCommunication (Enter TransceiverStandby) (Enter CheckWake)
onward outfit reached CheckWake = EnterNoCommunication
onward outfit reached CheckWakeAgain = Enter ClearWake
onward outfit reached ResetStopped = Enter ResetStarted
onward outfit reached ResetStarted = EnterFull

-- a network that goes down looks at no wanted mode
unlooked : (wanted : Mode) → cond (is_no wanted) false false ≡ false
unlooked Mode.No = refl
unlooked Mode.Silent = refl
unlooked Mode.Full = refl

-- what is asked is answered, sleep is not refused, and full is wanted unless the network goes down: it goes on
pub goes_onward : (step : Step) (wanted : Mode) (done refused reached : Bool) (outfit : Outfit) → suits outfit step ≡ true
    → (is_asking step ≡ true → done ≡ true) → (step ≡ ControllersSleep → refused ≡ false) → (has_rested step ≡ true → wanted ≡ Mode.Full)
    → decision step wanted done refused reached outfit ≡ onward outfit reached step
unfolding decision
goes_onward NoCommunication wanted done refused reached outfit u d r w = rw (w refl) refl
goes_onward TransceiverNormal wanted done refused reached outfit u d r w = rw (w refl, d refl) refl
goes_onward ControllersStopped wanted done refused reached outfit u d r w = rw (w refl, d refl) refl
goes_onward ControllersStarted wanted done refused reached outfit u d r w = rw (w refl, d refl) refl
goes_onward (Checking ticks) wanted done refused reached outfit u d r w = rw (w refl) refl
goes_onward Full wanted done refused reached outfit u d r w = rw (w refl) refl
goes_onward Restarting wanted done refused reached outfit u d r w = rw (w refl, d refl) refl
goes_onward (Waiting ticks) wanted done refused reached outfit u d r w = rw (w refl) refl
goes_onward Silent wanted done refused reached outfit u d r w = rw (w refl) refl
goes_onward ClearWake wanted done refused reached Bare u d r w = absurd (false≢true u)
goes_onward ClearWake wanted done refused reached Fitted u d r w = absurd (false≢true u)
goes_onward ClearWake wanted done refused reached Partial u d r w = rw (unlooked wanted, d refl) refl
goes_onward DownStopped wanted done refused reached outfit u d r w = rw (unlooked wanted, d refl) refl
goes_onward TransceiverStandby wanted done refused reached outfit u d r w = rw (unlooked wanted, d refl) refl
goes_onward ControllersSleep wanted done refused reached Bare u d r w = rw (unlooked wanted, d refl) refl
goes_onward ControllersSleep wanted done refused reached Fitted u d r w = rw (unlooked wanted, d refl) refl
goes_onward ControllersSleep wanted done refused reached Partial u d r w = rw (unlooked wanted, d refl, r refl) refl
goes_onward CheckWake wanted done refused reached Bare u d r w = absurd (false≢true u)
goes_onward CheckWake wanted done refused reached Fitted u d r w = absurd (false≢true u)
goes_onward CheckWake wanted done refused reached Partial u d r w = rw (unlooked wanted, d refl) refl
goes_onward CheckWakeAgain wanted done refused reached Bare u d r w = absurd (false≢true u)
goes_onward CheckWakeAgain wanted done refused reached Fitted u d r w = absurd (false≢true u)
goes_onward CheckWakeAgain wanted done refused reached Partial u d r w = rw (unlooked wanted, d refl) refl
goes_onward ResetStopped wanted done refused reached outfit u d r w = rw (w refl, d refl) refl
goes_onward ResetStarted wanted done refused reached outfit u d r w = rw (w refl, d refl) refl

-- a step that asks and is not done asks again
pub asks_again : (step : Step) (wanted : Mode) (done refused reached : Bool) (outfit : Outfit) → is_asking step ≡ true → done ≡ false
    → (step ≡ ControllersSleep → refused ≡ false) → (has_rested step ≡ true → wanted ≡ Mode.Full)
    → decision step wanted done refused reached outfit ≡ AskAgain
unfolding decision
asks_again NoCommunication wanted done refused reached outfit a d r w = absurd (false≢true a)
asks_again TransceiverNormal wanted done refused reached outfit a d r w = rw (w refl, d) refl
asks_again ControllersStopped wanted done refused reached outfit a d r w = rw (w refl, d) refl
asks_again ControllersStarted wanted done refused reached outfit a d r w = rw (w refl, d) refl
asks_again (Checking ticks) wanted done refused reached outfit a d r w = absurd (false≢true a)
asks_again Full wanted done refused reached outfit a d r w = absurd (false≢true a)
asks_again Restarting wanted done refused reached outfit a d r w = rw (w refl, d) refl
asks_again (Waiting ticks) wanted done refused reached outfit a d r w = absurd (false≢true a)
asks_again Silent wanted done refused reached outfit a d r w = absurd (false≢true a)
asks_again ClearWake wanted done refused reached outfit a d r w = rw (unlooked wanted, d) refl
asks_again DownStopped wanted done refused reached outfit a d r w = rw (unlooked wanted, d) refl
asks_again TransceiverStandby wanted done refused reached outfit a d r w = rw (unlooked wanted, d) refl
asks_again ControllersSleep wanted done refused reached Bare a d r w = rw (unlooked wanted, d) refl
asks_again ControllersSleep wanted done refused reached Fitted a d r w = rw (unlooked wanted, d) refl
asks_again ControllersSleep wanted done refused reached Partial a d r w = rw (unlooked wanted, d, r refl) refl
asks_again CheckWake wanted done refused reached outfit a d r w = rw (unlooked wanted, d) refl
asks_again CheckWakeAgain wanted done refused reached outfit a d r w = rw (unlooked wanted, d) refl
asks_again ResetStopped wanted done refused reached outfit a d r w = rw (w refl, d) refl
asks_again ResetStarted wanted done refused reached outfit a d r w = rw (w refl, d) refl

-- ---- one tick nearer
-- one less
abbrev pub less : ℕ → ℕ
less zero = 0
less (suc k) = k

-- the wait comes one tick nearer to its end
wait_nearer : (outfit : Outfit) (delay ticks : ℕ) (partial : Bool) → delay < 65536
    → ticks_left outfit delay (step_after (onward outfit (leb delay (ticks + 1)) (Waiting ticks)) (Waiting ticks) partial) ≡ delay - suc ticks
wait_nearer outfit delay ticks partial l =
    split (λ (m : Move). ticks_left outfit delay (step_after m (Waiting ticks) partial) ≡ delay - suc ticks) (leb delay (ticks + 1))
    (λ e. omega (arith, leb-true delay (ticks + 1) e))
    (λ e. let more = leb-false delay (ticks + 1) e in
    rw (lt-ltb ticks 65535 (omega (arith, more, l))) (omega (arith, more)))

pub nearer : (step : Step) (outfit : Outfit) (ensure delay : ℕ) (partial : Bool) → suits outfit step ≡ true → 0 < delay → delay < 65536
    → ticks_left outfit delay (step_after (onward outfit (reached_by (timer_of step) ensure delay) step) step partial)
    ≡ less (ticks_left outfit delay step)
nearer NoCommunication Bare ensure delay partial u some few = refl
nearer NoCommunication Fitted ensure delay partial u some few = refl
nearer NoCommunication Partial ensure delay partial u some few = refl
nearer TransceiverNormal outfit ensure delay partial u some few = refl
nearer ControllersStopped outfit ensure delay partial u some few = refl
nearer ControllersStarted outfit ensure delay partial u some few = refl
nearer (Checking ticks) outfit ensure delay partial u some few =
    split (λ (m : Move). ticks_left outfit delay (step_after m (Checking ticks) partial) ≡ 0) (leb ensure (ticks + 1)) (λ _. refl) (λ _. refl)
nearer Full outfit ensure delay partial u some few = refl
nearer Restarting outfit ensure delay partial u some few = refl
nearer (Waiting ticks) outfit ensure delay partial u some few = wait_nearer outfit delay ticks partial few
nearer Silent outfit ensure delay partial u some few = refl
nearer ClearWake Bare ensure delay partial u some few = absurd (false≢true u)
nearer ClearWake Fitted ensure delay partial u some few = absurd (false≢true u)
nearer ClearWake Partial ensure delay partial u some few = refl
nearer DownStopped Bare ensure delay partial u some few = refl
nearer DownStopped Fitted ensure delay partial u some few = refl
nearer DownStopped Partial ensure delay partial u some few = refl
nearer TransceiverStandby Bare ensure delay partial u some few = absurd (false≢true u)
nearer TransceiverStandby Fitted ensure delay partial u some few = refl
nearer TransceiverStandby Partial ensure delay partial u some few = refl
nearer ControllersSleep Bare ensure delay partial u some few = refl
nearer ControllersSleep Fitted ensure delay partial u some few = refl
nearer ControllersSleep Partial ensure delay partial u some few = refl
nearer CheckWake Bare ensure delay partial u some few = absurd (false≢true u)
nearer CheckWake Fitted ensure delay partial u some few = absurd (false≢true u)
nearer CheckWake Partial ensure delay partial u some few = refl
nearer CheckWakeAgain outfit ensure delay partial u some few = refl
nearer ResetStopped outfit ensure delay partial u some few = refl
nearer ResetStarted outfit ensure delay partial u some few = refl

-- ---- nothing is left just in the full steps
abbrev pub is_none : ℕ → Bool
is_none zero = true
is_none (suc k) = false

pub none_left : (step : Step) (outfit : Outfit) (delay : ℕ) → is_full_step step ≡ is_none (ticks_left outfit delay step)
none_left NoCommunication Bare delay = refl
none_left NoCommunication Fitted delay = refl
none_left NoCommunication Partial delay = refl
none_left TransceiverNormal outfit delay = refl
none_left ControllersStopped outfit delay = refl
none_left ControllersStarted outfit delay = refl
none_left (Checking ticks) outfit delay = refl
none_left Full outfit delay = refl
none_left Restarting outfit delay = refl
none_left (Waiting ticks) outfit delay = refl
none_left Silent outfit delay = refl
none_left ClearWake outfit delay = refl
none_left DownStopped Bare delay = refl
none_left DownStopped Fitted delay = refl
none_left DownStopped Partial delay = refl
none_left TransceiverStandby Bare delay = refl
none_left TransceiverStandby Fitted delay = refl
none_left TransceiverStandby Partial delay = refl
none_left ControllersSleep Bare delay = refl
none_left ControllersSleep Fitted delay = refl
none_left ControllersSleep Partial delay = refl
none_left CheckWake outfit delay = refl
none_left CheckWakeAgain outfit delay = refl
none_left ResetStopped outfit delay = refl
none_left ResetStarted outfit delay = refl

-- in a full step nothing is left to hand out
pub full_handed : (step : Step) (outfit : Outfit) (c : ℕ) → is_full_step step ≡ true → records_left outfit c step ≡ 0
full_handed step outfit c e = ap (λ (up : Bool). cond up 0 (records_below outfit c step)) (full_quiet step e).up

-- ---- what is told on the way, and that no network on its way goes down
-- until full is told, the told mode stays, but that of a network that comes to rest
pub keeps_told : (step : Step) (outfit : Outfit) (reached : Bool) (told : Mode) (partial : Bool) → is_full_step step ≡ false
    → (has_rested step ≡ false → told ≡ Mode.No)
    → told_after (onward outfit reached step) told ≡ cond (is_full_step (step_after (onward outfit reached step) step partial)) Mode.Full told
keeps_told NoCommunication Bare reached told partial f q = refl
keeps_told NoCommunication Fitted reached told partial f q = refl
keeps_told NoCommunication Partial reached told partial f q = refl
keeps_told TransceiverNormal outfit reached told partial f q = refl
keeps_told ControllersStopped outfit reached told partial f q = refl
keeps_told ControllersStarted outfit reached told partial f q = refl
keeps_told (Checking ticks) outfit reached told partial f q = absurd (true≢false f)
keeps_told Full outfit reached told partial f q = absurd (true≢false f)
keeps_told Restarting outfit reached told partial f q = refl
keeps_told (Waiting ticks) outfit reached told partial f q =
    split (λ (m : Move). told_after m told ≡ cond (is_full_step (step_after m (Waiting ticks) partial)) Mode.Full told) reached (λ _. refl) (λ _. refl)
keeps_told Silent outfit reached told partial f q = refl
keeps_told ClearWake outfit reached told partial f q = refl
keeps_told DownStopped Bare reached told partial f q = refl
keeps_told DownStopped Fitted reached told partial f q = refl
keeps_told DownStopped Partial reached told partial f q = refl
keeps_told TransceiverStandby Bare reached told partial f q = sym (q refl)
keeps_told TransceiverStandby Fitted reached told partial f q = sym (q refl)
keeps_told TransceiverStandby Partial reached told partial f q = refl
keeps_told ControllersSleep Bare reached told partial f q = sym (q refl)
keeps_told ControllersSleep Fitted reached told partial f q = refl
keeps_told ControllersSleep Partial reached told partial f q = refl
keeps_told CheckWake outfit reached told partial f q = sym (q refl)
keeps_told CheckWakeAgain outfit reached told partial f q = refl
keeps_told ResetStopped outfit reached told partial f q = refl
keeps_told ResetStarted outfit reached told partial f q = refl

pub keeps_rested : (step : Step) (outfit : Outfit) (reached partial : Bool) → has_rested step ≡ true
    → has_rested (step_after (onward outfit reached step) step partial) ≡ true
keeps_rested NoCommunication Bare reached partial f = refl
keeps_rested NoCommunication Fitted reached partial f = refl
keeps_rested NoCommunication Partial reached partial f = refl
keeps_rested TransceiverNormal outfit reached partial f = refl
keeps_rested ControllersStopped outfit reached partial f = refl
keeps_rested ControllersStarted outfit reached partial f = refl
keeps_rested (Checking ticks) outfit reached partial f =
    split (λ (m : Move). has_rested (step_after m (Checking ticks) partial) ≡ true) reached (λ _. refl) (λ _. refl)
keeps_rested Full outfit reached partial f = refl
keeps_rested Restarting outfit reached partial f = refl
keeps_rested (Waiting ticks) outfit reached partial f =
    split (λ (m : Move). has_rested (step_after m (Waiting ticks) partial) ≡ true) reached (λ _. refl) (λ _. refl)
keeps_rested Silent outfit reached partial f = refl
keeps_rested ClearWake outfit reached partial f = absurd (false≢true f)
keeps_rested DownStopped outfit reached partial f = absurd (false≢true f)
keeps_rested TransceiverStandby outfit reached partial f = absurd (false≢true f)
keeps_rested ControllersSleep outfit reached partial f = absurd (false≢true f)
keeps_rested CheckWake outfit reached partial f = absurd (false≢true f)
keeps_rested CheckWakeAgain outfit reached partial f = absurd (false≢true f)
keeps_rested ResetStopped outfit reached partial f = refl
keeps_rested ResetStarted outfit reached partial f = refl

-- ---- a network at rest
-- step 0 is the one that came to rest and is not on
pub rest_number : (step : Step) → has_rested step && not (is_on step) ≡ eqb 0 (step_number step)
rest_number step = by_test (eqb 0 (step_number step)) refl
  where
    by_phase : (phase : Phase) → InPhase phase step → eqb 0 (step_number step) ≡ false → rested_phase phase && not (on_phase phase) ≡ false
    by_phase Phase.Off i e = absurd (true≢false (sym (ap (λ (x : Step). eqb 0 (step_number x)) i) ∙ e))
    by_phase Phase.Rising i e = refl
    by_phase Phase.Checking i e = refl
    by_phase Phase.Full i e = refl
    by_phase Phase.Recovering i e = refl
    by_phase Phase.Silent i e = refl
    by_phase Phase.Falling i e = refl
    by_phase Phase.Resetting i e = refl

    by_test : (b : Bool) → eqb 0 (step_number step) ≡ b → has_rested step && not (is_on step) ≡ b
    by_test true e = ap (λ (x : Step). has_rested x && not (is_on x)) (numbered_is 0 step e)
    by_test false e = by_phase (phase_of step) (in_phase step) e

-- ---- a network that is not up
-- one with more ticks left than a network at rest goes down
pub further_falls : (step : Step) (outfit : Outfit) (delay : ℕ) → is_up step ≡ false → by_transceiver outfit 3 4 < ticks_left outfit delay step
    → has_rested step ≡ false
further_falls NoCommunication outfit delay u l = absurd (omega (arith, l))
further_falls TransceiverNormal Bare delay u l = absurd (omega (arith, l))
further_falls TransceiverNormal Fitted delay u l = absurd (omega (arith, l))
further_falls TransceiverNormal Partial delay u l = absurd (omega (arith, l))
further_falls ControllersStopped Bare delay u l = absurd (omega (arith, l))
further_falls ControllersStopped Fitted delay u l = absurd (omega (arith, l))
further_falls ControllersStopped Partial delay u l = absurd (omega (arith, l))
further_falls ControllersStarted Bare delay u l = absurd (omega (arith, l))
further_falls ControllersStarted Fitted delay u l = absurd (omega (arith, l))
further_falls ControllersStarted Partial delay u l = absurd (omega (arith, l))
further_falls (Checking ticks) outfit delay u l = absurd (true≢false u)
further_falls Full outfit delay u l = absurd (true≢false u)
further_falls Restarting outfit delay u l = absurd (true≢false u)
further_falls (Waiting ticks) outfit delay u l = absurd (true≢false u)
further_falls Silent outfit delay u l = absurd (true≢false u)
further_falls ClearWake outfit delay u l = refl
further_falls DownStopped outfit delay u l = refl
further_falls TransceiverStandby outfit delay u l = refl
further_falls ControllersSleep outfit delay u l = refl
further_falls CheckWake outfit delay u l = refl
further_falls CheckWakeAgain outfit delay u l = refl
further_falls ResetStopped outfit delay u l = absurd (true≢false u)
further_falls ResetStarted outfit delay u l = absurd (true≢false u)

-- going on, it hands out what it has less to hand out then, and tells no exactly with the tick before those of a network at rest
pub record Advances (n : Network) (told : Mode) (outfit : Outfit) (delay : ℕ) (step next : Step) (m : Move) : Type 0 where
  pub fewer : length (move_records n step told m) + records_left outfit (length (controllers_of n)) next
      ≡ records_left outfit (length (controllers_of n)) step
  pub rests : is_end m ≡ eqb (suc (by_transceiver outfit 3 4)) (ticks_left outfit delay step)

module _ (n : Network) where
  -- a request goes to each controller
  pub length_round : (mode : ControllerMode) → length (requests (Ask.Controllers mode) n) ≡ length (controllers_of n)
  unfolding requests
  length_round mode = length-map (controllers_of n) _

  -- or to the transceiver, where there is one
  pub length_errand : (ask : Ask) → is_errand ask ≡ true → length (requests ask n) ≡ length (listed n.transceiver)
  unfolding requests
  length_errand Ask.Nothing e = absurd (false≢true e)
  length_errand (Ask.Controllers mode) e = absurd (false≢true e)
  length_errand (Ask.Transceiver mode) e = length-map (listed n.transceiver) _
  length_errand Ask.ClearWake e = length-map (listed n.transceiver) _
  length_errand Ask.CheckWake e = length-map (listed n.transceiver) _

  -- entering full
  length_filled : length (entering_full n) ≡ length (controllers_of n) + 2
  unfolding entering_full entering
  length_filled = simp (length-append, length-map)

  module _ (told : Mode) (delay : ℕ) (partial : Bool) where
    pub advances : (step : Step) (outfit : Outfit) (reached : Bool) → length (listed n.transceiver) ≡ by_transceiver outfit 0 1
        → suits outfit step ≡ true → is_up step ≡ false
        → Advances n told outfit delay step (step_after (onward outfit reached step) step partial) (onward outfit reached step)
    unfolding move_records
    advances NoCommunication Bare reached e u f = record { fewer = omega (arith, length_round ControllerMode.Stopped); rests = refl }
    advances NoCommunication Fitted reached e u f =
        record { fewer = omega (arith, e, length_errand (Ask.Transceiver TransceiverMode.Normal) refl); rests = refl }
    advances NoCommunication Partial reached e u f =
        record { fewer = omega (arith, e, length_errand (Ask.Transceiver TransceiverMode.Normal) refl); rests = refl }
    advances TransceiverNormal Bare reached e u f = absurd (false≢true u)
    advances TransceiverNormal Fitted reached e u f = record { fewer = omega (arith, length_round ControllerMode.Stopped); rests = refl }
    advances TransceiverNormal Partial reached e u f = record { fewer = omega (arith, length_round ControllerMode.Stopped); rests = refl }
    advances ControllersStopped Bare reached e u f = record { fewer = omega (arith, length_round ControllerMode.Started); rests = refl }
    advances ControllersStopped Fitted reached e u f = record { fewer = omega (arith, length_round ControllerMode.Started); rests = refl }
    advances ControllersStopped Partial reached e u f = record { fewer = omega (arith, length_round ControllerMode.Started); rests = refl }
    advances ControllersStarted Bare reached e u f = record { fewer = omega (arith, length_filled); rests = refl }
    advances ControllersStarted Fitted reached e u f = record { fewer = omega (arith, length_filled); rests = refl }
    advances ControllersStarted Partial reached e u f = record { fewer = omega (arith, length_filled); rests = refl }
    advances (Checking ticks) outfit reached e u f = absurd (true≢false f)
    advances Full outfit reached e u f = absurd (true≢false f)
    advances Restarting outfit reached e u f = absurd (true≢false f)
    advances (Waiting ticks) outfit reached e u f = absurd (true≢false f)
    advances Silent outfit reached e u f = absurd (true≢false f)
    advances ClearWake Bare reached e u f = absurd (false≢true u)
    advances ClearWake Fitted reached e u f = absurd (false≢true u)
    advances ClearWake Partial reached e u f = record { fewer = omega (arith, length_round ControllerMode.Stopped); rests = refl }
    advances DownStopped Bare reached e u f = record { fewer = omega (arith, length_round ControllerMode.Sleep); rests = refl }
    advances DownStopped Fitted reached e u f = record { fewer = omega (arith, length_round ControllerMode.Sleep); rests = refl }
    advances DownStopped Partial reached e u f =
        record { fewer = omega (arith, e, length_errand (Ask.Transceiver TransceiverMode.Standby) refl); rests = refl }
    advances TransceiverStandby Bare reached e u f = absurd (false≢true u)
    advances TransceiverStandby Fitted reached e u f = record { fewer = omega arith; rests = refl }
    advances TransceiverStandby Partial reached e u f = record { fewer = omega (arith, length_round ControllerMode.Sleep); rests = refl }
    advances ControllersSleep Bare reached e u f = record { fewer = omega arith; rests = refl }
    advances ControllersSleep Fitted reached e u f =
        record { fewer = omega (arith, e, length_errand (Ask.Transceiver TransceiverMode.Standby) refl); rests = refl }
    advances ControllersSleep Partial reached e u f = record { fewer = omega (arith, e, length_errand Ask.CheckWake refl); rests = refl }
    advances CheckWake Bare reached e u f = absurd (false≢true u)
    advances CheckWake Fitted reached e u f = absurd (false≢true u)
    advances CheckWake Partial reached e u f = record { fewer = omega arith; rests = refl }
    advances CheckWakeAgain Bare reached e u f = absurd (false≢true u)
    advances CheckWakeAgain Fitted reached e u f = absurd (false≢true u)
    advances CheckWakeAgain Partial reached e u f = record { fewer = omega (arith, e, length_errand Ask.ClearWake refl); rests = refl }
    advances ResetStopped outfit reached e u f = absurd (true≢false f)
    advances ResetStarted outfit reached e u f = absurd (true≢false f)

-- ---- how far at most
-- the phase of steps 6 and 7
abbrev pub recovering_phase : Phase → Bool
recovering_phase Phase.Off = false
recovering_phase Phase.Rising = false
recovering_phase Phase.Checking = false
recovering_phase Phase.Full = false
recovering_phase Phase.Recovering = true
recovering_phase Phase.Silent = false
recovering_phase Phase.Falling = false
recovering_phase Phase.Resetting = false

-- no network is farther from full than its outfit says, but for the wait after a bus-off
pub at_most : (step : Step) (outfit : Outfit) (delay most : ℕ) → suits outfit step ≡ true → by_each outfit 5 7 10 ≤ most
    → (recovering_phase (phase_of step) ≡ true → delay < most) → 0 < delay → ticks_left outfit delay step ≤ most
at_most NoCommunication Bare delay most u far wait some = omega (arith, far)
at_most NoCommunication Fitted delay most u far wait some = omega (arith, far)
at_most NoCommunication Partial delay most u far wait some = omega (arith, far)
at_most TransceiverNormal Bare delay most u far wait some = omega (arith, far)
at_most TransceiverNormal Fitted delay most u far wait some = omega (arith, far)
at_most TransceiverNormal Partial delay most u far wait some = omega (arith, far)
at_most ControllersStopped Bare delay most u far wait some = omega (arith, far)
at_most ControllersStopped Fitted delay most u far wait some = omega (arith, far)
at_most ControllersStopped Partial delay most u far wait some = omega (arith, far)
at_most ControllersStarted Bare delay most u far wait some = omega (arith, far)
at_most ControllersStarted Fitted delay most u far wait some = omega (arith, far)
at_most ControllersStarted Partial delay most u far wait some = omega (arith, far)
at_most (Checking ticks) outfit delay most u far wait some = omega arith
at_most Full outfit delay most u far wait some = omega arith
at_most Restarting outfit delay most u far wait some = omega (arith, wait refl, some)
at_most (Waiting ticks) outfit delay most u far wait some = omega (arith, wait refl, some)
at_most Silent Bare delay most u far wait some = omega (arith, far)
at_most Silent Fitted delay most u far wait some = omega (arith, far)
at_most Silent Partial delay most u far wait some = omega (arith, far)
at_most ClearWake Bare delay most u far wait some = absurd (false≢true u)
at_most ClearWake Fitted delay most u far wait some = absurd (false≢true u)
at_most ClearWake Partial delay most u far wait some = omega (arith, far)
at_most DownStopped Bare delay most u far wait some = omega (arith, far)
at_most DownStopped Fitted delay most u far wait some = omega (arith, far)
at_most DownStopped Partial delay most u far wait some = omega (arith, far)
at_most TransceiverStandby Bare delay most u far wait some = absurd (false≢true u)
at_most TransceiverStandby Fitted delay most u far wait some = omega (arith, far)
at_most TransceiverStandby Partial delay most u far wait some = omega (arith, far)
at_most ControllersSleep Bare delay most u far wait some = omega (arith, far)
at_most ControllersSleep Fitted delay most u far wait some = omega (arith, far)
at_most ControllersSleep Partial delay most u far wait some = omega (arith, far)
at_most CheckWake Bare delay most u far wait some = absurd (false≢true u)
at_most CheckWake Fitted delay most u far wait some = absurd (false≢true u)
at_most CheckWake Partial delay most u far wait some = omega (arith, far)
at_most CheckWakeAgain Bare delay most u far wait some = absurd (false≢true u)
at_most CheckWakeAgain Fitted delay most u far wait some = absurd (false≢true u)
at_most CheckWakeAgain Partial delay most u far wait some = omega (arith, far)
at_most ResetStopped Bare delay most u far wait some = omega (arith, far)
at_most ResetStopped Fitted delay most u far wait some = omega (arith, far)
at_most ResetStopped Partial delay most u far wait some = omega (arith, far)
at_most ResetStarted Bare delay most u far wait some = omega (arith, far)
at_most ResetStarted Fitted delay most u far wait some = omega (arith, far)
at_most ResetStarted Partial delay most u far wait some = omega (arith, far)
