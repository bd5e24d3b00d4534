-- How far a network is on its way to full: it stands in its record, and is read off what follows its last setback.
use Rattle.lists.proofs.Basics.{ℕ, zero, suc, ◌+◌, ◌≤◌, ◌<◌, arith, eqb-true, ltb-false, ◌≡◌, refl, sym, ap, subst, ◌∙◌, List, [], ◌∷◌, Bool, true}
use Rattle.lists.proofs.Basics.{false, cond, and-false, false≢true, true≢false, ltb, eqb}
use Rattle.lists.specs.Lists.{any}
use Rattle.lists.proofs.Tests.{split}
use Rattle.records.specs.declared.ControllerMode.{ControllerMode}
use Rattle.settings.specs.declared.Network.{Network}
use Rattle.settings.specs.Settings.{controllers_of, member}
use Rattle.settings.specs.Good.{InRange}
use Rattle.steps.specs.declared.Step.{Step}
use Rattle.steps.specs.declared.Phase.{Phase}
use Rattle.steps.specs.declared.Timer.{Timer}
use Rattle.steps.specs.declared.Ask.{Ask}
use Rattle.steps.specs.Steps.{phase_of, asks_for, timer_of, up_phase, full_phase, is_up, is_full_step, asks_to_start}
use Rattle.steps.specs.After.{first_down}
use Rattle.network.specs.declared.LastAnswer.{LastAnswer}
use Rattle.network.specs.declared.Report.{Report}
use Rattle.network.specs.declared.State.{State}
use Rattle.network.specs.State.{blank_answers}
use Rattle.network.specs.Rules.{is_okay, delay_of}
use Rattle.network.specs.Answers.{awaits, takes_report, answer_of}
use Rattle.network.specs.Parts.{an_answer}
use Rattle.network_theorems.specs.Kept.{Kept}
use Rattle.network_theorems.proofs.Moves.{full_quiet}
use Rattle.network_demands.specs.Words.{Seen, OwnHistory, since, tally, ticked, setback, wanted_at_tick, owed, after_stall, asked_to_start, runs}
use Rattle.network_demands.specs.Words.{first_running}
use Rattle.network_demands.proofs.Views.{seen, heard_state, starts_asks}
use Rattle.network_demands.proofs.Arrows.{first_down_lem}
use Rattle.network_demands.proofs.Handed.{eqb_same}
use Rattle.network_demands.proofs.Slots.{said_okay, no_answer_yet, okay_own, okay_other}
use Rattle.network_demands.proofs.Running.{first_no_tick}

-- ---- the way to full
-- why the controllers are asked to start: the network comes up, or a bus-off or a stall came
pub data Cause : Type 0 where
  coming_up : Cause
  bus_off : Cause
  stall : Cause

-- away: not asked to start; stopping, after a stall; starting; the delay, with its tick count; there, said to be full; and where silent was wanted
-- instead
pub data Way : Type 0 where
  away : Way
  stopping : Way
  starting : (cause : Cause) → Way
  delayed : (ticks : ℕ) → Way
  there : Way
  silenced : Way

-- what a timer has counted
abbrev pub counted : Timer → ℕ
counted Timer.Idle = 0
counted (Timer.Ensure ticks) = ticks
counted (Timer.Delay ticks) = ticks

-- in a step that does not ask the controllers to start
abbrev pub way_in : Phase → Timer → Way
way_in Phase.Off timer = away
way_in Phase.Rising timer = away
way_in Phase.Checking timer = there
way_in Phase.Full timer = there
way_in Phase.Recovering timer = delayed (counted timer)
way_in Phase.Silent timer = silenced
way_in Phase.Falling timer = away
way_in Phase.Resetting timer = stopping

-- in one that does
abbrev pub cause_in : Phase → Cause
cause_in Phase.Off = coming_up
cause_in Phase.Rising = coming_up
cause_in Phase.Checking = coming_up
cause_in Phase.Full = coming_up
cause_in Phase.Recovering = bus_off
cause_in Phase.Silent = coming_up
cause_in Phase.Falling = coming_up
cause_in Phase.Resetting = stall

-- by the step
abbrev pub way_of : Step → Way
way_of step = cond (asks_to_start (asks_for step)) (starting (cause_in (phase_of step))) (way_in (phase_of step) (timer_of step))

-- only there full is told
abbrev pub is_there : Way → Bool
is_there away = false
is_there stopping = false
is_there (starting cause) = false
is_there (delayed ticks) = false
is_there there = true
is_there silenced = false

-- where the delay begins
abbrev pub is_beginning : Way → Bool
is_beginning away = false
is_beginning stopping = false
is_beginning (starting cause) = false
is_beginning (delayed ticks) = eqb 0 ticks
is_beginning there = false
is_beginning silenced = false

-- a phase that is not up is away
pub down_away : (phase : Phase) (timer : Timer) → up_phase phase ≡ false → way_in phase timer ≡ away
down_away Phase.Off timer e = refl
down_away Phase.Rising timer e = refl
down_away Phase.Checking timer e = absurd (true≢false e)
down_away Phase.Full timer e = absurd (true≢false e)
down_away Phase.Recovering timer e = absurd (true≢false e)
down_away Phase.Silent timer e = absurd (true≢false e)
down_away Phase.Falling timer e = refl
down_away Phase.Resetting timer e = absurd (true≢false e)

-- and where it asks to start, it comes up
pub down_comes_up : (phase : Phase) → up_phase phase ≡ false → cause_in phase ≡ coming_up
down_comes_up Phase.Off e = refl
down_comes_up Phase.Rising e = refl
down_comes_up Phase.Checking e = refl
down_comes_up Phase.Full e = refl
down_comes_up Phase.Recovering e = absurd (true≢false e)
down_comes_up Phase.Silent e = refl
down_comes_up Phase.Falling e = refl
down_comes_up Phase.Resetting e = absurd (true≢false e)

-- and so is a step that is not up and does not ask the controllers to start
pub way_away : (step : Step) → is_up step ≡ false → asks_to_start (asks_for step) ≡ false → way_of step ≡ away
way_away step u a = rw a (down_away (phase_of step) (timer_of step) u)

-- the first down step is
pub first_down_away : (partial : Bool) → way_of (first_down partial) ≡ away
first_down_away partial = let d = first_down_lem partial in way_away (first_down partial) (ap up_phase d.falls) d.starts_not

-- a network is there in just the steps of which full is said
full_phase_there : (phase : Phase) (timer : Timer) → full_phase phase ≡ is_there (way_in phase timer)
full_phase_there Phase.Off timer = refl
full_phase_there Phase.Rising timer = refl
full_phase_there Phase.Checking timer = refl
full_phase_there Phase.Full timer = refl
full_phase_there Phase.Recovering timer = refl
full_phase_there Phase.Silent timer = refl
full_phase_there Phase.Falling timer = refl
full_phase_there Phase.Resetting timer = refl

-- a step that asks the controllers to start is none of them
pub starts_not_full : (step : Step) → asks_to_start (asks_for step) ≡ true → is_full_step step ≡ false
starts_not_full step a = by_test (is_full_step step) refl
  where
    by_test : (b : Bool) → is_full_step step ≡ b → b ≡ false
    by_test true e = absurd (true≢false (sym (starts_asks (asks_for step) a) ∙ (full_quiet step e).quiet))
    by_test false e = refl

pub full_there : (step : Step) → is_full_step step ≡ is_there (way_of step)
full_there step =
    split (λ (way : Way). is_full_step step ≡ is_there way) (asks_to_start (asks_for step)) (starts_not_full step)
    (λ _. full_phase_there (phase_of step) (timer_of step))

-- the controllers are to start
pub to_start : (ask : Ask) → asks_to_start ask ≡ true → ask ≡ Ask.Controllers ControllerMode.Started
to_start Ask.Nothing e = absurd (false≢true e)
to_start (Ask.Controllers ControllerMode.Stopped) e = absurd (false≢true e)
to_start (Ask.Controllers ControllerMode.Started) e = refl
to_start (Ask.Controllers ControllerMode.Sleep) e = absurd (false≢true e)
to_start (Ask.Transceiver mode) e = absurd (false≢true e)
to_start Ask.ClearWake e = absurd (false≢true e)
to_start Ask.CheckWake e = absurd (false≢true e)

-- ---- where the network stands: s is what follows the last setback, d the delay owed since, w the mode wanted at the last tick, x whether that
-- setback was a stall
-- only a bus-off brings a delay
abbrev pub delay_by : Network → ℕ → Cause → ℕ
delay_by n count coming_up = 0
delay_by n count bus_off = delay_of n count
delay_by n count stall = 0

abbrev pub is_stall_cause : Cause → Bool
is_stall_cause coming_up = false
is_stall_cause bus_off = false
is_stall_cause stall = true

-- after a stall the controllers were asked to stop with one tick, and to start with a later one
abbrev pub Late : Cause → ℕ → Type 0
Late coming_up ticks = Unit
Late bus_off ticks = Unit
Late stall ticks = 2 ≤ ticks

-- the number of the first tick before which all can run
abbrev pub soonest : Bool → ℕ
soonest x = cond x 3 2

-- starting: asked exactly since the first tick of s; each controller was asked with it, and runs exactly if its last answer is ok
pub record Starts (n : Network) (cause : Cause) (asked : Bool) (answers : List LastAnswer) (count : ℕ) (s : OwnHistory) (d : ℕ) (x : Bool) : Type 0 where
  pub none : first_running n s ≡ 0
  pub delay : d ≡ delay_by n count cause
  pub why : x ≡ is_stall_cause cause
  pub late : Late cause (tally ticked s)
  pub sent : asked ≡ ltb 0 (tally ticked s)
  pub requested : (c : ℕ) → member c (controllers_of n) ≡ true → asked_to_start c s ≡ asked
  pub answered : (c : ℕ) → member c (controllers_of n) ≡ true → runs c s ≡ said_okay n answers c

-- afterwards: all run, since a tick that is not the first, and after a stall not the second
pub record Running (n : Network) (s : OwnHistory) (x : Bool) : Type 0 where
  pub all : (c : ℕ) → member c (controllers_of n) ≡ true → runs c s ≡ true
  pub soon : soonest x ≤ first_running n s

-- so it is never the first
pub later : (n : Network) (s : OwnHistory) (x : Bool) → Running n s x → 2 ≤ first_running n s
later n s true i = omega (arith, i.soon)
later n s false i = i.soon

-- away no controller was asked to start, and no delay is owed
pub record Away (n : Network) (s : OwnHistory) (d : ℕ) : Type 0 where
  pub none : first_running n s ≡ 0
  pub delay : d ≡ 0
  pub unasked : (c : ℕ) → member c (controllers_of n) ≡ true → asked_to_start c s ≡ false

-- by how far the network is on its way
abbrev pub Stands : Network → Way → Bool → List LastAnswer → ℕ → OwnHistory → ℕ → ℕ → Bool → Type 0
Stands n away asked answers count s d w x = Away n s d × (x ≡ false)
Stands n stopping asked answers count s d w x = Away n s d × (x ≡ true) × (asked ≡ true → 0 < tally ticked s)
Stands n (starting cause) asked answers count s d w x = Starts n cause asked answers count s d x
Stands n (delayed t) asked answers count s d w x = Running n s x × (d ≡ delay_of n count) × (tally ticked s ≡ first_running n s + t) × (t < d)
Stands n there asked answers count s d w x = Running n s x × (first_running n s + d ≤ tally ticked s) × (eqb 2 w ≡ true)
Stands n silenced asked answers count s d w x = Running n s x × (first_running n s + d ≤ tally ticked s) × (eqb 2 w ≡ false)

-- only a step that asks the controllers to start looks at their answers
answers_aside : (n : Network) (phase : Phase) (timer : Timer) (asked : Bool) (answers answers' : List LastAnswer) (count : ℕ) (s : OwnHistory) (d w : ℕ)
    (x : Bool) → Stands n (way_in phase timer) asked answers count s d w x → Stands n (way_in phase timer) asked answers' count s d w x
answers_aside n Phase.Off timer asked answers answers' count s d w x i = i
answers_aside n Phase.Rising timer asked answers answers' count s d w x i = i
answers_aside n Phase.Checking timer asked answers answers' count s d w x i = i
answers_aside n Phase.Full timer asked answers answers' count s d w x i = i
answers_aside n Phase.Recovering timer asked answers answers' count s d w x i = i
answers_aside n Phase.Silent timer asked answers answers' count s d w x i = i
answers_aside n Phase.Falling timer asked answers answers' count s d w x i = i
answers_aside n Phase.Resetting timer asked answers answers' count s d w x i = i

-- by its record and its history
abbrev pub StandsAt : Network → State → OwnHistory → Type 0
StandsAt n s h =
    Stands n (way_of s.step) s.asked s.answers s.count (since (setback n) h) (owed n h) (wanted_at_tick h) (after_stall n h)

-- ---- entries that are no tick
-- one that hands out nothing and is no answer to the request to start
module _ (n : Network) (e : Seen) (s : OwnHistory) (t : ticked e ≡ false) (a : (c : ℕ) → asked_to_start c (e ∷ s) ≡ asked_to_start c s)
    (r : (c : ℕ) → member c (controllers_of n) ≡ true → runs c (e ∷ s) ≡ runs c s) where
  first_same : first_running n (e ∷ s) ≡ first_running n s
  first_same = first_no_tick n e s t

  ticks_same : tally ticked (e ∷ s) ≡ tally ticked s
  unfolding tally
  ticks_same = rw t refl

  running_same : (x : Bool) → Running n s x → Running n (e ∷ s) x
  running_same x i = record { all = λ c m. r c m ∙ i.all c m; soon = rw first_same i.soon }

  away_same : (d : ℕ) → Away n s d → Away n (e ∷ s) d
  away_same d i = record { none = first_same ∙ i.none; delay = i.delay; unasked = λ c m. a c ∙ i.unasked c m }

  pub stands_same : (way : Way) (asked : Bool) (answers : List LastAnswer) (count d w : ℕ) (x : Bool)
      → Stands n way asked answers count s d w x → Stands n way asked answers count (e ∷ s) d w x
  stands_same away asked answers count d w x i = (away_same d i.0, i.1)
  stands_same stopping asked answers count d w x i = (away_same d i.0, i.1, λ z. rw ticks_same (i.2 z))
  stands_same (starting cause) asked answers count d w x i = record {
    none = first_same ∙ i.none;
    delay = i.delay;
    why = i.why;
    late = rw ticks_same i.late;
    sent = i.sent ∙ ap (ltb 0) (sym ticks_same);
    requested = λ c m. a c ∙ i.requested c m;
    answered = λ c m. r c m ∙ i.answered c m;
  }
  stands_same (delayed ticks) asked answers count d w x i = (running_same x i.0, i.1, rw (first_same, ticks_same) i.2, i.3)
  stands_same there asked answers count d w x i = (running_same x i.0, rw (first_same, ticks_same) i.1, i.2)
  stands_same silenced asked answers count d w x i = (running_same x i.0, rw (first_same, ticks_same) i.1, i.2)

-- an answer that is taken is one to the request to start exactly in a step that asks that, and the step has asked
taken_means : (s : State) (mode : ℕ) → takes_report s (Report.Controller mode) ≡ true
    → (s.asked ≡ true) × (asks_to_start (asks_for s.step) ≡ eqb 1 mode)
unfolding takes_report
taken_means s mode t = by_test s.asked (asks_for s.step) t
  where
    other : (k : ℕ) → eqb 1 k ≡ false → eqb k mode ≡ true → false ≡ eqb 1 mode
    other k f e = sym f ∙ ap (eqb 1) (eqb-true k mode e)

    by_test : (asked : Bool) (ask : Ask) → cond asked (awaits ask (Report.Controller mode)) false ≡ true
        → (asked ≡ true) × (asks_to_start ask ≡ eqb 1 mode)
    by_test false ask e = absurd (false≢true e)
    by_test true Ask.Nothing e = absurd (false≢true e)
    by_test true (Ask.Controllers ControllerMode.Stopped) e = (refl, other 0 refl e)
    by_test true (Ask.Controllers ControllerMode.Started) e = (refl, sym e)
    by_test true (Ask.Controllers ControllerMode.Sleep) e = (refl, other 2 refl e)
    by_test true (Ask.Transceiver mode') e = absurd (false≢true e)
    by_test true Ask.ClearWake e = absurd (false≢true e)
    by_test true Ask.CheckWake e = absurd (false≢true e)

module _ (n : Network) (g : InRange n) (s : State) (k : Kept n s) (c mode ok : ℕ) (m : member c (controllers_of n) ≡ true) (l : ltb 1 ok ≡ false)
    (q : OwnHistory) where
  abbrev answering : Seen
  answering = seen (an_answer c mode ok) 0 []

  -- an answer on another mode changes nothing
  other_mode : eqb 1 mode ≡ false → (d : ℕ) → runs d (answering ∷ q) ≡ runs d q
  unfolding runs
  other_mode f d = rw (f, and-false (eqb d c)) refl

  -- an answer to the request to start says whether its controller runs, and nothing of the others
  own_answer : (value : ℕ) → ltb 1 value ≡ false → eqb 1 mode ≡ true → asked_to_start c q ≡ true
      → runs c (seen (an_answer c mode value) 0 [] ∷ q) ≡ is_okay (answer_of (eqb value 1))
  unfolding runs
  own_answer zero v e a = rw (eqb_same c, e) refl
  own_answer (suc zero) v e a = rw (eqb_same c, e) a
  own_answer (suc (suc value)) v e a = absurd (omega (arith, ltb-false 1 (suc (suc value)) v))

  other_answer : (d : ℕ) → eqb d c ≡ false → runs d (answering ∷ q) ≡ runs d q
  unfolding runs
  other_answer d e = rw e refl

  heard_starts : (cause : Cause) (d : ℕ) (x : Bool) → s.asked ≡ true → eqb 1 mode ≡ true
      → Starts n cause s.asked s.answers s.count q d x
      → Starts n cause s.asked (heard_state n s c ok).answers s.count (answering ∷ q) d x
  unfolding any tally
  heard_starts cause d x a e i = record {
    none = first_no_tick n answering q refl ∙ i.none;
    delay = i.delay;
    why = i.why;
    late = i.late;
    sent = i.sent;
    requested = i.requested;
    answered = λ y p. by_test y p (eqb y c) refl;
  }
    where
      by_test : (x : ℕ) → member x (controllers_of n) ≡ true → (b : Bool) → eqb x c ≡ b
          → runs x (answering ∷ q) ≡ said_okay n (heard_state n s c ok).answers x
      by_test x p true f =
          subst (λ (x : ℕ). runs x (answering ∷ q) ≡ said_okay n (heard_state n s c ok).answers x) (sym (eqb-true x c f))
          (own_answer ok l e (i.requested c m ∙ a) ∙ sym (okay_own n s g k c (answer_of (eqb ok 1)) m))
      by_test x p false f = other_answer x f ∙ i.answered x p ∙ sym (okay_other n s.answers x c (answer_of (eqb ok 1)) f p m)

  pub heard_stands : takes_report s (Report.Controller mode) ≡ true → (d w : ℕ) (x : Bool)
      → Stands n (way_of s.step) s.asked s.answers s.count q d w x
      → Stands n (way_of s.step) s.asked (heard_state n s c ok).answers s.count (answering ∷ q) d w x
  unfolding any
  heard_stands t d w x = by_test (asks_to_start (asks_for s.step)) (taken_means s mode t).1
    where
      phase : Phase
      phase = phase_of s.step

      timer : Timer
      timer = timer_of s.step

      by_test : (b : Bool) → b ≡ eqb 1 mode → Stands n (cond b (starting (cause_in phase)) (way_in phase timer))
          s.asked s.answers s.count q d w x → Stands n (cond b (starting (cause_in phase)) (way_in phase timer))
          s.asked (heard_state n s c ok).answers s.count (answering ∷ q) d w x
      by_test true e i = heard_starts (cause_in phase) d x (taken_means s mode t).0 (sym e) i
      by_test false e i =
          answers_aside n phase timer s.asked s.answers _ s.count (answering ∷ q) d w x
          (stands_same n answering q refl (λ y. refl) (λ y p. other_mode (sym e) y) (way_in phase timer) s.asked s.answers s.count d w x i)

-- ---- bus-offs and stalls
-- nothing was asked since, and no answer is kept
pub anew : (n : Network) (cause : Cause) (count d : ℕ) → is_stall_cause cause ≡ false → d ≡ delay_by n count cause
    → Starts n cause false blank_answers count [] d false
unfolding first_running tally any runs
anew n cause count d z e = record {
  none = refl;
  delay = e;
  why = sym z;
  late = by_cause cause z;
  sent = refl;
  requested = λ c m. refl;
  answered = λ c m. sym (no_answer_yet n c);
}
  where
    by_cause : (cause : Cause) → is_stall_cause cause ≡ false → Late cause 0
    by_cause coming_up e = tt
    by_cause bus_off e = tt
    by_cause stall e = absurd (true≢false e)

pub nothing_since : (n : Network) → Away n [] 0
unfolding first_running any
nothing_since n = record { none = refl; delay = refl; unasked = λ c m. refl }
