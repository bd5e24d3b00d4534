-- After a stall the controllers are asked to start only when all have stopped: in step 15 a controller whose last answer is ok said so since the
-- stall, and a network that was asked to start by no tick since is in that step.
use Rattle.lists.proofs.Basics.{ℕ, arith, lt-ltb, ◌≡◌, refl, sym, ap, ◌∙◌, List, [], ◌∷◌, Bool, true, false, cond, false≢true, true≢false}
use Rattle.lists.proofs.Basics.{eqb}
use Rattle.lists.specs.Lists.{any}
use Rattle.lists.proofs.Any.{every_at}
use Rattle.records.specs.declared.Mode.{Mode}
use Rattle.records.specs.declared.Record.{Record}
use Rattle.settings.specs.declared.Network.{Network}
use Rattle.settings.specs.Settings.{controllers_of, member}
use Rattle.settings.specs.Good.{Distinct, InRange}
use Rattle.steps.specs.declared.Step.{Step}
use Rattle.steps.specs.declared.Step.TheVariants.{ResetStopped}
use Rattle.steps.specs.declared.Phase.{Phase}
use Rattle.steps.specs.declared.Move.{Move}
use Rattle.steps.specs.Steps.{step_number, phase_of, asks_for, timer_of, is_up, asks_to_start}
use Rattle.steps.specs.After.{first_down, step_after}
use Rattle.steps.proofs.Laws.{InPhase, in_phase}
use Rattle.network.specs.declared.LastAnswer.{LastAnswer}
use Rattle.network.specs.declared.Report.{Report}
use Rattle.network.specs.declared.State.{State}
use Rattle.network.specs.State.{blank_answers, started}
use Rattle.network.specs.Rules.{is_okay}
use Rattle.network.specs.Moving.{keeps_answers, after_move}
use Rattle.network.specs.Answers.{awaits, takes_report}
use Rattle.network.specs.BusOff.{made_anew, after_hit}
use Rattle.network.specs.Parts.{a_tick, an_answer}
use Rattle.network_theorems.specs.Kept.{Kept}
use Rattle.network_demands.specs.Words.{Seen, OwnHistory, since, tally, ticked, setback, wanted_at_tick, owed, after_stall, asked_to_start}
use Rattle.network_demands.specs.Own.{finished, decides, reaches, tick_after, tick_hands, played, state_of, Fits, Ran}
use Rattle.network_demands.specs.Promises.{said_ok, Stopped}
use Rattle.network_demands.proofs.Views.{seen, seat_of, by_part}
use Rattle.network_demands.proofs.Tests.{once_asked, done_answered}
use Rattle.network_demands.proofs.Handed.{is_go_down, move_shuts}
use Rattle.network_demands.proofs.Slots.{slot_in_use, said_okay, no_answer_yet}
use Rattle.network_demands.proofs.Follows.{state_kept}
use Rattle.network_demands.proofs.Running.{since_by, asked_first}
use Rattle.network_demands.proofs.Way.{Cause, coming_up, bus_off, stall, Way, away, stopping, starting, delayed, there, silenced, way_in, cause_in}
use Rattle.network_demands.proofs.Way.{way_of, is_stall_cause, Late, Stands}
use Rattle.network_demands.proofs.Arrows.{suits, own_outfit, rested_phase, has_rested, first_down_lem, ByArrow, by_tick_arrow}
use Rattle.network_demands.proofs.Standing.{stands}
use Rattle.network_demands.proofs.Told.{stands_at}
use Rattle.network_demands.proofs.Readied.{said_on, heard_stopped}

-- ---- in step 15, q being what follows the last setback
-- a controller whose last answer here is ok said so on stopped
abbrev Stopping : Network → Step → List LastAnswer → OwnHistory → Type 0
Stopping n step answers q =
    step ≡ ResetStopped → (c : ℕ) → member c (controllers_of n) ≡ true → said_okay n answers c ≡ true → said_ok c 0 q ≡ true

-- no step that goes down is step 15
down_not : {A : Type 0} (step : Step) → phase_of step ≡ Phase.Falling → step ≡ ResetStopped → A
down_not step d f = absurd (true≢false (sym (ap has_rested f) ∙ ap rested_phase d))

-- nor is one with another number
other : {A : Type 0} (step : Step) (number : ℕ) → step_number step ≡ number → (number ≡ 15 → ⊥) → step ≡ ResetStopped → A
other step number e k f = absurd (k (sym e ∙ ap step_number f))

module _ (n : Network) (answers : List LastAnswer) (q : OwnHistory) (records : List Record) (done reached : Bool) where
  -- what a move makes of it
  abbrev Moves : Step → Mode → Move → Type 0
  Moves step wanted m = Stopping n step answers q
      → Stopping n (step_after m step n.partial) (cond (keeps_answers m) answers blank_answers) (cond (is_go_down m) [] (seen a_tick 0 records ∷ q))

  moves : ByArrow done reached (own_outfit n) Moves
  unfolding said_ok
  moves = record {
    rests = λ wanted w i. other _ 0 refl (λ e. omega (arith, e));
    called = λ u i. other _ 1 refl (λ e. omega (arith, e));
    called_bare = λ u i. other _ 2 refl (λ e. omega (arith, e));
    climbs = λ d i. other _ 2 refl (λ e. omega (arith, e));
    begins = λ d i. other _ 3 refl (λ e. omega (arith, e));
    starts = λ d i. other _ 4 refl (λ e. omega (arith, e));
    asks_again = λ step wanted a g i. i;
    checks = λ t r i. other _ 4 refl (λ e. omega (arith, e));
    passes = λ t r i. other _ 5 refl (λ e. omega (arith, e));
    stays_full = λ i. other _ 5 refl (λ e. omega (arith, e));
    stays_silent = λ i. other _ 8 refl (λ e. omega (arith, e));
    waits = λ wanted w d i. other _ 7 refl (λ e. omega (arith, e));
    waits_on = λ t wanted w r i. other _ 7 refl (λ e. omega (arith, e));
    resumes = λ wanted w d i. other _ 16 refl (λ e. omega (arith, e));
    fills = λ step u f i. other _ 4 refl (λ e. omega (arith, e));
    silences = λ step u i. other _ 8 refl (λ e. omega (arith, e));
    goes_down_lem = λ step o i. down_not (first_down n.partial) (first_down_lem n.partial).falls;
    sinks = λ step next wanted d e u i. down_not next e.falls;
    ends = λ step wanted d i. other _ 0 refl (λ e. omega (arith, e));
  }

-- ---- all that is seen
module _ (n : Network) (g : InRange n) (h : OwnHistory) (s : State) (kept : Kept n s) (u : suits (own_outfit n) s.step ≡ true)
    (i : Stopping n s.step s.answers (since (setback n) h)) where
  abbrev Still : Seen → State → Type 0
  Still e t = Stopping n t.step t.answers (since (setback n) (e ∷ h))

  -- an answer that step 15 takes is one on stopped
  taken_stopped : (mode : ℕ) → takes_report s (Report.Controller mode) ≡ true → s.step ≡ ResetStopped → eqb 0 mode ≡ true
  unfolding takes_report
  taken_stopped mode t f =
      sym (ap (λ (x : Step). awaits (asks_for x) (Report.Controller mode)) f) ∙ once_asked s.asked _ t

  stopping_tick : Still (seen a_tick 0 (tick_hands n s)) (tick_after n s)
  unfolding after_move
  stopping_tick =
      let e : Seen = seen a_tick 0 (tick_hands n s) in
      let m = decides n s in
      rw (since_by n e h (is_go_down m) (move_shuts n s.step _ m))
      (by_tick_arrow n s (Moves n s.answers (since (setback n) h) (tick_hands n s) (finished n s) (reaches n s))
      (moves n s.answers (since (setback n) h) (tick_hands n s) (finished n s) (reaches n s)) u kept i)

  stopping_call : (e : Seen) → Fits n s e → Still e (played n s e.sight).state
  unfolding any after_hit made_anew
  stopping_call = by_part n s Still (record {
    plain = λ sight number mode reported p f c m o.
        let e : Seen = seen sight number [] in
        ap (said_ok c 0) (since_by n e h false (rw (p.bus_off, p.stall) refl))
        ∙ said_on n e (since (setback n) h) c (p.answer c 0 1 m) (p.answer c 0 0 m) ∙ i f c m o;
    hears = λ c mode ok m l t f d own o.
        let e : Seen = seen (an_answer c mode ok) 0 [] in
        ap (said_ok d 0) (since_by n e h false refl)
        ∙ heard_stopped n g s kept c mode ok l (since (setback n) h) m (taken_stopped mode t f) d own (i f d own) o;
    recovers = λ _. other _ 6 refl (λ e. omega (arith, e));
    restarts = λ _ a f. absurd (false≢true (sym (ap (λ (x : Step). asks_to_start (asks_for x)) f) ∙ a));
    not_taken = λ b _ f. absurd (true≢false (sym (ap is_up f) ∙ b));
    resets = λ _ f c m o. absurd (false≢true (sym (no_answer_yet n c) ∙ o));
    ticks = stopping_tick;
  })

-- from the start on
stopping_at : (n : Network) → InRange n → (h : OwnHistory) → Ran n h → let s = state_of n h in
    Stopping n s.step s.answers (since (setback n) h)
unfolding state_of Ran started
stopping_at n g [] r = down_not (first_down n.partial) (first_down_lem n.partial).falls
stopping_at n g (e ∷ h) r =
    stopping_call n g h (state_of n h) (state_kept n g h r.1) (stands n g h r.1).suited (stopping_at n g h r.1) e r.0

-- ---- the first request to start since a stall
-- where the last setback was a stall and a controller was not asked to start since, the network is stopping
unasked_stopping : (n : Network) (way : Way) (asked : Bool) (answers : List LastAnswer) (count d w : ℕ) (q : OwnHistory)
    → Stands n way asked answers count q d w true → (c : ℕ) → member c (controllers_of n) ≡ true → asked_to_start c q ≡ false → way ≡ stopping
unasked_stopping n away asked answers count d w q i c m a = absurd (true≢false i.1)
unasked_stopping n stopping asked answers count d w q i c m a = refl
unasked_stopping n (starting cause) asked answers count d w q i c m a = absurd (by_cause cause i.why i.late)
  where
    by_cause : (cause : Cause) → true ≡ is_stall_cause cause → Late cause (tally ticked q) → ⊥
    by_cause coming_up e l = absurd (true≢false e)
    by_cause bus_off e l = absurd (true≢false e)
    by_cause stall e l =
        absurd (true≢false (sym (i.requested c m ∙ i.sent ∙ lt-ltb 0 (tally ticked q) (omega (arith, l))) ∙ a))
unasked_stopping n (delayed t) asked answers count d w q i c m a = absurd (true≢false (sym (i.0.all c m) ∙ asked_first c q a))
unasked_stopping n there asked answers count d w q i c m a = absurd (true≢false (sym (i.0.all c m) ∙ asked_first c q a))
unasked_stopping n silenced asked answers count d w q i c m a = absurd (true≢false (sym (i.0.all c m) ∙ asked_first c q a))

-- and so in step 15
abbrev is_stopping : Way → Bool
is_stopping away = false
is_stopping stopping = true
is_stopping (starting cause) = false
is_stopping (delayed ticks) = false
is_stopping there = false
is_stopping silenced = false

stopping_step : (step : Step) → is_stopping (way_of step) ≡ true → step ≡ ResetStopped
stopping_step step e = by_test (asks_to_start (asks_for step)) refl e
  where
    by_phase : (phase : Phase) → InPhase phase step → asks_to_start (asks_for step) ≡ false → is_stopping (way_in phase (timer_of step)) ≡ true
        → step ≡ ResetStopped
    by_phase Phase.Off p a e = absurd (false≢true e)
    by_phase Phase.Rising p a e = absurd (false≢true e)
    by_phase Phase.Checking p a e = absurd (false≢true e)
    by_phase Phase.Full p a e = absurd (false≢true e)
    by_phase Phase.Recovering p a e = absurd (false≢true e)
    by_phase Phase.Silent p a e = absurd (false≢true e)
    by_phase Phase.Falling p a e = absurd (false≢true e)
    by_phase Phase.Resetting p a e = p a

    by_test : (b : Bool) → asks_to_start (asks_for step) ≡ b
        → is_stopping (cond b (starting (cause_in (phase_of step))) (way_in (phase_of step) (timer_of step))) ≡ true → step ≡ ResetStopped
    by_test true a e = absurd (false≢true e)
    by_test false a e = by_phase (phase_of step) (in_phase step) a e

module _ (n : Network) (g : InRange n) (f : Distinct (controllers_of n)) (h : OwnHistory) (r : Ran n h) where
  abbrev s : State
  s = state_of n h

  pub in_step_15 : after_stall n h ≡ true → (c : ℕ) → member c (controllers_of n) ≡ true → asked_to_start c (since (setback n) h) ≡ false
      → s.step ≡ ResetStopped
  in_step_15 x c m a = stopping_step s.step (ap is_stopping
      (unasked_stopping n (way_of s.step) s.asked s.answers s.count (owed n h) (wanted_at_tick h) (since (setback n) h)
      (rw x at (stands_at n g f h r)) c m a))

  -- where that step is done, each controller has stopped since the stall
  pub done_stopped : s.step ≡ ResetStopped → finished n s ≡ true → Stopped n h
  done_stopped e done c m =
      let okay = done_answered n s ResetStopped e done in
      let used = slot_in_use n s c g (state_kept n g h r) m in
      stopping_at n g h r e c m (every_at is_okay s.answers (seat_of n c) n.count LastAnswer.Pending okay used.0 used.1)
