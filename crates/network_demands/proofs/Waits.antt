-- The tick with which the wait after a bus-off begins: it stands in the decision, and is read off the history.
use Rattle.lists.proofs.Basics.{ℕ, zero, suc, ◌+◌, ◌≤◌, ◌<◌, arith, eq-eqb, ne_eqb, lt-ltb, ltb-false, ◌≡◌, refl, sym, ap, ◌∙◌, List, ◌∷◌, Bool}
use Rattle.lists.proofs.Basics.{true, false, ◌&&◌, and-false, ltb, eqb, false≢true}
use mathlib.Core.Bool.{and-true}
use Rattle.lists.proofs.Tests.{split}
use Rattle.records.specs.declared.Mode.{Mode}
use Rattle.settings.specs.declared.Network.{Network}
use Rattle.settings.specs.Settings.{controllers_of}
use Rattle.settings.specs.Good.{Distinct, InRange}
use Rattle.steps.specs.declared.Step.{Step}
use Rattle.steps.specs.declared.Step.TheVariants.{NoCommunication, TransceiverNormal, ControllersStopped, ControllersStarted, Checking, Full}
use Rattle.steps.specs.declared.Step.TheVariants.{Restarting, Waiting, Silent, ClearWake, DownStopped, TransceiverStandby, ControllersSleep}
use Rattle.steps.specs.declared.Step.TheVariants.{CheckWake, CheckWakeAgain, ResetStopped, ResetStarted}
use Rattle.steps.specs.declared.Move.{Move}
use Rattle.steps.specs.Steps.{up_phase, is_asking}
use Rattle.steps.specs.Decision.{risen}
use Rattle.steps.specs.After.{step_after}
use Rattle.network.specs.declared.LastAnswer.{LastAnswer}
use Rattle.network.specs.declared.State.{State}
use Rattle.network.specs.Moving.{after_move}
use Rattle.network.specs.Parts.{a_tick}
use Rattle.network_demands.specs.Words.{Seen, OwnHistory, since, tally, ticked, setback, wanted_at_tick, owed, after_stall, first_running}
use Rattle.network_demands.specs.Own.{decides, tick_after, tick_hands, played, state_of, Ran}
use Rattle.network_demands.specs.Promises.{wait_begins}
use Rattle.network_demands.proofs.Views.{seen}
use Rattle.network_demands.proofs.Arrows.{by_tick_arrow}
use Rattle.network_demands.proofs.Handed.{is_wait, is_go_down, both_by, none_by, move_shuts}
use Rattle.network_demands.proofs.Follows.{state_kept}
use Rattle.network_demands.proofs.Running.{since_by, owed_by}
use Rattle.network_demands.proofs.Way.{Way, away, stopping, starting, delayed, there, silenced, way_of, is_beginning, way_away, first_down_away}
use Rattle.network_demands.proofs.Way.{Stands}
use Rattle.network_demands.proofs.Standing.{stands}
use Rattle.network_demands.proofs.Told.{stands_at}

-- ---- by the decision
-- a step that asks is not where the delay begins
asking_begins_not : (step : Step) → is_asking step ≡ true → is_beginning (way_of step) ≡ false
asking_begins_not NoCommunication e = refl
asking_begins_not TransceiverNormal e = refl
asking_begins_not ControllersStopped e = refl
asking_begins_not ControllersStarted e = refl
asking_begins_not (Checking t) e = refl
asking_begins_not Full e = refl
asking_begins_not Restarting e = refl
asking_begins_not (Waiting t) e = absurd (false≢true e)
asking_begins_not Silent e = refl
asking_begins_not ClearWake e = refl
asking_begins_not DownStopped e = refl
asking_begins_not TransceiverStandby e = refl
asking_begins_not ControllersSleep e = refl
asking_begins_not CheckWake e = refl
asking_begins_not CheckWakeAgain e = refl
asking_begins_not ResetStopped e = refl
asking_begins_not ResetStarted e = refl

-- a count that has risen is not 0
risen_some : (t : ℕ) → false ≡ eqb 0 (risen t)
risen_some t = split (λ (x : ℕ). false ≡ eqb 0 x) (ltb t 65535) (λ _. sym (ne_eqb 0 (t + 1) (λ e. omega arith)))
    (λ l. sym (ne_eqb 0 t (λ e. omega (arith, ltb-false t 65535 l))))

-- the move that waits leads to where the delay begins, and no other does
abbrev Waits : Bool → Step → Mode → Move → Type 0
Waits partial step wanted m = is_wait m ≡ is_beginning (way_of (step_after m step partial))

module _ (n : Network) (g : InRange n) (h : OwnHistory) (r : Ran n h) where
  abbrev s : State
  s = state_of n h

  abbrev m : Move
  m = decides n s

  abbrev e : Seen
  e = seen a_tick 0 (tick_hands n s)

  waits : Waits n.partial s.step s.wanted m
  waits = by_tick_arrow n s (Waits n.partial) (record {
    rests = λ wanted w. refl;
    called = λ u. refl;
    called_bare = λ u. refl;
    climbs = λ d. refl;
    begins = λ d. refl;
    starts = λ d. refl;
    asks_again = λ step wanted a _. sym (asking_begins_not step a.asking);
    checks = λ t r. refl;
    passes = λ t r. refl;
    stays_full = refl;
    stays_silent = refl;
    waits = λ wanted w d. refl;
    waits_on = λ t wanted w r. risen_some t;
    resumes = λ wanted w d. refl;
    fills = λ step q f. refl;
    silences = λ step q. refl;
    goes_down_lem = λ step o. rw (first_down_away n.partial) refl;
    sinks = λ step next wanted d f u. rw (way_away next (ap up_phase f.falls) f.starts_not) refl;
    ends = λ step wanted d. refl;
  }) (stands n g h r).suited (state_kept n g h r)

  -- ---- by the history
  -- where as many ticks as the delay have come since, the wait does not begin
  passed : (d : ℕ) (q : OwnHistory) → first_running n q + d ≤ tally ticked q → false ≡ ltb 0 d && eqb (first_running n q) (tally ticked q)
  passed zero q l = refl
  passed (suc d) q l = rw (ne_eqb (first_running n q) (tally ticked q) (λ e. omega (arith, l, e))) (sym (and-false (ltb 0 (suc d))))

  -- q being what follows the last setback, with some tick, d the delay owed since
  begins_by : (way : Way) (asked : Bool) (answers : List LastAnswer) (count d w : ℕ) (q : OwnHistory) (x : Bool) → 0 < tally ticked q
      → Stands n way asked answers count q d w x → is_beginning way ≡ ltb 0 d && eqb (first_running n q) (tally ticked q)
  begins_by away asked answers count d w q x l i = rw i.0.delay refl
  begins_by stopping asked answers count d w q x l i = rw i.0.delay refl
  begins_by (starting cause) asked answers count d w q x l i =
      rw (i.none, ne_eqb 0 (tally ticked q) (λ e. omega (arith, e))) (sym (and-false (ltb 0 d)))
  begins_by (delayed zero) asked answers count d w q x l i =
      rw (lt-ltb 0 d i.3, eq-eqb (first_running n q) (tally ticked q) (omega (arith, i.2))) refl
  begins_by (delayed (suc t)) asked answers count d w q x l i =
      rw (ne_eqb 0 (suc t) (λ e. omega (arith, e)), ne_eqb (first_running n q) (tally ticked q) (λ e. omega (arith, i.2, e)))
      (sym (and-false (ltb 0 d)))
  begins_by there asked answers count d w q x l i = passed d q i.1
  begins_by silenced asked answers count d w q x l i = passed d q i.1

  -- the tick decides to wait exactly if the wait begins with it
  pub wait_begins_lem : Distinct (controllers_of n) → Ran n (e ∷ h) → is_wait m ≡ wait_begins n (e ∷ h)
  unfolding state_of played after_move tally
  wait_begins_lem f now = by_test (is_go_down m) refl
    where
      shuts : setback n e ≡ is_go_down m
      shuts = move_shuts n s.step _ m

      not_both : is_wait m && is_go_down m ≡ false
      not_both = both_by ◌&&◌ refl false false false true false false false false false false true false m ∙ none_by m

      by_test : (b : Bool) → is_go_down m ≡ b → is_wait m ≡ wait_begins n (e ∷ h)
      by_test true z =
          sym (and-true (is_wait m)) ∙ ap (λ (b : Bool). is_wait m && b) (sym z) ∙ not_both ∙ rw (owed_by n e h true (shuts ∙ z)) refl
      by_test false z =
          let after = tick_after n s in
          let some : 0 < tally ticked (since (setback n) (e ∷ h)) = rw (since_by n e h false (shuts ∙ z)) (omega arith) in
          waits ∙ begins_by (way_of after.step) after.asked after.answers after.count (owed n (e ∷ h)) (wanted_at_tick (e ∷ h))
          (since (setback n) (e ∷ h)) (after_stall n (e ∷ h)) some (stands_at n g f (e ∷ h) now)
