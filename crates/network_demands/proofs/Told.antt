-- Exactly when a network is said to be full: where it stands on its way there is kept by every call.
use Rattle.lists.proofs.Basics.{ℕ, suc, ◌+◌, ◌≤◌, ◌<◌, arith, ltb-true, leb-true, leb-false, lt-ltb, le-leb, lt-leb, ◌≡◌, refl, sym, ap}
use Rattle.lists.proofs.Basics.{subst, ◌∙◌, List, [], ◌∷◌, Bool, true, false, cond, ◌&&◌, false≢true, true≢false, leb, ltb, eqb}
use Rattle.lists.specs.Lists.{any, every}
use Rattle.lists.proofs.Tests.{split}
use Rattle.records.specs.declared.ControllerMode.{ControllerMode}
use Rattle.records.specs.declared.Mode.{Mode}
use Rattle.records.specs.declared.Record.{Record}
use Rattle.records.specs.Records.{mode_number}
use Rattle.settings.specs.declared.Network.{Network}
use Rattle.settings.specs.Settings.{controllers_of, member}
use Rattle.settings.specs.Good.{Distinct, InRange}
use Rattle.steps.specs.declared.Step.{Step}
use Rattle.steps.specs.declared.Step.TheVariants.{NoCommunication, TransceiverNormal, ControllersStopped, ControllersStarted, Checking, Full}
use Rattle.steps.specs.declared.Step.TheVariants.{Restarting, Waiting, Silent, ClearWake, DownStopped, TransceiverStandby, ControllersSleep}
use Rattle.steps.specs.declared.Step.TheVariants.{CheckWake, CheckWakeAgain, ResetStopped, ResetStarted}
use Rattle.steps.specs.declared.Ask.{Ask}
use Rattle.steps.specs.declared.Outfit.{Outfit}
use Rattle.steps.specs.declared.Move.{Move}
use Rattle.steps.specs.declared.Move.TheVariants.{AskAgain, Count, EnterFull, EnterSilent, Wait, GoDown, EnterNoCommunication}
use Rattle.steps.specs.Steps.{phase_of, asks_for, timer_of, is_up, is_full_step, asks_to_start}
use Rattle.steps.specs.Decision.{risen, decision}
use Rattle.steps.specs.After.{step_after}
use Rattle.handing.specs.Handing.{requests, move_records, recovery, reset}
use Rattle.network.specs.declared.LastAnswer.{LastAnswer}
use Rattle.network.specs.declared.State.{State}
use Rattle.network.specs.State.{blank_answers, heard_of, started}
use Rattle.network.specs.Rules.{is_okay, is_refusal, is_long, delay_of, outfit_of}
use Rattle.network.specs.Moving.{count_after, asks_after, keeps_answers, after_move}
use Rattle.network.specs.BusOff.{made_anew, after_hit}
use Rattle.network.specs.Parts.{a_tick, a_bus_off, a_stall, an_answer}
use Rattle.network_theorems.specs.Kept.{is_full_mode, Kept}
use Rattle.network_theorems.proofs.Moves.{ByMove, by_move}
use Rattle.network_demands.specs.Words.{is, Seen, OwnHistory, since, tally, ticked, setback, told, wanted, wanted_at_tick, up, owed}
use Rattle.network_demands.specs.Words.{after_stall, asked_to_start, runs, all_run, first_running, Told, ToldNo, Answered}
use Rattle.network_demands.specs.Own.{finished, reaches, decides, tick_after, tick_hands, recovered, played, state_of, Fits, Ran}
use Rattle.network_demands.proofs.Views.{seen, by_part}
use Rattle.network_demands.proofs.Tests.{finished_just, finished_asked, reaches_just}
use Rattle.network_demands.proofs.Handed.{is_go_down, move_shuts}
use Rattle.network_demands.proofs.Given.{start_asks}
use Rattle.network_demands.proofs.Slots.{every_member, every_same, said_okay, no_answer_yet, all_okay}
use Rattle.network_demands.proofs.Up.{up_means, says}
use Rattle.network_demands.proofs.Follows.{state_kept, wanted_follows, told_follows}
use Rattle.network_demands.proofs.Counted.{Counted, counted, counted_fall, delay_follows}
use Rattle.network_demands.proofs.Running.{since_by, owed_by, stall_by, asked_first, first_stays, first_tick, none_run}
use Rattle.network_demands.proofs.Way.{Cause, coming_up, bus_off, stall, Way, away, stopping, starting, delayed, there, silenced}
use Rattle.network_demands.proofs.Way.{cause_in, way_of, is_there, down_away, down_comes_up, way_away, delay_by, is_stall_cause, Late}
use Rattle.network_demands.proofs.Way.{soonest, later, first_down_away, full_there, to_start, Starts, Running, Away, Stands, StandsAt}
use Rattle.network_demands.proofs.Way.{stands_same}
use Rattle.network_demands.proofs.Way.{heard_stands, anew, nothing_since}

-- ---- ticks
-- a tick count below a delay rises by one
risen_one : (t : ℕ) → t < 65535 → risen t ≡ t + 1
risen_one t l = rw (lt-ltb t 65535 l) refl

pub delay_range : (n : Network) → InRange n → (count : ℕ) → (1 ≤ delay_of n count) × (delay_of n count < 65536)
unfolding delay_of
delay_range n g count = split (λ (x : ℕ). (1 ≤ x) × (x < 65536)) (is_long n.relation n.threshold count) (λ _. g.long) (λ _. g.short)

-- q is what followed the last setback before the tick
module _ (n : Network) (g : InRange n) (told : Mode) (asked : Bool) (answers : List LastAnswer) (count : ℕ) (q : OwnHistory) (d : ℕ) (x : Bool) where
  abbrev ticking : List Record → Seen
  ticking records = seen a_tick 0 records

  -- away, a tick that asks no controller to start leaves the network so
  still_away : (records : List Record) → ((c : ℕ) → any (is 1 c 1) records ≡ false) → Away n q d → Away n (ticking records ∷ q) d
  unfolding any
  still_away records f i = record {
    none = first_tick n (ticking records) q refl i.none ∙ rw (none_run n g q i.unasked) refl;
    delay = i.delay;
    unasked = λ c m. rw (f c) (i.unasked c m);
  }

  -- the requests to start go to each controller
  all_asked : (ask : Ask) → asks_to_start ask ≡ true → (c : ℕ) → member c (controllers_of n) ≡ true
      → asked_to_start c (ticking (requests ask n) ∷ q) ≡ true
  unfolding any
  all_asked ask e c m = rw (start_asks n c ask, e, m) refl

  -- asked with this tick
  sent_now : (records : List Record) → true ≡ ltb 0 (tally ticked (ticking records ∷ q))
  unfolding tally
  sent_now records = sym (lt-ltb 0 (suc (tally ticked q)) (omega arith))

  -- a tick that asks all controllers to start, where none was asked before
  starts_now : (cause : Cause) (ask : Ask) → asks_to_start ask ≡ true → d ≡ delay_by n count cause → x ≡ is_stall_cause cause
      → Late cause (tally ticked (ticking (requests ask n) ∷ q)) → Away n q d
      → Starts n cause true blank_answers count (ticking (requests ask n) ∷ q) d x
  unfolding runs
  starts_now cause ask a delay why late i = record {
    none = first_tick n (ticking (requests ask n)) q refl i.none ∙ rw (none_run n g q i.unasked) refl;
    delay = delay;
    why = why;
    late = late;
    sent = sent_now (requests ask n);
    requested = all_asked ask a;
    answered = λ c m. asked_first c q (i.unasked c m) ∙ sym (no_answer_yet n c);
  }

  -- the next step on the way up or down
  entered : (next : Step) (w : ℕ) → is_up next ≡ false → Away n q d → x ≡ false
      → Stands n (way_of next) true blank_answers count (ticking (requests (asks_for next) n) ∷ q) d w x
  entered next w u i e = split (λ (way : Way). Stands n way true blank_answers count (ticking (requests (asks_for next) n) ∷ q) d w x)
      (asks_to_start (asks_for next))
      (λ a. subst (λ (cause : Cause). Starts n cause true blank_answers count (ticking (requests (asks_for next) n) ∷ q) d x)
      (sym (down_comes_up (phase_of next) u)) (starts_now coming_up (asks_for next) a i.delay e tt i))
      (λ a. subst (λ (way : Way). Stands n way true blank_answers count (ticking (requests (asks_for next) n) ∷ q) d w x)
      (sym (down_away (phase_of next) (timer_of next) u))
      (still_away (requests (asks_for next) n) (λ c. start_asks n c (asks_for next) ∙ rw a refl) i, e))

  -- what is late stays so
  still_late : (cause : Cause) (ticks : ℕ) → Late cause ticks → Late cause (suc ticks)
  still_late coming_up ticks l = tt
  still_late bus_off ticks l = tt
  still_late stall ticks l = omega (arith, l)

  -- starting, all are asked again where not all run
  asked_again : (cause : Cause) → all_run n q ≡ false → Starts n cause asked answers count q d x
      → Starts n cause true answers count (ticking (requests (Ask.Controllers ControllerMode.Started) n) ∷ q) d x
  unfolding runs tally
  asked_again cause f i = record {
    none = first_tick n (ticking (requests (Ask.Controllers ControllerMode.Started) n)) q refl i.none ∙ rw f refl;
    delay = i.delay;
    why = i.why;
    late = still_late cause (tally ticked q) i.late;
    sent = sent_now (requests (Ask.Controllers ControllerMode.Started) n);
    requested = all_asked (Ask.Controllers ControllerMode.Started) refl;
    answered = i.answered;
  }

  -- starting, where all run this tick is the first before which they do, and it is not the first of all
  first_now : (cause : Cause) (records : List Record) → all_run n q ≡ true → Starts n cause asked answers count q d x
      → Running n (ticking records ∷ q) x × (first_running n (ticking records ∷ q) ≡ suc (tally ticked q))
  unfolding runs
  first_now cause records f i =
      let now : first_running n (ticking records ∷ q) ≡ suc (tally ticked q) = first_tick n (ticking records) q refl i.none ∙ rw f refl in
      let some = by_test asked refl in (
        record {
          all = λ c m. every_member (λ (c : ℕ). runs c q) c (controllers_of n) f m;
          soon = rw (now, i.why) (by_cause cause (tally ticked q) some i.late);
        },
        now,
      )
    where
      by_test : (b : Bool) → asked ≡ b → 0 < tally ticked q
      by_test true e = ltb-true 0 (tally ticked q) (sym i.sent ∙ e)
      by_test false e = absurd (true≢false (sym f ∙ none_run n g q (λ c m. i.requested c m ∙ e)))

      by_cause : (cause : Cause) (ticks : ℕ) → 0 < ticks → Late cause ticks → soonest (is_stall_cause cause) ≤ suc ticks
      by_cause coming_up ticks some l = omega (arith, some)
      by_cause bus_off ticks some l = omega (arith, some)
      by_cause stall ticks some l = omega (arith, l)

  -- once all run a tick changes nothing of that
  first_still : (records : List Record) → Running n q x → first_running n (ticking records ∷ q) ≡ first_running n q
  first_still records i = first_stays n (ticking records) q (omega (arith, later n q x i))

  still_running : (records : List Record) → Running n q x → Running n (ticking records ∷ q) x
  unfolding runs
  still_running records i =
      record { all = i.all; soon = rw (first_still records i) i.soon }

  -- what a move makes of where the network stands
  abbrev After : Step → Mode → Move → Type 0
  After step wanted m =
      Stands n (way_of (step_after m step n.partial)) (asks_after m asked) (cond (keeps_answers m) answers blank_answers) (count_after m count)
      (cond (is_go_down m) [] (ticking (move_records n step told m) ∷ q)) (cond (is_go_down m) 0 d) (mode_number wanted) (cond (is_go_down m) false x)

  gone : (step : Step) → After step Mode.No GoDown
  gone step =
      subst (λ (way : Way). Stands n way true blank_answers count [] 0 0 false) (sym (first_down_away n.partial)) (nothing_since n, refl)

  -- from a step that is not up and does not ask the controllers to start
  abbrev AfterAway : Step → Mode → Move → Type 0
  AfterAway step wanted m = is_up step ≡ false → asks_to_start (asks_for step) ≡ false → Away n q d × (x ≡ false) → After step wanted m

  after_away : (done : Bool) → ByMove done AfterAway
  unfolding move_records any
  after_away done = record {
    stays = λ step wanted u a i. rw (way_away step u a) (still_away [] (λ c. refl) i.0, i.1);
    asks_again = λ step wanted _ u a i.
        rw (way_away step u a) (still_away (requests (asks_for step) n) (λ c. start_asks n c (asks_for step) ∙ rw a refl) i.0, i.1);
    counts = λ step next wanted p p' f u a i. absurd (false≢true (sym u ∙ p.up));
    passes = λ step wanted p f u a i. absurd (false≢true (sym u ∙ p.up));
    fills = λ step wanted p u a i. absurd (false≢true (sym u ∙ p.up));
    starts = λ step wanted _ b u a i. absurd (false≢true (sym a ∙ b));
    silences = λ step wanted p u a i. absurd (false≢true (sym u ∙ p));
    waits = λ step wanted _ b f u a i. absurd (false≢true (sym a ∙ b));
    goes_down_lem = λ step o u a i. gone step;
    ends = λ step wanted _ u a i. (still_away (move_records n step told EnterNoCommunication) (λ c. refl) i.0, i.1);
    enters = λ step next wanted _ same _ u a i. entered next (mode_number wanted) (same ∙ u) i.0 i.1;
  }

  -- in step 3, in steps 15 and 16, in step 6 and in step 7, where the network does not go down
  after_starting : (done : Bool) → done ≡ all_run n q → Starts n coming_up asked answers count q d x
      → After ControllersStarted Mode.Full (cond done EnterFull AskAgain)
  unfolding move_records tally
  after_starting done p i = split (After ControllersStarted Mode.Full) done
      (λ e. let x = first_now coming_up (move_records n ControllersStarted told EnterFull) (sym p ∙ e) i in
      (x.0, omega (arith, x.1, i.delay), refl))
      (λ e. asked_again coming_up (sym p ∙ e) i)

  after_stopping : (wanted : Mode) (done : Bool) → (done ≡ true → asked ≡ true)
      → Away n q d × (x ≡ true) × (asked ≡ true → 0 < tally ticked q) → After ResetStopped wanted (cond done (Move.Enter ResetStarted) AskAgain)
  unfolding move_records tally
  after_stopping wanted done p i = split (After ResetStopped wanted) done
      (λ e. starts_now stall (asks_for ResetStarted) refl i.0.delay i.1 (omega (arith, i.2 (p e))) i.0)
      (λ e. (still_away (requests (asks_for ResetStopped) n) (λ c. start_asks n c (asks_for ResetStopped)) i.0, i.1, λ _. omega arith))

  after_resetting : (wanted : Mode) (m : Move) (done : Bool) → done ≡ all_run n q → Starts n stall asked answers count q d x
      → (Running n (ticking (move_records n ResetStarted told m) ∷ q) x
      → first_running n (ticking (move_records n ResetStarted told m) ∷ q) + d ≤ tally ticked (ticking (move_records n ResetStarted told m) ∷ q)
      → After ResetStarted wanted m) → After ResetStarted wanted (cond done m AskAgain)
  unfolding move_records tally
  after_resetting wanted m done p i f = split (After ResetStarted wanted) done
      (λ e. let x = first_now stall (move_records n ResetStarted told m) (sym p ∙ e) i in f x.0 (omega (arith, x.1, i.delay)))
      (λ e. asked_again stall (sym p ∙ e) i)

  after_restarting : (wanted : Mode) (done : Bool) → done ≡ all_run n q → Starts n bus_off asked answers count q d x
      → After Restarting wanted (cond done Wait AskAgain)
  unfolding move_records tally
  after_restarting wanted done p i = split (After Restarting wanted) done
      (λ e. let x = first_now bus_off (move_records n Restarting told Wait) (sym p ∙ e) i in
      (x.0, i.delay, omega (arith, x.1), omega (arith, i.delay, (delay_range n g count).0)))
      (λ e. asked_again bus_off (sym p ∙ e) i)

  after_waiting : (t w : ℕ) (wanted : Mode) (m : Move) (reached : Bool) → reached ≡ leb (delay_of n count) (t + 1)
      → Stands n (delayed t) asked answers count q d w x → (first_running n q + d ≤ suc (tally ticked q) → After (Waiting t) wanted m)
      → After (Waiting t) wanted (cond reached m (Count (Waiting (risen t))))
  unfolding move_records tally
  after_waiting t w wanted m reached r i f = split (After (Waiting t) wanted) reached
      (λ e. f (omega (arith, i.1, i.2, leb-true (delay_of n count) (t + 1) (sym r ∙ e))))
      (λ e.
      let l = leb-false (delay_of n count) (t + 1) (sym r ∙ e) in
      let one = risen_one t (omega (arith, (delay_range n g count).1)) in
      (still_running [] i.0, i.1, omega (arith, i.2, first_still [] i.0), omega (arith, i.1)))

  -- where the time has passed, full or silent is entered, or all stays
  on_there : (records : List Record) → Running n q x → first_running n q + d ≤ suc (tally ticked q)
      → Running n (ticking records ∷ q) x × (first_running n (ticking records ∷ q) + d ≤ tally ticked (ticking records ∷ q))
  unfolding tally
  on_there records i l = (still_running records i, rw (first_still records i) l)

  module _ (w : ℕ) (done refused reached : Bool) (outfit : Outfit) where
    -- each step by what it does; what is done and reached is as the record has it
    after : (step : Step) (wanted : Mode) → (wanted ≡ Mode.Silent → is_up step ≡ true) → (asks_to_start (asks_for step) ≡ true → done ≡ all_run n q)
        → ((t : ℕ) → step ≡ Waiting t → reached ≡ leb (delay_of n count) (t + 1)) → (done ≡ true → asked ≡ true)
        → Stands n (way_of step) asked answers count q d w x
        → After step wanted (decision step wanted done refused reached outfit)
    unfolding decision
    after NoCommunication wanted s p r b i = by_move AfterAway done (after_away done) NoCommunication wanted refused reached outfit refl refl i
    after TransceiverNormal wanted s p r b i = by_move AfterAway done (after_away done) TransceiverNormal wanted refused reached outfit refl refl i
    after ControllersStopped wanted s p r b i = by_move AfterAway done (after_away done) ControllersStopped wanted refused reached outfit refl refl i
    after ControllersStarted Mode.No s p r b i = gone ControllersStarted
    after ControllersStarted Mode.Silent s p r b i = absurd (false≢true (s refl))
    after ControllersStarted Mode.Full s p r b i = after_starting done (p refl) i
    after (Checking t) Mode.No s p r b i = gone (Checking t)
    after (Checking t) Mode.Silent s p r b i = let x = on_there _ i.0 (omega (arith, i.1)) in (x.0, x.1, refl)
    after (Checking t) Mode.Full s p r b i =
        split (After (Checking t) Mode.Full) reached
        (λ _. let x = on_there _ i.0 (omega (arith, i.1)) in (x.0, x.1, refl))
        (λ _. let x = on_there _ i.0 (omega (arith, i.1)) in (x.0, x.1, refl))
    after Full Mode.No s p r b i = gone Full
    after Full Mode.Silent s p r b i = let x = on_there _ i.0 (omega (arith, i.1)) in (x.0, x.1, refl)
    after Full Mode.Full s p r b i = let x = on_there _ i.0 (omega (arith, i.1)) in (x.0, x.1, refl)
    after Restarting Mode.No s p r b i = gone Restarting
    after Restarting Mode.Silent s p r b i = after_restarting Mode.Silent done (p refl) i
    after Restarting Mode.Full s p r b i = after_restarting Mode.Full done (p refl) i
    after (Waiting t) Mode.No s p r b i = gone (Waiting t)
    after (Waiting t) Mode.Silent s p r b i =
        after_waiting t w Mode.Silent EnterSilent reached (r t refl) i (λ l. let x = on_there _ i.0 l in (x.0, x.1, refl))
    after (Waiting t) Mode.Full s p r b i =
        after_waiting t w Mode.Full EnterFull reached (r t refl) i (λ l. let x = on_there _ i.0 l in (x.0, x.1, refl))
    after Silent Mode.No s p r b i = gone Silent
    after Silent Mode.Silent s p r b i = let x = on_there _ i.0 (omega (arith, i.1)) in (x.0, x.1, refl)
    after Silent Mode.Full s p r b i = let x = on_there _ i.0 (omega (arith, i.1)) in (x.0, x.1, refl)
    after ClearWake wanted s p r b i = by_move AfterAway done (after_away done) ClearWake wanted refused reached outfit refl refl i
    after DownStopped wanted s p r b i = by_move AfterAway done (after_away done) DownStopped wanted refused reached outfit refl refl i
    after TransceiverStandby wanted s p r b i = by_move AfterAway done (after_away done) TransceiverStandby wanted refused reached outfit refl refl i
    after ControllersSleep wanted s p r b i = by_move AfterAway done (after_away done) ControllersSleep wanted refused reached outfit refl refl i
    after CheckWake wanted s p r b i = by_move AfterAway done (after_away done) CheckWake wanted refused reached outfit refl refl i
    after CheckWakeAgain wanted s p r b i = by_move AfterAway done (after_away done) CheckWakeAgain wanted refused reached outfit refl refl i
    after ResetStopped Mode.No s p r b i = gone ResetStopped
    after ResetStopped Mode.Silent s p r b i = after_stopping Mode.Silent done b i
    after ResetStopped Mode.Full s p r b i = after_stopping Mode.Full done b i
    after ResetStarted Mode.No s p r b i = gone ResetStarted
    after ResetStarted Mode.Silent s p r b i = after_resetting Mode.Silent EnterSilent done (p refl) i (λ y l. (y, l, refl))
    after ResetStarted Mode.Full s p r b i = after_resetting Mode.Full EnterFull done (p refl) i (λ y l. (y, l, refl))

-- ---- all that is seen
module _ (n : Network) (g : InRange n) (f : Distinct (controllers_of n)) (h : OwnHistory) (s : State) (k : Kept n s) (u : up n h ≡ is_up s.step)
    (v : mode_number s.wanted ≡ wanted h) (y : Counted n s h) (i : StandsAt n s h) where
  abbrev StillStands : Seen → State → Type 0
  StillStands e t = StandsAt n t (e ∷ h)

  -- a step that asks the controllers to start is done exactly if all run
  done_runs : asks_to_start (asks_for s.step) ≡ true → finished n s ≡ all_run n (since (setback n) h)
  done_runs a = finished_just n s ControllerMode.Started (to_start (asks_for s.step) a) ∙ by_test s.asked refl
    where
      j : Starts n (cause_in (phase_of s.step)) s.asked s.answers s.count (since (setback n) h) (owed n h) (after_stall n h)
      j = rw a at i

      by_test : (b : Bool) → s.asked ≡ b → cond b (every is_okay (heard_of n s)) false ≡ all_run n (since (setback n) h)
      by_test true e = all_okay n s g f k ∙ every_same (said_okay n s.answers) (λ (c : ℕ). runs c (since (setback n) h))
          (controllers_of n) (λ c m. sym (j.answered c m))
      by_test false e = sym (none_run n g (since (setback n) h) (λ c m. j.requested c m ∙ e))

  stands_tick : StillStands (seen a_tick 0 (tick_hands n s)) (tick_after n s)
  unfolding after_move wanted_at_tick
  stands_tick =
      let m = decides n s in
      let e : Seen = seen a_tick 0 (tick_hands n s) in
      let shuts : setback n e ≡ is_go_down m = move_shuts n s.step _ m in
      rw (since_by n e h (is_go_down m) shuts, owed_by n e h (is_go_down m) shuts, stall_by n e h (is_go_down m) shuts, ← v)
      (after n g _ s.asked s.answers s.count (since (setback n) h) (owed n h) (after_stall n h) (wanted_at_tick h) (finished n s)
      (any is_refusal (heard_of n s)) (reaches n s) (outfit_of n.transceiver n.partial) s.step s.wanted
      k.wanted done_runs (reaches_just n s) (finished_asked n s) i)

  stands_call : (e : Seen) → Fits n s e → StillStands e (played n s e.sight).state
  unfolding any runs wanted_at_tick after_hit made_anew
  stands_call = by_part n s StillStands (record {
    plain = λ sight number wanted reported p.
        let e : Seen = seen sight number [] in
        let calm : setback n e ≡ false = rw (p.bus_off, p.stall) refl in
        rw (since_by n e h false calm, owed_by n e h false calm, stall_by n e h false calm, p.tick)
        (stands_same n e (since (setback n) h) p.tick (λ c. refl) (λ c m. rw (p.answer c 1 1 m, p.answer c 1 0 m) refl)
        (way_of s.step) s.asked s.answers s.count (owed n h) (wanted_at_tick h) (after_stall n h) i);
    hears = λ c mode ok m l t.
        let e : Seen = seen (an_answer c mode ok) 0 [] in
        rw (since_by n e h false refl, owed_by n e h false refl, stall_by n e h false refl)
        (heard_stands n g s k c mode ok m l (since (setback n) h) t (owed n h) (wanted_at_tick h) (after_stall n h) i);
    recovers = λ b.
        let e : Seen = seen a_bus_off 0 (recovery n.handle) in
        rw (since_by n e h true refl, owed_by n e h true refl, stall_by n e h true refl, u, b)
        (anew n bus_off _ _ refl (sym (delay_follows n g (e ∷ h) (recovered s) (counted_fall n h s u y b))));
    restarts = λ b a.
        let e : Seen = seen a_bus_off 0 [] in
        rw (since_by n e h true refl, owed_by n e h true refl, stall_by n e h true refl, u, b, a, down_comes_up (phase_of s.step) b)
        (anew n coming_up _ 0 refl refl);
    not_taken = λ b a.
        let e : Seen = seen a_bus_off 0x22 [] in
        rw (way_away s.step b a, since_by n e h true refl, owed_by n e h true refl, stall_by n e h true refl, u, b) (nothing_since n, refl);
    resets = λ b.
        let e : Seen = seen a_stall 0 (reset n.handle) in
        rw (since_by n e h true refl, owed_by n e h true refl, stall_by n e h true refl) (nothing_since n, refl, λ a. absurd (false≢true a));
    ticks = stands_tick;
  })

pub stands_at : (n : Network) → InRange n → Distinct (controllers_of n) → (h : OwnHistory) → Ran n h → StandsAt n (state_of n h) h
unfolding state_of Ran started since owed after_stall
stands_at n g f [] r = rw (first_down_away n.partial) (nothing_since n, refl)
stands_at n g f (e ∷ h) r =
    stands_call n g f h (state_of n h) (state_kept n g h r.1) (up_means n h r.1) (wanted_follows n h r.1) (counted n g h r.1)
    (stands_at n g f h r.1) e r.0

-- ---- exactly when full is told
-- there, full is due; elsewhere not
due_there : (n : Network) (way : Way) (asked : Bool) (answers : List LastAnswer) (count d w : ℕ) (s : OwnHistory) (x : Bool)
    → Stands n way asked answers count s d w x → is_there way ≡ (ltb 0 (first_running n s) && (leb (first_running n s + d) (tally ticked s) && eqb 2 w))
due_there n away asked answers count d w s x i = rw i.0.none refl
due_there n stopping asked answers count d w s x i = rw i.0.none refl
due_there n (starting cause) asked answers count d w s x i = rw i.none refl
due_there n (delayed t) asked answers count d w s x i =
    rw (lt-ltb 0 (first_running n s) (omega (arith, later n s x i.0)), lt-leb (first_running n s + d) (tally ticked s) (omega (arith, i.2))) refl
due_there n there asked answers count d w s x i =
    rw (lt-ltb 0 (first_running n s) (omega (arith, later n s x i.0)), le-leb (first_running n s + d) (tally ticked s) i.1, i.2) refl
due_there n silenced asked answers count d w s x i =
    rw (lt-ltb 0 (first_running n s) (omega (arith, later n s x i.0)), le-leb (first_running n s + d) (tally ticked s) i.1, i.2) refl

sooner_not : (n : Network) (s : OwnHistory) (x : Bool) → first_running n s ≡ 0 → ltb 0 (first_running n s) ≡ leb (soonest x) (first_running n s)
sooner_not n s true z = rw z refl
sooner_not n s false z = rw z refl

soon_enough : (n : Network) (s : OwnHistory) (x : Bool) → Running n s x → ltb 0 (first_running n s) ≡ leb (soonest x) (first_running n s)
soon_enough n s x i = lt-ltb 0 (first_running n s) (omega (arith, later n s x i)) ∙ sym (le-leb (soonest x) (first_running n s) i.soon)

-- a tick before which all run is never the first since the setback, and after a stall never the second
not_sooner : (n : Network) (way : Way) (asked : Bool) (answers : List LastAnswer) (count d w : ℕ) (s : OwnHistory) (x : Bool)
    → Stands n way asked answers count s d w x → ltb 0 (first_running n s) ≡ leb (soonest x) (first_running n s)
not_sooner n away asked answers count d w s x i = sooner_not n s x i.0.none
not_sooner n stopping asked answers count d w s x i = sooner_not n s x i.0.none
not_sooner n (starting cause) asked answers count d w s x i = sooner_not n s x i.none
not_sooner n (delayed t) asked answers count d w s x i = soon_enough n s x i.0
not_sooner n there asked answers count d w s x i = soon_enough n s x i.0
not_sooner n silenced asked answers count d w s x i = soon_enough n s x i.0

-- there, all run
there_running : (n : Network) (way : Way) (asked : Bool) (answers : List LastAnswer) (count d w : ℕ) (s : OwnHistory) (x : Bool)
    → Stands n way asked answers count s d w x → is_there way ≡ true → (c : ℕ) → member c (controllers_of n) ≡ true → runs c s ≡ true
there_running n away asked answers count d w s x i e = absurd (false≢true e)
there_running n stopping asked answers count d w s x i e = absurd (false≢true e)
there_running n (starting cause) asked answers count d w s x i e = absurd (false≢true e)
there_running n (delayed t) asked answers count d w s x i e = absurd (false≢true e)
there_running n there asked answers count d w s x i e = i.0.all
there_running n silenced asked answers count d w s x i e = absurd (false≢true e)

pub full_mode_number : (mode : Mode) → eqb 2 (mode_number mode) ≡ is_full_mode mode
full_mode_number Mode.No = refl
full_mode_number Mode.Silent = refl
full_mode_number Mode.Full = refl

-- full is told in just the full steps
pub told_in_full : (n : Network) → InRange n → (h : OwnHistory) → Ran n h → eqb 2 (told n h) ≡ is_full_step (state_of n h).step
told_in_full n g h r = ap (eqb 2) (sym (told_follows n h r)) ∙ full_mode_number (state_of n h).told ∙ (state_kept n g h r).told

module _ (n : Network) (g : InRange n) (f : Distinct (controllers_of n)) (h : OwnHistory) (r : Ran n h) where
  abbrev w : State
  w = state_of n h

  abbrev q : OwnHistory
  q = since (setback n) h

  -- full is told exactly where the network is there
  told_there : eqb 2 (told n h) ≡ is_there (way_of w.step)
  told_there = told_in_full n g h r ∙ full_there w.step

  pub told_exactly : Told n h
  told_exactly =
      told_there ∙ due_there n (way_of w.step) w.asked w.answers w.count (owed n h) (wanted_at_tick h) q (after_stall n h)
      (stands_at n g f h r)

  pub never_sooner : ltb 0 (first_running n q) ≡ leb (soonest (after_stall n h)) (first_running n q)
  never_sooner =
      not_sooner n (way_of w.step) w.asked w.answers w.count (owed n h) (wanted_at_tick h) q (after_stall n h) (stands_at n g f h r)

  pub told_no : ToldNo n h
  told_no = ap (eqb 0) (sym (told_follows n h r)) ∙ (says n h r).silence

  -- demand 3, first sentence
  pub first_sentence : Answered n h
  first_sentence e =
      there_running n (way_of w.step) w.asked w.answers w.count (owed n h) (wanted_at_tick h) q (after_stall n h) (stands_at n g f h r)
      (sym told_there ∙ ap (eqb 2) e)
