-- What was answered and reported since no was last told, where a network comes up: in step 1 that its transceiver is normal once it was reported, in
-- step 2 that too, and which controllers said that they are stopped.
use Rattle.lists.proofs.Basics.{ℕ, zero, suc, arith, eqb-true, ltb-false, ◌≡◌, refl, sym, ap, subst, ◌∙◌, List, [], ◌∷◌, Bool, true, false, cond}
use Rattle.lists.proofs.Basics.{◌&&◌, ◌||◌, false≢true, eqb, ltb}
use Rattle.lists.specs.Lists.{any, every}
use Rattle.lists.proofs.Any.{and_both, or_second, every_at}
use Rattle.records.specs.declared.ControllerMode.{ControllerMode}
use Rattle.records.specs.declared.TransceiverMode.{TransceiverMode}
use Rattle.records.specs.declared.Mode.{Mode}
use Rattle.records.specs.declared.Record.{Record}
use Rattle.std.specs.Prelude.{Option, Some}
use Rattle.settings.specs.declared.Network.{Network}
use Rattle.settings.specs.Settings.{controllers_of, member}
use Rattle.settings.specs.Good.{InRange}
use Rattle.steps.specs.declared.Step.{Step}
use Rattle.steps.specs.declared.Step.TheVariants.{TransceiverNormal, ControllersStopped}
use Rattle.steps.specs.declared.Phase.{Phase}
use Rattle.steps.specs.declared.Ask.{Ask}
use Rattle.steps.specs.declared.Outfit.TheVariants.{Bare}
use Rattle.steps.specs.declared.Move.{Move}
use Rattle.steps.specs.Steps.{phase_of, asks_for, asks_to_start}
use Rattle.steps.specs.After.{first_down, step_after}
use Rattle.network.specs.declared.LastAnswer.{LastAnswer}
use Rattle.network.specs.declared.Report.{Report}
use Rattle.network.specs.declared.State.{State}
use Rattle.network.specs.State.{blank_answers, heard_of, started}
use Rattle.network.specs.Rules.{is_okay, outfit_of}
use Rattle.network.specs.Moving.{keeps_answers, after_move}
use Rattle.network.specs.Answers.{awaits, takes_report, answer_of}
use Rattle.network.specs.BusOff.{made_anew, after_hit}
use Rattle.network.specs.Parts.{Sight, a_tick, a_bus_off, a_stall, an_answer, a_request, a_report, nothing}
use Rattle.network_theorems.specs.Kept.{Kept}
use Rattle.network_demands.specs.Words.{Seen, OwnHistory, accepted, since, is_answer_on}
use Rattle.network_demands.specs.Own.{finished, decides, reaches, tick_after, tick_hands, played, state_of, Fits, Ran}
use Rattle.network_demands.specs.Promises.{said_ok, is_normal, says_normal, reported_normal, since_rest, Prepared}
use Rattle.network_demands.proofs.Views.{seen, seat_of, heard_state, plain_state, takes_sight, Plain, by_part}
use Rattle.network_demands.proofs.Tests.{once_asked, done_answered}
use Rattle.network_demands.proofs.Handed.{eqb_same, is_end, move_says_no}
use Rattle.network_demands.proofs.Follows.{state_kept}
use Rattle.network_demands.proofs.Slots.{slot_in_use, said_okay, no_answer_yet, okay_own, okay_other}
use Rattle.network_demands.proofs.Arrows.{suits, own_outfit, first_down_lem, ByArrow, by_tick_arrow}
use Rattle.network_demands.proofs.Standing.{stands}

-- ---- by the step, q being what follows the last 6 no
-- step 2: the transceiver, where there is one, was reported normal, and a controller whose last answer here is ok said so on stopped
record Stopping (n : Network) (answers : List LastAnswer) (q : OwnHistory) : Type 0 where
  normal : (t : ℕ) → n.transceiver ≡ Some t → any reported_normal q ≡ true
  stopped : (c : ℕ) → member c (controllers_of n) ≡ true → said_okay n answers c ≡ true → said_ok c 0 q ≡ true

-- by what is asked for
abbrev ReadiedFor : Network → Ask → List LastAnswer → Bool → OwnHistory → Type 0
ReadiedFor n Ask.Nothing answers reported q = Unit
ReadiedFor n (Ask.Controllers ControllerMode.Stopped) answers reported q = Stopping n answers q
ReadiedFor n (Ask.Controllers ControllerMode.Started) answers reported q = Unit
ReadiedFor n (Ask.Controllers ControllerMode.Sleep) answers reported q = Unit
ReadiedFor n (Ask.Transceiver TransceiverMode.Normal) answers reported q = reported ≡ true → any reported_normal q ≡ true
ReadiedFor n (Ask.Transceiver TransceiverMode.Standby) answers reported q = Unit
ReadiedFor n Ask.ClearWake answers reported q = Unit
ReadiedFor n Ask.CheckWake answers reported q = Unit

-- only while the network comes up
abbrev ReadiedIn : Network → Phase → Ask → List LastAnswer → Bool → OwnHistory → Type 0
ReadiedIn n Phase.Off ask answers reported q = Unit
ReadiedIn n Phase.Rising ask answers reported q = ReadiedFor n ask answers reported q
ReadiedIn n Phase.Checking ask answers reported q = Unit
ReadiedIn n Phase.Full ask answers reported q = Unit
ReadiedIn n Phase.Recovering ask answers reported q = Unit
ReadiedIn n Phase.Silent ask answers reported q = Unit
ReadiedIn n Phase.Falling ask answers reported q = Unit
ReadiedIn n Phase.Resetting ask answers reported q = Unit

abbrev Readied : Network → Step → List LastAnswer → Bool → OwnHistory → Type 0
Readied n step answers reported q = ReadiedIn n (phase_of step) (asks_for step) answers reported q

-- ---- what is done
module _ (n : Network) (s : State) where
  -- step 1 is done only where a report was taken in it
  done_reported : s.step ≡ TransceiverNormal → finished n s ≡ true → s.reported ≡ true
  done_reported f e = done_answered n s TransceiverNormal f e

  -- step 2 only where the last answer of each controller is ok
  done_stopped : s.step ≡ ControllersStopped → finished n s ≡ true → every is_okay (heard_of n s) ≡ true
  done_stopped f e = done_answered n s ControllersStopped f e

module _ (n : Network) where
  -- ---- what is said of one suffix is said of a longer one
  record Onward (answers answers' : List LastAnswer) (reported reported' : Bool) (ask : Ask) (q q' : OwnHistory) : Type 0 where
    normal : any reported_normal q ≡ true → any reported_normal q' ≡ true
    reports : reported' ≡ true → ask ≡ Ask.Transceiver TransceiverMode.Normal → (reported ≡ true → any reported_normal q ≡ true)
        → any reported_normal q' ≡ true
    stopped : ask ≡ Ask.Controllers ControllerMode.Stopped → (c : ℕ) → member c (controllers_of n) ≡ true
        → (said_okay n answers c ≡ true → said_ok c 0 q ≡ true) → said_okay n answers' c ≡ true → said_ok c 0 q' ≡ true

  onward : (answers answers' : List LastAnswer) (reported reported' : Bool) (q q' : OwnHistory) (phase : Phase) (ask : Ask)
      → Onward answers answers' reported reported' ask q q' → ReadiedIn n phase ask answers reported q → ReadiedIn n phase ask answers' reported' q'
  onward answers answers' reported reported' q q' Phase.Off ask o i = tt
  onward answers answers' reported reported' q q' Phase.Rising Ask.Nothing o i = tt
  onward answers answers' reported reported' q q' Phase.Rising (Ask.Controllers ControllerMode.Stopped) o i =
      record { normal = λ t p. o.normal (i.normal t p); stopped = λ c m. o.stopped refl c m (i.stopped c m) }
  onward answers answers' reported reported' q q' Phase.Rising (Ask.Controllers ControllerMode.Started) o i = tt
  onward answers answers' reported reported' q q' Phase.Rising (Ask.Controllers ControllerMode.Sleep) o i = tt
  onward answers answers' reported reported' q q' Phase.Rising (Ask.Transceiver TransceiverMode.Normal) o i = λ e. o.reports e refl i
  onward answers answers' reported reported' q q' Phase.Rising (Ask.Transceiver TransceiverMode.Standby) o i = tt
  onward answers answers' reported reported' q q' Phase.Rising Ask.ClearWake o i = tt
  onward answers answers' reported reported' q q' Phase.Rising Ask.CheckWake o i = tt
  onward answers answers' reported reported' q q' Phase.Checking ask o i = tt
  onward answers answers' reported reported' q q' Phase.Full ask o i = tt
  onward answers answers' reported reported' q q' Phase.Recovering ask o i = tt
  onward answers answers' reported reported' q q' Phase.Silent ask o i = tt
  onward answers answers' reported reported' q q' Phase.Falling ask o i = tt
  onward answers answers' reported reported' q q' Phase.Resetting ask o i = tt

  -- an entry that is no accepted answer of the network's controllers on stopped leaves who said so
  pub said_on : (e : Seen) (q : OwnHistory) (c : ℕ) → is_answer_on c 0 1 e.sight && accepted e ≡ false
      → is_answer_on c 0 0 e.sight && accepted e ≡ false → said_ok c 0 (e ∷ q) ≡ said_ok c 0 q
  unfolding said_ok
  said_on e q c a b = rw (a, b) refl

  -- such an entry, after which answers and report are the same
  unheard : (answers : List LastAnswer) (reported : Bool) (q : OwnHistory) (step : Step) (e : Seen)
      → ((c value : ℕ) → member c (controllers_of n) ≡ true → is_answer_on c 0 value e.sight && accepted e ≡ false)
      → Readied n step answers reported q → Readied n step answers reported (e ∷ q)
  unfolding any
  unheard answers reported q step e f = onward answers answers reported reported q (e ∷ q) (phase_of step) (asks_for step) (record {
    normal = λ a. or_second (reported_normal e) _ a;
    reports = λ r _ i. or_second (reported_normal e) _ (i r);
    stopped = λ _ c m i o. said_on e q c (f c 1 m) (f c 0 m) ∙ i o;
  })

  -- a step that asks to start claims nothing
  starting_readied : (answers : List LastAnswer) (reported : Bool) (q : OwnHistory) (phase : Phase) (ask : Ask) → asks_to_start ask ≡ true
      → ReadiedIn n phase ask answers reported q
  starting_readied answers reported q Phase.Off ask a = tt
  starting_readied answers reported q Phase.Rising Ask.Nothing a = tt
  starting_readied answers reported q Phase.Rising (Ask.Controllers ControllerMode.Stopped) a = absurd (false≢true a)
  starting_readied answers reported q Phase.Rising (Ask.Controllers ControllerMode.Started) a = tt
  starting_readied answers reported q Phase.Rising (Ask.Controllers ControllerMode.Sleep) a = tt
  starting_readied answers reported q Phase.Rising (Ask.Transceiver mode) a = absurd (false≢true a)
  starting_readied answers reported q Phase.Rising Ask.ClearWake a = tt
  starting_readied answers reported q Phase.Rising Ask.CheckWake a = tt
  starting_readied answers reported q Phase.Checking ask a = tt
  starting_readied answers reported q Phase.Full ask a = tt
  starting_readied answers reported q Phase.Recovering ask a = tt
  starting_readied answers reported q Phase.Silent ask a = tt
  starting_readied answers reported q Phase.Falling ask a = tt
  starting_readied answers reported q Phase.Resetting ask a = tt

  -- the first down step claims nothing
  down_readied : (answers : List LastAnswer) (reported : Bool) (q : OwnHistory) (partial : Bool) → Readied n (first_down partial) answers reported q
  down_readied answers reported q partial = rw (first_down_lem partial).falls tt

  -- ---- ticks
  -- without a transceiver none is present
  bare_absent : {A : Type 0} (t : ℕ) → own_outfit n ≡ Bare → n.transceiver ≡ Some t → A
  bare_absent {A} t b p = by_fit_lem n.partial (sym (ap (λ (x : Option ℕ). outfit_of x n.partial) p) ∙ b)
    where
      by_fit_lem : (partial : Bool) → outfit_of (Some t) partial ≡ Bare → A
      by_fit_lem true e = absurd cc
      by_fit_lem false e = absurd cc

  module _ (answers : List LastAnswer) (reported : Bool) (q : OwnHistory) (records : List Record) (done reached : Bool) where
    -- what a move makes of it, a tick being no answer and no report
    abbrev Moves : Step → Mode → Move → Type 0
    Moves step wanted m =
        (step ≡ TransceiverNormal → done ≡ true → reported ≡ true) → Readied n step answers reported q
        → Readied n (step_after m step n.partial) (cond (keeps_answers m) answers blank_answers) (cond (keeps_answers m) reported false)
        (cond (is_end m) [] (seen a_tick 0 records ∷ q))

    moves : ByArrow done reached (own_outfit n) Moves
    unfolding any said_ok
    moves = record {
      rests = λ wanted w f i. tt;
      called = λ u f i e. absurd (false≢true e);
      called_bare = λ u f i. record {
        normal = λ t p. bare_absent t u p;
        stopped = λ c m o. absurd (false≢true (sym (no_answer_yet n c) ∙ o));
      };
      climbs = λ d f i. record { normal = λ t p. i (f refl d); stopped = λ c m o. absurd (false≢true (sym (no_answer_yet n c) ∙ o)) };
      begins = λ d f i. tt;
      starts = λ d f i. tt;
      asks_again = λ step wanted a g f i. unheard answers reported q step (seen a_tick 0 records) (λ c value m. refl) i;
      checks = λ t r f i. tt;
      passes = λ t r f i. tt;
      stays_full = λ f i. tt;
      stays_silent = λ f i. tt;
      waits = λ wanted w d f i. tt;
      waits_on = λ t wanted w r f i. tt;
      resumes = λ wanted w d f i. tt;
      fills = λ step p e f i. tt;
      silences = λ step p f i. tt;
      goes_down_lem = λ step o f i. down_readied _ _ _ n.partial;
      sinks = λ step next wanted d e _ f i. rw e.falls tt;
      ends = λ step wanted d f i. tt;
    }

  -- ---- an answer that is taken
  module _ (g : InRange n) (s : State) (kept : Kept n s) (c mode ok : ℕ) (l : ltb 1 ok ≡ false) where
    -- the controller that answers with ok said so, the others as before
    own_said : (value : ℕ) → ltb 1 value ≡ false → member c (controllers_of n) ≡ true → eqb 0 mode ≡ true → (q : OwnHistory)
        → said_okay n (heard_state n s c value).answers c ≡ true → said_ok c 0 (seen (an_answer c mode value) 0 [] ∷ q) ≡ true
    unfolding said_ok
    own_said zero v m z q o = absurd (false≢true (sym (okay_own n s g kept c LastAnswer.Refused m) ∙ o))
    own_said (suc zero) v m z q o = rw (eqb_same c, z) refl
    own_said (suc (suc value)) v m z q o = absurd (omega (arith, ltb-false 1 (suc (suc value)) v))

    pub heard_stopped : (q : OwnHistory) → member c (controllers_of n) ≡ true → eqb 0 mode ≡ true → (d : ℕ) → member d (controllers_of n) ≡ true
        → (said_okay n s.answers d ≡ true → said_ok d 0 q ≡ true) → said_okay n (heard_state n s c ok).answers d ≡ true
        → said_ok d 0 (seen (an_answer c mode ok) 0 [] ∷ q) ≡ true
    heard_stopped q m z d p before o = by_test (eqb d c) refl
      where
        by_test : (b : Bool) → eqb d c ≡ b → said_ok d 0 (seen (an_answer c mode ok) 0 [] ∷ q) ≡ true
        by_test true e =
            subst (λ (x : ℕ). said_okay n (heard_state n s c ok).answers x ≡ true → said_ok x 0 (seen (an_answer c mode ok) 0 [] ∷ q) ≡ true)
            (sym (eqb-true d c e)) (own_said ok l m z q) o
        by_test false e =
            said_on (seen (an_answer c mode ok) 0 []) q d (rw e refl) (rw e refl)
            ∙ before (sym (okay_other n s.answers d c (answer_of (eqb ok 1)) e p m) ∙ o)

  -- ---- all that is seen
  module _ (g : InRange n) (h : OwnHistory) (s : State) (kept : Kept n s) (u : suits (own_outfit n) s.step ≡ true)
      (i : Readied n s.step s.answers s.reported (since_rest n h)) where
    abbrev Still : Seen → State → Type 0
    Still e t = Readied n t.step t.answers t.reported (since_rest n (e ∷ h))

    -- what is taken is what the step asks for
    taken_awaits : (report : Report) → takes_report s report ≡ true → awaits (asks_for s.step) report ≡ true
    unfolding takes_report
    taken_awaits report t = once_asked s.asked _ t

    -- an answer that is taken
    module _ (c mode ok : ℕ) (l : ltb 1 ok ≡ false) (t : takes_report s (Report.Controller mode) ≡ true) where
      abbrev answering : Seen
      answering = seen (an_answer c mode ok) 0 []

      heard_readied : member c (controllers_of n) ≡ true → Still answering (heard_state n s c ok)
      unfolding since any
      heard_readied m =
          onward s.answers (heard_state n s c ok).answers s.reported s.reported (since_rest n h) (answering ∷ since_rest n h)
          (phase_of s.step) (asks_for s.step) (record {
            normal = λ a. a;
            reports = λ r _ before. before r;
            stopped = λ a d p before o. heard_stopped g s kept c mode ok l (since_rest n h) m
                (ap (λ (ask : Ask). awaits ask (Report.Controller mode)) (sym a) ∙ taken_awaits (Report.Controller mode) t) d p before o;
          }) i

    -- a report that is taken: in step 1 it is that the transceiver is normal
    normal_report : (ask : Ask) (report : Report) → ask ≡ Ask.Transceiver TransceiverMode.Normal → awaits ask report ≡ true → is_normal report ≡ true
    normal_report ask report a e = by_report_kind report (ap (λ (x : Ask). awaits x report) (sym a) ∙ e)
      where
        by_report_kind : (report : Report) → awaits (Ask.Transceiver TransceiverMode.Normal) report ≡ true → is_normal report ≡ true
        by_report_kind (Report.Controller mode) e = absurd (false≢true e)
        by_report_kind (Report.Transceiver mode) e = e
        by_report_kind Report.Cleared e = absurd (false≢true e)
        by_report_kind Report.Checked e = absurd (false≢true e)

    -- as it is seen
    normal_sight : (sight : Sight) → asks_for s.step ≡ Ask.Transceiver TransceiverMode.Normal → takes_sight s sight ≡ true → says_normal sight ≡ true
    normal_sight a_tick a e = e
    normal_sight a_bus_off a e = e
    normal_sight a_stall a e = e
    normal_sight (an_answer controller mode ok) a e = e
    normal_sight (a_request mode) a e = e
    normal_sight (a_report report) a e = normal_report (asks_for s.step) report a (taken_awaits report e)
    normal_sight nothing a e = e

    -- a report has come before, or with this entry
    normal_now : (sight : Sight) (number : ℕ) (q : OwnHistory) → s.reported || (takes_sight s sight && eqb 0 number) ≡ true
        → asks_for s.step ≡ Ask.Transceiver TransceiverMode.Normal → (s.reported ≡ true → any reported_normal q ≡ true)
        → any reported_normal (seen sight number [] ∷ q) ≡ true
    unfolding any
    normal_now sight number q e a before = by_test s.reported e before
      where
        by_test : (b : Bool) → b || (takes_sight s sight && eqb 0 number) ≡ true → (b ≡ true → any reported_normal q ≡ true)
            → (says_normal sight && eqb 0 number) || any reported_normal q ≡ true
        by_test true e before = or_second (says_normal sight && eqb 0 number) _ (before refl)
        by_test false e before =
            let x = and_both (takes_sight s sight) (eqb 0 number) e in
            rw (normal_sight sight a x.0, x.1) refl

    -- what hands out nothing and is no answer to the network
    plain_readied : (sight : Sight) (number : ℕ) (mode : Mode) (reported : Bool) → Plain n s sight (eqb 0 number) mode reported
        → Still (seen sight number []) (plain_state s mode reported)
    unfolding since any
    plain_readied sight number mode reported p =
        let e : Seen = seen sight number [] in
        onward s.answers s.answers s.reported reported (since_rest n h) (e ∷ since_rest n h)
        (phase_of s.step) (asks_for s.step) (record {
          normal = λ a. or_second (reported_normal e) _ a;
          reports = λ r a before. normal_now sight number (since_rest n h) (sym p.reports ∙ r) a before;
          stopped = λ _ c m before o. said_on e (since_rest n h) c (p.answer c 0 1 m) (p.answer c 0 0 m) ∙ before o;
        }) i

    ticks_readied : Still (seen a_tick 0 (tick_hands n s)) (tick_after n s)
    unfolding after_move since
    ticks_readied =
        rw (move_says_no n s.step s.told (decides n s))
        (by_tick_arrow n s (Moves s.answers s.reported (since_rest n h) (tick_hands n s) (finished n s) (reaches n s))
        (moves s.answers s.reported (since_rest n h) (tick_hands n s) (finished n s) (reaches n s)) u kept (done_reported n s) i)

    readied_call : (e : Seen) → Fits n s e → Still e (played n s e.sight).state
    unfolding since any after_hit made_anew
    readied_call = by_part n s Still (record {
      plain = plain_readied;
      hears = λ c mode ok m l t. heard_readied c mode ok l t m;
      recovers = λ _. tt;
      restarts = λ _ a. starting_readied _ _ _ (phase_of s.step) (asks_for s.step) a;
      not_taken = λ _ _. unheard s.answers s.reported (since_rest n h) s.step (seen a_bus_off 0x22 []) (λ c value m. refl) i;
      resets = λ _. tt;
      ticks = ticks_readied;
    })

  -- from the start on
  readied : InRange n → (h : OwnHistory) → Ran n h → let s = state_of n h in Readied n s.step s.answers s.reported (since_rest n h)
  unfolding state_of Ran started since
  readied g [] r = down_readied _ _ _ n.partial
  readied g (e ∷ h) r = readied_call g h (state_of n h) (state_kept n g h r.1) (stands n g h r.1).suited (readied g h r.1) e r.0

  -- where step 2 is done, the network is prepared: each controller said that it is stopped, and the transceiver is normal
  pub done_prepared : InRange n → (h : OwnHistory) → Ran n h → (state_of n h).step ≡ ControllersStopped → finished n (state_of n h) ≡ true → Prepared n h
  done_prepared g h r f e =
      let s = state_of n h in
      let i : Stopping n s.answers (since_rest n h) =
      subst (λ (step : Step). Readied n step s.answers s.reported (since_rest n h)) f (readied g h r) in
      let okay = done_stopped n s f e in
      record {
        stopped = λ c m.
            let used = slot_in_use n s c g (state_kept n g h r) m in
            i.stopped c m (every_at is_okay s.answers (seat_of n c) n.count LastAnswer.Pending okay used.0 used.1);
        normal = i.normal;
      }
