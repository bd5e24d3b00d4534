-- What a tick decides and hands out, by the groups of steps: the facts on ticks that need no history.
use Rattle.lists.proofs.Basics.{ℕ, ◌≡◌, refl, sym, ap, ◌∙◌, Bool, true, false, ◌&&◌, and-false, false≢true, true≢false, eqb}
use Rattle.lists.proofs.Any.{and_both, or_second}
use Rattle.records.specs.declared.Mode.{Mode}
use Rattle.records.specs.Records.{mode_number}
use Rattle.settings.specs.declared.Network.{Network}
use Rattle.settings.specs.Settings.{controllers_of, member}
use Rattle.steps.specs.declared.Step.{Step}
use Rattle.steps.specs.declared.Step.TheVariants.{ControllersStopped, ControllersStarted, ResetStopped}
use Rattle.steps.specs.declared.Move.{Move}
use Rattle.steps.specs.Steps.{phase_of, asks_for, full_phase, is_on, is_up, is_full_step, asks_to_start}
use Rattle.steps.specs.Decision.{is_no, goes_down}
use Rattle.steps.specs.After.{first_down, step_after}
use Rattle.network.specs.declared.Report.{Report}
use Rattle.network.specs.declared.State.{State}
use Rattle.network.specs.Answers.{awaits}
use Rattle.network.specs.Parts.{a_tick}
use Rattle.network_theorems.specs.Kept.{Kept}
use Rattle.network_demands.specs.Words.{Seen, hands}
use Rattle.network_demands.specs.Own.{finished, decides, tick_hands}
use Rattle.network_demands.specs.Promises.{hands_kind, StaysDown}
use Rattle.network_demands.proofs.Views.{seen}
use Rattle.network_demands.proofs.Handed.{given, nothing_lowered, hands_by, is_go_down, is_enter_full, is_enter_silent, is_end, pdu_says, pdu_given, move_says_full}
use Rattle.network_demands.proofs.Arrows.{suits, own_outfit, rested_phase, has_rested, has_begun, on_rested, up_rested, Down, first_down_lem, Asks}
use Rattle.network_demands.proofs.Arrows.{by_tick_arrow}
use Rattle.network_demands.proofs.Given.{awaits_started, controller_says, controller_given, round_says, round_given}

-- ---- modes
no_number : (mode : Mode) → is_no mode ≡ eqb 0 (mode_number mode)
no_number Mode.No = refl
no_number Mode.Silent = refl
no_number Mode.Full = refl

down_number : (step : Step) (mode : Mode) → goes_down step mode ≡ eqb 0 (mode_number mode) && is_on step
down_number step Mode.No = refl
down_number step Mode.Silent = refl
down_number step Mode.Full = refl

-- a step that is on and does not go down
no_unwanted : (step : Step) (mode : Mode) → is_on step ≡ true → goes_down step mode ≡ false → eqb 0 (mode_number mode) ≡ false
no_unwanted step Mode.No o g = absurd (true≢false (sym o ∙ g))
no_unwanted step Mode.Silent o g = refl
no_unwanted step Mode.Full o g = refl

-- ---- steps
pub first_down_not_full : (partial : Bool) → is_full_step (first_down partial) ≡ false
first_down_not_full partial = ap full_phase (first_down_lem partial).falls

first_down_starts_not : (partial : Bool) → awaits (asks_for (first_down partial)) (Report.Controller 1) ≡ false
first_down_starts_not partial = awaits_started (asks_for (first_down partial)) ∙ (first_down_lem partial).starts_not

-- where it asks to start only if it is on, and it is not on, it does not
not_starts : (a b : Bool) → (a ≡ true → b ≡ true) → b ≡ false → a ≡ false
not_starts true b f e = absurd (true≢false (sym (f refl) ∙ e))
not_starts false b f e = refl

-- what a tick decides for a network whose step suits its outfit
module _ (n : Network) (s : State) (u : suits (own_outfit n) s.step ≡ true) (k : Kept n s) where
  abbrev m : Move
  m = decides n s

  abbrev pub ticking : Seen
  ticking = seen a_tick 0 (tick_hands n s)

  -- a full step stays full exactly if full is wanted
  abbrev FullStays : Step → Mode → Move → Type 0
  FullStays step wanted m = is_full_step step ≡ true → is_full_step (step_after m step n.partial) ≡ eqb 2 (mode_number wanted)

  pub full_stays : FullStays s.step s.wanted m
  full_stays = by_tick_arrow n s FullStays (record {
    rests = λ wanted w f. absurd (false≢true f);
    called = λ u f. absurd (false≢true f);
    called_bare = λ u f. absurd (false≢true f);
    climbs = λ d f. absurd (false≢true f);
    begins = λ d f. absurd (false≢true f);
    starts = λ d f. absurd (false≢true f);
    asks_again = λ step wanted a g f. absurd (false≢true (sym a.not_full ∙ f));
    checks = λ t r f. refl;
    passes = λ t r f. refl;
    stays_full = λ f. refl;
    stays_silent = λ f. absurd (false≢true f);
    waits = λ wanted w d f. absurd (false≢true f);
    waits_on = λ t wanted w r f. absurd (false≢true f);
    resumes = λ wanted w d f. absurd (false≢true f);
    fills = λ step q e f. absurd (false≢true (sym e ∙ f));
    silences = λ step q f. refl;
    goes_down_lem = λ step o f. first_down_not_full n.partial;
    sinks = λ step next wanted d e _ f. absurd (false≢true (sym (ap full_phase d.falls) ∙ f));
    ends = λ step wanted d f. absurd (false≢true (sym (ap full_phase d.falls) ∙ f));
  }) u k

  -- what holds where full is entered, where silent is, or where no communication is
  entered : (full silent ended : Bool) (Q : Step → Mode → Type 0) → (full ≡ true → Q ControllersStarted Mode.Full)
      → (full ≡ true → (step : Step) → is_full_step step ≡ false → Q step Mode.Full) → (silent ≡ true → (step : Step) → Q step Mode.Silent)
      → (ended ≡ true → (step : Step) (wanted : Mode) → Down step → Q step wanted)
      → hands_by full silent false false false ended m ≡ true → Q s.step s.wanted
  entered full silent ended Q started filled silenced gone =
      by_tick_arrow n s (λ step wanted m. hands_by full silent false false false ended m ≡ true → Q step wanted) (record {
        rests = λ wanted w f. absurd (false≢true f);
        called = λ u f. absurd (false≢true f);
        called_bare = λ u f. absurd (false≢true f);
        climbs = λ d f. absurd (false≢true f);
        begins = λ d f. absurd (false≢true f);
        starts = λ d f. started f;
        asks_again = λ step wanted a g f. absurd (false≢true f);
        checks = λ t r f. absurd (false≢true f);
        passes = λ t r f. absurd (false≢true f);
        stays_full = λ f. absurd (false≢true f);
        stays_silent = λ f. absurd (false≢true f);
        waits = λ wanted w d f. absurd (false≢true f);
        waits_on = λ t wanted w r f. absurd (false≢true f);
        resumes = λ wanted w d f. absurd (false≢true f);
        fills = λ step q e f. filled f step e;
        silences = λ step q f. silenced f step;
        goes_down_lem = λ step o f. absurd (false≢true f);
        sinks = λ step next wanted d e _ f. absurd (false≢true f);
        ends = λ step wanted d f. gone f step wanted d;
      }) u k

  -- full is entered from a step that is not full, where full is wanted
  pub full_begins : is_enter_full m ≡ true → (is_full_step s.step ≡ false) × (mode_number s.wanted ≡ 2)
  full_begins =
      entered true false false (λ step wanted. (is_full_step step ≡ false) × (mode_number wanted ≡ 2))
      (λ _. (refl, refl)) (λ _ step e. (e, refl)) (λ z. absurd (false≢true z)) (λ z. absurd (false≢true z))

  -- silent is entered where silent is wanted
  pub silence_wanted : is_enter_silent m ≡ true → mode_number s.wanted ≡ 1
  silence_wanted =
      entered false true false (λ step wanted. mode_number wanted ≡ 1)
      (λ z. absurd (false≢true z)) (λ z. absurd (false≢true z)) (λ _ step. refl) (λ z. absurd (false≢true z))

  -- no communication is entered only by a network that goes down
  pub ends : is_end m ≡ true → has_rested s.step ≡ false
  ends =
      entered false false true (λ step wanted. has_rested step ≡ false)
      (λ z. absurd (false≢true z)) (λ z. absurd (false≢true z)) (λ z. absurd (false≢true z)) (λ _ step wanted d. ap rested_phase d.falls)

  -- the network goes down exactly where it is on and no is wanted
  abbrev GoesDown : Step → Mode → Move → Type 0
  GoesDown step wanted m = is_go_down m ≡ eqb 0 (mode_number wanted) && is_on step

  pub goes_down_lem : GoesDown s.step s.wanted m
  goes_down_lem = by_tick_arrow n s GoesDown (record {
    rests = λ wanted w. sym (and-false (eqb 0 (mode_number wanted)));
    called = λ u. refl;
    called_bare = λ u. refl;
    climbs = λ d. refl;
    begins = λ d. refl;
    starts = λ d. refl;
    asks_again = λ step wanted a g. sym (sym (down_number step wanted) ∙ g);
    checks = λ t r. refl;
    passes = λ t r. refl;
    stays_full = refl;
    stays_silent = refl;
    waits = λ wanted w d. rw (sym (no_number wanted) ∙ w) refl;
    waits_on = λ t wanted w r. rw (sym (no_number wanted) ∙ w) refl;
    resumes = λ wanted w d. rw (sym (no_number wanted) ∙ w) refl;
    fills = λ step q e. refl;
    silences = λ step q. refl;
    goes_down_lem = λ step o. sym o;
    sinks = λ step next wanted d e _. rw d.falls (sym (and-false (eqb 0 (mode_number wanted))));
    ends = λ step wanted d. rw d.falls (sym (and-false (eqb 0 (mode_number wanted))));
  }) u k

  -- a request to start goes to an own controller, where the network is on and no is not wanted; where none was asked before, step 2 is done; and
  -- from step 15 it goes out only where that is done
  pub record StartAsked (c : ℕ) (step : Step) (wanted : Mode) : Type 0 where
    pub own : member c (controllers_of n) ≡ true
    pub while_on : is_on step ≡ true
    pub called : eqb 0 (mode_number wanted) ≡ false
    pub first : has_begun step ≡ false → (step ≡ ControllersStopped) × (finished n s ≡ true)
    pub again : step ≡ ResetStopped → finished n s ≡ true

  -- a step that asks again to start is on, and has begun
  begins_again : (c : ℕ) (step : Step) (wanted : Mode) → Asks (own_outfit n) step → goes_down step wanted ≡ false
      → awaits (asks_for step) (Report.Controller 1) && member c (controllers_of n) ≡ true → StartAsked c step wanted
  begins_again c step wanted a g f =
      let both = and_both (awaits (asks_for step) (Report.Controller 1)) _ f in
      let starts = sym (awaits_started (asks_for step)) ∙ both.0 in
      let o = a.starts_on starts in
      record {
        own = both.1;
        while_on = o;
        called = no_unwanted step wanted o g;
        first = λ e. absurd (true≢false (sym (or_second (is_up step) _ starts) ∙ e));
        again = λ e. absurd (true≢false (sym starts ∙ ap (λ (x : Step). asks_to_start (asks_for x)) e));
      }

  abbrev Begins : ℕ → Step → Mode → Move → Type 0
  Begins c step wanted m = given (controller_says n c 1) n.partial step s.told m ≡ true → StartAsked c step wanted

  pub begins : (c : ℕ) → hands 1 c 1 ticking ≡ true → StartAsked c s.step s.wanted
  begins c f = by_tick_arrow n s (Begins c) (record {
    rests = λ wanted w f. absurd (false≢true f);
    called = λ u f. absurd (false≢true f);
    called_bare = λ u f. absurd (false≢true f);
    climbs = λ d f. absurd (false≢true f);
    begins = λ d f. record { own = f; while_on = refl; called = refl; first = λ e. (refl, d); again = λ _. d };
    starts = λ d f. absurd (false≢true f);
    asks_again = λ step wanted a g f. begins_again c step wanted a g f;
    checks = λ t r f. absurd (false≢true f);
    passes = λ t r f. absurd (false≢true f);
    stays_full = λ f. absurd (false≢true f);
    stays_silent = λ f. absurd (false≢true f);
    waits = λ wanted w d f. absurd (false≢true f);
    waits_on = λ t wanted w r f. absurd (false≢true f);
    resumes = λ wanted w d f.
        record { own = f; while_on = refl; called = sym (no_number wanted) ∙ w; first = λ e. absurd (true≢false e); again = λ _. d };
    fills = λ step q e f. absurd (false≢true f);
    silences = λ step q f. absurd (false≢true f);
    goes_down_lem = λ step o f. absurd (false≢true (rw (nothing_lowered s.told, first_down_starts_not n.partial) at f));
    sinks = λ step next wanted d e _ f. absurd (false≢true (rw (awaits_started (asks_for next), e.starts_not) at f));
    ends = λ step wanted d f. absurd (false≢true f);
  }) u k (sym (controller_given n c 1 s.step s.told m) ∙ f)

  -- a network that goes down is asked no start, gets no PDU mode and does not enter full
  abbrev Sinks : Step → Mode → Move → Type 0
  Sinks step wanted m = has_rested step ≡ false → ((c : ℕ) → given (controller_says n c 1) n.partial step s.told m ≡ false)
      × (given (pdu_says n) n.partial step s.told m ≡ false) × (is_enter_full m ≡ false)

  pub sinks : has_rested s.step ≡ false → StaysDown n ticking
  sinks f =
      let x = by_tick_arrow n s Sinks (record {
        rests = λ wanted w f. absurd (true≢false f);
        called = λ u f. absurd (true≢false f);
        called_bare = λ u f. absurd (true≢false f);
        climbs = λ d f. absurd (true≢false f);
        begins = λ d f. absurd (true≢false f);
        starts = λ d f. absurd (true≢false f);
        asks_again = λ step wanted a g f.
            let off = not_starts (asks_to_start (asks_for step)) (is_on step) a.starts_on (sym a.rested ∙ f) in
            (λ c. rw (awaits_started (asks_for step), off) refl, refl, refl);
        checks = λ t r f. absurd (true≢false f);
        passes = λ t r f. absurd (true≢false f);
        stays_full = λ f. absurd (true≢false f);
        stays_silent = λ f. absurd (true≢false f);
        waits = λ wanted w d f. absurd (true≢false f);
        waits_on = λ t wanted w r f. absurd (true≢false f);
        resumes = λ wanted w d f. absurd (true≢false f);
        fills = λ step q e f. absurd (true≢false (sym (up_rested (phase_of step) q) ∙ f));
        silences = λ step q f. absurd (true≢false (sym (up_rested (phase_of step) q) ∙ f));
        goes_down_lem = λ step o f. absurd (true≢false (sym (on_rested (phase_of step) o) ∙ f));
        sinks = λ step next wanted d e _ f. (λ c. rw (awaits_started (asks_for next), e.starts_not) refl, refl, refl);
        ends = λ step wanted d f. (λ c. refl, refl, refl);
      }) u k f in
      record {
        not_started = λ c. controller_given n c 1 s.step s.told m ∙ x.0 c;
        no_traffic = pdu_given n s.step s.told m ∙ x.1;
        not_full = move_says_full n s.step s.told m ∙ x.2;
      }

  -- on the way to a full step, and in it, no controller is asked for anything
  abbrev FullRests : Step → Mode → Move → Type 0
  FullRests step wanted m =
      is_full_step (step_after m step n.partial) ≡ true → given (round_says n) n.partial step s.told m ≡ false

  pub full_rests : is_full_step (step_after m s.step n.partial) ≡ true → hands_kind 1 ticking ≡ false
  full_rests f = round_given n s.step s.told m ∙ by_tick_arrow n s FullRests (record {
    rests = λ wanted w f. refl;
    called = λ u f. absurd (false≢true f);
    called_bare = λ u f. absurd (false≢true f);
    climbs = λ d f. absurd (false≢true f);
    begins = λ d f. absurd (false≢true f);
    starts = λ d f. refl;
    asks_again = λ step wanted a g f. absurd (false≢true (sym a.not_full ∙ f));
    checks = λ t r f. refl;
    passes = λ t r f. refl;
    stays_full = λ f. refl;
    stays_silent = λ f. refl;
    waits = λ wanted w d f. refl;
    waits_on = λ t wanted w r f. refl;
    resumes = λ wanted w d f. absurd (false≢true f);
    fills = λ step q e f. refl;
    silences = λ step q f. refl;
    goes_down_lem = λ step o f. absurd (false≢true (sym (first_down_not_full n.partial) ∙ f));
    sinks = λ step next wanted d e _ f. absurd (false≢true (sym (ap full_phase e.falls) ∙ f));
    ends = λ step wanted d f. refl;
  }) u k f
