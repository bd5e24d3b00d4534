-- Requests that are granted: where the last call that answers each request of the last tick says ok, the step is done, and none of its controllers
-- has refused. The part q of the history follows h, and has a tick.
use Rattle.lists.proofs.Basics.{ℕ, zero, suc, ◌<◌, arith, eqb-true, ltb-false, ◌≡◌, refl, sym, ap, subst, ◌∙◌, List, [], ◌∷◌, ◌++◌, Bool, true, false}
use Rattle.lists.proofs.Basics.{cond, not, ◌&&◌, ◌||◌, or-true, false≢true, true≢false, eqb, ltb}
use Rattle.lists.specs.Lists.{any, every}
use Rattle.lists.proofs.Any.{and_both, every_cons}
use Rattle.records.specs.declared.Record.{Record}
use Rattle.records.specs.declared.ControllerMode.{ControllerMode}
use Rattle.records.specs.declared.TransceiverMode.{TransceiverMode}
use Rattle.records.specs.declared.Mode.{Mode}
use Rattle.records.specs.Records.{handed, controller_number, transceiver_number}
use Rattle.std.specs.Prelude.{Option, None, Some}
use Rattle.settings.specs.declared.Network.{Network}
use Rattle.settings.specs.Settings.{controllers_of, member}
use Rattle.settings.specs.Good.{Distinct, InRange}
use Rattle.steps.specs.declared.Step.{Step}
use Rattle.steps.specs.declared.Step.TheVariants.{ControllersSleep}
use Rattle.steps.specs.declared.Ask.{Ask}
use Rattle.steps.specs.declared.Outfit.{Outfit}
use Rattle.steps.specs.declared.Move.{Move}
use Rattle.steps.specs.Steps.{asks_for, is_ask, is_asking}
use Rattle.steps.specs.After.{step_after}
use Rattle.network.specs.declared.LastAnswer.{LastAnswer}
use Rattle.network.specs.declared.Report.{Report}
use Rattle.network.specs.declared.State.{State}
use Rattle.network.specs.State.{heard_of}
use Rattle.network.specs.Rules.{is_okay, is_refusal, outfit_of}
use Rattle.network.specs.Moving.{asks_after, after_move}
use Rattle.network.specs.Answers.{awaits, takes_report, answer_of}
use Rattle.network.specs.Parts.{Sight, a_tick, a_bus_off, a_stall, an_answer, a_request, a_report, nothing, out_of_range_part, taken_part, report_part}
use Rattle.network_theorems.specs.Kept.{Kept}
use Rattle.network_demands.specs.Words.{is, Seen, OwnHistory, never, tally, is_answer_on, ticked, struck, accepted, awaited}
use Rattle.network_demands.specs.Own.{finished, tick_after, tick_hands, played, state_of, Fits, Ran}
use Rattle.network_demands.specs.Words.{is_request, reports_on, report_seen, granted, last_handed, all_granted}
use Rattle.network_demands.proofs.Views.{seen, heard_state, plain_state, Plain, takes_sight, by_part}
use Rattle.network_demands.proofs.Tests.{is_errand, once_asked, finished_just, finished_reported}
use Rattle.network_demands.proofs.Handed.{eqb_same}
use Rattle.network_demands.proofs.Given.{Requested, controller_requested, transceiver_requested, clear_requested, check_requested}
use Rattle.network_demands.proofs.Slots.{each_member, said_okay, okay_own, okay_other, all_okay}
use Rattle.network_demands.proofs.Follows.{state_kept}
use Rattle.network_demands.proofs.Second.{never_first, never_rest}
use Rattle.network_demands.proofs.Arrows.{suits_ask, suits, own_outfit, by_tick_arrow}
use Rattle.network_demands.proofs.Standing.{stands, awaited_takes}

-- ---- a request and what answers it
-- one of the kinds 2, 4 and 5, and the one report that grants it
record GrantedBy (kind argument : ℕ) (report : Report) : Type 0 where
  errand : eqb 1 kind ≡ false
  just : (r : Report) → reports_on kind argument r ≡ true → r ≡ report

transceiver_granted : (mode : ℕ) → GrantedBy 2 mode (Report.Transceiver mode)
transceiver_granted mode = record { errand = refl; just = λ r e. by_report r e }
  where
    by_report : (r : Report) → reports_on 2 mode r ≡ true → r ≡ Report.Transceiver mode
    by_report (Report.Controller other) e = absurd (false≢true e)
    by_report (Report.Transceiver other) e = ap Report.Transceiver (sym (eqb-true mode other e))
    by_report Report.Cleared e = absurd (false≢true e)
    by_report Report.Checked e = absurd (false≢true e)

clear_granted : GrantedBy 4 0 Report.Cleared
clear_granted = record { errand = refl; just = λ r e. by_report r e }
  where
    by_report : (r : Report) → reports_on 4 0 r ≡ true → r ≡ Report.Cleared
    by_report (Report.Controller other) e = absurd (false≢true e)
    by_report (Report.Transceiver other) e = absurd (false≢true e)
    by_report Report.Cleared e = refl
    by_report Report.Checked e = absurd (false≢true e)

check_granted : GrantedBy 5 0 Report.Checked
check_granted = record { errand = refl; just = λ r e. by_report r e }
  where
    by_report : (r : Report) → reports_on 5 0 r ≡ true → r ≡ Report.Checked
    by_report (Report.Controller other) e = absurd (false≢true e)
    by_report (Report.Transceiver other) e = absurd (false≢true e)
    by_report Report.Cleared e = absurd (false≢true e)
    by_report Report.Checked e = refl

-- it is the report that is seen
report_seen_lem : (kind argument : ℕ) (report : Report) → GrantedBy kind argument report → (sight : Sight) → report_seen kind argument sight ≡ true
    → sight ≡ a_report report
report_seen_lem kind argument report q a_tick e = absurd (false≢true e)
report_seen_lem kind argument report q a_bus_off e = absurd (false≢true e)
report_seen_lem kind argument report q a_stall e = absurd (false≢true e)
report_seen_lem kind argument report q (an_answer c mode ok) e = absurd (false≢true e)
report_seen_lem kind argument report q (a_request mode) e = absurd (false≢true e)
report_seen_lem kind argument report q (a_report r) e = ap a_report (q.just r e)
report_seen_lem kind argument report q nothing e = absurd (false≢true e)

-- no report grants a request to a controller
no_report : (argument : ℕ) (sight : Sight) → report_seen 1 argument sight ≡ false
no_report argument a_tick = refl
no_report argument a_bus_off = refl
no_report argument a_stall = refl
no_report argument (an_answer c mode ok) = refl
no_report argument (a_request mode) = refl
no_report argument (a_report (Report.Controller mode)) = refl
no_report argument (a_report (Report.Transceiver mode)) = refl
no_report argument (a_report Report.Cleared) = refl
no_report argument (a_report Report.Checked) = refl
no_report argument nothing = refl

-- ---- what is so since the last tick, of the network's record and the part q
record Ready (n : Network) (s : State) (q : OwnHistory) : Type 0 where
  asked : is_asking s.step ≡ true → s.asked ≡ true
  okay : (mode : ControllerMode) → asks_for s.step ≡ Ask.Controllers mode → (c : ℕ) → member c (controllers_of n) ≡ true
      → granted (handed 1 c (controller_number mode)) q ≡ true → said_okay n s.answers c ≡ true
  reported : (kind argument : ℕ) (report : Report) (t : ℕ) → GrantedBy kind argument report → awaits (asks_for s.step) report ≡ true
      → granted (handed kind t argument) q ≡ true → s.reported ≡ true

-- who awaits something asks
awaits_asks : (ask : Ask) (report : Report) → awaits ask report ≡ true → is_ask ask ≡ true
awaits_asks Ask.Nothing report e = e
awaits_asks (Ask.Controllers mode) report e = refl
awaits_asks (Ask.Transceiver mode) report e = refl
awaits_asks Ask.ClearWake report e = refl
awaits_asks Ask.CheckWake report e = refl

-- ---- what is no tick
module _ (n : Network) (g : InRange n) (s : State) (kept : Kept n s) (q : OwnHistory) (i : Ready n s q) where
  -- the step takes what it awaits
  takes : (report : Report) → awaits (asks_for s.step) report ≡ true → takes_report s report ≡ true
  unfolding takes_report
  takes report a = rw (i.asked (awaits_asks (asks_for s.step) report a), a) refl

  awaits_own : (mode : ControllerMode) → asks_for s.step ≡ Ask.Controllers mode
      → awaits (asks_for s.step) (Report.Controller (controller_number mode)) ≡ true
  awaits_own mode a = ap (λ (ask : Ask). awaits ask (Report.Controller (controller_number mode))) a ∙ eqb_same (controller_number mode)

  module _ (sight : Sight) (number : ℕ) (wanted : Mode) (reported : Bool) (p : Plain n s sight (eqb 0 number) wanted reported)
      (taken : (report : Report) → sight ≡ a_report report → takes_report s report ≡ true → eqb 0 number ≡ true) where
    plain_okay : (mode : ControllerMode) → asks_for s.step ≡ Ask.Controllers mode → (c : ℕ) → member c (controllers_of n) ≡ true
        → granted (handed 1 c (controller_number mode)) (seen sight number [] ∷ q) ≡ true → said_okay n s.answers c ≡ true
    unfolding granted
    plain_okay mode a c own f =
        by_answer (is_answer_on c (controller_number mode) 1 sight) (is_answer_on c (controller_number mode) 0 sight) refl
        (rw (p.tick, no_report (controller_number mode) sight) at f)
      where
        by_answer : (said denied : Bool) → is_answer_on c (controller_number mode) 1 sight ≡ said
            → cond (said || false) true (cond denied false (granted (handed 1 c (controller_number mode)) q)) ≡ true → said_okay n s.answers c ≡ true
        by_answer true denied e f =
            absurd (true≢false (sym (takes (Report.Controller (controller_number mode)) (awaits_own mode a)) ∙ p.deaf c mode own e))
        by_answer false true e f = absurd (false≢true f)
        by_answer false false e f = i.okay mode a c own f

    plain_reported : (kind argument : ℕ) (report : Report) (t : ℕ) → GrantedBy kind argument report → awaits (asks_for s.step) report ≡ true
        → granted (handed kind t argument) (seen sight number [] ∷ q) ≡ true → reported ≡ true
    unfolding granted
    plain_reported kind argument report t b a f =
        p.reports ∙ by_report (report_seen kind argument sight) refl (rw (p.tick, b.errand) at f)
      where
        by_report : (said : Bool) → report_seen kind argument sight ≡ said → cond said true (granted (handed kind t argument) q) ≡ true
            → s.reported || (takes_sight s sight && eqb 0 number) ≡ true
        by_report true e f =
            let same = report_seen_lem kind argument report b sight e in
            let does = takes report a in
            rw (same, does, taken report same does) (or-true s.reported)
        by_report false e f = rw (i.reported kind argument report t b a f) refl

    ready_plain : Ready n (plain_state s wanted reported) (seen sight number [] ∷ q)
    ready_plain = record { asked = i.asked; okay = plain_okay; reported = plain_reported }

  module _ (c k ok : ℕ) (own : member c (controllers_of n) ≡ true) (l : ltb 1 ok ≡ false) (t : takes_report s (Report.Controller k) ≡ true) where
    heard_okay : (mode : ControllerMode) → asks_for s.step ≡ Ask.Controllers mode → (d : ℕ) → member d (controllers_of n) ≡ true
        → granted (handed 1 d (controller_number mode)) (seen (an_answer c k ok) 0 [] ∷ q) ≡ true → said_okay n (heard_state n s c ok).answers d ≡ true
    unfolding granted takes_report
    heard_okay mode a d m f = by_own (eqb d c) refl (rw (same) at f)
      where
        same : eqb (controller_number mode) k ≡ true
        same = rw (i.asked (rw a refl), a) at t

        said : (value : ℕ) → ltb 1 value ≡ false
            → cond (eqb 1 value || false) true (cond (eqb 0 value) false (granted (handed 1 d (controller_number mode)) q)) ≡ true
            → is_okay (answer_of (eqb value 1)) ≡ true
        said zero v o = absurd (false≢true o)
        said (suc zero) v o = refl
        said (suc (suc value)) v o = absurd (omega (arith, ltb-false 1 (suc (suc value)) v))

        by_own : (b : Bool) → eqb d c ≡ b → cond ((b && eqb 1 ok) || false) true (cond (b && eqb 0 ok) false
            (granted (handed 1 d (controller_number mode)) q)) ≡ true → said_okay n (heard_state n s c ok).answers d ≡ true
        by_own true e z =
            subst (λ (x : ℕ). said_okay n (heard_state n s c ok).answers x ≡ true) (sym (eqb-true d c e))
            (okay_own n s g kept c (answer_of (eqb ok 1)) own ∙ said ok l z)
        by_own false e z = okay_other n s.answers d c (answer_of (eqb ok 1)) e m own ∙ i.okay mode a d m z

    heard_reported : (kind argument : ℕ) (report : Report) (t : ℕ) → GrantedBy kind argument report → awaits (asks_for s.step) report ≡ true
        → granted (handed kind t argument) (seen (an_answer c k ok) 0 [] ∷ q) ≡ true → s.reported ≡ true
    unfolding granted
    heard_reported kind argument report t b a f = i.reported kind argument report t b a (rw b.errand at f)

    ready_heard : Ready n (heard_state n s c ok) (seen (an_answer c k ok) 0 [] ∷ q)
    ready_heard = record { asked = i.asked; okay = heard_okay; reported = heard_reported }

  -- a bus-off that is refused
  ready_struck_not : Ready n s (seen a_bus_off 0x22 [] ∷ q)
  unfolding granted
  ready_struck_not = record {
    asked = i.asked;
    okay = λ mode a c own f. i.okay mode a c own f;
    reported = λ kind argument report t b a f. i.reported kind argument report t b a (rw b.errand at f);
  }

-- ---- ticks
-- after a tick, a step that asks has asked
abbrev AsksAfter : Bool → Bool → Step → Mode → Move → Type 0
AsksAfter partial asked step wanted m = is_asking (step_after m step partial) ≡ true → asks_after m asked ≡ true

ready_tick : (n : Network) (s : State) (q : OwnHistory) → suits (own_outfit n) s.step ≡ true → Kept n s
    → Ready n (tick_after n s) (seen a_tick 0 (tick_hands n s) ∷ q)
unfolding granted after_move
ready_tick n s q u k = record {
  asked = by_tick_arrow n s (AsksAfter n.partial s.asked) (record {
    rests = λ wanted w e. absurd (false≢true e);
    called = λ u e. refl;
    called_bare = λ u e. refl;
    climbs = λ d e. refl;
    begins = λ d e. refl;
    starts = λ d e. absurd (false≢true e);
    asks_again = λ step wanted a g e. refl;
    checks = λ t r e. absurd (false≢true e);
    passes = λ t r e. absurd (false≢true e);
    stays_full = λ e. absurd (false≢true e);
    stays_silent = λ e. absurd (false≢true e);
    waits = λ wanted w d e. absurd (false≢true e);
    waits_on = λ t wanted w r e. absurd (false≢true e);
    resumes = λ wanted w d e. refl;
    fills = λ step q f e. absurd (false≢true e);
    silences = λ step q e. absurd (false≢true e);
    goes_down_lem = λ step o e. refl;
    sinks = λ step next wanted d e u f. refl;
    ends = λ step wanted d e. absurd (false≢true e);
  }) u k;
  okay = λ mode a c own f. absurd (false≢true f);
  reported = λ kind argument report t b a f. absurd (false≢true f);
}

-- ---- a report that the network takes is accepted
-- a mode that is asked for is in range
in_range : (ask : Ask) (report : Report) → awaits ask report ≡ true → out_of_range_part report ≡ false
in_range Ask.Nothing report e = absurd (false≢true e)
in_range (Ask.Controllers ControllerMode.Stopped) (Report.Controller mode) e = ap (ltb 2) (sym (eqb-true 0 mode e))
in_range (Ask.Controllers ControllerMode.Started) (Report.Controller mode) e = ap (ltb 2) (sym (eqb-true 1 mode e))
in_range (Ask.Controllers ControllerMode.Sleep) (Report.Controller mode) e = ap (ltb 2) (sym (eqb-true 2 mode e))
in_range (Ask.Controllers asked) (Report.Transceiver mode) e = absurd (false≢true e)
in_range (Ask.Controllers asked) Report.Cleared e = refl
in_range (Ask.Controllers asked) Report.Checked e = refl
in_range (Ask.Transceiver asked) (Report.Controller mode) e = absurd (false≢true e)
in_range (Ask.Transceiver TransceiverMode.Normal) (Report.Transceiver mode) e = ap (ltb 2) (sym (eqb-true 0 mode e))
in_range (Ask.Transceiver TransceiverMode.Standby) (Report.Transceiver mode) e = ap (ltb 2) (sym (eqb-true 1 mode e))
in_range (Ask.Transceiver asked) Report.Cleared e = refl
in_range (Ask.Transceiver asked) Report.Checked e = refl
in_range Ask.ClearWake (Report.Controller mode) e = absurd (false≢true e)
in_range Ask.ClearWake (Report.Transceiver mode) e = absurd (false≢true e)
in_range Ask.ClearWake Report.Cleared e = refl
in_range Ask.ClearWake Report.Checked e = refl
in_range Ask.CheckWake (Report.Controller mode) e = absurd (false≢true e)
in_range Ask.CheckWake (Report.Transceiver mode) e = absurd (false≢true e)
in_range Ask.CheckWake Report.Cleared e = refl
in_range Ask.CheckWake Report.Checked e = refl

report_accepted : (n : Network) (s : State) (e : Seen) → Fits n s e → (report : Report) → e.sight ≡ a_report report → takes_report s report ≡ true
    → accepted e ≡ true
unfolding played report_part taken_part takes_report
report_accepted n s e f report same does =
    let number : e.number ≡ 0 = f.number (rw same refl)
    ∙ rw (same, in_range (asks_for s.step) report (once_asked s.asked _ does), does) refl in
    ap (eqb 0) number

-- ---- all that is seen
module _ (n : Network) (g : InRange n) (h : OwnHistory) where
  -- an entry more, where one before it was a tick or it is one
  ready_more : (e : Seen) (q : OwnHistory) → Ran n (e ∷ (q ++ h)) → struck e ≡ false → (ticked e ≡ false → Ready n (state_of n (q ++ h)) q)
      → Ready n (state_of n (e ∷ (q ++ h))) (e ∷ q)
  unfolding Ran state_of
  ready_more e q r calm i =
      by_part n s (λ e t. struck e ≡ false → (ticked e ≡ false → Ready n s q)
      → ((report : Report) → e.sight ≡ a_report report → takes_report s report ≡ true → accepted e ≡ true) → Ready n t (e ∷ q))
      (record {
        plain = λ sight number mode reported p _ i taken. ready_plain n g s kept q (i p.tick) sight number mode reported p taken;
        hears = λ c mode ok m l t _ i _. ready_heard n g s kept q (i refl) c mode ok m l t;
        recovers = λ u calm _ _. absurd (true≢false calm);
        restarts = λ u a calm _ _. absurd (true≢false calm);
        not_taken = λ u a _ i _. ready_struck_not n g s kept q (i refl);
        resets = λ u calm _ _. absurd (true≢false calm);
        ticks = λ _ _ _. ready_tick n s q (stands n g (q ++ h) r.1).suited kept;
      }) e r.0 calm i (report_accepted n s e r.0)
    where
      s : State
      s = state_of n (q ++ h)

      kept : Kept n s
      kept = state_kept n g (q ++ h) r.1

  ready : (q : OwnHistory) → Ran n (q ++ h) → never struck q → 0 < tally ticked q → Ready n (state_of n (q ++ h)) q
  unfolding Ran tally
  ready [] r calm l = absurd (omega (arith, l))
  ready (e ∷ q) r calm l =
      ready_more e q r (never_first struck e q calm)
      (λ t. ready q r.1 (never_rest struck e q calm) (subst (λ (b : Bool). 0 < cond b (suc (tally ticked q)) (tally ticked q)) t l))

  -- what stands asked for was handed out by the last tick of q
  handed_last : (kind target argument : ℕ) (q : OwnHistory) → never struck q → 0 < tally ticked q
      → awaited kind target argument (q ++ h) ≡ any (is kind target argument) (last_handed q)
  unfolding tally awaited last_handed
  handed_last kind target argument [] calm l = absurd (omega (arith, l))
  handed_last kind target argument (e ∷ q) calm l =
      rw (never_first struck e q calm) (by_test (ticked e) l (handed_last kind target argument q (never_rest struck e q calm)))
    where
      by_test : (b : Bool) → 0 < cond b (suc (tally ticked q)) (tally ticked q)
          → (0 < tally ticked q → awaited kind target argument (q ++ h) ≡ any (is kind target argument) (last_handed q))
          → cond b (any (is kind target argument) e.records) (awaited kind target argument (q ++ h))
          ≡ any (is kind target argument) (cond b e.records (last_handed q))
      by_test true l earlier = refl
      by_test false l earlier = earlier l

-- a test that all records pass is passed by one that is among them
every_request : (p : Record → Bool) (kind target argument : ℕ) (l : List Record) → every p l ≡ true → any (is kind target argument) l ≡ true
    → p (handed kind target argument) ≡ true
unfolding any
every_request p kind target argument [] e f = absurd (false≢true f)
every_request p kind target argument (r ∷ l) e f =
    let both = and_both (p r) (every p l) (sym (every_cons p r l) ∙ e) in
    by_test (is kind target argument r) refl f both.0 (every_request p kind target argument l both.1)
  where
    by_test : (b : Bool) → is kind target argument r ≡ b → b || any (is kind target argument) l ≡ true → p r ≡ true
        → (any (is kind target argument) l ≡ true → p (handed kind target argument) ≡ true) → p (handed kind target argument) ≡ true
    by_test true q f own others =
        let x = and_both (eqb kind r.kind) _ q in
        let y = and_both (eqb argument r.argument) _ x.1 in
        rw (eqb-true kind r.kind x.0, eqb-true argument r.argument y.0, eqb-true target r.target y.1) own
    by_test false q f own others = others f

-- ---- where all is granted, the step is done
-- all ok, none has refused
none_refused : (hs : List LastAnswer) → every is_okay hs ≡ true → any is_refusal hs ≡ false
unfolding any
none_refused [] e = refl
none_refused (x ∷ hs) e =
    let both = and_both (is_okay x) (every is_okay hs) (sym (every_cons is_okay x hs) ∙ e) in
    rw (none_refused hs both.1) (by_answer x both.0)
  where
    by_answer : (answer : LastAnswer) → is_okay answer ≡ true → is_refusal answer || false ≡ false
    by_answer LastAnswer.Pending e = refl
    by_answer LastAnswer.Okay e = refl
    by_answer LastAnswer.Refused e = absurd (false≢true e)

-- who asks the transceiver for something has one
has_transceiver_lem : (n : Network) (ask : Ask) → is_errand ask ≡ true → suits_ask (own_outfit n) ask ≡ true → (Q : Type 0)
    → ((t : ℕ) → n.transceiver ≡ Some t → Q) → Q
has_transceiver_lem n ask f u Q p = by_fit_lem n.transceiver n.partial refl u
  where
    no_ask : (a : Ask) → is_errand a ≡ true → suits_ask Outfit.Bare a ≡ true → Q
    no_ask Ask.Nothing f u = absurd (false≢true f)
    no_ask (Ask.Controllers mode) f u = absurd (false≢true f)
    no_ask (Ask.Transceiver mode) f u = absurd (false≢true u)
    no_ask Ask.ClearWake f u = absurd (false≢true u)
    no_ask Ask.CheckWake f u = absurd (false≢true u)

    by_fit_lem : (t : Option ℕ) (partial : Bool) → n.transceiver ≡ t → suits_ask (outfit_of t partial) ask ≡ true → Q
    by_fit_lem None partial e u = no_ask ask f u
    by_fit_lem (Some t) partial e u = p t e

module _ (n : Network) (g : InRange n) (f : Distinct (controllers_of n)) (h q : OwnHistory) (r : Ran n (q ++ h)) (calm : never struck q)
    (l : 0 < tally ticked q) (all : all_granted q ≡ true) where
  abbrev s : State
  s = state_of n (q ++ h)

  i : Ready n s q
  i = ready n g h q r calm l

  kept : Kept n s
  kept = state_kept n g (q ++ h) r

  -- what the step asks for suits the outfit
  suited : {ask : Ask} → asks_for s.step ≡ ask → suits_ask (own_outfit n) ask ≡ true
  suited a = ap (suits_ask (own_outfit n)) (sym a) ∙ (stands n g (q ++ h) r).suited

  -- a request that the step stands by was granted
  was_granted : (kind target argument : ℕ) (report : Report) → Requested n kind target argument report
      → is_request (handed kind target argument) ≡ true → awaits (asks_for s.step) report ≡ true → granted (handed kind target argument) q ≡ true
  was_granted kind target argument report asks is_one a =
      let out = sym (handed_last n g h kind target argument q calm l)
      ∙ awaited_takes n kind target argument report asks g (q ++ h) r ∙ takes n g s kept q i report a in
      let passed = every_request (λ (x : Record). not (is_request x) || granted x q) kind target argument (last_handed q) all out in
      rw (is_one) at passed

  -- of each controller the last answer is ok
  all_said : (mode : ControllerMode) → asks_for s.step ≡ Ask.Controllers mode → every is_okay (heard_of n s) ≡ true
  unfolding any
  all_said mode a =
      all_okay n s g f kept ∙ each_member (said_okay n s.answers) (controllers_of n) (λ c own. i.okay mode a c own
      (was_granted 1 c (controller_number mode) (Report.Controller (controller_number mode)) (controller_requested n c (controller_number mode) own) refl
      (awaits_own n g s kept q i mode a)))

  -- what the transceiver is asked for was reported
  was_reported : (ask : Ask) → asks_for s.step ≡ ask → is_errand ask ≡ true → s.reported ≡ true
  unfolding any
  was_reported Ask.Nothing a e = absurd (false≢true e)
  was_reported (Ask.Controllers mode) a e = absurd (false≢true e)
  was_reported (Ask.Transceiver mode) a e =
      let number = transceiver_number mode in
      let awaits-it = ap (λ (ask : Ask). awaits ask (Report.Transceiver number)) a ∙ eqb_same number in
      has_transceiver_lem n (Ask.Transceiver mode) e (suited a) (s.reported ≡ true) (λ t present.
      i.reported 2 number (Report.Transceiver number) t (transceiver_granted number) awaits-it
      (was_granted 2 t number (Report.Transceiver number) (transceiver_requested n t number present) refl awaits-it))
  was_reported Ask.ClearWake a e =
      let awaits-it = ap (λ (ask : Ask). awaits ask Report.Cleared) a in
      has_transceiver_lem n Ask.ClearWake e (suited a) (s.reported ≡ true) (λ t present.
      i.reported 4 0 Report.Cleared t clear_granted awaits-it
      (was_granted 4 t 0 Report.Cleared (clear_requested n t present) refl awaits-it))
  was_reported Ask.CheckWake a e =
      let awaits-it = ap (λ (ask : Ask). awaits ask Report.Checked) a in
      has_transceiver_lem n Ask.CheckWake e (suited a) (s.reported ≡ true) (λ t present.
      i.reported 5 0 Report.Checked t check_granted awaits-it
      (was_granted 5 t 0 Report.Checked (check_requested n t present) refl awaits-it))

  -- so a step that asks is done
  pub granted_done : is_asking s.step ≡ true → finished n s ≡ true
  granted_done a = by_ask (asks_for s.step) refl (i.asked a)
    where
      by_ask : (ask : Ask) → asks_for s.step ≡ ask → s.asked ≡ true → finished n s ≡ true
      by_ask Ask.Nothing e asked = absurd (false≢true (sym (ap is_ask e) ∙ a))
      by_ask (Ask.Controllers mode) e asked = finished_just n s mode e ∙ rw (asked) (all_said mode e)
      by_ask (Ask.Transceiver mode) e asked = finished_reported n s (ap is_errand e) ∙ rw (asked) (was_reported _ e refl)
      by_ask Ask.ClearWake e asked = finished_reported n s (ap is_errand e) ∙ rw (asked) (was_reported _ e refl)
      by_ask Ask.CheckWake e asked = finished_reported n s (ap is_errand e) ∙ rw (asked) (was_reported _ e refl)

  -- and sleep was not refused
  pub granted_sleep : s.step ≡ ControllersSleep → any is_refusal (heard_of n s) ≡ false
  granted_sleep e = none_refused (heard_of n s) (all_said ControllerMode.Sleep (ap asks_for e))
