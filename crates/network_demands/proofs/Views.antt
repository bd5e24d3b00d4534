-- What one network sees, once: whatever holds of each of seven effects holds of every entry of its history.
use Rattle.lists.proofs.Basics.{ℕ, ◌<◌, arith, eqb-true, ne_eqb, ltb-true, ◌≡◌, refl, sym, ap, subst, ◌∙◌, List, [], Bool, true, false, ◌&&◌, cond}
use Rattle.lists.proofs.Basics.{false≢true}
use Rattle.lists.proofs.Basics.{◌||◌, or-false, or-true, and-false, true≢false, eqb, ltb, set}
use Rattle.lists.proofs.Any.{and_both}
use Rattle.lists.proofs.Tests.{split}
use Rattle.std.specs.Prelude.{Option}
use Rattle.lists.specs.Lists.{any, first, padded}
use Rattle.records.specs.declared.ControllerMode.{ControllerMode}
use Rattle.records.specs.declared.Mode.{Mode}
use Rattle.records.specs.declared.Record.{Record}
use Rattle.records.specs.Records.{controller_number, mode_number}
use Rattle.settings.specs.declared.Network.{Network}
use Rattle.settings.specs.Settings.{most_controllers, controllers_of, member}
use Rattle.settings.specs.Good.{InRange}
use Rattle.steps.specs.declared.Step.{Step}
use Rattle.steps.specs.declared.Ask.{Ask}
use Rattle.steps.specs.declared.Move.{Move}
use Rattle.steps.specs.Steps.{asks_for, is_ask, asks_to_start, is_up, is_full_step}
use Rattle.handing.specs.Handing.{recovery, reset}
use Rattle.network.specs.declared.Hit.{Hit}
use Rattle.network.specs.declared.LastAnswer.{LastAnswer}
use Rattle.network.specs.declared.Part.{Part}
use Rattle.network.specs.declared.Refusal.{Refusal}
use Rattle.network.specs.declared.Report.{Report}
use Rattle.network.specs.declared.State.{State}
use Rattle.network.specs.State.{heard_of, wants}
use Rattle.network.specs.Rules.{is_refusal, outfit_of}
use Rattle.network.specs.Answers.{awaits, takes_report, answer_of, with_answers, after_answer, after_report}
use Rattle.network.specs.Moving.{after_move}
use Rattle.network.specs.BusOff.{hit_of, made_anew, after_hit, hit_records}
use Rattle.network.specs.Replies.{refusal_number, reply_number}
use Rattle.network.specs.Parts.{Sight, a_tick, a_bus_off, a_stall, an_answer, a_request, a_report, nothing, hit_reply, request_part, report_part}
use Rattle.network.specs.Parts.{answer_part}
use Rattle.network_theorems.specs.Kept.{is_full_mode, Kept}
use Rattle.network_theorems.proofs.Moves.{ByMove, by_move}
use Rattle.network_theorems.proofs.Kept.{move_kept, want_kept, hit_kept, answer_kept, report_kept}
use Rattle.network_theorems.proofs.Parts.{refusal_refuses, by_hit, by_request, by_report, by_answer}
use Rattle.network_demands.specs.Words.{Seen, is_tick, is_bus_off, is_stall, is_answer_on, wanted_by}
use Rattle.network_demands.specs.Own.{finished, reaches, decides, tick_after, tick_hands, recovered, restarted, stalls, reset_after, hit_after}
use Rattle.network_demands.specs.Own.{played, handed, concerns, Fits}
use Rattle.network_demands.proofs.Tests.{stalls_just}

-- what a test picks from two that are the same
pub either_way : {A : Type 0} (b : Bool) (x : A) → x ≡ cond b x x
either_way true x = refl
either_way false x = refl

-- ---- entries
abbrev pub seen : Sight → ℕ → List Record → Seen
seen sight number records = record { sight = sight; number = number; records = records }

-- the slot of a controller's answers
abbrev pub seat_of : Network → ℕ → ℕ
seat_of n c = first (λ (x : ℕ). eqb x c) (controllers_of n)

-- the record after an answer that is taken: the slot of the controller holds it
abbrev pub heard_state : Network → State → ℕ → ℕ → State
heard_state n s c ok = with_answers s (set s.answers (seat_of n c) (answer_of (eqb ok 1)))

-- ---- the seven effects
-- only the wanted mode and the report can change
abbrev pub plain_state : State → Mode → Bool → State
plain_state s mode reported =
    record { step = s.step; wanted = mode; told = s.told; count = s.count; asked = s.asked; answers = s.answers; reported = reported }

-- a report that the network takes, as it is seen
abbrev pub takes_sight : State → Sight → Bool
takes_sight s a_tick = false
takes_sight s a_bus_off = false
takes_sight s a_stall = false
takes_sight s (an_answer controller mode ok) = false
takes_sight s (a_request mode) = false
takes_sight s (a_report report) = takes_report s report
takes_sight s nothing = false

-- nothing is handed out, and it is no tick, no bus-off, no accepted stall and no accepted answer of a controller of the network
pub record Plain (n : Network) (s : State) (sight : Sight) (accepted : Bool) (mode : Mode) (reported : Bool) : Type 0 where
  pub tick : is_tick sight ≡ false
  pub bus_off : is_bus_off sight ≡ false
  pub stall : is_stall sight && accepted ≡ false
  pub answer : (c mode value : ℕ) → member c (controllers_of n) ≡ true → is_answer_on c mode value sight && accepted ≡ false
  -- the mode is that of an accepted request, and else the one before
  pub wanted : mode_number mode ≡ cond accepted (wanted_by sight (mode_number s.wanted)) (mode_number s.wanted)
  -- it is no ok to a request, where that is awaited
  pub deaf : (c : ℕ) (mode : ControllerMode) → member c (controllers_of n) ≡ true → is_answer_on c (controller_number mode) 1 sight ≡ true
      → takes_report s (Report.Controller (controller_number mode)) ≡ false
  -- a report has come where one had before or this is one that is taken
  pub reports : reported ≡ s.reported || (takes_sight s sight && accepted)
  pub kept : Kept n s → Kept n (plain_state s mode reported)

-- P entry record, for each effect
pub record ByPart (n : Network) (s : State) (P : Seen → State → Type 0) : Type 0 where
  pub plain : (sight : Sight) (number : ℕ) (mode : Mode) (reported : Bool) → Plain n s sight (eqb 0 number) mode reported
      → P (seen sight number []) (plain_state s mode reported)
  pub hears : (c mode ok : ℕ) → member c (controllers_of n) ≡ true → ltb 1 ok ≡ false → takes_report s (Report.Controller mode) ≡ true
      → P (seen (an_answer c mode ok) 0 []) (heard_state n s c ok)
  pub recovers : is_up s.step ≡ true → P (seen a_bus_off 0 (recovery n.handle)) (recovered s)
  pub restarts : is_up s.step ≡ false → asks_to_start (asks_for s.step) ≡ true → P (seen a_bus_off 0 []) (restarted s)
  pub not_taken : is_up s.step ≡ false → asks_to_start (asks_for s.step) ≡ false → P (seen a_bus_off 0x22 []) s
  pub resets : is_full_step s.step ≡ true → P (seen a_stall 0 (reset n.handle)) (reset_after s)
  pub ticks : P (seen a_tick 0 (tick_hands n s)) (tick_after n s)

module _ (n : Network) (s : State) (P : Seen → State → Type 0) (by : ByPart n s P) where
  -- what is seen is no tick, no bus-off, no accepted stall, no answer and no accepted request
  quiet : (sight : Sight) (number : ℕ) (reported : Bool) → is_tick sight ≡ false → is_bus_off sight ≡ false → is_stall sight && eqb 0 number ≡ false
      → ((c mode value : ℕ) → is_answer_on c mode value sight ≡ false)
      → mode_number s.wanted ≡ cond (eqb 0 number) (wanted_by sight (mode_number s.wanted))
      (mode_number s.wanted) → reported ≡ s.reported || (takes_sight s sight && eqb 0 number) →
      (Kept n s → Kept n (plain_state s s.wanted reported)) → P (seen sight number []) (plain_state s s.wanted reported)
  quiet sight number reported t b x a w r k = by.plain sight number s.wanted reported (record {
    tick = t;
    bus_off = b;
    stall = x;
    answer = λ c mode value m. rw (a c mode value) refl;
    wanted = w;
    deaf = λ c mode m e. absurd (false≢true (sym (a c (controller_number mode) 1) ∙ e));
    reports = r;
    kept = k;
  })

  -- an answer of a controller that is not taken, or of a controller of another network
  unheard : (c mode ok number : ℕ) → (member c (controllers_of n) ≡ true → eqb 0 number ≡ false) → (member c (controllers_of n) ≡ true →
      1 ≡ ok → takes_report s (Report.Controller mode) ≡ false) → P (seen (an_answer c mode ok) number []) s
  unheard c mode ok number z f = by.plain (an_answer c mode ok) number s.wanted s.reported (record {
    tick = refl;
    bus_off = refl;
    stall = refl;
    answer = λ c' mode' value m. refused c' mode' value m (is_answer_on c' mode' value (an_answer c mode ok)) refl;
    wanted = either_way (eqb 0 number) (mode_number s.wanted);
    deaf = λ c' mode' m e.
        let p = and_both (eqb c' c) _ e in
        let q = and_both (eqb (controller_number mode') mode) _ p.1 in
        ap (λ (k : ℕ). takes_report s (Report.Controller k)) (eqb-true (controller_number mode') mode q.0)
        ∙ f (own c' m p.0) (eqb-true 1 ok q.1);
    reports = sym (or-false s.reported);
    kept = λ k. k;
  })
    where
      own : (c' : ℕ) → member c' (controllers_of n) ≡ true → eqb c' c ≡ true → member c (controllers_of n) ≡ true
      own c' m e = ap (λ (x : ℕ). member x (controllers_of n)) (sym (eqb-true c' c e)) ∙ m

      refused : (c' mode' value : ℕ) → member c' (controllers_of n) ≡ true → (b : Bool)
          → is_answer_on c' mode' value (an_answer c mode ok) ≡ b → b && eqb 0 number ≡ false
      refused c' mode' value m false e = refl
      refused c' mode' value m true e = z (own c' m (and_both (eqb c' c) _ e).0)

  -- an answer that is taken, of a controller of the network or of another
  heard_by : (c mode ok : ℕ) → ltb 1 ok ≡ false → takes_report s (Report.Controller mode) ≡ true → (own : Bool) → member c (controllers_of n) ≡ own
      → P (seen (an_answer c mode ok) 0 []) (cond own (heard_state n s c ok) s)
  heard_by c mode ok l t true m = by.hears c mode ok m l t
  heard_by c mode ok l t false m = unheard c mode ok 0 (λ e. absurd (true≢false (sym e ∙ m))) (λ e _. absurd (true≢false (sym e ∙ m)))

  -- ---- by what is seen
  -- an entry whose answer is the one that is due
  abbrev Due : Sight → ℕ → Part → Type 0
  Due sight number part = number ≡ reply_number part.reply → P (seen sight number []) part.state

  -- a refusal is not accepted
  refuses : (refusal : Refusal) (number : ℕ) → number ≡ refusal_number refusal → eqb 0 number ≡ false
  refuses refusal number e = ap (eqb 0) e ∙ refusal_refuses refusal

  -- no step asks for a mode above 2
  above_not_taken : (mode : ℕ) → 2 < mode → takes_report s (Report.Controller mode) ≡ false
  unfolding takes_report
  above_not_taken mode l = by_ask s.asked (asks_for s.step)
    where
      by_ask : (asked : Bool) (ask : Ask) → cond asked (awaits ask (Report.Controller mode)) false ≡ false
      by_ask false ask = refl
      by_ask true Ask.Nothing = refl
      by_ask true (Ask.Controllers ControllerMode.Stopped) = ne_eqb 0 mode (λ e. omega (arith, e))
      by_ask true (Ask.Controllers ControllerMode.Started) = ne_eqb 1 mode (λ e. omega (arith, e))
      by_ask true (Ask.Controllers ControllerMode.Sleep) = ne_eqb 2 mode (λ e. omega (arith, e))
      by_ask true (Ask.Transceiver asked) = refl
      by_ask true Ask.ClearWake = refl
      by_ask true Ask.CheckWake = refl

  answers : (c mode ok number : ℕ) → Due (an_answer c mode ok) number (answer_part n s c mode ok)
  unfolding after_answer
  answers c mode ok number =
      by_answer s (Due (an_answer c mode ok) number) n c mode ok
      (λ l t e. subst (λ (k : ℕ). P (seen (an_answer c mode ok) k []) (after_answer n s c (eqb ok 1))) (sym e)
      (heard_by c mode ok l t (member c (controllers_of n)) refl))
      (λ o e. unheard c mode ok number (λ _. refuses Refusal.OutOfRange number e) (λ _ f. absurd (omega (arith, ltb-true 1 ok o, f))))
      (λ o e. unheard c mode ok number (λ _. refuses Refusal.OutOfRange number e) (λ _ _. above_not_taken mode (ltb-true 2 mode o)))
      (λ t e. unheard c mode ok number (λ _. refuses Refusal.NotTaken number e) (λ _ _. t))

  requests : (asked number : ℕ) → Due (a_request asked) number (request_part s asked)
  unfolding wants
  requests asked number = by_request s (Due (a_request asked) number) asked
      (λ mode same may e. subst (λ (k : ℕ). P (seen (a_request asked) k []) (wants s mode)) (sym e)
      (by.plain (a_request asked) 0 mode s.reported (record {
        tick = refl;
        bus_off = refl;
        stall = refl;
        answer = λ c mode value m. refl;
        wanted = sym same;
        deaf = λ c mode m f. absurd (false≢true f);
        reports = sym (or-false s.reported);
        kept = want_kept n s mode may;
      })))
      (unchanged Refusal.Asleep) (unchanged Refusal.ComingUp) (unchanged Refusal.GoingDown) (unchanged Refusal.OutOfRange)
    where
      unchanged : (refusal : Refusal) → number ≡ refusal_number refusal → P (seen (a_request asked) number []) s
      unchanged refusal e =
          quiet (a_request asked) number s.reported refl refl refl (λ c mode value. refl)
          (ap (λ (b : Bool). cond b asked (mode_number s.wanted)) (sym (refuses refusal number e))) (sym (or-false s.reported)) (λ k. k)

  reports : (report : Report) (number : ℕ) → Due (a_report report) number (report_part s report)
  unfolding report_part after_report
  reports report number = by_report s (Due (a_report report) number) report _
      (λ t e. quiet (a_report report) number true refl refl refl (λ c mode value. refl) (either_way (eqb 0 number) (mode_number s.wanted))
      (rw (t, e) (sym (or-true s.reported))) (report_kept n s report t))
      (λ _. unchanged Refusal.OutOfRange) (λ _. unchanged Refusal.NotTaken)
    where
      unchanged : (refusal : Refusal) → number ≡ refusal_number refusal → P (seen (a_report report) number []) s
      unchanged refusal e =
          quiet (a_report report) number s.reported refl refl refl (λ c mode value. refl) (either_way (eqb 0 number) (mode_number s.wanted))
          (rw (refuses refusal number e, and-false (takes_report s report)) (sym (or-false s.reported))) (λ k. k)

  bus_offs : (number : ℕ) → number ≡ reply_number (hit_reply (hit_of s.step))
      → P (seen a_bus_off number (hit_records n (hit_of s.step))) (hit_after s (hit_of s.step))
  unfolding hit_records
  bus_offs number = by_hit s (λ hit. number ≡ reply_number (hit_reply hit) → P (seen a_bus_off number (hit_records n hit)) (hit_after s hit))
      (λ u e. subst (λ (k : ℕ). P (seen a_bus_off k (recovery n.handle)) (recovered s)) (sym e) (by.recovers u))
      (λ u a e. subst (λ (k : ℕ). P (seen a_bus_off k []) (restarted s)) (sym e) (by.restarts u a))
      (λ u a e. subst (λ (k : ℕ). P (seen a_bus_off k []) s) (sym e) (by.not_taken u a))

  stalling : (number : ℕ) → number ≡ reply_number (hit_reply (stalls s.step))
      → P (seen a_stall number (hit_records n (stalls s.step))) (hit_after s (stalls s.step))
  unfolding hit_records
  stalling number =
      let Q : Option Hit → Type 0 = λ hit. number ≡ reply_number (hit_reply hit) → P (seen a_stall number (hit_records n hit)) (hit_after s hit) in
      subst Q (sym (stalls_just s.step)) (split Q (is_full_step s.step)
      (λ f e. subst (λ (k : ℕ). P (seen a_stall k (reset n.handle)) (reset_after s)) (sym e) (by.resets f))
      (λ f e. quiet a_stall number s.reported refl refl (refuses Refusal.NotTaken number e) (λ c mode value. refl)
      (either_way (eqb 0 number) (mode_number s.wanted)) (sym (or-false s.reported)) (λ k. k)))

  by_sight : (sight : Sight) (number : ℕ) → (concerns sight ≡ true → number ≡ reply_number (played n s sight).reply)
      → P (seen sight number (handed n s sight)) (played n s sight).state
  unfolding played handed
  by_sight a_tick number f = subst (λ (k : ℕ). P (seen a_tick k (tick_hands n s)) (tick_after n s)) (sym (f refl)) by.ticks
  by_sight a_bus_off number f = bus_offs number (f refl)
  by_sight a_stall number f = stalling number (f refl)
  by_sight (an_answer c mode ok) number f = answers c mode ok number (f refl)
  by_sight (a_request mode) number f = requests mode number (f refl)
  by_sight (a_report report) number f = reports report number (f refl)
  by_sight nothing number f =
      quiet nothing number s.reported refl refl refl (λ c mode value. refl) (either_way (eqb 0 number) (mode_number s.wanted))
      (sym (or-false s.reported)) (λ k. k)

  -- whatever holds of each effect holds of every entry that fits
  pub by_part : (e : Seen) → Fits n s e → P e (played n s e.sight).state
  by_part e f =
      subst (λ (x : Seen). P x (played n s e.sight).state)
      (λ i. record { sight = e.sight; number = e.number; records = sym f.records i }) (by_sight e.sight e.number f.number)

-- whatever holds of each kind of move holds of the one that a tick decides
pub by_tick : (n : Network) (s : State) (P : Step → Mode → Move → Type 0) → ByMove (finished n s) P → P s.step s.wanted (decides n s)
by_tick n s P by =
    by_move P (finished n s) by s.step s.wanted (any is_refusal (heard_of n s)) (reaches n s) (outfit_of n.transceiver n.partial)

-- ---- what is kept of a record
-- each part is given by itself, so that a box whose record differs elsewhere is not refused here
tick_after_kept : (n : Network) (s : State) → Kept n s → Kept n (tick_after n s)
unfolding after_move
tick_after_kept n s k =
    let after = move_kept n s (finished n s) (any is_refusal (heard_of n s)) (reaches n s) (outfit_of n.transceiver n.partial) k in
    record {
      told = after.told;
      wanted = after.wanted;
      asked = after.asked;
      answers = after.answers;
      reported = after.reported;
      slots = after.slots;
    }

-- a record in an up step that asks, with nothing asked or kept as answered: after a bus-off while up, and after a stall
struck_kept : (n : Network) (t : State) → is_full_mode t.told ≡ is_full_step t.step → is_up t.step ≡ true → is_ask (asks_for t.step) ≡ true
    → t.asked ≡ false → t.reported ≡ false → t.answers ≡ padded most_controllers LastAnswer.Pending (heard_of n t) → Kept n t
struck_kept n t told up asks asked reported slots = record {
  told = told;
  wanted = λ f. up;
  asked = λ f. asked;
  answers = λ f. absurd (true≢false (sym asks ∙ f));
  reported = λ f. reported;
  slots = slots;
}

recovered_kept : (n : Network) (s : State) → Kept n s → Kept n (recovered s)
unfolding after_hit made_anew
recovered_kept n s k =
    let blank = (hit_kept n s Hit.Recover k).slots in
    let kept = k.slots in
    struck_kept n (recovered s) refl refl refl refl refl (search (blank, kept))

reset_kept : (n : Network) (s : State) → Kept n s → Kept n (reset_after s)
unfolding after_hit made_anew
reset_kept n s k =
    let blank = (hit_kept n s Hit.Reset k).slots in
    let kept = k.slots in
    struck_kept n (reset_after s) refl refl refl refl refl (search (blank, kept))

-- a step that asks to start asks for something
pub starts_asks : (ask : Ask) → asks_to_start ask ≡ true → is_ask ask ≡ true
starts_asks Ask.Nothing e = e
starts_asks (Ask.Controllers mode) e = refl
starts_asks (Ask.Transceiver mode) e = refl
starts_asks Ask.ClearWake e = refl
starts_asks Ask.CheckWake e = refl

restarted_kept : (n : Network) (s : State) → asks_to_start (asks_for s.step) ≡ true → Kept n s → Kept n (restarted s)
unfolding after_hit made_anew
restarted_kept n s a k =
    let blank = (hit_kept n s Hit.Restart k).slots in
    let kept = k.slots in
    record {
      told = k.told;
      wanted = k.wanted;
      asked = λ f. refl;
      answers = λ f. absurd (true≢false (sym (starts_asks (asks_for s.step) a) ∙ f));
      reported = λ f. refl;
      slots = search (blank, kept);
    }

pub part_kept : (n : Network) (s : State) → InRange n → Kept n s → (e : Seen) → Fits n s e → Kept n (played n s e.sight).state
unfolding after_answer
part_kept n s g k = by_part n s (λ e t. Kept n t) (record {
  plain = λ sight number mode reported p. p.kept k;
  hears = λ c mode ok m l e. rw m at (answer_kept n s c mode (eqb ok 1) g e k);
  recovers = λ u. recovered_kept n s k;
  restarts = λ u a. restarted_kept n s a k;
  not_taken = λ u a. k;
  resets = λ f. reset_kept n s k;
  ticks = tick_after_kept n s k;
})
