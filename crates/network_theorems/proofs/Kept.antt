-- What `Kept` says of a record is given by the start and kept by every call and every tick.
use Rattle.lists.proofs.Basics.{ℕ, zero, suc, ◌<◌, arith, ◌≡◌, refl, sym, ap, ◌∙◌, List, Bool, true, false, cond, false≢true, true≢false, eqb}
use Rattle.lists.proofs.Basics.{length, take, set}
use lib.Seq.{take-nil}
use Rattle.std.specs.Prelude.{Option, None, Some}
use Rattle.lists.specs.Lists.{first, padded}
use Rattle.lists.proofs.Any.{first_below}
use Rattle.lists.proofs.Parts.{padded_count, padded_store}
use Rattle.records.specs.declared.Mode.{Mode}
use Rattle.settings.specs.declared.Network.{Network}
use Rattle.settings.specs.Settings.{controllers_of, member}
use Rattle.settings.specs.Good.{InRange}
use Rattle.settings.proofs.Good.{controllers_counted}
use Rattle.steps.specs.declared.Step.{Step}
use Rattle.steps.specs.declared.Outfit.{Outfit}
use Rattle.steps.specs.declared.Move.{Move}
use Rattle.steps.specs.declared.Ask.{Ask}
use Rattle.steps.specs.Steps.{full_phase, asks_for, is_up, is_full_step, is_ask, is_asking}
use Rattle.steps.specs.Decision.{decision}
use Rattle.steps.specs.After.{first_down, step_after}
use Rattle.network.specs.declared.LastAnswer.{LastAnswer}
use Rattle.network.specs.declared.Hit.{Hit}
use Rattle.network.specs.declared.Report.{Report}
use Rattle.network.specs.declared.State.{State}
use Rattle.network.specs.State.{blank_answers, heard_of, started, wants}
use Rattle.network.specs.Rules.{move_of}
use Rattle.network.specs.Moving.{lowered, told_after, asks_after, keeps_answers, after_move, tick_state}
use Rattle.network.specs.BusOff.{made_anew, after_hit}
use Rattle.network.specs.Answers.{awaits, takes_report, answer_of, with_answers, after_answer, after_report}
use Rattle.network.specs.Parts.{hit_part}
use Rattle.network_theorems.specs.Kept.{is_full_mode, Kept}
use Rattle.network_theorems.proofs.Moves.{ByMove, by_move}

-- ---- blank answers
-- whatever the count, blank answers are their first ones, filled up
blank_slots : (k : ℕ) → blank_answers ≡ padded 4 LastAnswer.Pending (take k blank_answers)
blank_slots zero = refl
blank_slots (suc zero) = refl
blank_slots (suc (suc zero)) = refl
blank_slots (suc (suc (suc zero))) = refl
blank_slots (suc (suc (suc (suc k)))) = rw (take-nil k) refl

-- ---- told: full exactly in steps 4 and 5
abbrev ToldFits : Step → Mode → Move → Type 0
ToldFits step wanted m =
    (told : Mode) (partial : Bool) → is_full_mode told ≡ is_full_step step → is_full_mode (told_after m told) ≡ is_full_step (step_after m step partial)

pub lowered_not_full : (told : Mode) → is_full_mode (lowered told) ≡ false
lowered_not_full Mode.No = refl
lowered_not_full Mode.Silent = refl
lowered_not_full Mode.Full = refl

first_down_not_full : (partial : Bool) → is_full_step (first_down partial) ≡ false
first_down_not_full true = refl
first_down_not_full false = refl

told_fits : (done : Bool) → ByMove done ToldFits
told_fits done = record {
  stays = λ step wanted told partial e. e;
  asks_again = λ step wanted a told partial e. e;
  counts = λ step next wanted q r f told partial e. e ∙ sym f;
  passes = λ step wanted q f told partial e. e ∙ f;
  fills = λ step wanted q told partial e. refl;
  starts = λ step wanted d a told partial e. refl;
  silences = λ step wanted q told partial e. refl;
  waits = λ step wanted d a f told partial e. e ∙ ap full_phase f;
  goes_down_lem = λ step o told partial e. lowered_not_full told ∙ sym (first_down_not_full partial);
  ends = λ step wanted u told partial e. refl;
  enters = λ step next wanted a u f told partial e. e ∙ sym f;
}

-- ---- wanted: silent only in up steps
abbrev WantedFits : Step → Mode → Move → Type 0
WantedFits step wanted m =
    (partial : Bool) → (wanted ≡ Mode.Silent → is_up step ≡ true) → wanted ≡ Mode.Silent → is_up (step_after m step partial) ≡ true

not_silent : {A : Type 0} (f : Mode.No ≡ Mode.Silent) → A
not_silent f = absurd cc

wanted_fits : (done : Bool) → ByMove done WantedFits
wanted_fits done = record {
  stays = λ step wanted partial e f. e f;
  asks_again = λ step wanted a partial e f. e f;
  counts = λ step next wanted q r g partial e f. r.up;
  passes = λ step wanted q g partial e f. refl;
  fills = λ step wanted q partial e f. refl;
  starts = λ step wanted d a partial e f. refl;
  silences = λ step wanted q partial e f. refl;
  waits = λ step wanted d a g partial e f. refl;
  goes_down_lem = λ step o partial e f. not_silent f;
  ends = λ step wanted u partial e f. absurd (false≢true (sym u ∙ e f));
  enters = λ step next wanted a u g partial e f. u ∙ e f;
}

-- ---- asked, answers, report: no and blank in a step that asks nothing
-- a move leaves the step as it is, enters an asking step, or forgets and has not asked
abbrev FormFits : Step → Mode → Move → Type 0
FormFits step wanted m =
    (partial asked reported : Bool) (answers : List LastAnswer)
    → (is_asking step ≡ false → (asked ≡ false) × (answers ≡ blank_answers) × (reported ≡ false))
    → is_asking (step_after m step partial) ≡ false
    → (asks_after m asked ≡ false) × (cond (keeps_answers m) answers blank_answers ≡ blank_answers) × (cond (keeps_answers m) reported false ≡ false)

first_down_asks : (partial : Bool) → is_asking (first_down partial) ≡ true
first_down_asks true = refl
first_down_asks false = refl

form_fits : (done : Bool) → ByMove done FormFits
form_fits done = record {
  stays = λ step wanted partial asked reported answers e f. e f;
  asks_again = λ step wanted a partial asked reported answers e f. absurd (true≢false (sym a ∙ f));
  counts = λ step next wanted q r g partial asked reported answers e f. e q.quiet;
  passes = λ step wanted q g partial asked reported answers e f. (refl, refl, refl);
  fills = λ step wanted q partial asked reported answers e f. (refl, refl, refl);
  starts = λ step wanted d a partial asked reported answers e f. (refl, refl, refl);
  silences = λ step wanted q partial asked reported answers e f. (refl, refl, refl);
  waits = λ step wanted d a g partial asked reported answers e f. (refl, refl, refl);
  goes_down_lem = λ step o partial asked reported answers e f. absurd (true≢false (sym (first_down_asks partial) ∙ f));
  ends = λ step wanted u partial asked reported answers e f. (refl, refl, refl);
  enters = λ step next wanted a u g partial asked reported answers e f. absurd (true≢false (sym a ∙ f));
}

slots_kept : (k : ℕ) (b : Bool) (answers : List LastAnswer) → answers ≡ padded 4 LastAnswer.Pending (take k answers)
    → cond b answers blank_answers ≡ padded 4 LastAnswer.Pending (take k (cond b answers blank_answers))
slots_kept k true answers e = e
slots_kept k false answers e = blank_slots k

-- ---- the start, the tick and each call
pub start_kept : (n : Network) → Kept n (started n)
unfolding started
start_kept n = record {
  told = sym (first_down_not_full n.partial);
  wanted = λ f. not_silent f;
  asked = λ f. refl;
  answers = λ f. refl;
  reported = λ f. refl;
  slots = blank_slots n.count;
}

-- whatever a tick finds done, refused and reached
pub move_kept : (n : Network) (s : State) (done refused reached : Bool) (outfit : Outfit) →
    Kept n s → Kept n (after_move n s (decision s.step s.wanted done refused reached outfit))
unfolding after_move
move_kept n s done refused reached outfit k =
    let m = decision s.step s.wanted done refused reached outfit in
    let form = by_move FormFits done (form_fits done) s.step s.wanted refused reached outfit n.partial
    s.asked s.reported s.answers (λ f. (k.asked f, k.answers f, k.reported f)) in
    record {
      told = by_move ToldFits done (told_fits done) s.step s.wanted refused reached outfit s.told n.partial k.told;
      wanted = by_move WantedFits done (wanted_fits done) s.step s.wanted refused reached outfit n.partial k.wanted;
      asked = λ f. (form f).0;
      answers = λ f. (form f).1;
      reported = λ f. (form f).2;
      slots = slots_kept n.count (keeps_answers m) s.answers k.slots;
    }

pub tick_kept : (n : Network) (s : State) → Kept n s → Kept n (tick_state n s)
unfolding tick_state move_of
tick_kept n s k = move_kept n s _ _ _ _ k

pub want_kept : (n : Network) (s : State) (mode : Mode) → (mode ≡ Mode.Silent → is_up s.step ≡ true) → Kept n s → Kept n (wants s mode)
unfolding wants
want_kept n s mode may k = record {
  told = k.told;
  wanted = may;
  asked = k.asked;
  answers = k.answers;
  reported = k.reported;
  slots = k.slots;
}

pub hit_kept : (n : Network) (s : State) (hit : Hit) → Kept n s → Kept n (after_hit s hit)
unfolding after_hit made_anew
hit_kept n s Hit.Recover k = record {
  told = refl;
  wanted = λ f. refl;
  asked = λ f. refl;
  answers = λ f. refl;
  reported = λ f. refl;
  slots = blank_slots n.count;
}
hit_kept n s Hit.Restart k = record {
  told = k.told;
  wanted = k.wanted;
  asked = λ f. refl;
  answers = λ f. refl;
  reported = λ f. refl;
  slots = blank_slots n.count;
}
hit_kept n s Hit.Reset k = record {
  told = refl;
  wanted = λ f. refl;
  asked = λ f. refl;
  answers = λ f. refl;
  reported = λ f. refl;
  slots = blank_slots n.count;
}

-- and what is not taken leaves the record as it is
pub trouble_kept : (n : Network) (s : State) (hit : Option Hit) → Kept n s → Kept n (hit_part s hit).state
unfolding hit_part
trouble_kept n s (Some hit) k = hit_kept n s hit k
trouble_kept n s None k = k

-- what is taken is taken in an asking step
awaited_asks : (ask : Ask) (report : Report) → awaits ask report ≡ true → is_ask ask ≡ true
awaited_asks Ask.Nothing report e = e
awaited_asks (Ask.Controllers mode) report e = refl
awaited_asks (Ask.Transceiver mode) report e = refl
awaited_asks Ask.ClearWake report e = refl
awaited_asks Ask.CheckWake report e = refl

taken_asks : (s : State) (report : Report) → takes_report s report ≡ true → is_asking s.step ≡ true
unfolding takes_report
taken_asks s report e = by_test s.asked e
  where
    by_test : (b : Bool) → cond b (awaits (asks_for s.step) report) false ≡ true → is_asking s.step ≡ true
    by_test true f = awaited_asks (asks_for s.step) report f
    by_test false f = absurd (false≢true f)

pub report_kept : (n : Network) (s : State) (report : Report) → takes_report s report ≡ true → Kept n s → Kept n (after_report s)
unfolding after_report
report_kept n s report e k =
    let a = taken_asks s report e in
    record {
      told = k.told;
      wanted = k.wanted;
      asked = k.asked;
      answers = k.answers;
      reported = λ f. absurd (true≢false (sym a ∙ f));
      slots = k.slots;
    }

-- the slot of a controller lies among those in use
slot_used : (n : Network) (s : State) (id : ℕ) →
    InRange n → Kept n s → member id (controllers_of n) ≡ true → first (λ (x : ℕ). eqb x id) (controllers_of n) < length (heard_of n s)
slot_used n s id g k e =
    let c = controllers_counted n g in
    let h : length (heard_of n s) ≡ n.count = padded_count 4 LastAnswer.Pending s.answers n.count g.few_controllers k.slots in
    let f = first_below (λ (x : ℕ). eqb x id) (controllers_of n) e in
    omega arith

answer_by : (n : Network) (s : State) (id mode : ℕ) (ok b : Bool) →
    InRange n → takes_report s (Report.Controller mode) ≡ true → Kept n s → member id (controllers_of n) ≡ b →
    Kept n (cond b (with_answers s (set s.answers (first (λ (x : ℕ). eqb x id) (controllers_of n)) (answer_of ok))) s)
answer_by n s id mode ok false g e k f = k
answer_by n s id mode ok true g e k f =
    let a = taken_asks s (Report.Controller mode) e in
    record {
      told = k.told;
      wanted = k.wanted;
      asked = k.asked;
      answers = λ d. absurd (true≢false (sym a ∙ d));
      reported = k.reported;
      slots = padded_store 4 LastAnswer.Pending (answer_of ok) s.answers n.count _ k.slots (slot_used n s id g k f);
    }

pub answer_kept : (n : Network) (s : State) (id mode : ℕ) (ok : Bool) →
    InRange n → takes_report s (Report.Controller mode) ≡ true → Kept n s → Kept n (after_answer n s id ok)
unfolding after_answer
answer_kept n s id mode ok g e k = answer_by n s id mode ok (member id (controllers_of n)) g e k refl
