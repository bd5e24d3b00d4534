-- The promises on bus-offs, stalls, answers and requests, for one network: what is taken and what is handed out on it.
use Rattle.lists.proofs.Basics.{ℕ, arith, le-leb, lt-leb, le-ltb, ltb-true, ltb-false, eqb-true, ◌≡◌, refl, sym, ap, ◌∙◌, List, [], ◌∷◌, Bool}
use Rattle.lists.proofs.Basics.{true, false, cond, ◌&&◌, ◌||◌, and-false, not, true≢false, false≢true, eqb, leb, ltb}
use Rattle.lists.proofs.Tests.{split}
use Rattle.records.specs.declared.Record.{Record}
use Rattle.records.specs.Records as records
use Rattle.settings.specs.declared.Network.{Network}
use Rattle.settings.specs.Good.{InRange}
use Rattle.steps.specs.declared.Phase.{Phase}
use Rattle.steps.specs.Steps.{phase_of, on_phase, up_phase}
use Rattle.handing.specs.Handing.{recovery, reset}
use Rattle.network.specs.declared.Part.{Part}
use Rattle.network.specs.declared.Report.{Report}
use Rattle.network.specs.declared.State.{State}
use Rattle.network.specs.Answers.{takes_report}
use Rattle.network.specs.BusOff.{hit_records}
use Rattle.network.specs.Replies.{reply_number, is_taken, silent_reply}
use Rattle.network.specs.Parts.{Sight, a_stall, an_answer, a_request, a_report, out_of_range_part, hit_reply, taken_part}
use Rattle.network.specs.Parts.{report_part, answer_part}
use Rattle.network_theorems.proofs.Parts.{reply_accepted, by_stall, request_number_lem}
use Rattle.network_demands.specs.Words.{Seen, OwnHistory, accepted, told}
use Rattle.network_demands.specs.Own.{played, handed, state_of, concerns, Fits, Ran}
use Rattle.network_demands.specs.Promises.{BusOffs, Stalls, Answers, Requests}
use Rattle.network_demands.proofs.Views.{by_part}
use Rattle.network_demands.proofs.Up.{up_means}
use Rattle.network_demands.proofs.Arrows.{rested_phase}
use Rattle.network_demands.proofs.Told.{told_in_full}
use Rattle.network_demands.proofs.Given.{controller_requested, transceiver_requested, clear_requested, check_requested}
use Rattle.network_demands.proofs.Standing.{stands, awaited_takes}

-- ---- what is taken, by the network's record
-- up to a limit is not above it
within : (a limit : ℕ) → leb a limit ≡ not (ltb limit a)
within a limit = by_test (ltb limit a) refl
  where
    by_test : (b : Bool) → ltb limit a ≡ b → leb a limit ≡ not b
    by_test true e = lt-leb a limit (ltb-true limit a e)
    by_test false e = le-leb a limit (ltb-false limit a e)

-- a request: which of its five answers a number is
record Which : Type 0 where
  accepted : Bool
  out_of_range : Bool
  asleep : Bool
  coming_up : Bool
  going_down : Bool

abbrev which_is : ℕ → Which
which_is number =
    record {
      accepted = eqb 0 number;
      out_of_range = eqb 0x21 number;
      asleep = eqb 0x08 number;
      coming_up = eqb 0x24 number;
      going_down = eqb 0x25 number;
    }

-- and which is due, by what the network is about, whether the mode is above 2, and whether it is silent
abbrev due : Phase → Bool → Bool → Which
due phase above silent =
    record {
      accepted = not above && (not silent || up_phase phase);
      out_of_range = above;
      asleep = silent && (rested_phase phase && not (on_phase phase));
      coming_up = silent && (on_phase phase && not (up_phase phase));
      going_down = silent && not (rested_phase phase);
    }

silent_due : (phase : Phase) → which_is (reply_number (silent_reply phase)) ≡ due phase false true
silent_due Phase.Off = refl
silent_due Phase.Rising = refl
silent_due Phase.Checking = refl
silent_due Phase.Full = refl
silent_due Phase.Recovering = refl
silent_due Phase.Silent = refl
silent_due Phase.Falling = refl
silent_due Phase.Resetting = refl

request_due : (phase : Phase) (above silent : Bool) → above && silent ≡ false
    → which_is (cond above 0x21 (cond silent (reply_number (silent_reply phase)) 0)) ≡ due phase above silent
request_due phase true true e = absurd (true≢false e)
request_due phase true false e = refl
request_due phase false true e = silent_due phase
request_due phase false false e = refl

-- silent is not above 2
silent_within : (mode : ℕ) → ltb 2 mode && eqb 1 mode ≡ false
silent_within mode = by_test (eqb 1 mode) refl
  where
    by_test : (b : Bool) → eqb 1 mode ≡ b → ltb 2 mode && b ≡ false
    by_test true e = rw (le-ltb 2 mode (omega (arith, eqb-true 1 mode e))) refl
    by_test false e = and-false (ltb 2 mode)

-- a report, and an answer
report_taken : (s : State) (report : Report) (after : State) →
    is_taken (taken_part s report after).reply ≡ not (out_of_range_part report) && takes_report s report
unfolding taken_part
report_taken s report after =
    split (λ (part : Part). is_taken part.reply ≡ not (out_of_range_part report) && takes_report s report) (out_of_range_part report)
    (λ e. rw e refl) (λ e. rw e (split (λ (part : Part). is_taken part.reply ≡ takes_report s report) (takes_report s report) sym sym))

answer_taken : (n : Network) (s : State) (c mode ok : ℕ) →
    is_taken (answer_part n s c mode ok).reply ≡ leb mode 2 && (leb ok 1 && takes_report s (Report.Controller mode))
unfolding answer_part
answer_taken n s c mode ok =
    rw (within ok 1, within mode 2)
    (split (λ (part : Part). is_taken part.reply ≡ not (ltb 2 mode) && (not (ltb 1 ok) && takes_report s (Report.Controller mode))) (ltb 1 ok)
    (λ e. rw e (sym (and-false (not (ltb 2 mode))))) (λ e. rw e (report_taken s (Report.Controller mode) _)))

-- ---- the promises
module _ (n : Network) (g : InRange n) (e : Seen) (h : OwnHistory) (r : Ran n (e ∷ h)) where
  abbrev s : State
  s = state_of n h

  before : Ran n h
  unfolding Ran
  before = r.1

  fits : Fits n s e
  unfolding Ran
  fits = r.0

  -- what concerns the network has the number of its reply
  numbered : (sight : Sight) → e.sight ≡ sight → concerns sight ≡ true → e.number ≡ reply_number (played n s sight).reply
  numbered sight f c = fits.number (ap concerns f ∙ c) ∙ ap (λ (x : Sight). reply_number (played n s x).reply) f

  -- and is accepted where the network takes it
  replied : (sight : Sight) → e.sight ≡ sight → concerns sight ≡ true → accepted e ≡ is_taken (played n s sight).reply
  replied sight f c = ap (eqb 0) (numbered sight f c) ∙ reply_accepted (played n s sight).reply

  pub bus_offs : BusOffs n e h
  unfolding recovery
  bus_offs =
      let i = stands n g h before in
      by_part n s (λ e t. BusOffs n e h) (record {
        plain = λ sight number mode reported p. record {
          records = λ f. absurd (false≢true (sym p.bus_off ∙ f));
          accepted = λ f. absurd (false≢true (sym p.bus_off ∙ f));
        };
        hears = λ c mode ok m l t. record { records = λ f. absurd (false≢true f); accepted = λ f. absurd (false≢true f) };
        recovers = λ u. record { records = λ f. rw (up_means n h before ∙ u) refl; accepted = λ f c m. sym (i.begun c m ∙ rw u refl) };
        restarts = λ u a. record { records = λ f. rw (up_means n h before ∙ u) refl; accepted = λ f c m. sym (i.begun c m ∙ rw (u, a) refl) };
        not_taken = λ u a. record { records = λ f. rw (up_means n h before ∙ u) refl; accepted = λ f c m. sym (i.begun c m ∙ rw (u, a) refl) };
        resets = λ u. record { records = λ f. absurd (false≢true f); accepted = λ f. absurd (false≢true f) };
        ticks = record { records = λ f. absurd (false≢true f); accepted = λ f. absurd (false≢true f) };
      }) e fits

  -- a stall, by what its step makes of it
  pub stalling : Stalls n e h
  unfolding played handed hit_records reset
  stalling = record {
    records = λ f. fits.records ∙ ap (handed n s) f ∙ by_stall s (λ hit. hit_records n hit ≡ silenced (eqb 2 (told n h)))
        (λ full. rw (told_in_full n g h before ∙ full) refl) (λ full. rw (told_in_full n g h before ∙ full) refl);
    accepted = λ f. replied a_stall f refl ∙ by_stall s (λ hit. is_taken (hit_reply hit) ≡ eqb 2 (told n h))
        (λ full. sym (told_in_full n g h before ∙ full)) (λ full. sym (told_in_full n g h before ∙ full));
  }
    where
      silenced : Bool → List Record
      silenced b = cond b (records.handed 6 n.handle 1 ∷ []) []

  -- a request, by the phase of the step
  requested : (mode : ℕ) → e.sight ≡ a_request mode → which_is e.number ≡ due (phase_of s.step) (ltb 2 mode) (eqb 1 mode)
  unfolding played
  requested mode f =
      ap which_is (numbered (a_request mode) f refl ∙ request_number_lem s mode)
      ∙ request_due (phase_of s.step) (ltb 2 mode) (eqb 1 mode) (silent_within mode)

  pub requests : Requests n e h
  requests =
      let i = stands n g h before in
      let u = up_means n h before in
      record {
        accepted = λ mode f. ap (λ (w : Which). w.accepted) (requested mode f) ∙ rw (within mode 2, u) refl;
        out_of_range = λ mode f. ap (λ (w : Which). w.out_of_range) (requested mode f);
        asleep = λ mode f. ap (λ (w : Which). w.asleep) (requested mode f) ∙ rw (i.on, i.rested) refl;
        coming_up = λ mode f. ap (λ (w : Which). w.coming_up) (requested mode f) ∙ rw (i.on, u) refl;
        going_down = λ mode f. ap (λ (w : Which). w.going_down) (requested mode f) ∙ rw i.rested refl;
      }

  pub answers : Answers n e h
  unfolding played report_part
  answers = record {
    controllers = λ c mode ok f own.
        replied (an_answer c mode ok) f refl ∙ answer_taken n s c mode ok
        ∙ rw (awaited_takes n 1 c mode (Report.Controller mode) (controller_requested n c mode own) g h before) refl;
    transceivers = λ t mode f present.
        replied (a_report (Report.Transceiver mode)) f refl ∙ report_taken s (Report.Transceiver mode) _
        ∙ rw (within mode 2, awaited_takes n 2 t mode (Report.Transceiver mode) (transceiver_requested n t mode present) g h before) refl;
    clears = λ t f present.
        replied (a_report Report.Cleared) f refl ∙ report_taken s Report.Cleared _
        ∙ sym (awaited_takes n 4 t 0 Report.Cleared (clear_requested n t present) g h before);
    checks = λ t f present.
        replied (a_report Report.Checked) f refl ∙ report_taken s Report.Checked _
        ∙ sym (awaited_takes n 5 t 0 Report.Checked (check_requested n t present) g h before);
  }
