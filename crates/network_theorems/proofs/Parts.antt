-- A network's part in a call, taken apart once: whatever holds of each thing that can come of a call holds of its part.
use Rattle.lists.proofs.Tests.{split}
use Rattle.lists.proofs.Basics.{ℕ, zero, suc, arith, lt-ltb, eqb-true, ne_eqb, ◌≡◌, refl, sym, ap, ◌∙◌, List, [], true, false, cond, true≢false, eqb}
use Rattle.lists.proofs.Basics.{ltb}
use Rattle.std.specs.Prelude.{Option, None, Some, Result, Ok, Err}
use Rattle.lists.specs.Lists.{any, every}
use Rattle.records.specs.declared.Mode.{Mode}
use Rattle.records.specs.declared.UnknownMode.{UnknownMode}
use Rattle.records.specs.declared.Record.{Record}
use Rattle.records.specs.Records.{mode_number, by_named}
use Rattle.settings.specs.declared.Network.{Network}
use Rattle.settings.specs.Good.{InRange}
use Rattle.steps.specs.declared.Phase.{Phase}
use Rattle.steps.specs.Steps.{phase_of, up_phase, asks_for, asks_to_start, is_up, is_full_step}
use Rattle.handing.specs.Handing.{own_record}
use Rattle.network.specs.declared.Hit.{Hit}
use Rattle.network.specs.declared.Part.{Part}
use Rattle.network.specs.declared.Refusal.{Refusal}
use Rattle.network.specs.declared.Report.{Report}
use Rattle.network.specs.declared.State.{State}
use Rattle.network.specs.State.{wants}
use Rattle.network.specs.Replies.{refusal_number, reply_number, is_taken, silent_reply}
use Rattle.network.specs.Answers.{takes_report, after_answer}
use Rattle.network.specs.BusOff.{hit_of, stall_of, hit_records}
use Rattle.network.specs.Parts.{Sight, a_tick, a_bus_off, a_stall, an_answer, a_request, a_report, nothing, taken, declined, by_reply, wanted_part}
use Rattle.network.specs.Parts.{request_part, out_of_range_part, taken_part, report_part, answer_part, hit_reply, hit_part, part_of, records_of}
use Rattle.network_theorems.specs.Kept.{Kept}
use Rattle.network_theorems.proofs.Theorems.{tick_own, hit_own}
use Rattle.network_theorems.proofs.Kept.{tick_kept, want_kept, trouble_kept, answer_kept, report_kept}

-- ---- replies
-- no refusal has the number 0
pub refusal_refuses : (refusal : Refusal) → eqb 0 (refusal_number refusal) ≡ false
refusal_refuses Refusal.OutOfRange = refl
refusal_refuses Refusal.Asleep = refl
refusal_refuses Refusal.ComingUp = refl
refusal_refuses Refusal.GoingDown = refl
refusal_refuses Refusal.NotTaken = refl

-- so that a reply is taken exactly if its number is 0
pub reply_accepted : (reply : Result Unit Refusal) → eqb 0 (reply_number reply) ≡ is_taken reply
reply_accepted (Ok tt) = refl
reply_accepted (Err refusal) = refusal_refuses refusal

-- and one that is taken has that number
pub taken_number : (reply : Result Unit Refusal) → is_taken reply ≡ true → reply_number reply ≡ 0
taken_number reply e = sym (eqb-true 0 (reply_number reply) (reply_accepted reply ∙ e))

-- N15: silent is taken where the network is up, and else has one of three refusals
by_silent : (phase : Phase) (Q : Result Unit Refusal → Type 0) → (up_phase phase ≡ true → Q (Ok tt)) → Q (Err Refusal.Asleep)
    → Q (Err Refusal.ComingUp) → Q (Err Refusal.GoingDown) → Q (silent_reply phase)
by_silent Phase.Off Q up asleep rising falling = asleep
by_silent Phase.Rising Q up asleep rising falling = rising
by_silent Phase.Checking Q up asleep rising falling = up refl
by_silent Phase.Full Q up asleep rising falling = up refl
by_silent Phase.Recovering Q up asleep rising falling = up refl
by_silent Phase.Silent Q up asleep rising falling = up refl
by_silent Phase.Falling Q up asleep rising falling = falling
by_silent Phase.Resetting Q up asleep rising falling = up refl

-- ---- by what a call is
-- a bus-off
pub by_hit : (s : State) (Q : Option Hit → Type 0) → (is_up s.step ≡ true → Q (Some Hit.Recover)) → (is_up s.step ≡ false → asks_to_start (asks_for s.step)
    ≡ true → Q (Some Hit.Restart)) → (is_up s.step ≡ false → asks_to_start (asks_for s.step) ≡ false → Q None) → Q (hit_of s.step)
unfolding hit_of
by_hit s Q up starting neither = split Q (is_up s.step) up (λ u. split Q (asks_to_start (asks_for s.step)) (starting u) (neither u))

-- a stall
pub by_stall : (s : State) (Q : Option Hit → Type 0) → (is_full_step s.step ≡ true → Q (Some Hit.Reset)) → (is_full_step s.step ≡ false → Q None)
    → Q (stall_of s.step)
unfolding stall_of
by_stall s Q full not = split Q (is_full_step s.step) full not

-- the reply to trouble is that of what it does
pub hit_replies : (s : State) (hit : Option Hit) → (hit_part s hit).reply ≡ hit_reply hit
unfolding hit_part
hit_replies s (Some hit) = refl
hit_replies s None = refl

module _ (s : State) (Q : Part → Type 0) where
  -- a request: silent is stored only where the network is up, and else refused by what it is about
  pub by_request : (number : ℕ) → ((mode : Mode) → number ≡ mode_number mode → (mode ≡ Mode.Silent → is_up s.step ≡ true) → Q (taken (wants s mode)))
      → Q (declined s Refusal.Asleep) → Q (declined s Refusal.ComingUp) → Q (declined s Refusal.GoingDown) → Q (declined s Refusal.OutOfRange)
      → Q (request_part s number)
  unfolding request_part wanted_part
  by_request number may asleep rising falling out =
      let Named : Result Mode UnknownMode → Type 0 = λ named. Q (by_named named (wanted_part s) (declined s Refusal.OutOfRange)) in
      split Named (eqb number 0) (λ e. may Mode.No (eqb-true number 0 e) (λ f. absurd cc))
      (λ _. split Named (eqb number 1)
      (λ e. by_silent (phase_of s.step) (λ reply. Q (by_reply reply (taken (wants s Mode.Silent)) (declined s)))
      (λ u. may Mode.Silent (eqb-true number 1 e) (λ _. u)) asleep rising falling)
      (λ _. split Named (eqb number 2) (λ e. may Mode.Full (eqb-true number 2 e) (λ f. absurd cc))
      (λ _. out)))

  -- what is reported
  pub by_report : (report : Report) (after : State) → (takes_report s report ≡ true → Q (taken after)) → (out_of_range_part report ≡ true →
      Q (declined s Refusal.OutOfRange)) → (takes_report s report ≡ false → Q (declined s Refusal.NotTaken)) → Q (taken_part s report after)
  unfolding taken_part
  by_report report after takes out not = split Q (out_of_range_part report) out (λ _. split Q (takes_report s report) takes not)

  -- an answer of a controller
  pub by_answer : (n : Network) (c mode ok : ℕ) → (ltb 1 ok ≡ false → takes_report s (Report.Controller mode) ≡ true → Q (taken (after_answer n s c
      (eqb ok 1)))) → (ltb 1 ok ≡ true → Q (declined s Refusal.OutOfRange)) → (ltb 2 mode ≡ true → Q (declined s Refusal.OutOfRange)) →
      (takes_report s (Report.Controller mode) ≡ false → Q (declined s Refusal.NotTaken)) → Q (answer_part n s c mode ok)
  unfolding answer_part
  by_answer n c mode ok takes out-ok out-mode not = split Q (ltb 1 ok) out-ok (λ e. by_report (Report.Controller mode) _ (takes e) out-mode not)

-- ---- the number of what a network answers to a request
-- the reply is that of the request
reply_kept : (s after : State) (reply : Result Unit Refusal) → (by_reply reply (taken after) (declined s)).reply ≡ reply
reply_kept s after (Ok tt) = refl
reply_kept s after (Err refusal) = refl

-- R13: 21 for a mode above 2; of the others silent alone can be refused
pub request_number_lem : (s : State) (mode : ℕ) → reply_number (request_part s mode).reply
    ≡ cond (ltb 2 mode) 0x21 (cond (eqb 1 mode) (reply_number (silent_reply (phase_of s.step))) 0)
unfolding request_part wanted_part
request_number_lem s zero = refl
request_number_lem s (suc zero) = ap reply_number (reply_kept s _ (silent_reply (phase_of s.step)))
request_number_lem s (suc (suc zero)) = refl
request_number_lem s (suc (suc (suc mode))) =
    let above = lt-ltb 2 (suc (suc (suc mode))) (omega arith) in
    let a = ne_eqb (suc (suc (suc mode))) 0 (λ e. omega arith) in
    let b = ne_eqb (suc (suc (suc mode))) 1 (λ e. omega arith) in
    let c = ne_eqb (suc (suc (suc mode))) 2 (λ e. omega arith) in
    rw (above, a, b, c) refl

-- ---- what holds of every part
-- nothing is handed out
abbrev NoRecords : Type 0
NoRecords = ◌≡◌ {A = List Record} [] []

hit_stays : (n : Network) (s : State) (hit : Option Hit) → is_taken (hit_part s hit).reply ≡ false → ((hit_part s hit).state ≡ s) × (hit_records n hit ≡ [])
unfolding hit_part hit_records
hit_stays n s (Some hit) e = absurd (true≢false e)
hit_stays n s None e = (refl, refl)

-- a refusal keeps the record and hands out nothing
pub refused_stays : (n : Network) (s : State) (sight : Sight) →
    is_taken (part_of n s sight).reply ≡ false → ((part_of n s sight).state ≡ s) × (records_of n s sight ≡ [])
unfolding part_of records_of report_part
refused_stays n s a_tick e = absurd (true≢false e)
refused_stays n s a_bus_off e = hit_stays n s (hit_of s.step) e
refused_stays n s a_stall e = hit_stays n s (stall_of s.step) e
refused_stays n s (an_answer c mode ok) e =
    by_answer s (λ part. is_taken part.reply ≡ false → (part.state ≡ s) × NoRecords) n c mode ok
    (λ _ _ e. absurd (true≢false e)) (λ _ _. (refl, refl)) (λ _ _. (refl, refl)) (λ _ _. (refl, refl)) e
refused_stays n s (a_request mode) e =
    by_request s (λ part. is_taken part.reply ≡ false → (part.state ≡ s) × NoRecords) mode
    (λ _ _ _ e. absurd (true≢false e)) (λ _. (refl, refl)) (λ _. (refl, refl)) (λ _. (refl, refl)) (λ _. (refl, refl)) e
refused_stays n s (a_report report) e =
    by_report s (λ part. is_taken part.reply ≡ false → (part.state ≡ s) × NoRecords) report _
    (λ _ e. absurd (true≢false e)) (λ _ _. (refl, refl)) (λ _ _. (refl, refl)) e
refused_stays n s nothing e = absurd (true≢false e)

-- what `Kept` says of a record is kept by every call
pub part_kept : (n : Network) (s : State) → InRange n → Kept n s → (sight : Sight) → Kept n (part_of n s sight).state
unfolding part_of report_part
part_kept n s g k a_tick = tick_kept n s k
part_kept n s g k a_bus_off = trouble_kept n s (hit_of s.step) k
part_kept n s g k a_stall = trouble_kept n s (stall_of s.step) k
part_kept n s g k (an_answer c mode ok) =
    by_answer s (λ part. Kept n part.state) n c mode ok (λ _ e. answer_kept n s c mode (eqb ok 1) g e k) (λ _. k) (λ _. k) (λ _. k)
part_kept n s g k (a_request mode) = by_request s (λ part. Kept n part.state) mode (λ w _ may. want_kept n s w may k) k k k k
part_kept n s g k (a_report report) = by_report s (λ part. Kept n part.state) report _ (λ e. report_kept n s report e k) (λ _. k) (λ _. k)
part_kept n s g k nothing = k

-- every record names the network's own controllers, transceiver or handle
pub part_own : (n : Network) (s : State) (sight : Sight) → every (own_record n) (records_of n s sight) ≡ true
unfolding records_of every any
part_own n s a_tick = tick_own n s
part_own n s a_bus_off = hit_own n (hit_of s.step)
part_own n s a_stall = hit_own n (stall_of s.step)
part_own n s (an_answer c mode ok) = refl
part_own n s (a_request mode) = refl
part_own n s (a_report report) = refl
part_own n s nothing = refl
