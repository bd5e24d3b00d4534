-- What a call to listen hands out: room for it, and the ways out of the call.
use Rattle.std.specs.Prelude.{Ok}
use mathlib.Core.Bool.{beq, not}
use Rattle.lists.proofs.Basics.{ℕ, ◌*◌, ◌≤◌, ◌<◌, arith, ◌≡◌, refl, sym, ap, ◌∙◌, List, [], map, Bool, true, false, length}
use Rattle.lists.proofs.Basics.{length-map, lt-ltb, le-ltb, eqb}
use Rattle.lists.proofs.Tests.{split}
use Rattle.records.specs.declared.Record.{Record}
use Rattle.records.specs.Records.{turned, bytes}
use Rattle.records.specs.Wrote.{Wrote, heeded}
use Rattle.records.proofs.Laws.{wrote_length}
use Rattle.settings.specs.declared.Network.{Network}
use Rattle.settings.specs.Settings.{controllers_of}
use Rattle.steps.specs.declared.Step.{Step}
use Rattle.steps.specs.Steps.{is_online_step}
use Rattle.handing.specs.declared.Round.{Round}
use Rattle.handing.specs.Handing.{round_record, online, online_in}
use Rattle.network.specs.declared.State.{State}
use Rattle.slots.specs.declared.Manager.{Manager}
use Rattle.slots.specs.declared.Outcome.{Outcome}
use Rattle.slots.specs.declared.CallRefusal.{CallRefusal}
use Rattle.slots.specs.Manager.{Answer, networks_of, with_listening, refused, accepted, gathered, controller_count, listen_needs}
use Rattle.slots.specs.Calls.{Call, by_gate, gate_records, changes, all_online, online_anew, listened, by_value, outcome, by_rules, buffer_with, Gives}
use Rattle.lent_calls.proofs.Gathered.{gathered_summed}
use Rattle.lent_calls.proofs.Ticks.{wrote_front, heeded_with, gate_open}

-- online for a network, by its record
abbrev pub online_of : Network → State → List Record
online_of n s = online_in n s.step

-- at most one record for each controller
pub online_fits : (n : Network) (step : Step) → length (online_in n step) ≤ controller_count n
unfolding online_in
online_fits n step = split (λ (rs : List Record). length rs ≤ controller_count n) (is_online_step step)
    (λ _. omega (arith, length-map (controllers_of n) (round_record (Round.Pdu online)))) (λ _. omega arith)

-- so the call has the room that it needs
all_fits : (m : Manager) → 3 * length (all_online m) ≤ listen_needs m
unfolding all_online listen_needs
all_fits m = omega (arith, gathered_summed online_of controller_count (λ n s. online_fits n s.step) (networks_of m) m.states)

-- and what was written has the room to be read again
pub all_fit : (m : Manager) {b b₁ : List ℕ} {k : ℕ} → listen_needs m ≤ length b → Wrote b b₁ 0 k (all_online m) → 3 * k ≤ length b₁
all_fit m room w = omega (arith, room, w.count, wrote_length w, all_fits m)

pub anew_fits : (m : Manager) (listening : Bool) → 3 * length (online_anew m listening) ≤ listen_needs m
unfolding online_anew
anew_fits m listening =
    split (λ (rs : List Record). 3 * length rs ≤ listen_needs m) (changes m.listening listening) (λ _. all_fits m) (λ _. omega arith)

-- the loop over the networks is over
pub online_end : (m : Manager) {b b₁ : List ℕ} {k : ℕ} (ns : List Network) → ns ≡ networks_of m → Wrote b b₁ 0 k (gathered online_of ns m.states)
    → Wrote b b₁ 0 k (all_online m)
unfolding all_online
online_end m ns e w = rw e at w

-- in the buffer that the tray held, once the tray is over
pub online_ended_in : {b last after : List ℕ} {k : ℕ} {rs : List Record} → Wrote b last 0 k rs → after ≡ last → Wrote b after 0 k rs
online_ended_in w e = record { count = w.count; buffer = e ∙ w.buffer }

-- it changes where before and after are not the same
pub changed : (before after : Bool) → not (beq before after) ≡ changes before after
changed true true = refl
changed true false = refl
changed false true = refl
changed false false = refl

-- it changes: online is written and goes out as it does from now on
pub listened_anew : (m : Manager) (listening : Bool) {b b₁ b₂ : List ℕ} {k : ℕ} (x : Bool) → x ≡ changes m.listening listening → x ≡ true
    → listen_needs m ≤ length b → Wrote b b₁ 0 k (all_online m) → b₂ ≡ heeded b₁ k listening
    → (accepted (with_listening m listening) k ≡ listened m listening) × (b₂ ≡ buffer_with b (map (turned listening) (online_anew m listening)))
unfolding listened online_anew
listened_anew m listening {b} {b₁} {b₂} {k} x p t room w e =
    let front = wrote_front (all_online m) w (omega (arith, room, all_fits m)) in
    let same : changes m.listening listening ≡ true = sym p ∙ t in (
      rw (same, front.0) refl,
      rw same (e ∙ ap (λ (l : List ℕ). heeded l k listening) front.1 ∙ ap (λ (i : ℕ). heeded (buffer_with b (all_online m)) i listening) front.0
          ∙ heeded_with b (all_online m) listening (omega (arith, room, all_fits m))),
    )

-- nothing changes
pub listened_same : (m : Manager) (listening : Bool) (b : List ℕ) (r : Outcome) (x : Bool) → x ≡ changes m.listening listening → x ≡ false
    → r ≡ accepted (with_listening m listening) 0
    → (r ≡ listened m listening) × (b ≡ buffer_with b (map (turned listening) (online_anew m listening)))
unfolding listened online_anew buffer_with bytes
listened_same m listening b r x p f e =
    let same : changes m.listening listening ≡ false = sym p ∙ f in (
      rw same e,
      rw same refl,
    )

-- ---- the value
-- a value above 1 is refused
pub value_refused : (m : Manager) (value : ℕ) (b : List ℕ) (r : Outcome) → 1 < value → r ≡ refused m CallRefusal.OutOfRange
    → (r ≡ by_value value (refused m CallRefusal.OutOfRange) (listened m))
    × (b ≡ buffer_with b (map (turned r.manager.listening) (by_value value [] (online_anew m))))
unfolding buffer_with bytes
value_refused m value b r l e = (rw (lt-ltb 1 value l) e, rw (lt-ltb 1 value l) refl)

-- any other sets it or clears it
pub value_taken : (m : Manager) (value : ℕ) (b after : List ℕ) (r : Outcome) → value ≤ 1
    → (r ≡ listened m (eqb 1 value)) × (after ≡ buffer_with b (map (turned (eqb 1 value)) (online_anew m (eqb 1 value))))
    → (r ≡ by_value value (refused m CallRefusal.OutOfRange) (listened m))
    × (after ≡ buffer_with b (map (turned r.manager.listening) (by_value value [] (online_anew m))))
unfolding listened
value_taken m value b after r l p =
    let low = le-ltb 1 value l in
    (rw low p.0, rw (low, p.0) p.1)

-- ---- the call
-- it goes on: what its value gives is what it gives
pub listen_open : (m : Manager) (c : Call) (b after : List ℕ) (o r : Outcome) (rs : List Record) (gate x : Answer) → x ≡ gate → x ≡ Ok tt
    → (r ≡ o) × (after ≡ buffer_with b (map (turned r.manager.listening) rs)) → outcome m c ≡ by_gate m gate o → by_rules m c ≡ gate_records gate rs
    → Gives m c b r after
listen_open m c b after o r rs gate x p e g =
    gate_open m c b after o r rs gate x p e g.0 (g.1 ∙ ap (λ (y : Outcome). buffer_with b (map (turned y.manager.listening) rs)) g.0)
