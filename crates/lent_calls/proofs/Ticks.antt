-- The tick of each network in sheet order; the ways out of a call that is lent a buffer.
use Rattle.std.specs.Prelude.{Result, Ok, Err}
use Rattle.lists.proofs.Basics.{ℕ, ◌+◌, ◌*◌, ◌≤◌, ◌<◌, arith, ltb-false, ◌≡◌, refl, sym, ap, subst, ◌∙◌, List, []}
use Rattle.lists.proofs.Basics.{Bool, true, false, not, cond, ltb, length, get_or, take, drop, map, length-append}
use Rattle.lists.proofs.Tests.{split}
use Rattle.std.specs.Prelude.{None, Some, Option}
use Rattle.records.specs.declared.Record.{Record}
use Rattle.records.specs.Records.{turned, bytes}
use Rattle.records.specs.declared.Tray.{Tray}
use Rattle.records.specs.Tray.{HasRoom, Handed}
use Rattle.records.proofs.Trays.{handed_none}
use Rattle.records.specs.Wrote.{Room, Wrote, heeded}
use Rattle.records.proofs.Laws.{length_bytes, stored_front, turned_none, heeded_front}
use Rattle.settings.specs.declared.Network.{Network}
use Rattle.settings.specs.declared.Id.{Id}
use Rattle.steps.specs.declared.Step.{Step}
use Rattle.steps.specs.Steps.{asks_for, is_up, is_full_step, asks_to_start}
use Rattle.handing.specs.Handing.{recovery, reset}
use Rattle.handing.proofs.Laws.{length_move}
use Rattle.network.specs.declared.State.{State}
use Rattle.network.specs.declared.Hit.{Hit}
use Rattle.network.specs.declared.Part.{Part}
use Rattle.network.specs.declared.Trouble.{Trouble}
use Rattle.network.specs.Rules.{move_of}
use Rattle.network.specs.Moving.{tick_state, tick_records}
use Rattle.network.specs.Rest.{rests_in}
use Rattle.network.specs.BusOff.{hit_of, stall_of, hit_by, hit_records}
use Rattle.network.specs.Parts.{Sight, sight_of, hit_part, part_of, records_of}
use Rattle.network_ticks.proofs.Rest.{resting_stays, resting_hands_out_nothing}
use Rattle.slots.specs.declared.Stage.{Stage}
use Rattle.slots.specs.declared.CallRefusal.{CallRefusal}
use Rattle.slots.specs.declared.Manager.{Manager}
use Rattle.slots.specs.declared.Outcome.{Outcome}
use Rattle.slots.specs.Manager.{Answer, networks_of, network_at, state_at, with_states, refused, accepted, each, gathered, share, summed, tick_needs}
use Rattle.slots.specs.Calls.{Call, by_stage, slot_of, settled, named, slot_outcome, gate_of, by_gate, gate_records, trouble_needs, all_ticked, outcome, by_rules}
use Rattle.slots.specs.Calls.{slot_records, handed_out, buffer_with, Gives, SlotGives}
use Rattle.slots.proofs.Each.{each_read, each_same}
use Rattle.lent_calls.proofs.Gathered.{gathered_summed, gather_room, gather_handed}

-- ---- how many a tick hands out at most
-- no more than a network's share, of any network
pub tick_share : (n : Network) (s : State) → length (tick_records n s) ≤ share n
unfolding tick_records
tick_share n s = length_move n s.step s.told (move_of n s)

-- ---- one turn of the loop over the networks
-- the test for a network that does not rest has failed
pub rests_so : (r : Bool) {b : Bool} → r ≡ b → not r ≡ false → b ≡ true
rests_so false p q = absurd cc
rests_so true p q = sym p

module _ (ns : List Network) (ss now : List State) (i : ℕ) (d : Network) (e : State) (h : i < length ns)
    (k : i < length ss) (q : now ≡ each tick_state (take i ns) ss) {t t₁ : Tray} (w : Handed t (gathered tick_records (take i ns) ss) t₁) where
  still : get_or now i e ≡ get_or ss i e
  still = ap (λ (l : List State). get_or l i e) q ∙ each_read tick_state ns ss i e

  pub tick_room : t.count ≡ 0 → 3 * summed share ns ≤ length t.out.now → HasRoom t₁ (tick_records (get_or ns i d) (get_or now i e))
  tick_room front room =
      gather_room tick_records share tick_share ns ss i d h front w (tick_records (get_or ns i d) (get_or now i e)) (tick_share _ _) room

  pub tick_handed : {t₂ : Tray} → Handed t₁ (tick_records (get_or ns i d) (get_or now i e)) t₂ → Handed t (gathered tick_records (take (i + 1) ns) ss) t₂
  tick_handed v = gather_handed tick_records ns ss i d e h k w (rw still at v)

  -- the network rests: its record is the one after a tick, and nothing is handed out
  module _ (o : rests_in (get_or now i e).step (get_or now i e).wanted ≡ true) where
    pub rest_kept : now ≡ each tick_state (take (i + 1) ns) ss
    rest_kept = each_same tick_state ns ss now i d e h k q (resting_stays (get_or ns i d) (get_or now i e) o)

    pub rest_handed : Handed t (gathered tick_records (take (i + 1) ns) ss) t₁
    rest_handed = tick_handed (rw (resting_hands_out_nothing (get_or ns i d) (get_or now i e) o) (handed_none t₁))

-- ---- the outcome
-- from the front: so many records, and the buffer that has them
pub wrote_front : {b b₁ : List ℕ} {k : ℕ} (rs : List Record) → Wrote b b₁ 0 k rs → 3 * length rs ≤ length b
    → (k ≡ length rs) × (b₁ ≡ buffer_with b rs)
unfolding buffer_with
wrote_front {b} rs w h = (omega (arith, w.count), w.buffer ∙ stored_front b rs h)

-- in the buffer that a tray held, once the tray is over
pub ended_in : {o p : Outcome} {last after wanted : List ℕ} → (o ≡ p) × (last ≡ wanted) → after ≡ last → (o ≡ p) × (after ≡ wanted)
ended_in t e = (t.0, e ∙ t.1)

pub slot_ended_in : {m : Manager} {slot : Result ℕ CallRefusal} {sight : Sight} {b last after : List ℕ} {r : Outcome} → SlotGives m slot sight b r last
    → after ≡ last → SlotGives m slot sight b r after
slot_ended_in g e = record { result = g.result; buffer = e ∙ g.buffer }

pub ticks_end : (m : Manager) {b b₁ : List ℕ} {k : ℕ} (now : List State) → tick_needs m ≤ length b
    → now ≡ each tick_state (networks_of m) m.states → Wrote b b₁ 0 k (gathered tick_records (networks_of m) m.states)
    → (accepted (with_states m m.listening now) k ≡ all_ticked m) × (b₁ ≡ buffer_with b (gathered tick_records (networks_of m) m.states))
unfolding tick_needs all_ticked
ticks_end m {b} {b₁} {k} now room p w =
    let rs = gathered tick_records (networks_of m) m.states in
    let few : 3 * length rs ≤ length b = omega (arith, room, gathered_summed tick_records share tick_share (networks_of m) m.states) in
    let g = wrote_front rs w few in
    (rw (p, g.0), g.1)

-- the records as they go out
pub heeded_with : (b : List ℕ) (rs : List Record) (listening : Bool) → 3 * length rs ≤ length b
    → heeded (buffer_with b rs) (length rs) listening ≡ buffer_with b (map (turned listening) rs)
unfolding buffer_with
heeded_with b rs listening h = heeded_front b rs listening h

-- what the ticks of all networks hand out has room, and goes out
module _ (m : Manager) (b : List ℕ) {b₁ : List ℕ} (o : Outcome) (p : o ≡ all_ticked m) (q : b₁ ≡ buffer_with b (gathered tick_records (networks_of m) m.states))
    (room : tick_needs m ≤ length b) where
  made_fits : 3 * length (gathered tick_records (networks_of m) m.states) ≤ length b
  unfolding tick_needs
  made_fits = omega (arith, room, gathered_summed tick_records share tick_share (networks_of m) m.states)

  counts_made : o.count ≡ length (gathered tick_records (networks_of m) m.states)
  unfolding all_ticked
  counts_made = ap (λ (x : Outcome). x.count) p

  pub ticks_fit : 3 * o.count ≤ length b₁
  unfolding buffer_with
  ticks_fit =
      let made = gathered tick_records (networks_of m) m.states in
      omega (arith, counts_made, ap length q, length-append (bytes made) (drop (3 * length made) b), length_bytes made)

  pub ticks_heeded : {b₂ : List ℕ} → b₂ ≡ heeded b₁ o.count m.listening → b₂ ≡ buffer_with b (map (turned m.listening) (gathered tick_records (networks_of m) m.states))
  ticks_heeded e =
      let made = gathered tick_records (networks_of m) m.states in
      e ∙ ap (λ (l : List ℕ). heeded l o.count m.listening) q
      ∙ ap (λ (k : ℕ). heeded (buffer_with b made) k m.listening) counts_made ∙ heeded_with b made m.listening made_fits

-- ---- a call that is lent a buffer
-- what it gives is a pair: the outcome, and the buffer with the records
abbrev Ends : Manager → List ℕ → Outcome → List Record → Outcome → List ℕ → Type 0
Ends m b o rs r after = (r ≡ o) × (after ≡ buffer_with b rs)

-- it is refused: nothing is written
pub refused_ends : (m : Manager) (b : List ℕ) (refusal : CallRefusal) (r : Outcome) → r ≡ refused m refusal → Ends m b (refused m refusal) [] r b
unfolding buffer_with bytes
refused_ends m b refusal r e = (e, refl)

-- by its gate: what the rules of the networks make on it, and what goes out
pub gate_shut : (m : Manager) (c : Call) (b : List ℕ) (o r : Outcome) (rs : List Record) (gate x : Answer) (refusal : CallRefusal) →
    x ≡ gate → x ≡ Err refusal → r ≡ refused m refusal → outcome m c ≡ by_gate m gate o → by_rules m c ≡ gate_records gate rs → Gives m c b r b
unfolding handed_out
gate_shut m c b o r rs gate x refusal p e f po ph =
    let g : gate ≡ Err refusal = sym p ∙ e in
    let t = refused_ends m b refusal r f in
    record {
      result = t.0 ∙ sym (po ∙ ap (λ (y : Answer). by_gate m y o) g);
      buffer = t.1 ∙ sym (ap (λ (l : List Record). buffer_with b (map (turned (outcome m c).manager.listening) l))
          (ph ∙ ap (λ (y : Answer). gate_records y rs) g));
    }

pub gate_open : (m : Manager) (c : Call) (b after : List ℕ) (o r : Outcome) (rs : List Record) (gate x : Answer) → x ≡ gate → x ≡ Ok tt
    → r ≡ o → after ≡ buffer_with b (map (turned o.manager.listening) rs) → outcome m c ≡ by_gate m gate o → by_rules m c ≡ gate_records gate rs
    → Gives m c b r after
unfolding handed_out
gate_open m c b after o r rs gate x p e f h po ph =
    let g : gate ≡ Ok tt = sym p ∙ e in
    let same : outcome m c ≡ o = po ∙ ap (λ (y : Answer). by_gate m y o) g in
    let made : by_rules m c ≡ rs = ph ∙ ap (λ (y : Answer). gate_records y rs) g in
    record {
      result = f ∙ sym same;
      buffer = h ∙ sym (ap (λ (l : List Record). buffer_with b (map (turned (outcome m c).manager.listening) l)) made
          ∙ ap (λ (q : Outcome). buffer_with b (map (turned q.manager.listening) rs)) same);
    }

-- by the slot that its id names
pub slot_shut : (m : Manager) (sight : Sight) (b : List ℕ) (r : Outcome) (slot x : Result ℕ CallRefusal) (refusal : CallRefusal) → x ≡ slot → x ≡ Err refusal
    → r ≡ refused m refusal → SlotGives m slot sight b r b
slot_shut m sight b r slot x refusal p e f =
    let t = refused_ends m b refusal r f in
    subst (λ (y : Result ℕ CallRefusal). SlotGives m y sight b r b) (sym e ∙ p) (record { result = t.0; buffer = t.1 })

pub slot_open : (m : Manager) (sight : Sight) (slot x y : Result ℕ CallRefusal) {b after : List ℕ} {r : Outcome} → x ≡ slot → x ≡ y → SlotGives m y sight b r after
    → SlotGives m slot sight b r after
slot_open m sight slot x y {b} {after} {r} p e g = subst (λ (z : Result ℕ CallRefusal). SlotGives m z sight b r after) (sym e ∙ p) g

-- where it goes on there is room
pub open_roomy : (m : Manager) (room needs : ℕ) → gate_of m room needs ≡ Ok tt → needs ≤ room
unfolding gate_of
open_roomy m room needs = by_stage_lem m.stage
  where
    by_test : (short : Bool) → ltb room needs ≡ short → cond {A = Answer} short (Err CallRefusal.TooShort) (Ok tt) ≡ Ok tt → needs ≤ room
    by_test true t e = absurd cc
    by_test false t e = ltb-false room needs t

    by_stage_lem : (g : Stage) → by_stage {A = Answer} g (Err CallRefusal.NotReady)
        (Err CallRefusal.NotReady) (cond (ltb room needs) (Err CallRefusal.TooShort) (Ok tt)) ≡ Ok tt → needs ≤ room
    by_stage_lem Stage.Empty e = absurd cc
    by_stage_lem Stage.Loaded e = absurd cc
    by_stage_lem Stage.Started e = by_test (ltb room needs) refl e

-- ---- trouble
-- what a bus-off and a stall hand out has the room that its call needs
pub hit_fits : (n : Network) (trouble : Trouble) (step : Step) → 3 * length (hit_records n (hit_by trouble step)) ≤ trouble_needs trouble
unfolding hit_records recovery reset hit_of stall_of
hit_fits n Trouble.BusOff step = split (λ (hit : Option Hit). 3 * length (hit_records n hit) ≤ 9) (is_up step) (λ _. omega arith)
    (λ _. split (λ (hit : Option Hit). 3 * length (hit_records n hit) ≤ 9) (asks_to_start (asks_for step)) (λ _. omega arith) (λ _. omega arith))
hit_fits n Trouble.Stall step = split (λ (hit : Option Hit). 3 * length (hit_records n hit) ≤ 3) (is_full_step step) (λ _. omega arith) (λ _. omega arith)

pub hit_room : (n : Network) (s : State) (trouble : Trouble) (b : List ℕ) → trouble_needs trouble ≤ length b
    → Room b 0 (hit_records n (hit_by trouble s.step))
hit_room n s trouble b h = record { fits = omega (arith, h, hit_fits n trouble s.step) }

-- none of them is online, so that they go out as they are, whether the manager listens or not
hit_turned : (listening : Bool) (n : Network) (hit : Option Hit) → map (turned listening) (hit_records n hit) ≡ hit_records n hit
unfolding hit_records recovery reset turned
hit_turned false n hit = turned_none (hit_records n hit)
hit_turned true n (Some Hit.Recover) = refl
hit_turned true n (Some Hit.Restart) = refl
hit_turned true n (Some Hit.Reset) = refl
hit_turned true n None = refl

-- the network's part of it, and its records
pub trouble_part : (n : Network) (s : State) (trouble : Trouble) → hit_part s (hit_by trouble s.step) ≡ part_of n s (sight_of trouble)
unfolding part_of
trouble_part n s Trouble.BusOff = refl
trouble_part n s Trouble.Stall = refl

pub trouble_records : (n : Network) (s : State) (trouble : Trouble) → hit_records n (hit_by trouble s.step) ≡ records_of n s (sight_of trouble)
unfolding records_of
trouble_records n s Trouble.BusOff = refl
trouble_records n s Trouble.Stall = refl

-- what goes out on it is what the slot hands out
struck_turned : (listening : Bool) (m : Manager) (slot : Result ℕ CallRefusal) (trouble : Trouble)
    → slot_records m slot (sight_of trouble) ≡ map (turned listening) (slot_records m slot (sight_of trouble))
struck_turned listening m (Err refusal) trouble = refl
struck_turned listening m (Ok i) trouble =
    subst (λ (rs : List Record). rs ≡ map (turned listening) rs) (trouble_records (network_at m i) (state_at m i) trouble)
    (sym (hit_turned listening (network_at m i) (hit_by trouble (state_at m i).step)))

-- the call by which it is reported goes on
pub trouble_open : (m : Manager) (c : Call) (b after : List ℕ) (r : Outcome) (trouble : Trouble) (id : Id) (gate x : Answer) → x ≡ gate → x ≡ Ok tt
    → SlotGives m (slot_of m id) (sight_of trouble) b r after → outcome m c ≡ by_gate m gate (named m id (sight_of trouble))
    → by_rules m c ≡ gate_records gate (slot_records m (slot_of m id) (sight_of trouble)) → Gives m c b r after
unfolding named
trouble_open m c b after r trouble id gate x p e g po pr =
    gate_open m c b after (named m id (sight_of trouble)) r (slot_records m (slot_of m id) (sight_of trouble)) gate x p e g.result
    (g.buffer ∙ ap (buffer_with b) (struck_turned _ m (slot_of m id) trouble)) po pr

-- what the network made of it, as the outcome of its slot
pub slot_struck : (m : Manager) (i : ℕ) (n : Network) (s : State) (trouble : Trouble) (part : Part) (r : Outcome) {b b₁ : List ℕ} {k : ℕ}
    → n ≡ network_at m i → s ≡ state_at m i → part ≡ hit_part s (hit_by trouble s.step) → Wrote b b₁ 0 k (hit_records n (hit_by trouble s.step))
    → trouble_needs trouble ≤ length b → r ≡ settled m i part.reply part.state k → SlotGives m (Ok i) (sight_of trouble) b r b₁
unfolding slot_outcome
slot_struck m i n s trouble part r {b} {b₁} {k} en es ep w room er =
    let rs = records_of (network_at m i) (state_at m i) (sight_of trouble) in
    let same : hit_records n (hit_by trouble s.step) ≡ rs = trouble_records n s trouble
    ∙ ap (λ (x : Network). records_of x s (sight_of trouble)) en ∙ ap (λ (x : State). records_of (network_at m i) x (sight_of trouble)) es in
    let v : Wrote b b₁ 0 k rs = subst (λ (x : List Record). Wrote b b₁ 0 k x) same w in
    let fits : 3 * length rs ≤ length b = subst (λ (x : List Record). 3 * length x ≤ length b) same
    (omega (arith, room, hit_fits n trouble s.step)) in
    let front = wrote_front rs v fits in
    let q : part ≡ part_of (network_at m i) (state_at m i) (sight_of trouble) = ep ∙ trouble_part n s trouble
    ∙ ap (λ (x : Network). part_of x s (sight_of trouble)) en ∙ ap (λ (x : State). part_of (network_at m i) x (sight_of trouble)) es in
    record {
      result = er ∙ ap (settled m i part.reply part.state) front.0 ∙ ap (λ (p : Part). settled m i p.reply p.state (length rs)) q;
      buffer = front.1;
    }
