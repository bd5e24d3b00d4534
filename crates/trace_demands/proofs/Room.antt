-- What an event's call is lent is room for any call: none is answered 20, and every tick is accepted.
use Rattle.lists.proofs.Basics.{ℕ, ◌≡◌, ◌≤◌, arith, le-ltb, ne_eqb, refl, sym, subst, ◌∙◌, List, [], ◌∷◌, true, false, false≢true, ltb}
use Rattle.lists.proofs.Basics.{cond}
use Rattle.std.specs.Prelude.{Ok, Err, Result}
use Rattle.slots.specs.declared.CallRefusal.{CallRefusal}
use Rattle.lists.specs.Lists.{any}
use Rattle.lists.proofs.Tests.{split}
use Rattle.settings.specs.declared.Id.{Id}
use Rattle.settings.specs.Settings.{member}
use Rattle.network.specs.declared.Refusal.{Refusal}
use Rattle.network.specs.Replies.{refusal_number}
use Rattle.network.specs.Parts.{Sight, a_bus_off, a_stall, part_of}
use Rattle.slots.specs.declared.Stage.{Stage}
use Rattle.slots.specs.declared.Manager.{Manager}
use Rattle.slots.specs.declared.Outcome.{Outcome}
use Rattle.slots.specs.Manager.{call_refusal_number, answer_number, network_at, state_at, tick_needs, listen_needs}
use Rattle.slots.specs.Calls.{Call, by_stage, unknown, by_slot, answer_of, settled, slot_outcome, named, gate_of, by_gate, all_ticked, listened, outcome}
use Rattle.calls.specs.Histories.{entry_of, answers_of, History, Since, goes}
use Rattle.calls.proofs.ByCall.{by_slot_lem}
use Rattle.manager_theorems.specs.Careful.{Sound}
use Rattle.manager_theorems.proofs.Counts.{tick_needs_most, listen_needs_most}
use Rattle.trace.specs.declared.Event.{Event}
use Rattle.trace.specs.Events.{call_of}
use Rattle.demands.specs.Demands.{Begun}
use Rattle.demands.proofs.DemandOne.{every_call_answers}
use Rattle.demands.proofs.Follow.{follow}
use Rattle.trace_demands.specs.Recorded.{history_after, too_short}

-- the answer is not 20
abbrev NotShort : Outcome → Type 0
NotShort o = answer_number o.answer ≡ 0x20 → ⊥

-- ---- a bus-off and a stall
refusal_not_short : (refusal : Refusal) → refusal_number refusal ≡ 0x20 → ⊥
refusal_not_short Refusal.OutOfRange e = omega arith
refusal_not_short Refusal.Asleep e = omega arith
refusal_not_short Refusal.ComingUp e = omega arith
refusal_not_short Refusal.GoingDown e = omega arith
refusal_not_short Refusal.NotTaken e = omega arith

unknown_not_short : (id : Id) → call_refusal_number (unknown id) ≡ 0x20 → ⊥
unknown_not_short (Id.OfNetwork handle) e = omega arith
unknown_not_short (Id.OfController controller) e = omega arith
unknown_not_short (Id.OfTransceiver transceiver) e = omega arith

module _ (m : Manager) where
  -- what is taken is accepted, and no refusal of a network has this number
  reply_not_short : (reply : Result Unit Refusal) (o : Outcome) → NotShort o → NotShort (by_gate m (answer_of reply) o)
  reply_not_short (Ok done) o e = e
  reply_not_short (Err refusal) o e = refusal_not_short refusal

  slot_not_short : (i : ℕ) (sight : Sight) → NotShort (slot_outcome m i sight)
  unfolding slot_outcome settled
  slot_not_short i sight = reply_not_short (part_of (network_at m i) (state_at m i) sight).reply _ (λ e. omega arith)

  named_not_short : (id : Id) (sight : Sight) → NotShort (named m id sight)
  unfolding named
  named_not_short id sight = by_slot_lem m id (λ slot. NotShort (by_slot m slot (λ i. slot_outcome m i sight)))
      (λ f e. omega arith) (λ f. unknown_not_short id) (λ i f. slot_not_short i sight)

  -- 144 bytes are more than the records need
  gate_not_short : (needs : ℕ) (o : Outcome) → needs ≤ 144 → NotShort o → NotShort (by_gate m (gate_of m 144 needs) o)
  unfolding gate_of
  gate_not_short needs o l p = at_stage m.stage where
    at_stage : (g : Stage) → NotShort
        (by_gate m (by_stage g (Err CallRefusal.NotReady) (Err CallRefusal.NotReady)
        (cond (ltb 144 needs) (Err CallRefusal.TooShort) (Ok tt))) o)
    at_stage Stage.Empty e = omega arith
    at_stage Stage.Loaded e = omega arith
    at_stage Stage.Started e = p (rw (le-ltb 144 needs l) at e)

  -- ---- every event
  -- a call that is lent no buffer has no such answer among its own
  among : (c : Call) → member 0x20 (answers_of c) ≡ false → NotShort (outcome m c)
  among c none e = false≢true (sym none ∙ subst (λ (k : ℕ). member k (answers_of c) ≡ true) e (every_call_answers m c))

  event_not_short : Sound m → (event : Event) → NotShort (outcome m (call_of event))
  unfolding any outcome all_ticked listened
  event_not_short s (Event.Request handle mode) = among (call_of (Event.Request handle mode)) refl
  event_not_short s (Event.BusOff controller) = gate_not_short 9 _ (omega arith) (named_not_short (Id.OfController controller) a_bus_off)
  event_not_short s (Event.Answer controller mode ok) = among (call_of (Event.Answer controller mode ok)) refl
  event_not_short s (Event.TransceiverMode transceiver mode) = among (call_of (Event.TransceiverMode transceiver mode)) refl
  event_not_short s (Event.ClearDone transceiver) = among (call_of (Event.ClearDone transceiver)) refl
  event_not_short s (Event.CheckDone transceiver) = among (call_of (Event.CheckDone transceiver)) refl
  event_not_short s Event.Tick = gate_not_short (tick_needs m) _ (tick_needs_most m s) (λ e. omega arith)
  event_not_short s (Event.Poll handle) = among (call_of (Event.Poll handle)) refl
  event_not_short s (Event.Stall handle) = gate_not_short 3 _ (omega arith) (named_not_short (Id.OfNetwork handle) a_stall)
  event_not_short s (Event.Listen value) = gate_not_short (listen_needs m) _ (omega (arith, listen_needs_most m s))
      (split NotShort (ltb 1 value) (λ _ e. omega arith) (λ _ e. omega arith))

  tick_accepted : Sound m → m.stage ≡ Stage.Started → (outcome m (call_of Event.Tick)).answer ≡ Ok tt
  unfolding outcome gate_of all_ticked tick_needs
  tick_accepted s e = rw (e, le-ltb 144 (tick_needs m) (tick_needs_most m s)) refl

-- ---- every history of events since the start
module _ (m₀ : Manager) (b : Begun m₀) where
  pub events_not_short : (m : Manager) (h : History) (es : List Event) →
      Since m₀ m h → any too_short h ≡ false → any too_short (history_after m h es) ≡ false
  unfolding history_after any
  events_not_short m h [] s none = none
  events_not_short m h (event ∷ es) s none =
      let here = ne_eqb (answer_number (outcome m (call_of event)).answer) 0x20 (event_not_short m (follow m₀ m h b s).sound event) in
      events_not_short (outcome m (call_of event)).manager (entry_of m (call_of event) ∷ h) es (goes m h (call_of event) s) (rw here none)

  pub events_then_tick : (m : Manager) (h : History) → Since m₀ m h → (outcome m (call_of Event.Tick)).answer ≡ Ok tt
  events_then_tick m h s = let f = follow m₀ m h b s in tick_accepted m f.sound f.started
