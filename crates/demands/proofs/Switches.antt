-- What a call does to listening, and what listening does to a call: which of the two it is after it, which records go out, and that nothing else goes
-- by it.
use Rattle.entries.specs.declared.Fault.{Fault}
use Rattle.std.specs.Prelude.{Result, Ok, Err}
use Rattle.lists.proofs.Basics.{ℕ, ◌≡◌, refl, sym, ap, ◌∙◌, List, [], ◌∷◌, map, Bool, true, false, cond, ◌&&◌}
use Rattle.lists.proofs.Basics.{eqb, eqb-true, ltb, leb, length}
use Rattle.slots.specs.declared.CallRefusal.{CallRefusal}
use Rattle.lists.specs.Lists.{any, every}
use Rattle.lists.proofs.Any.{and_both, every_cons}
use Rattle.records.specs.declared.Record.{Record}
use Rattle.records.specs.Records.{listens, is_online, turned}
use Rattle.records.proofs.Laws.{turned_none}
use Rattle.settings.specs.declared.Network.{Network}
use Rattle.settings.specs.declared.Id.{Id}
use Rattle.sheet.specs.Reading.{decode}
use Rattle.sheet.specs.Encode.{encode}
use Rattle.handing.specs.Handing.{own_record}
use Rattle.network.specs.Parts.{Sight, sight_of, part_of}
use Rattle.slots.specs.declared.Stage.{Stage}
use Rattle.slots.specs.declared.Manager.{Manager}
use Rattle.slots.specs.declared.Outcome.{Outcome}
use Rattle.slots.specs.Manager.{call_refusal_number, Answer, answer_number, networks_of, settings_of, network_at, state_at, with_listening, refused, accepted}
use Rattle.slots.specs.Manager.{tick_needs, listen_needs}
use Rattle.slots.specs.Calls.{Call, listen, by_stage}
use Rattle.slots.specs.Calls.{after_reading, read_into, writing_of, slot_of, by_slot, answer_of, settled, slot_outcome, named, slot_records, polled}
use Rattle.slots.specs.Calls.{gate_of, by_gate, gate_records, trouble_needs, all_ticked, online_anew, listened, outcome, by_rules, handed_out}
use Rattle.calls.specs.Histories.{Entry, entry_of, Switch, leaves, switch_of, switched}
use Rattle.calls.proofs.ByCall.{by_call}
use Rattle.calls.proofs.ByKind.{Kind, names_id, reports_trouble, is_poll, is_read, is_write, is_start, is_tick, is_listen, kind_of, address_names}
use Rattle.demands.specs.View.{keep, is_turned, unturned, plainly, view_of}
use Rattle.demands.proofs.Plainly.{plain_again}
use Rattle.demands.proofs.Parts.{part_plain, ticks_plain, anew_online}

-- ---- which of the two it is
-- a refusal leaves it
pub refused_leaves : (number : ℕ) (c : Call) → eqb 0 number ≡ false → switch_of number c ≡ leaves
refused_leaves number c e = by_kind c (kind_of c)
  where
    by_kind : (c : Call) → Kind c → switch_of number c ≡ leaves
    by_kind _ (names_id c id sight k) = k.switch number
    by_kind _ (reports_trouble c room id trouble k) = k.switch number
    by_kind _ (is_poll handle) = refl
    by_kind _ (is_read bytes) = refl
    by_kind _ (is_write room) = refl
    by_kind _ is_start = rw e refl
    by_kind _ (is_tick room) = refl
    by_kind _ (is_listen value room) = rw e refl

-- after each call it is what the call says of it
pub call_switches : (m : Manager) (c : Call) → (outcome m c).manager.listening ≡ switched (switch_of (entry_of m c).number c) m.listening
unfolding all_ticked listened
call_switches m = by_call m (λ c o rs. o.manager.listening ≡ switched (switch_of (answer_number o.answer) c) m.listening) (record {
  refuses = λ c a r f. ap (λ (x : Switch). switched x m.listening) (sym (refused_leaves (call_refusal_number a) c r.refused));
  declines = λ c id sight i a e f d r. ap (λ (x : Switch). switched x m.listening) (sym (refused_leaves (call_refusal_number a) c r.refused));
  takes = λ c id sight i e f t k. ap (λ (x : Switch). switched x m.listening) (sym (address_names 0 c id sight e).1);
  ticks = λ room s e. refl;
  listens = λ value room s e a. refl;
  polls = λ handle i f. refl;
  reads = λ bytes f e. refl;
  misreads = λ bytes fault f. refl;
  writes = λ room f. refl;
  starts = λ e. refl;
})

-- ---- which records go out
-- online is none that only listening makes
online_plain : (rs : List Record) → every is_online rs ≡ true → any is_turned rs ≡ false
unfolding any
online_plain [] e = refl
online_plain (r ∷ rs) e =
    let p = and_both (is_online r) (every is_online rs) (sym (every_cons is_online r rs) ∙ e) in
    rw (one (eqb 3 r.kind) r.argument p.0) (online_plain rs p.1)
  where
    one : (b : Bool) (argument : ℕ) → b && eqb 0 argument ≡ true → b && eqb 2 argument ≡ false
    one false argument q = refl
    one true argument q = by_number_lem argument (eqb-true 0 argument q)
      where
        by_number_lem : (a : ℕ) → 0 ≡ a → eqb 2 a ≡ false
        by_number_lem a z = rw (sym z) refl

-- no rule makes argument 2 of kind 3
pub rules_plain : (m : Manager) (c : Call) → any is_turned (by_rules m c) ≡ false
unfolding any
rules_plain m = by_call m (λ c o rs. any is_turned rs ≡ false) (record {
  refuses = λ c a r f. refl;
  declines = λ c id sight i a e f d r. refl;
  takes = λ c id sight i e f t k. part_plain (network_at m i) (state_at m i) sight;
  ticks = λ room s e. ticks_plain (networks_of m) m.states;
  listens = λ value room s e a. online_plain (online_anew m (eqb 1 value)) (anew_online m (eqb 1 value));
  polls = λ handle i f. refl;
  reads = λ bytes f e. refl;
  misreads = λ bytes fault f. refl;
  writes = λ room f. refl;
  starts = λ e. refl;
})

-- turned, no record is online
none_online : (rs : List Record) → any is_online (map (turned true) rs) ≡ false
unfolding any turned
none_online [] = refl
none_online (r ∷ rs) = rw (one (is_online r) refl) (none_online rs)
  where
    one : (b : Bool) → is_online r ≡ b → is_online (cond b (listens r.target) r) ≡ false
    one true e = refl
    one false e = e

module _ (m : Manager) (c : Call) where
  -- a call after which the manager listens hands out no online
  pub call_quiet : (outcome m c).manager.listening ≡ true → any is_online (handed_out m c) ≡ false
  unfolding handed_out
  call_quiet e = rw e (none_online (by_rules m c))

  -- and one after which it does not, no argument 2 of kind 3
  pub call_aloud : (outcome m c).manager.listening ≡ false → any is_turned (handed_out m c) ≡ false
  unfolding handed_out
  call_aloud e = rw (e, turned_none (by_rules m c)) (rules_plain m c)

  -- the records of the rules as they go out, by which of the two it is after the call
  pub handed_turned : (listening : Bool) → (outcome m c).manager.listening ≡ listening → handed_out m c ≡ map (turned listening) (by_rules m c)
  unfolding handed_out
  handed_turned listening e = ap (λ (l : Bool). map (turned l) (by_rules m c)) e

  -- with listening taken out it is what the rules make
  pub call_plain : map unturned (handed_out m c) ≡ by_rules m c
  unfolding handed_out
  call_plain = plain_again (outcome m c).manager.listening (by_rules m c) (rules_plain m c)

  -- and so a network sees its own of these, where the call leaves it as it was
  pub view_plain : (n : Network) → switch_of (entry_of m c).number c ≡ leaves → (view_of n (entry_of m c)).records ≡ keep (own_record n) (by_rules m c)
  view_plain n e = ap (λ (x : Switch). keep (own_record n) (plainly x (handed_out m c))) e ∙ ap (keep (own_record n)) call_plain

-- ---- nothing else goes by it
-- an outcome after which the manager does not listen
abbrev pub hushed : Outcome → Outcome
hushed o = record { answer = o.answer; manager = with_listening o.manager false; count = o.count; mode = o.mode; place = o.place }

module _ (m : Manager) where
  abbrev deaf : Manager
  deaf = with_listening m false

  gate_hushed : (gate : Answer) (o o' : Outcome) → o ≡ hushed o' → by_gate deaf gate o ≡ hushed (by_gate m gate o')
  gate_hushed (Err a) o o' e = refl
  gate_hushed (Ok done) o o' e = e

  named_hushed : (id : Id) (sight : Sight) → named deaf id sight ≡ hushed (named m id sight)
  unfolding named slot_of slot_outcome settled
  named_hushed id sight = by_slot_of (slot_of m id)
    where
      by_slot_of : (slot : Result ℕ CallRefusal) → by_slot deaf slot (λ i. slot_outcome deaf i sight) ≡ hushed (by_slot m slot (λ i. slot_outcome m i sight))
      by_slot_of (Err a) = refl
      by_slot_of (Ok i) = gate_hushed (answer_of (part_of (network_at m i) (state_at m i) sight).reply) _ _ refl

  read_hushed : (bytes : List ℕ) → read_into deaf bytes ≡ hushed (read_into m bytes)
  unfolding read_into
  read_hushed bytes = by_verdict (decode bytes).answer
    where
      by_verdict : (v : Result Unit Fault) → after_reading deaf (decode bytes) v ≡ hushed (after_reading m (decode bytes) v)
      by_verdict (Ok done) = refl
      by_verdict (Err fault) = refl

  write_hushed : (room : ℕ) → writing_of deaf room ≡ hushed (writing_of m room)
  unfolding writing_of
  write_hushed room = by_room (leb (length (encode (settings_of m))) room)
    where
      by_room : (fits : Bool) → cond fits (accepted deaf (length (encode (settings_of m)))) (refused deaf CallRefusal.TooShort)
          ≡ hushed (cond fits (accepted m (length (encode (settings_of m)))) (refused m CallRefusal.TooShort))
      by_room true = refl
      by_room false = refl

  by_stage_lem : (g : Stage) (a b c a' b' c' : Outcome) → a ≡ hushed a' → b ≡ hushed b' → c ≡ hushed c' → by_stage g a b c ≡ hushed (by_stage g a' b' c')
  by_stage_lem Stage.Empty a b c a' b' c' p q r = p
  by_stage_lem Stage.Loaded a b c a' b' c' p q r = q
  by_stage_lem Stage.Started a b c a' b' c' p q r = r

  poll_hushed : (slot : Result ℕ CallRefusal) → by_slot deaf slot (λ i. polled deaf (state_at m i).told) ≡ hushed (by_slot m slot (λ i. polled m (state_at m i).told))
  poll_hushed (Err a) = refl
  poll_hushed (Ok i) = refl

  -- a value that is refused, or a gate that is shut: the only ways in which a call to listen leaves it
  listen_hushed : (value : ℕ) (gate : Answer) (above : Bool)
      → switch_of (answer_number (by_gate m gate (cond above (refused m CallRefusal.OutOfRange) (listened m (eqb 1 value)))).answer) (listen value 0) ≡ leaves
      → by_gate deaf gate (cond above (refused deaf CallRefusal.OutOfRange) (listened deaf (eqb 1 value)))
      ≡ hushed (by_gate m gate (cond above (refused m CallRefusal.OutOfRange) (listened m (eqb 1 value))))
  unfolding listened
  listen_hushed value (Err a) above e = refl
  listen_hushed value (Ok done) true e = refl
  listen_hushed value (Ok done) false e = absurd cc

  -- of a call that leaves it as it was
  pub call_hushed : (c : Call) → switch_of (entry_of m c).number c ≡ leaves → outcome deaf c ≡ hushed (outcome m c)
  unfolding outcome slot_of gate_of all_ticked tick_needs listen_needs
  call_hushed c = by_kind c (kind_of c)
    where
      by_kind : (c : Call) → Kind c → switch_of (entry_of m c).number c ≡ leaves → outcome deaf c ≡ hushed (outcome m c)
      by_kind _ (names_id c id sight k) e = k.gives deaf ∙ named_hushed id sight ∙ ap hushed (sym (k.gives m))
      by_kind _ (reports_trouble c room id trouble k) e =
          k.gives deaf ∙ gate_hushed (gate_of m room (trouble_needs trouble)) _ _ (named_hushed id (sight_of trouble)) ∙ ap hushed (sym (k.gives m))
      by_kind _ (is_poll handle) e = poll_hushed (slot_of m (Id.OfNetwork handle))
      by_kind _ (is_read bytes) e = by_stage_lem m.stage _ _ _ _ _ _ (read_hushed bytes) (read_hushed bytes) refl
      by_kind _ (is_write room) e = by_stage_lem m.stage _ _ _ _ _ _ refl (write_hushed room) (write_hushed room)
      by_kind _ is_start e = by_stage_lem m.stage _ _ _ _ _ _ refl refl refl
      by_kind _ (is_tick room) e = gate_hushed (gate_of m room (tick_needs m)) _ _ refl
      by_kind _ (is_listen value room) e = listen_hushed value (gate_of m room (listen_needs m)) (ltb 1 value) e

  -- a call to listen whose records are not looked at: it is refused
  listen_made : (value : ℕ) (gate : Answer) (above : Bool)
      → switch_of (answer_number (by_gate m gate (cond above (refused m CallRefusal.OutOfRange) (listened m (eqb 1 value)))).answer) (listen value 0) ≡ leaves
      → gate_records gate (cond above [] (online_anew deaf (eqb 1 value))) ≡ gate_records gate (cond above [] (online_anew m (eqb 1 value)))
  unfolding listened
  listen_made value (Err a) above e = refl
  listen_made value (Ok done) true e = refl
  listen_made value (Ok done) false e = absurd cc

  slot_made : (slot : Result ℕ CallRefusal) (sight : Sight) → slot_records deaf slot sight ≡ slot_records m slot sight
  slot_made (Err a) sight = refl
  slot_made (Ok i) sight = refl

  call_made : (c : Call) → switch_of (entry_of m c).number c ≡ leaves → by_rules deaf c ≡ by_rules m c
  unfolding outcome by_rules slot_of gate_of tick_needs listen_needs
  call_made c = by_kind c (kind_of c)
    where
      by_kind : (c : Call) → Kind c → switch_of (entry_of m c).number c ≡ leaves → by_rules deaf c ≡ by_rules m c
      by_kind _ (names_id c id sight k) e = k.makes deaf ∙ sym (k.makes m)
      by_kind _ (reports_trouble c room id trouble k) e =
          k.makes deaf ∙ ap (gate_records (gate_of m room (trouble_needs trouble))) (slot_made (slot_of m id) (sight_of trouble)) ∙ sym (k.makes m)
      by_kind _ (is_poll handle) e = refl
      by_kind _ (is_read bytes) e = refl
      by_kind _ (is_write room) e = refl
      by_kind _ is_start e = refl
      by_kind _ (is_tick room) e = refl
      by_kind _ (is_listen value room) e = listen_made value (gate_of m room (listen_needs m)) (ltb 1 value) e

  -- so its entry is the same, with argument 2 of kind 3 read as online
  pub entry_hushed : (c : Call) → switch_of (entry_of m c).number c ≡ leaves
      → entry_of deaf c ≡ (let e : Entry = record {
        call = c;
        number = (entry_of m c).number;
        mode = (entry_of m c).mode;
        records = map unturned (handed_out m c);
      } in e)
  unfolding handed_out
  entry_hushed c e =
      let same = call_hushed c e in
      let made : map (turned (outcome deaf c).manager.listening) (by_rules deaf c) ≡ map unturned (handed_out m c) =
      ap (λ (o : Outcome). map (turned o.manager.listening) (by_rules deaf c)) same ∙ turned_none (by_rules deaf c) ∙ call_made c e ∙ sym (call_plain m c) in
      λ i. record { call = c; number = answer_number (same i).answer; mode = (same i).mode; records = made i }
