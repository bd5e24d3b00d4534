-- R2, R3, N16, L4: a refused call changes no record and no lent byte, a call that names an id changes the record of one network at most, and a call to
-- listen that of none.
use Rattle.lists.proofs.Basics.{ℕ, ◌≡◌, refl, sym, ap, ◌∙◌, List, map, Bool, true, false, true≢false, cond, leb, ltb, eqb, length, get_or-set_other}
use Rattle.std.specs.Prelude.{Ok, Err}
use Rattle.slots.specs.declared.CallRefusal.{CallRefusal}
use Rattle.records.specs.declared.Record.{Record}
use Rattle.records.specs.Records.{turned, bytes}
use Rattle.settings.specs.declared.Id.{Id}
use Rattle.sheet.specs.Encode.{encode}
use Rattle.sheet.specs.Writing.{buffer_after}
use Rattle.network.specs.Parts.{Sight}
use Rattle.slots.specs.declared.Stage.{Stage}
use Rattle.slots.specs.declared.Manager.{Manager}
use Rattle.slots.specs.declared.Outcome.{Outcome}
use Rattle.slots.specs.Manager.{Answer, answer_number, settings_of, blank_state, refused}
use Rattle.slots.specs.Calls.{Call, listen, by_stage, slot_of, writing_of, gate_of, by_gate, all_ticked, listened, by_value, outcome, by_rules, handed_out}
use Rattle.slots.specs.Calls.{buffer_with, written_into, Gives, Writes}
use Rattle.calls.specs.Histories.{is_accepted, entry_of, to, address_of}
use Rattle.calls.proofs.ByCall.{by_call}
use Rattle.slots.specs.Manager.{listen_needs}
use Rattle.manager_theorems.specs.Careful.{Careful, LeavesOthers, OnlyListens}

module _ (m : Manager) where
  rules_careful : (c : Call) → Careful m (outcome m c) (by_rules m c)
  unfolding all_ticked listened
  rules_careful = by_call m (λ c. Careful m) (record {
    refuses = λ c a r f e. record { manager = refl; count = refl; mode = refl; records = refl };
    declines = λ c id sight i a n f d r e. record { manager = refl; count = refl; mode = refl; records = refl };
    takes = λ c id sight i n f t k e. absurd (true≢false e);
    ticks = λ room s k e. absurd (true≢false e);
    listens = λ value room s k a e. absurd (true≢false e);
    polls = λ handle i f e. absurd (true≢false e);
    reads = λ bytes f a e. absurd (true≢false e);
    misreads = λ bytes fault f e. record { manager = refl; count = refl; mode = refl; records = refl };
    writes = λ room f e. absurd (true≢false e);
    starts = λ s e. absurd (true≢false e);
  })

  -- a refused call changes nothing and hands out nothing
  pub refused_changes_nothing : (c : Call) → Careful m (outcome m c) (handed_out m c)
  unfolding handed_out
  refused_changes_nothing c e =
      let r = rules_careful c e in
      record {
        manager = r.manager;
        count = r.count;
        mode = r.mode;
        records = ap (map (turned (outcome m c).manager.listening)) r.records;
      }

  -- nor a byte of its lent buffer
  pub refused_untouched : (c : Call) (b : List ℕ) (r : Outcome) (after : List ℕ) → Gives m c b r after → is_accepted r.answer ≡ false → after ≡ b
  unfolding buffer_with bytes
  refused_untouched c b r after g e =
      let none = (refused_changes_nothing c (ap (λ (o : Outcome). is_accepted o.answer) (sym g.result) ∙ e)).records in
      g.buffer ∙ ap (buffer_with b) none

  pub refused_unwritten : (b : List ℕ) (r : Outcome) (after : List ℕ) → Writes m b r after → is_accepted r.answer ≡ false → after ≡ b
  unfolding outcome written_into writing_of buffer_after
  refused_unwritten b r after w e = w.buffer ∙ by_stage_lem m.stage (ap (λ (o : Outcome). is_accepted o.answer) (sym w.result) ∙ e)
    where
      by_room : (fits : Bool) → leb (length (encode (settings_of m))) (length b) ≡ fits →
          is_accepted (writing_of m (length b)).answer ≡ false → buffer_after (settings_of m) b ≡ b
      by_room true f e = absurd (true≢false (rw f at e))
      by_room false f e = rw f refl

      by_stage_lem : (g : Stage) → is_accepted (by_stage g (refused m CallRefusal.NotReady) (writing_of m (length b)) (writing_of m (length b))).answer ≡ false
          → by_stage g b (buffer_after (settings_of m) b) (buffer_after (settings_of m) b) ≡ b
      by_stage_lem Stage.Empty e = refl
      by_stage_lem Stage.Loaded e = by_room _ refl e
      by_stage_lem Stage.Started e = by_room _ refl e

  -- whom a call names goes by the number of its answer
  abbrev NamedLeaves : Call → Outcome → List Record → Type 0
  NamedLeaves c o rs = (id : Id) (sight : Sight) → address_of (answer_number o.answer) c ≡ to id sight → LeavesOthers m (slot_of m id) o

  -- a call that names an id leaves all slots alone but the one that it names
  pub leaves_others : (c : Call) (id : Id) (sight : Sight) →
      address_of (entry_of m c).number c ≡ to id sight → LeavesOthers m (slot_of m id) (outcome m c)
  unfolding all_ticked
  leaves_others = by_call m NamedLeaves (record {
    refuses = λ c a r f id sight e. record { networks = refl; count = refl; others = λ j n. refl };
    declines = λ c id sight i a n f d r id' sight' e. record { networks = refl; count = refl; others = λ j n. refl };
    takes = λ c id sight i n f t k id' sight' e. record {
      networks = refl;
      count = refl;
      others = λ j apart. get_or-set_other m.states i j _ blank_state (λ same. apart (stored c id sight id' sight' i j n e f.slot same));
    };
    ticks = λ room s k id sight e. absurd cc;
    listens = λ value room s k a id sight e. absurd cc;
    polls = λ handle i f id sight e. absurd cc;
    reads = λ bytes f a id sight e. absurd cc;
    misreads = λ bytes fault f id sight e. absurd cc;
    writes = λ room f id sight e. absurd cc;
    starts = λ s id sight e. absurd cc;
  })
    where
      stored : (c : Call) (id : Id) (sight : Sight) (id' : Id) (sight' : Sight) (i j : ℕ) →
          address_of 0 c ≡ to id sight → address_of 0 c ≡ to id' sight' → slot_of m id ≡ Ok i → j ≡ i → slot_of m id' ≡ Ok j
      stored c id sight id' sight' i j p q s same = let z : id ≡ id' = cc in ap (slot_of m) (sym z) ∙ s ∙ ap Ok (sym same)

  -- a call to listen changes no network's record, whatever it is answered
  pub only_listens : (value room : ℕ) → OnlyListens m (outcome m (listen value room))
  unfolding outcome listened
  only_listens value room = by_gate_lem (gate_of m room (listen_needs m))
    where
      by_value_lem : (above : Bool) → OnlyListens m (cond above (refused m CallRefusal.OutOfRange) (listened m (eqb 1 value)))
      by_value_lem true = record { stage = refl; settings = refl; states = refl }
      by_value_lem false = record { stage = refl; settings = refl; states = refl }

      by_gate_lem : (gate : Answer) → OnlyListens m (by_gate m gate (by_value value (refused m CallRefusal.OutOfRange) (listened m)))
      by_gate_lem (Err answer) = record { stage = refl; settings = refl; states = refl }
      by_gate_lem (Ok done) = by_value_lem (ltb 1 value)
