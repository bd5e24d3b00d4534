-- A call of the manager, taken apart once: by the stage, by the slot that its id names, and by what the network makes of it. Whatever holds of each
-- of these cases holds of every call.
use Rattle.std.specs.Prelude.{Some, None, Result, Ok, Err}
use Rattle.lists.proofs.Basics.{ℕ, zero, suc, ◌*◌, ◌<◌, ◌≤◌, arith, ltb-false, ◌≡◌, refl, sym, ap, subst, ◌∙◌, List, [], ◌∷◌, Bool, true, false}
use Rattle.lists.proofs.Basics.{cond, true≢false, ◌||◌, ◌&&◌, eqb, leb, ltb, length, get_or}
use Rattle.std.specs.Prelude.{Ok, Err, Result, None, Some, Option}
use Rattle.lists.specs.Lists.{any, first}
use Rattle.lists.proofs.Any.{first_below, first_passes}
use Rattle.records.specs.declared.Record.{Record}
use Rattle.settings.specs.declared.Network.{Network}
use Rattle.settings.specs.declared.Id.{Id}
use Rattle.settings.specs.Settings.{blank_network, member, has, holder_of}
use Rattle.entries.specs.declared.Fault.{Fault}
use Rattle.sheet.specs.Reading.{decode}
use Rattle.sheet.specs.Encode.{encode}
use Rattle.network.specs.declared.Hit.{Hit}
use Rattle.network.specs.declared.Part.{Part}
use Rattle.network.specs.declared.Refusal.{Refusal}
use Rattle.network.specs.declared.Report.{Report}
use Rattle.network.specs.declared.State.{State}
use Rattle.network.specs.declared.Trouble.{Trouble}
use Rattle.network.specs.Replies.{reply_number, is_taken}
use Rattle.network.specs.Moving.{tick_records}
use Rattle.network.specs.Parts.{Sight, an_answer, a_request, a_report, nothing, sight_of, out_of_range_part, report_part, hit_part, part_of, records_of}
use Rattle.lists.proofs.Tests.{split}
use Rattle.network_theorems.proofs.Parts.{by_request, by_report, by_answer, refused_stays}
use Rattle.slots.specs.declared.Stage.{Stage}
use Rattle.slots.specs.declared.CallRefusal.{CallRefusal}
use Rattle.slots.specs.declared.Manager.{Manager}
use Rattle.slots.specs.declared.Outcome.{Outcome}
use Rattle.slots.specs.Manager.{Answer, call_refusal_number, answer_number, networks_of, settings_of, network_at, state_at, with_state, refused, accepted, gathered, tick_needs, listen_needs}
use Rattle.slots.specs.Calls.{Call, read, write, start, request, poll, bus_off, stall, answer, transceiver_mode, clear_done, check_done, tick, listen, by_stage}
use Rattle.slots.specs.Calls.{after_reading, read_into, writing_of, started_from, unknown, slot_at, slot_of, by_slot, answer_of, slot_outcome}
use Rattle.slots.specs.Calls.{named, slot_records, polled, gate_of, by_gate, gate_records, trouble_needs, all_ticked, online_anew, listened, outcome, by_rules}
use Rattle.slots.proofs.Own.{declined_answer, slot_takes, slot_declines, slot_network}
use Rattle.lent_calls.proofs.Ticks.{hit_fits, trouble_part, trouble_records}
use Rattle.calls.specs.Histories.{is_accepted, to, to_nobody, address_of, seen_as, refusals_of, room_of}

-- ---- which network has an id
-- nobody has the id: no network of the list does
none_has : (id : Id) (l : List Network) (i : ℕ) (d : Network) → any (has id) l ≡ false → i < length l → has id (get_or l i d) ≡ false
unfolding any
none_has id [] i d e h = absurd (omega arith)
none_has id (n ∷ l) i d e h = by_test (has id n) refl e i h (λ j f k. none_has id l j d f k)
  where
    by_test : (b : Bool) → has id n ≡ b → b || any (has id) l ≡ false → (i : ℕ) → i < suc (length l)
        → ((j : ℕ) → any (has id) l ≡ false → j < length l → has id (get_or l j d) ≡ false) → has id (get_or (n ∷ l) i d) ≡ false
    by_test true p f i h later = absurd (true≢false f)
    by_test false p f zero h later = p
    by_test false p f (suc i) h later = later i f (omega arith)

-- the slot of the network that has an id: it is in use, and its network has the id
pub record Found (m : Manager) (id : Id) (i : ℕ) : Type 0 where
  pub started : m.stage ≡ Stage.Started
  pub slot : slot_of m id ≡ Ok i
  pub used : i < length (networks_of m)
  pub has : has id (network_at m i) ≡ true

module _ (m : Manager) (id : Id) (Q : Result ℕ CallRefusal → Type 0)
    (unready : (m.stage ≡ Stage.Started → ⊥) → Q (Err CallRefusal.NotReady))
    (nobody : ((i : ℕ) → i < length (networks_of m) → has id (network_at m i) ≡ false) → Q (Err (unknown id)))
    (found : (i : ℕ) → Found m id i → Q (Ok i)) where
  by_holder : (b : Bool) → any (has id) (networks_of m) ≡ b → m.stage ≡ Stage.Started
      → slot_of m id ≡ slot_at id (cond b (Some (first (has id) (networks_of m))) None)
      → Q (slot_at id (cond b (Some (first (has id) (networks_of m))) None))
  by_holder true e s f =
      let i = first (has id) (networks_of m) in
      let used : i < length (networks_of m) = first_below (has id) (networks_of m) e in
      found i (record {
        started = s;
        slot = f;
        used = used;
        has = subst (λ (n : Network). has id n ≡ true) (slot_network m i used) (first_passes (has id) (networks_of m) blank_network e);
      })
  by_holder false e s f =
      nobody (λ i h. subst (λ (n : Network). has id n ≡ false) (slot_network m i h) (none_has id (networks_of m) i blank_network e h))

  by_stage_lem : (g : Stage) →
      m.stage ≡ g → Q (by_stage g (Err CallRefusal.NotReady) (Err CallRefusal.NotReady) (slot_at id (holder_of id (networks_of m))))
  unfolding slot_of holder_of
  by_stage_lem Stage.Empty e = unready (λ f. cc)
  by_stage_lem Stage.Loaded e = unready (λ f. cc)
  by_stage_lem Stage.Started e = by_holder (any (has id) (networks_of m)) refl e (rw e refl)

  -- before the start no slot is found; after it nobody has the id, or the first network that has it is found
  pub by_slot_lem : Q (slot_of m id)
  unfolding slot_of
  by_slot_lem = by_stage_lem m.stage refl

-- ---- the cases
-- a refusal that can be the answer to the call
pub record CanRefuse (c : Call) (a : Answer) : Type 0 where
  pub refused : is_accepted a ≡ false
  pub among : member (answer_number a) (refusals_of c) ≡ true

-- R1: the number of a network's reply is that of the manager's answer
pub answer_number_lem : (reply : Result Unit Refusal) → answer_number (answer_of reply) ≡ reply_number reply
answer_number_lem (Ok done) = refl
answer_number_lem (Err refusal) = refl

-- a network's part is a refusal, and this is the manager's answer for it
pub record Declines (part : Part) (a : Answer) : Type 0 where
  pub refused : is_taken part.reply ≡ false
  pub answer : a ≡ answer_of part.reply

-- P call outcome records, for each way in which a call can end
pub record ByCall (m : Manager) (P : Call → Outcome → List Record → Type 0) : Type 0 where
  -- it is refused before any network is asked: on a started manager none sees it
  pub refuses : (c : Call) (a : CallRefusal) → CanRefuse c (Err a) →
      (m.stage ≡ Stage.Started → (i : ℕ) → i < length (networks_of m) → seen_as (network_at m i) (address_of (call_refusal_number a) c) ≡ nothing)
      → P c (refused m a) []
  -- the network that it names refuses it
  pub declines : (c : Call) (id : Id) (sight : Sight) (i : ℕ) (a : CallRefusal) → address_of (call_refusal_number a) c ≡ to id sight → Found m id i
      → Declines (part_of (network_at m i) (state_at m i) sight) (Err a) → CanRefuse c (Err a) → P c (refused m a) []
  -- the network that it names takes it
  pub takes : (c : Call) (id : Id) (sight : Sight) (i : ℕ) → address_of 0 c ≡ to id sight → Found m id i
      → is_taken (part_of (network_at m i) (state_at m i) sight).reply ≡ true
      → 3 * length (records_of (network_at m i) (state_at m i) sight) ≤ room_of c
      → P c (accepted (with_state m i (part_of (network_at m i) (state_at m i) sight).state) (length (records_of (network_at m i) (state_at m i) sight)))
      (records_of (network_at m i) (state_at m i) sight)
  pub ticks : (room : ℕ) →
      m.stage ≡ Stage.Started → ltb room (tick_needs m) ≡ false → P (tick room) (all_ticked m) (gathered tick_records (networks_of m) m.states)
  pub listens : (value room : ℕ) → m.stage ≡ Stage.Started → ltb room (listen_needs m) ≡ false → ltb 1 value ≡ false
      → P (listen value room) (listened m (eqb 1 value)) (online_anew m (eqb 1 value))
  pub polls : (handle i : ℕ) → Found m (Id.OfNetwork handle) i → P (poll handle) (polled m (state_at m i).told) []
  pub reads : (bytes : List ℕ) → (m.stage ≡ Stage.Started → ⊥) → (decode bytes).answer ≡ Ok tt
      → P (read bytes) (after_reading m (decode bytes) (Ok tt)) []
  pub misreads : (bytes : List ℕ) (fault : Fault) →
      (m.stage ≡ Stage.Started → ⊥) → P (read bytes) (after_reading m (decode bytes) (Err fault)) []
  pub writes : (room : ℕ) → (m.stage ≡ Stage.Empty → ⊥) → P (write room) (accepted m (length (encode (settings_of m)))) []
  pub starts : m.stage ≡ Stage.Loaded → P start (accepted (started_from m) 0) []

module _ (m : Manager) (P : Call → Outcome → List Record → Type 0) (by : ByCall m P) where
  -- ---- a call that names an id
  -- its refusals: 01, the one for an unknown id, and those of the network
  record Refusals (c : Call) (id : Id) (sight : Sight) : Type 0 where
    names : (number : ℕ) → address_of number c ≡ to id sight
    unready : CanRefuse c (Err CallRefusal.NotReady)
    nobody : CanRefuse c (Err (unknown id))
    declined : (i : ℕ) → is_taken (part_of (network_at m i) (state_at m i) sight).reply ≡ false
        → CanRefuse c (answer_of (part_of (network_at m i) (state_at m i) sight).reply)
    fits : (i : ℕ) → 3 * length (records_of (network_at m i) (state_at m i) sight) ≤ room_of c

  at_slot : (c : Call) (id : Id) (sight : Sight) → Refusals c id sight → (i : ℕ) → Found m id i
      → P c (slot_outcome m i sight) (records_of (network_at m i) (state_at m i) sight)
  at_slot c id sight r i f = by_reply_lem (is_taken (part_of (network_at m i) (state_at m i) sight).reply) refl
    where
      by_reply_lem : (taken : Bool) → is_taken (part_of (network_at m i) (state_at m i) sight).reply ≡ taken
          → P c (slot_outcome m i sight) (records_of (network_at m i) (state_at m i) sight)
      by_reply_lem true e =
          subst (λ (o : Outcome). P c o (records_of (network_at m i) (state_at m i) sight)) (sym (slot_takes m i sight e))
          (by.takes c id sight i (r.names 0) f e (r.fits i))
      by_reply_lem false e =
          let d = declined_answer (part_of (network_at m i) (state_at m i) sight).reply e in
          subst (λ (o : Outcome). P c o (records_of (network_at m i) (state_at m i) sight)) (sym (slot_declines m i sight d.0 d.1))
          (subst (P c (refused m d.0)) (sym (refused_stays (network_at m i) (state_at m i) sight e).1)
          (by.declines c id sight i d.0 (r.names _) f (record { refused = e; answer = sym d.1 }) (subst (CanRefuse c) d.1 (r.declined i e))))

  by_named_lem : (c : Call) (id : Id) (sight : Sight) → Refusals c id sight → P c (named m id sight) (slot_records m (slot_of m id) sight)
  unfolding named
  by_named_lem c id sight r =
      by_slot_lem m id (λ slot. P c (by_slot m slot (λ i. slot_outcome m i sight)) (slot_records m slot sight))
      (λ f. by.refuses c CallRefusal.NotReady r.unready (λ s. absurd (f s))) (λ f. by.refuses c (unknown id)
      r.nobody (λ s i h. ap (seen_as (network_at m i)) (r.names _) ∙ ap (λ (b : Bool). cond b sight nothing) (f i h))) (at_slot c id sight r)

  -- it hands out nothing, whatever the slot
  quiet : (c : Call) (id : Id) (sight : Sight) →
      Refusals c id sight → ((i : ℕ) → records_of (network_at m i) (state_at m i) sight ≡ []) → P c (named m id sight) []
  quiet c id sight r e = subst (P c (named m id sight)) (none (slot_of m id)) (by_named_lem c id sight r)
    where
      none : (slot : Result ℕ CallRefusal) → slot_records m slot sight ≡ []
      none (Err a) = refl
      none (Ok i) = e i

  -- ---- a call that is lent a buffer for records
  by_gate_lem : (c : Call) (room needs : ℕ) (o : Outcome) (rs : List Record) →
      CanRefuse c (Err CallRefusal.NotReady) → CanRefuse c (Err CallRefusal.TooShort) → (ltb room needs ≡ true → (n : Network) → seen_as n (address_of 0x20 c) ≡ nothing) →
      (m.stage ≡ Stage.Started → ltb room needs ≡ false → P c o rs) → P c (by_gate m (gate_of m room needs) o) (gate_records (gate_of m room needs) rs)
  unfolding gate_of
  by_gate_lem c room needs o rs unready short unseen p = at_stage m.stage refl
    where
      Through : Answer → Type 0
      Through gate = P c (by_gate m gate o) (gate_records gate rs)

      not_started : (m.stage ≡ Stage.Started → ⊥) → P c (refused m CallRefusal.NotReady) []
      not_started f = by.refuses c CallRefusal.NotReady unready (λ s. absurd (f s))

      at_stage : (g : Stage) → m.stage ≡ g → Through
          (by_stage g (Err CallRefusal.NotReady) (Err CallRefusal.NotReady) (cond (ltb room needs) (Err CallRefusal.TooShort) (Ok tt)))
      at_stage Stage.Empty e = not_started (λ f. cc)
      at_stage Stage.Loaded e = not_started (λ f. cc)
      at_stage Stage.Started e = split Through (ltb room needs)
          (λ t. by.refuses c CallRefusal.TooShort short (λ _ i h. unseen t (network_at m i))) (λ t. p e t)

  -- ---- the sheet and the start
  by_reading_lem : (bytes : List ℕ) → (m.stage ≡ Stage.Started → ⊥) → P (read bytes) (read_into m bytes) []
  unfolding read_into
  by_reading_lem bytes f = by_answer_of (decode bytes).answer refl
    where
      by_answer_of : (a : Result Unit Fault) → (decode bytes).answer ≡ a → P (read bytes) (after_reading m (decode bytes) a) []
      by_answer_of (Ok done) e = by.reads bytes f e
      by_answer_of (Err fault) e = by.misreads bytes fault f

  by_read : (bytes : List ℕ) (g : Stage) →
      m.stage ≡ g → P (read bytes) (by_stage g (read_into m bytes) (read_into m bytes) (refused m CallRefusal.Running)) []
  unfolding any
  by_read bytes Stage.Empty e = by_reading_lem bytes (λ f. cc)
  by_read bytes Stage.Loaded e = by_reading_lem bytes (λ f. cc)
  by_read bytes Stage.Started e = by.refuses (read bytes) CallRefusal.Running (record { refused = refl; among = refl }) (λ s i h. refl)

  by_writing : (room : ℕ) → (m.stage ≡ Stage.Empty → ⊥) → P (write room) (writing_of m room) []
  unfolding writing_of any
  by_writing room f = split (λ (o : Outcome). P (write room) o []) (leb (length (encode (settings_of m))) room) (λ e. by.writes room f)
      (λ e. by.refuses (write room) CallRefusal.TooShort (record { refused = refl; among = refl }) (λ s i h. refl))

  by_write : (room : ℕ) (g : Stage) → m.stage ≡ g → P (write room) (by_stage g (refused m CallRefusal.NotReady) (writing_of m room) (writing_of m room)) []
  unfolding any
  by_write room Stage.Empty e = by.refuses (write room) CallRefusal.NotReady (record { refused = refl; among = refl }) (λ s i h. refl)
  by_write room Stage.Loaded e = by_writing room (λ f. cc)
  by_write room Stage.Started e = by_writing room (λ f. cc)

  by_start : (g : Stage) → m.stage ≡ g → P start (by_stage g (refused m CallRefusal.NotReady) (accepted (started_from m) 0) (refused m CallRefusal.Running)) []
  unfolding any
  by_start Stage.Empty e = by.refuses start CallRefusal.NotReady (record { refused = refl; among = refl }) (λ s i h. refl)
  by_start Stage.Loaded e = by.starts e
  by_start Stage.Started e = by.refuses start CallRefusal.Running (record { refused = refl; among = refl }) (λ s i h. refl)

  -- ---- the replies of a network
  -- 21, for what is out of range
  abbrev outside : Answer
  outside = Err (CallRefusal.Network Refusal.OutOfRange)

  -- 22, for what the step does not take
  abbrev untaken : Answer
  untaken = Err (CallRefusal.Network Refusal.NotTaken)

  abbrev Declined : Call → Part → Type 0
  Declined c part = is_taken part.reply ≡ false → CanRefuse c (answer_of part.reply)

  request_declined : (handle mode i : ℕ) → Declined (request handle mode) (part_of (network_at m i) (state_at m i) (a_request mode))
  unfolding part_of any
  request_declined handle mode i = by_request (state_at m i) (Declined (request handle mode)) mode (λ _ _ _ e. absurd (true≢false e))
      (λ _. record { refused = refl; among = refl }) (λ _. record { refused = refl; among = refl })
      (λ _. record { refused = refl; among = refl }) (λ _. record { refused = refl; among = refl })

  answer_declined : (c mode ok i : ℕ) → Declined (answer c mode ok) (part_of (network_at m i) (state_at m i) (an_answer c mode ok))
  unfolding part_of any
  answer_declined c mode ok i =
      by_answer (state_at m i) (Declined (answer c mode ok)) (network_at m i) c mode ok (λ _ _ e. absurd (true≢false e)) (λ _
      _. record { refused = refl; among = refl }) (λ _ _. record { refused = refl; among = refl }) (λ _ _. record { refused = refl; among = refl })

  report_declined : (c : Call) (report : Report) → (out_of_range_part report ≡ true → CanRefuse c outside) → CanRefuse c untaken → (i : ℕ)
      → Declined c (part_of (network_at m i) (state_at m i) (a_report report))
  unfolding part_of report_part
  report_declined c report out not i = by_report (state_at m i) (Declined c) report _ (λ _ e. absurd (true≢false e)) (λ e _. out e) (λ _ _. not)

  hit_declined : (c : Call) (s : State) → CanRefuse c untaken → (hit : Option Hit) → Declined c (hit_part s hit)
  unfolding hit_part
  hit_declined c s not (Some Hit.Recover) e = absurd (true≢false e)
  hit_declined c s not (Some Hit.Restart) e = absurd (true≢false e)
  hit_declined c s not (Some Hit.Reset) e = absurd (true≢false e)
  hit_declined c s not None e = not

  -- ---- a call by which trouble is reported: it names an id, and is lent a buffer
  record Reports (c : Call) (room : ℕ) (id : Id) (trouble : Trouble) : Type 0 where
    names : (number : ℕ) →
        address_of number c ≡ cond (ltb room (trouble_needs trouble) && eqb 0x20 number) to_nobody (to id (sight_of trouble))
    lent : room_of c ≡ room
    unready : CanRefuse c (Err CallRefusal.NotReady)
    short : CanRefuse c (Err CallRefusal.TooShort)
    nobody : CanRefuse c (Err (unknown id))
    not : CanRefuse c untaken

  by_trouble : (c : Call) (room : ℕ) (id : Id) (trouble : Trouble) → Reports c room id trouble
      → P c (by_gate m (gate_of m room (trouble_needs trouble)) (named m id (sight_of trouble)))
      (gate_records (gate_of m room (trouble_needs trouble)) (slot_records m (slot_of m id) (sight_of trouble)))
  by_trouble c room id trouble r =
      by_gate_lem c room (trouble_needs trouble) _ _ r.unready r.short (λ e n. ap (seen_as n) (r.names 0x20) ∙ rw e refl)
      (λ s e. by_named_lem c id (sight_of trouble) (record {
        names = λ number. r.names number ∙ rw e refl;
        unready = r.unready;
        nobody = r.nobody;
        declined = λ i. subst (Declined c) (trouble_part (network_at m i) (state_at m i) trouble) (hit_declined c (state_at m i) r.not _);
        fits = λ i. fits e (network_at m i) (state_at m i);
      }))
    where
      fits : ltb room (trouble_needs trouble) ≡ false → (n : Network) (s : State) → 3 * length (records_of n s (sight_of trouble)) ≤ room_of c
      fits e n s =
          let h : 3 * length (records_of n s (sight_of trouble)) ≤ trouble_needs trouble =
          subst (λ (rs : List Record). 3 * length rs ≤ trouble_needs trouble) (trouble_records n s trouble) (hit_fits n trouble s.step) in
          omega (arith, h, r.lent, ltb-false room (trouble_needs trouble) e)

  -- ---- all calls
  -- whatever holds of each case, with the records that the rules of the networks make, holds of every call
  pub by_call : (c : Call) → P c (outcome m c) (by_rules m c)
  unfolding outcome by_rules records_of any
  by_call (read bytes) = by_read bytes m.stage refl
  by_call (write room) = by_write room m.stage refl
  by_call start = by_start m.stage refl
  by_call (request handle mode) = quiet (request handle mode) (Id.OfNetwork handle) (a_request mode)
      (record {
        names = λ number. refl;
        unready = record { refused = refl; among = refl };
        nobody = record { refused = refl; among = refl };
        declined = request_declined handle mode;
        fits = λ i. omega arith;
      })
      (λ i. refl)
  by_call (poll handle) = by_slot_lem m (Id.OfNetwork handle) (λ slot. P (poll handle) (by_slot m slot (λ i. polled m (state_at m i).told)) [])
      (λ f. by.refuses (poll handle) CallRefusal.NotReady (record { refused = refl; among = refl }) (λ s i h. refl))
      (λ f. by.refuses (poll handle) CallRefusal.NoHandle (record { refused = refl; among = refl }) (λ s i h. refl))
      (λ i f. by.polls handle i f)
  by_call (bus_off c room) = by_trouble (bus_off c room) room (Id.OfController c) Trouble.BusOff (record {
    names = λ number. refl;
    lent = refl;
    unready = record { refused = refl; among = refl };
    short = record { refused = refl; among = refl };
    nobody = record { refused = refl; among = refl };
    not = record { refused = refl; among = refl };
  })
  by_call (stall handle room) = by_trouble (stall handle room) room (Id.OfNetwork handle) Trouble.Stall (record {
    names = λ number. refl;
    lent = refl;
    unready = record { refused = refl; among = refl };
    short = record { refused = refl; among = refl };
    nobody = record { refused = refl; among = refl };
    not = record { refused = refl; among = refl };
  })
  by_call (answer c mode ok) = quiet (answer c mode ok) (Id.OfController c) (an_answer c mode ok)
      (record {
        names = λ number. refl;
        unready = record { refused = refl; among = refl };
        nobody = record { refused = refl; among = refl };
        declined = answer_declined c mode ok;
        fits = λ i. omega arith;
      })
      (λ i. refl)
  by_call (transceiver_mode t mode) = quiet (transceiver_mode t mode) (Id.OfTransceiver t) (a_report (Report.Transceiver mode))
      (record {
        names = λ number. refl;
        unready = record { refused = refl; among = refl };
        nobody = record { refused = refl; among = refl };
        declined = report_declined (transceiver_mode t mode)
            (Report.Transceiver mode) (λ _. record { refused = refl; among = refl }) (record { refused = refl; among = refl });
        fits = λ i. omega arith;
      })
      (λ i. refl)
  by_call (clear_done t) = quiet (clear_done t) (Id.OfTransceiver t) (a_report Report.Cleared)
      (record {
        names = λ number. refl;
        unready = record { refused = refl; among = refl };
        nobody = record { refused = refl; among = refl };
        declined = report_declined (clear_done t) Report.Cleared (λ e. absurd (true≢false (sym e))) (record { refused = refl; among = refl });
        fits = λ i. omega arith;
      })
      (λ i. refl)
  by_call (check_done t) = quiet (check_done t) (Id.OfTransceiver t) (a_report Report.Checked)
      (record {
        names = λ number. refl;
        unready = record { refused = refl; among = refl };
        nobody = record { refused = refl; among = refl };
        declined = report_declined (check_done t) Report.Checked (λ e. absurd (true≢false (sym e))) (record { refused = refl; among = refl });
        fits = λ i. omega arith;
      })
      (λ i. refl)
  by_call (tick room) =
      by_gate_lem (tick room) room
      (tick_needs m) _ _ (record { refused = refl; among = refl }) (record { refused = refl; among = refl }) (λ e n. refl) (λ s e. by.ticks room s e)
  by_call (listen value room) =
      by_gate_lem (listen value room) room (listen_needs m) _ _ (record { refused = refl; among = refl }) (record { refused = refl; among = refl })
      (λ e n. refl) (λ s e. by_value_lem s e (ltb 1 value) refl)
    where
      by_value_lem : m.stage ≡ Stage.Started → ltb room (listen_needs m) ≡ false → (above : Bool) → ltb 1 value ≡ above
          → P (listen value room) (cond above (refused m CallRefusal.OutOfRange) (listened m (eqb 1 value))) (cond above [] (online_anew m (eqb 1 value)))
      by_value_lem s e true a = by.refuses (listen value room) CallRefusal.OutOfRange (record { refused = refl; among = refl }) (λ _ i h. refl)
      by_value_lem s e false a = by.listens value room s e a
