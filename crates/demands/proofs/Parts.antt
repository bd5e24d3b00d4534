-- What a call of the manager makes of one network is the network's own part in it: its record after the call, its answer where the call concerns it,
-- and of what is handed out the records that name its ids.
use Rattle.lists.proofs.Basics.{ℕ, zero, suc, ◌<◌, arith, ◌≡◌, refl, sym, ap, subst, ◌∙◌, List, [], ◌∷◌, append-nil, Bool, true, false, cond}
use Rattle.lists.proofs.Basics.{map, eqb, true≢false, false≢true, length, get_or, set, get_or-set_same, get_or-set_other}
use Rattle.std.specs.Prelude.{None, Some, Option, Ok, Err}
use Rattle.lists.specs.Lists.{any, every}
use Rattle.lists.proofs.Any.{any_append_none, every_cons, every_append, every_weaken}
use Rattle.lists.proofs.Tests.{split}
use Rattle.records.specs.declared.Record.{Record}
use Rattle.records.specs.declared.PduMode.{PduMode}
use Rattle.records.specs.Records.{pdu_number, pdu_mode, is_online, turned}
use Rattle.settings.specs.declared.Network.{Network}
use Rattle.settings.specs.declared.Id.{Id}
use Rattle.settings.specs.Settings.{blank_network, controllers_of, has}
use Rattle.steps.specs.declared.Step.{Step}
use Rattle.steps.specs.Steps.{is_online_step}
use Rattle.handing.specs.declared.Round.{Round}
use Rattle.handing.specs.Handing.{round_record, online, recovery, reset, online_in, own_record}
use Rattle.network.specs.declared.State.{State}
use Rattle.network.specs.declared.Hit.{Hit}
use Rattle.network.specs.declared.Part.{Part}
use Rattle.network.specs.Rules.{is_done, move_of}
use Rattle.network.specs.Moving.{tick_state, tick_records}
use Rattle.network.specs.BusOff.{hit_of, stall_of, after_hit, hit_records}
use Rattle.network.specs.Replies.{reply_number, is_taken}
use Rattle.network.specs.Parts.{Sight, a_tick, a_bus_off, a_stall, an_answer, a_request, a_report, nothing, hit_reply, hit_part, part_of}
use Rattle.network.specs.Parts.{records_of}
use Rattle.network_theorems.proofs.Theorems.{tick_own}
use Rattle.network_theorems.proofs.Parts.{taken_number, refused_stays, part_own}
use Rattle.slots.specs.declared.Stage.{Stage}
use Rattle.slots.specs.declared.Manager.{Manager}
use Rattle.slots.specs.declared.Outcome.{Outcome}
use Rattle.slots.specs.Manager.{call_refusal_number, Answer, answer_number, networks_of, blank_state, network_at, state_at, gathered}
use Rattle.slots.specs.Calls.{Call, slot_of, all_ticked, changes, all_online, online_anew, listened, outcome, by_rules, handed_out}
use Rattle.calls.specs.Histories.{Address, to, address_of, seen_as, Switch, switch_of, entry_of}
use Rattle.slots.proofs.Own.{slot_network, slot_state, ticked_own}
use Rattle.calls.proofs.ByCall.{Found, by_slot_lem, answer_number_lem, Declines, by_call}
use Rattle.calls.proofs.ByKind.{address_names}
use Rattle.manager_theorems.specs.Careful.{Sound}
use Rattle.network_demands.proofs.Handed.{move_hands_none}
use Rattle.network_demands.specs.Own.{hit_after, played, handed, concerns, Fits}
use Rattle.demands.specs.View.{keep, is_turned, plainly, view_of}
use Rattle.demands.proofs.Plainly.{plainly_none, plain_again, online_left_out}
use Rattle.demands.proofs.Apart.{Once, has_once, own_once, keep_append, keep_all, keep_none}

-- ---- the box of the demands plays the network's own part
hit_is : (s : State) (hit : Option Hit) → hit_part s hit ≡ (let p : Part = record { reply = hit_reply hit; state = hit_after s hit } in p)
unfolding hit_part after_hit
hit_is s (Some Hit.Recover) = refl
hit_is s (Some Hit.Restart) = refl
hit_is s (Some Hit.Reset) = refl
hit_is s None = refl

played_is : (n : Network) (s : State) (sight : Sight) → part_of n s sight ≡ played n s sight
unfolding played part_of tick_state move_of is_done
played_is n s a_tick = refl
played_is n s a_bus_off = hit_is s (hit_of s.step)
played_is n s a_stall = hit_is s (stall_of s.step)
played_is n s (an_answer controller mode ok) = refl
played_is n s (a_request mode) = refl
played_is n s (a_report report) = refl
played_is n s nothing = refl

handed_is : (n : Network) (s : State) (sight : Sight) → records_of n s sight ≡ handed n s sight
unfolding handed records_of tick_records move_of is_done
handed_is n s a_tick = refl
handed_is n s a_bus_off = refl
handed_is n s a_stall = refl
handed_is n s (an_answer controller mode ok) = refl
handed_is n s (a_request mode) = refl
handed_is n s (a_report report) = refl
handed_is n s nothing = refl

-- ---- no rule of a network makes what only listening makes
pub tick_plain : (n : Network) (s : State) → any is_turned (tick_records n s) ≡ false
unfolding tick_records
tick_plain n s =
    move_hands_none n is_turned (λ id mode. refl) (λ id mode. refl) (λ id. pdus) (λ id. refl) (λ id. refl) (λ mode. refl) (λ notice. refl) refl
    s.step s.told (move_of n s)
  where
    pdus : (pdu : PduMode) → eqb 2 (pdu_number pdu) ≡ false
    pdus PduMode.Online = refl
    pdus PduMode.TxOffline = refl

hit_plain : (n : Network) (hit : Option Hit) → any is_turned (hit_records n hit) ≡ false
unfolding hit_records recovery reset any
hit_plain n (Some Hit.Recover) = refl
hit_plain n (Some Hit.Restart) = refl
hit_plain n (Some Hit.Reset) = refl
hit_plain n None = refl

pub part_plain : (n : Network) (s : State) (sight : Sight) → any is_turned (records_of n s sight) ≡ false
unfolding records_of any
part_plain n s a_tick = tick_plain n s
part_plain n s a_bus_off = hit_plain n (hit_of s.step)
part_plain n s a_stall = hit_plain n (stall_of s.step)
part_plain n s (an_answer controller mode ok) = refl
part_plain n s (a_request mode) = refl
part_plain n s (a_report report) = refl
part_plain n s nothing = refl

pub ticks_plain : (ns : List Network) (ss : List State) → any is_turned (gathered tick_records ns ss) ≡ false
unfolding gathered any
ticks_plain [] ss = refl
ticks_plain (n ∷ ns) [] = refl
ticks_plain (n ∷ ns) (s ∷ ss) = any_append_none is_turned (tick_records n s) (gathered tick_records ns ss) (tick_plain n s) (ticks_plain ns ss)

-- and a call to listen makes online alone
online_alone : (n : Network) (step : Step) → every is_online (online_in n step) ≡ true
unfolding online_in every any
online_alone n step = split (λ (rs : List Record). every is_online rs ≡ true) (is_online_step step) (λ _. each (controllers_of n)) (λ _. refl)
  where
    each : (ids : List ℕ) → every is_online (map (round_record (Round.Pdu online)) ids) ≡ true
    each [] = refl
    each (id ∷ ids) = every_cons is_online (pdu_mode id online) (map (round_record (Round.Pdu online)) ids) ∙ each ids

pub anew_online : (m : Manager) (listening : Bool) → every is_online (online_anew m listening) ≡ true
unfolding online_anew all_online gathered every any
anew_online m listening =
    split (λ (rs : List Record). every is_online rs ≡ true) (changes m.listening listening) (λ _. all (networks_of m) m.states) (λ _. refl)
  where
    all : (ns : List Network) (ss : List State) → every is_online (gathered (λ (n : Network) (s : State). online_in n s.step) ns ss) ≡ true
    all [] ss = refl
    all (n ∷ ns) [] = refl
    all (n ∷ ns) (s ∷ ss) = every_append is_online (online_in n s.step) _ ∙ rw (online_alone n s.step, all ns ss) refl

-- ---- of what all networks hand out, what a test keeps
module _ (f : Network → State → List Record) (own : (n : Network) (s : State) → every (own_record n) (f n s) ≡ true) where
  -- nothing, where no network's own record passes
  keep_foreign : (p : Record → Bool) (ns : List Network) (ss : List State) (d : Network)
      → ((j : ℕ) → j < length ns → (r : Record) → own_record (get_or ns j d) r ≡ true → p r ≡ false) → keep p (gathered f ns ss) ≡ []
  unfolding keep gathered
  keep_foreign p [] ss d g = refl
  keep_foreign p (n ∷ ns) [] d g = refl
  keep_foreign p (n ∷ ns) (s ∷ ss) d g =
      keep_append p (f n s) (gathered f ns ss)
      ∙ rw (keep_none p (own_record n) (g 0 (omega arith)) (f n s) (own n s), keep_foreign p ns ss d (λ j k. g (suc j) (omega arith))) refl

  -- one network's records, where only its own pass
  pub keep_one : (p : Record → Bool) (ns : List Network) (ss : List State) (i : ℕ) (d : Network) (e : State) → i < length ns → i < length ss
      → ((r : Record) → own_record (get_or ns i d) r ≡ true → p r ≡ true)
      → ((j : ℕ) → j < length ns → (i ≡ j → ⊥) → (r : Record) → own_record (get_or ns j d) r ≡ true → p r ≡ false)
      → keep p (gathered f ns ss) ≡ f (get_or ns i d) (get_or ss i e)
  unfolding keep gathered
  keep_one p [] ss i d e h k mine g = absurd (omega arith)
  keep_one p (n ∷ ns) [] i d e h k mine g = absurd (omega arith)
  keep_one p (n ∷ ns) (s ∷ ss) zero d e h k mine g =
      let first = keep_all p (f n s) (every_weaken (own_record n) p mine (f n s) (own n s)) in
      let others = keep_foreign p ns ss d (λ j l. g (suc j) (omega arith) (λ z. absurd (omega (arith, z)))) in
      keep_append p (f n s) (gathered f ns ss) ∙ rw (first, others) (append-nil (f n s))
  keep_one p (n ∷ ns) (s ∷ ss) (suc i) d e h k mine g =
      keep_append p (f n s) (gathered f ns ss)
      ∙ rw (keep_none p (own_record n) (g 0 (omega arith) (λ z. absurd (omega (arith, z)))) (f n s) (own n s))
      (keep_one p ns ss i d e (omega arith) (omega arith) mine (λ j l z. g (suc j) (omega arith) (λ q. z (omega (arith, q)))))

-- ---- a network of a started manager
module _
    (m : Manager) (sound : Sound m) (once : Once (networks_of m)) (started : m.stage ≡ Stage.Started) (i : ℕ) (h : i < length (networks_of m)) where
  abbrev n : Network
  n = network_at m i

  abbrev s : State
  s = state_at m i

  -- what is seen, the number of its answer, the network's record after it, and what was handed out to it
  record Plays (sight : Sight) (number : ℕ) (after : State) (rs : List Record) : Type 0 where
    state : after ≡ (part_of n s sight).state
    answer : concerns sight ≡ true → number ≡ reply_number (part_of n s sight).reply
    records : keep (own_record n) rs ≡ records_of n s sight

  -- of the records that the rules make, what is left of them as they go out, with listening taken out again
  abbrev left : ℕ → Call → Bool → List Record → List Record
  left number c listening rs = plainly (switch_of number c) (map (turned listening) rs)

  abbrev PlaysIn : Call → Outcome → List Record → Type 0
  PlaysIn c o rs =
      Plays (seen_as n (address_of (answer_number o.answer) c)) (answer_number o.answer) (state_at o.manager i)
      (left (answer_number o.answer) c o.manager.listening rs)

  -- it sees nothing, and nothing of its own is handed out
  unseen : (number : ℕ) (after : State) (rs : List Record) → after ≡ s → keep (own_record n) rs ≡ [] → Plays nothing number after rs
  unfolding part_of records_of
  unseen number after rs e f = record { state = e; answer = λ g. absurd (false≢true g); records = f }

  none_kept : keep (own_record n) [] ≡ []
  unfolding keep
  none_kept = refl

  -- a record that another network names as its own is not this one's
  foreign : (j : ℕ) → j < length (networks_of m) → (i ≡ j → ⊥) → (r : Record) → own_record (network_at m j) r ≡ true → own_record n r ≡ false
  foreign j k apart r p = by_test (own_record n r) refl where
    by_test : (b : Bool) → own_record n r ≡ b → b ≡ false
    by_test true e = absurd (apart (own_once (networks_of m) once i j blank_network h k r (rw (slot_network m i h) e) (rw (slot_network m j k) p)))
    by_test false e = refl

  -- the slot that an id of the network names is its own
  same_slot : (id : Id) (j : ℕ) → Found m id j → has id n ≡ true → i ≡ j
  same_slot id j f e =
      has_once (networks_of m) once i j blank_network h f.used id (rw (slot_network m i h) e) (rw (slot_network m j f.used) f.has)

  -- and one that it has not names another
  other_slot : (id : Id) (j : ℕ) → Found m id j → has id n ≡ false → i ≡ j → ⊥
  other_slot id j f e q = true≢false (sym f.has ∙ ap (λ (k : ℕ). has id (network_at m k)) (sym q) ∙ e)

  -- an id of the network names its slot
  pub own_slot : (id : Id) → has id n ≡ true → slot_of m id ≡ Ok i
  own_slot id e = by_slot_lem m id (λ slot. slot ≡ Ok i) (λ f. absurd (f started)) (λ f. absurd (true≢false (sym e ∙ f i h)))
      (λ j f. ap Ok (sym (same_slot id j f e)))

  declined_plays : (id : Id) (sight : Sight) (j : ℕ) (a : Answer) → Found m id j → Declines (part_of (network_at m j) (state_at m j) sight) a
      → (own : Bool) → has id n ≡ own → Plays (cond own sight nothing) (answer_number a) s []
  declined_plays id sight j a f d true e =
      let own : Declines (part_of n s sight) a =
      subst (λ (k : ℕ). Declines (part_of (network_at m k) (state_at m k) sight) a) (sym (same_slot id j f e)) d in
      let stays = refused_stays n s sight own.refused in
      record {
        state = sym stays.0;
        answer = λ _. ap answer_number own.answer ∙ answer_number_lem (part_of n s sight).reply;
        records = none_kept ∙ sym stays.1;
      }
  declined_plays id sight j a f d false e = unseen (answer_number a) s [] refl none_kept

  -- the network's record after slot j took what it sees so
  abbrev stored : ℕ → Sight → State
  stored j sight = get_or (set m.states j (part_of (network_at m j) (state_at m j) sight).state) i blank_state

  taken_plays : (id : Id) (sight : Sight) (j : ℕ) → Found m id j → is_taken (part_of (network_at m j) (state_at m j) sight).reply ≡ true
      → (own : Bool) → has id n ≡ own → Plays (cond own sight nothing) 0 (stored j sight) (records_of (network_at m j) (state_at m j) sight)
  taken_plays id sight j f t true e =
      subst (λ (k : ℕ). is_taken (part_of (network_at m k) (state_at m k) sight).reply ≡ true
      → Plays sight 0 (stored k sight) (records_of (network_at m k) (state_at m k) sight))
      (same_slot id j f e)
      (λ t'. record {
        state = get_or-set_same m.states i (part_of n s sight).state blank_state (slot_state m sound.networks sound.states i h);
        answer = λ _. sym (taken_number (part_of n s sight).reply t');
        records = keep_all (own_record n) (records_of n s sight) (part_own n s sight);
      }) t
  taken_plays id sight j f t false e =
      let apart = other_slot id j f e in
      unseen 0 _ _ (get_or-set_other m.states j i _ blank_state apart) (keep_none (own_record n) (own_record (network_at m j))
      (foreign j f.used apart) (records_of (network_at m j) (state_at m j) sight) (part_own (network_at m j) (state_at m j) sight))

  -- of what all networks hand out the network's own records
  pub own_gathered : (f : Network → State → List Record) → ((k : Network) (t : State) → every (own_record k) (f k t) ≡ true)
      → keep (own_record n) (gathered f (networks_of m) m.states) ≡ f n s
  own_gathered f own =
      keep_one f own (own_record n) (networks_of m) m.states i blank_network blank_state h (slot_state m sound.networks sound.states i h)
      (λ r e. rw (sym (slot_network m i h)) e) (λ j k apart r e. foreign j k apart r (rw (sym (slot_network m j k)) e))
      ∙ rw (slot_network m i h) refl

  -- a call that hands out nothing
  none_left : (c : Call) (number : ℕ) (listening : Bool) → keep (own_record n) (left number c listening []) ≡ []
  none_left c number listening = ap (keep (own_record n)) (plainly_none (switch_of number c)) ∙ none_kept

  refused_plays : (c : Call) (sight : Sight) (a : Answer) → Plays sight (answer_number a) s [] → Plays sight (answer_number a) s
      (left (answer_number a) c m.listening [])
  refused_plays c sight a p = subst (Plays sight (answer_number a) s) (sym (plainly_none (switch_of (answer_number a) c))) p

  -- every call
  call_plays : (c : Call) → PlaysIn c (outcome m c) (by_rules m c)
  unfolding all_ticked listened part_of records_of
  call_plays = by_call m PlaysIn (record {
    refuses = λ c a r f. refused_plays c _ (Err a)
        (subst (λ (sight : Sight). Plays sight (call_refusal_number a) s []) (sym (f started i h)) (unseen (call_refusal_number a) s [] refl none_kept));
    declines = λ c id sight j a e f d r. refused_plays c _ (Err a)
        (subst (λ (x : Address). Plays (seen_as n x) (call_refusal_number a) s []) (sym e) (declined_plays id sight j (Err a) f d (has id n) refl));
    takes = λ c id sight j e f t k.
        subst (λ (x : Address). Plays (seen_as n x) 0 (stored j sight) (left 0 c m.listening (records_of (network_at m j) (state_at m j) sight))) (sym e)
        (subst (Plays (cond (has id n) sight nothing) 0 (stored j sight)) (sym (taken_left c id sight j e))
        (taken_plays id sight j f t (has id n) refl));
    ticks = λ room g k. record {
      state = ticked_own m sound.networks sound.states i h;
      answer = λ _. refl;
      records = ap (keep (own_record n)) (plain_again m.listening _ (ticks_plain (networks_of m) m.states)) ∙ own_gathered tick_records tick_own;
    };
    listens = λ value room g k a. unseen 0 s _ refl
        (ap (keep (own_record n)) (online_left_out (eqb 1 value) (eqb 1 value) _ (anew_online m (eqb 1 value))) ∙ none_kept);
    polls = λ handle j f. unseen 0 s [] refl none_kept;
    reads = λ bytes f e. absurd (f started);
    misreads = λ bytes fault f. absurd (f started);
    writes = λ room f. unseen 0 s [] refl none_kept;
    starts = λ e. absurd cc;
  })
    where
      taken_left : (c : Call) (id : Id) (sight : Sight) (j : ℕ) → address_of 0 c ≡ to id sight
          → left 0 c m.listening (records_of (network_at m j) (state_at m j) sight) ≡ records_of (network_at m j) (state_at m j) sight
      taken_left c id sight j e =
          let rs = records_of (network_at m j) (state_at m j) sight in
          ap (λ (x : Switch). plainly x (map (turned m.listening) rs)) (address_names 0 c id sight e).1
          ∙ plain_again m.listening rs (part_plain (network_at m j) (state_at m j) sight)

  -- as the demands see it
  pub entry_fits : (c : Call) →
      Fits n s (view_of n (entry_of m c)) × (state_at (outcome m c).manager i ≡ (played n s (view_of n (entry_of m c)).sight).state)
  unfolding handed_out
  entry_fits c =
      let p = call_plays c in
      let sight = (view_of n (entry_of m c)).sight in
      let same = played_is n s sight in (
        record { number = λ f. p.answer f ∙ rw same refl; records = p.records ∙ handed_is n s sight },
        p.state ∙ rw same refl,
      )
