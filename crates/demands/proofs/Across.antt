-- Nothing leaks across: of what a history does to one network nothing is left but what reached it.
use Rattle.lists.proofs.Basics.{ℕ, ◌<◌, ◌≡◌, refl, sym, ap, subst, ◌∙◌, List, [], ◌∷◌, ◌++◌, map, Bool, true, false, cond, or-false}
use Rattle.lists.proofs.Basics.{false≢true, eqb, ltb, leb, length, get_or, take, ◌*◌}
use lib.Seq.{get_or-set_same}
use Rattle.std.specs.Prelude.{Ok, Err}
use Rattle.slots.specs.declared.CallRefusal.{CallRefusal}
use Rattle.lists.specs.Lists.{any, first}
use Rattle.records.specs.Records.{turned}
use Rattle.settings.specs.declared.Network.{Network}
use Rattle.settings.specs.declared.Settings.{Settings}
use Rattle.settings.specs.declared.Id.{Id}
use Rattle.settings.specs.Settings.{has, holder_of}
use Rattle.sheet.specs.Encode.{encode}
use Rattle.handing.specs.Handing.{online_in, own_record}
use Rattle.handing.proofs.Laws.{online_own}
use Rattle.network.specs.declared.State.{State}
use Rattle.network.specs.State.{started}
use Rattle.network.specs.Parts.{Sight, a_tick, nothing, sight_of, part_of}
use Rattle.slots.specs.declared.Stage.{Stage}
use Rattle.slots.specs.declared.Manager.{Manager}
use Rattle.slots.specs.declared.Outcome.{Outcome}
use Rattle.slots.specs.Manager.{call_refusal_number, Answer, answer_number, networks_of, settings_of, blank_state, network_at, state_at, refused, accepted, summed}
use Rattle.slots.specs.Manager.{controller_count, tick_needs, listen_needs}
use Rattle.slots.specs.Calls.{Call, write, poll, by_stage}
use Rattle.slots.specs.Calls.{writing_of, slot_of, by_slot, answer_of, settled, slot_outcome, named, slot_records, polled, gate_of, by_gate}
use Rattle.slots.specs.Calls.{trouble_needs, changes, all_ticked, all_online, online_anew, listened, outcome, by_rules, handed_out}
use Rattle.slots.proofs.Own.{named_at, slot_state}
use Rattle.calls.specs.Histories.{Entry, entry_of, History, Since, begun, goes, ids_of, Address, to, to_all, to_nobody, address_of, seen_as, Switch, turns}
use Rattle.calls.specs.Histories.{leaves, switch_of, switched}
use Rattle.calls.proofs.ByCall.{by_call}
use Rattle.calls.proofs.ByKind.{Kind, names_id, reports_trouble, is_poll, is_read, is_write, is_start, is_tick, is_listen, kind_of, address_names}
use Rattle.manager_theorems.specs.Careful.{Sound}
use Rattle.network_demands.specs.Own.{played, handed, state_of, Fits}
use Rattle.demands.specs.View.{keep, view_of}
use Rattle.demands.specs.Demands.{Begun}
use Rattle.demands.specs.Across.{names, Asked, itself, ticks, listens, asked_of_all, asked_by, asked, SameTo, Given, given_by, given, Alike, BySheet}
use Rattle.demands.specs.Across.{NothingLeaks}
use Rattle.demands.proofs.Apart.{Once}
use Rattle.demands.proofs.Parts.{own_slot, own_gathered, entry_fits}
use Rattle.demands.proofs.Switches.{refused_leaves, call_switches, view_plain, handed_turned}
use Rattle.demands.proofs.Follow.{Tracked, same_network, same_needs, in_use, once, follow, latest}
use Rattle.demands.proofs.Listening.{no_turn, turn_alone, by_turn, keep_turned, starts_deaf}

-- a list of one is not empty
some : {A B : Type 0} {x : A} {l : List A} → x ∷ l ≡ [] → B
some e = absurd cc

-- ---- a box that has this network alone
abbrev alone : Network → State → Bool → Manager
alone n s listening = record { stage = Stage.Started; listening = listening; settings = record { networks = n ∷ []; count = 1 }; states = s ∷ [] }

alone_slot : (n : Network) (s : State) (listening : Bool) (id : Id) → has id n ≡ true → slot_of (alone n s listening) id ≡ Ok 0
unfolding slot_of holder_of any first
alone_slot n s listening id e = rw e refl

-- two started managers open for the same room
gates : (m m' : Manager) → m.stage ≡ Stage.Started → m'.stage ≡ Stage.Started → (room needs : ℕ) → gate_of m room needs ≡ gate_of m' room needs
unfolding gate_of
gates m m' p q room needs = rw (p, q) refl

-- where a network is, and whether the manager listens
record Stand : Type 0 where
  state : State
  listening : Bool

-- after what reaches it
abbrev next : Network → Stand → Asked → Stand
next n x (itself c) = record { state = state_at (outcome (alone n x.state x.listening) c).manager 0; listening = x.listening }
next n x ticks = record { state = (played n x.state a_tick).state; listening = x.listening }
next n x (listens listening) = record { state = x.state; listening = listening }

-- and what it is given for it
abbrev gives : Network → Stand → Asked → Given
gives n x (itself c) = given_by n (entry_of (alone n x.state x.listening) c)
gives n x ticks = record { number = 0; mode = 0; records = map (turned x.listening) (handed n x.state a_tick) }
gives n x (listens listening) =
    record { number = 0; mode = 0; records = map (turned listening) (cond (changes x.listening listening) (online_in n x.state.step) []) }

-- from the start on
unfoldable stands : Network → List Asked → Stand
stands n [] = record { state = started n; listening = false }
stands n (a ∷ l) = next n (stands n l) a

unfoldable gifts : Network → List Asked → List Given
gifts n [] = []
gifts n (a ∷ l) = gives n (stands n l) a ∷ gifts n l

abbrev now : Manager → ℕ → Stand
now m i = record { state = state_at m i; listening = m.listening }

-- what reached the network says where it is, and what it was given
record Held (n : Network) (m : Manager) (i : ℕ) (h : History) : Type 0 where
  stand : stands n (asked n h) ≡ now m i
  gift : gifts n (asked n h) ≡ given n h

-- ---- one call on a started manager, and one of its networks
module _
    (m : Manager) (sound : Sound m) (once : Once (networks_of m)) (ready : m.stage ≡ Stage.Started) (i : ℕ) (used : i < length (networks_of m)) where
  abbrev n : Network
  n = network_at m i

  abbrev s : State
  s = state_at m i

  abbrev a : Manager
  a = alone n s m.listening

  -- ---- a call that names it gives what it gives where the network is alone
  record Same (o o' : Outcome) : Type 0 where
    answer : o.answer ≡ o'.answer
    mode : o.mode ≡ o'.mode
    state : state_at o.manager i ≡ state_at o'.manager 0

  -- what a refusal or its outcome gives
  gated : (answer : Answer) (o o' : Outcome) → Same o o' → Same (by_gate m answer o) (by_gate a answer o')
  gated (Err refusal) o o' e = record { answer = refl; mode = refl; state = refl }
  gated (Ok done) o o' e = e

  slot_same : (sight : Sight) → Same (slot_outcome m i sight) (slot_outcome a 0 sight)
  unfolding slot_outcome settled
  slot_same sight = gated (answer_of (part_of n s sight).reply) _ _ (record {
    answer = refl;
    mode = refl;
    state = get_or-set_same m.states i (part_of n s sight).state blank_state (slot_state m sound.networks sound.states i used);
  })

  module _ (id : Id) (own : has id n ≡ true) where
    slot : slot_of m id ≡ Ok i
    slot = own_slot m sound once ready i used id own

    named_same : (sight : Sight) → Same (named m id sight) (named a id sight)
    named_same sight = rw (named_at m i sight id slot, named_at a 0 sight id (alone_slot n s m.listening id own)) (slot_same sight)

    poll_same : Same (by_slot m (slot_of m id) (λ j. polled m (state_at m j).told)) (by_slot a (slot_of a id) (λ j. polled a (state_at a j).told))
    poll_same = rw (slot, alone_slot n s m.listening id own) (record { answer = refl; mode = refl; state = refl })

    records_same : (sight : Sight) → slot_records m (slot_of m id) sight ≡ slot_records a (slot_of a id) sight
    records_same sight = rw (slot, alone_slot n s m.listening id own) refl

  gate_same : (room needs : ℕ) (o o' : Outcome) → Same o o' → Same (by_gate m (gate_of m room needs) o) (by_gate a (gate_of a room needs) o')
  gate_same room needs o o' e = subst (λ (g : Answer). Same (by_gate m g o) (by_gate a (gate_of a room needs) o')) (sym (gates m a ready refl room needs))
      (gated (gate_of a room needs) o o' e)

  -- its outcome and its records, and that it leaves listening
  record OwnCall (c : Call) : Type 0 where
    given : Same (outcome m c) (outcome a c)
    made : by_rules m c ≡ by_rules a c
    switch : (number : ℕ) → switch_of number c ≡ leaves

  own_call : (c : Call) → names n c ≡ true → OwnCall c
  unfolding any outcome by_rules
  own_call c = by_kind c (kind_of c)
    where
      -- the one id that it names
      one : (c : Call) (id : Id) → ids_of c ≡ id ∷ [] → names n c ≡ true → has id n ≡ true
      one c id e f = sym (or-false _) ∙ ap (any (λ (x : Id). has x n)) (sym e) ∙ f

      by_kind : (c : Call) → Kind c → names n c ≡ true → OwnCall c
      by_kind _ (names_id c id sight k) e = record {
        given = rw (k.gives m, k.gives a) (named_same id (one c id k.ids e) sight);
        made = k.makes m ∙ sym (k.makes a);
        switch = k.switch;
      }
      by_kind _ (reports_trouble c room id trouble k) e = record {
        given = rw (k.gives m, k.gives a)
            (gate_same room (trouble_needs trouble) _ _ (named_same id (one c id k.ids e) (sight_of trouble)));
        made = k.makes m ∙ rw (gates m a ready refl room (trouble_needs trouble), records_same id (one c id k.ids e) (sight_of trouble)) refl
            ∙ sym (k.makes a);
        switch = k.switch;
      }
      by_kind _ (is_poll handle) e = record { given = poll_same (Id.OfNetwork handle) (sym (or-false _) ∙ e); made = refl; switch = λ number. refl }
      by_kind _ (is_read bytes) e = absurd (false≢true e)
      by_kind _ (is_write room) e = absurd (false≢true e)
      by_kind _ is_start e = absurd (false≢true e)
      by_kind _ (is_tick room) e = absurd (false≢true e)
      by_kind _ (is_listen value room) e = absurd (false≢true e)

  -- ---- any call, by what of it reaches the network
  module _ (c : Call) where
    abbrev e : Entry
    e = entry_of m c

    -- as the network sees it
    fits : Fits n s (view_of n e) × (state_at (outcome m c).manager i ≡ (played n s (view_of n e).sight).state)
    fits = entry_fits m sound once ready i used c

    -- whether the manager listens after it
    listens_so : (x : Switch) → switch_of e.number c ≡ x → (outcome m c).manager.listening ≡ switched x m.listening
    listens_so x l = call_switches m c ∙ ap (λ (y : Switch). switched y m.listening) l

    -- one that leaves listening hands out the network's own records as it sees them, as online goes out
    own_out : switch_of e.number c ≡ leaves → keep (own_record n) (handed_out m c) ≡ map (turned m.listening) (handed n s (view_of n e).sight)
    own_out l =
        ap (keep (own_record n)) (handed_turned m c m.listening (listens_so leaves l)) ∙ keep_turned n m.listening (by_rules m c)
        ∙ ap (map (turned m.listening)) (sym (view_plain m c n l) ∙ fits.0.records)

    -- Q of what reaches the network, by the ways in which it can
    by_asked : (Q : List Asked → Type 0) → (names n c ≡ true → Q (itself c ∷ [])) → (address_of e.number c ≡ to_all → Q (ticks ∷ []))
        → ((listening : Bool) → switch_of e.number c ≡ turns listening → Q (listens listening ∷ []))
        → ((view_of n e).sight ≡ nothing → switch_of e.number c ≡ leaves → Q []) → Q (asked_by n e)
    unfolding any
    by_asked Q own all switching none = by_name (names n c) refl (address_of e.number c) refl (switch_of e.number c) refl
      where
        unnamed : (id : Id) (sight : Sight) → address_of e.number c ≡ to id sight → names n c ≡ false → has id n ≡ false
        unnamed id sight x f = sym (or-false _) ∙ ap (any (λ (y : Id). has y n)) (sym (address_names e.number c id sight x).0) ∙ f

        by_name : (b : Bool) → names n c ≡ b → (x : Address) → address_of e.number c ≡ x → (y : Switch) → switch_of e.number c ≡ y
            → Q (cond b (itself c ∷ []) (asked_of_all x y))
        by_name true f x p y q = own f
        by_name false f (to id sight) p y q =
            none (ap (seen_as n) p ∙ ap (λ (z : Bool). cond z sight nothing) (unnamed id sight p f)) (address_names e.number c id sight p).1
        by_name false f to_all p y q = all p
        by_name false f to_nobody p (turns listening) q = switching listening q
        by_name false f to_nobody p leaves q = none (ap (seen_as n) p) q

  -- ---- what goes to all is accepted, and polls no mode
  record Shared (o : Outcome) : Type 0 where
    number : answer_number o.answer ≡ 0
    mode : o.mode ≡ 0

  record ToAll (c : Call) (o : Outcome) : Type 0 where
    ticked : address_of (answer_number o.answer) c ≡ to_all → Shared o × (switch_of (answer_number o.answer) c ≡ leaves)
    turned : (listening : Bool) → switch_of (answer_number o.answer) c ≡ turns listening → Shared o

  -- a call that is neither
  neither : (c : Call) (o : Outcome) → (address_of (answer_number o.answer) c ≡ to_all → ⊥) → switch_of (answer_number o.answer) c ≡ leaves → ToAll c o
  neither c o f l = record { ticked = λ p. absurd (f p); turned = λ to p. no_turn (sym l ∙ p) }

  to_all_lem : (c : Call) → ToAll c (outcome m c)
  unfolding all_ticked listened
  to_all_lem = by_call m (λ c o rs. ToAll c o) (record {
    refuses = λ c x r f. neither c (refused m x) (λ p. ticks_seen (ap (seen_as n) (sym p) ∙ f ready i used)) (refused_leaves (call_refusal_number x) c r.refused);
    declines = λ c id sight j x q f d r. neither c (refused m x) (λ p. one_way (sym q ∙ p)) (refused_leaves (call_refusal_number x) c r.refused);
    takes = λ c id sight j q f t k. neither c _ (λ p. one_way (sym q ∙ p)) (address_names 0 c id sight q).1;
    ticks = λ room g k. record { ticked = λ p. (record { number = refl; mode = refl }, refl); turned = λ to p. no_turn p };
    listens = λ value room g k v. record { ticked = λ p. nobody p; turned = λ to p. record { number = refl; mode = refl } };
    polls = λ handle j f. neither (poll handle) _ nobody refl;
    reads = λ bytes f v. absurd (f ready);
    misreads = λ bytes fault f. absurd (f ready);
    writes = λ room f. neither (write room) _ nobody refl;
    starts = λ q. absurd cc;
  })
    where
      ticks_seen : {A : Type 0} → a_tick ≡ nothing → A
      ticks_seen p = absurd cc

      one_way : {A : Type 0} {id : Id} {sight : Sight} → to id sight ≡ to_all → A
      one_way p = absurd cc

      nobody : {A : Type 0} → to_nobody ≡ to_all → A
      nobody p = absurd cc

  -- ---- one call more
  module _ (h : History) (held : Held n m i h) (c : Call) where
    abbrev after : Manager
    after = (outcome m c).manager

    abbrev Q : List Asked → Type 0
    Q l = (stands n (l ++ asked n h) ≡ now after i) × (gifts n (l ++ asked n h) ≡ map (λ (x : Asked). given_by n (e c)) l ++ given n h)

    reaching : (x : Asked) → next n (now m i) x ≡ now after i → gives n (now m i) x ≡ given_by n (e c) → Q (x ∷ [])
    unfolding stands gifts
    reaching x p q = (
      ap (λ (y : Stand). next n y x) held.stand ∙ p,
      ap (λ (y : Stand). gives n y x ∷ gifts n (asked n h)) held.stand ∙ ap (λ (g : Given). g ∷ gifts n (asked n h)) q
          ∙ ap (λ (l : List Given). given_by n (e c) ∷ l) held.gift,
    )

    own : names n c ≡ true → Q (itself c ∷ [])
    unfolding handed_out
    own p =
        let k = own_call c p in
        let g = k.given in
        let listening : (outcome m c).manager.listening ≡ (outcome a c).manager.listening =
        listens_so c leaves (k.switch _) ∙ sym (call_switches a c ∙ ap (λ (x : Switch). switched x m.listening) (k.switch _)) in
        let records : handed_out m c ≡ handed_out a c = (λ j. map (turned (listening j)) (k.made j)) in
        reaching (itself c) (λ j. record { state = sym g.state j; listening = sym (listens_so c leaves (k.switch _)) j })
        (λ j. record { number = answer_number (sym g.answer j); mode = sym g.mode j; records = keep (own_record n) (sym records j) })

    by_tick : address_of (e c).number c ≡ to_all → Q (ticks ∷ [])
    by_tick p =
        let k = (to_all_lem c).ticked p in
        let sight : (view_of n (e c)).sight ≡ a_tick = ap (seen_as n) p in
        let state = (fits c).1 ∙ ap (λ (x : Sight). (played n s x).state) sight in
        let records = own_out c k.1 ∙ ap (λ (x : Sight). map (turned m.listening) (handed n s x)) sight in
        reaching ticks (λ j. record { state = sym state j; listening = sym (listens_so c leaves k.1) j })
        (λ j. record { number = sym k.0.number j; mode = sym k.0.mode j; records = sym records j })

    turning : (listening : Bool) → switch_of (e c).number c ≡ turns listening → Q (listens listening ∷ [])
    unfolding online_anew all_online keep
    turning value p =
        let k = (to_all_lem c).turned value p in
        let same : after.states ≡ m.states = ap (λ (x : Manager). x.states) (turn_alone m ready c value p) in
        let state : state_at after i ≡ s = ap (λ (l : List State). get_or l i blank_state) same in
        let records : keep (own_record n) (handed_out m c) ≡ map (turned value) (cond (changes m.listening value) (online_in n s.step) []) =
        by_turn m ready (λ x rs. keep (own_record n) rs ≡ map (turned x) (cond (changes m.listening x) (online_in n s.step) []))
        (λ x. keep_turned n x (online_anew m x) ∙ ap (map (turned x)) (own_anew (changes m.listening x))) c value p in
        reaching (listens value) (λ j. record { state = sym state j; listening = sym (listens_so c (turns value) p) j })
        (λ j. record { number = sym k.number j; mode = sym k.mode j; records = sym records j })
      where
        own_anew : (b : Bool) → keep (own_record n) (cond b (all_online m) []) ≡ cond b (online_in n s.step) []
        own_anew true = own_gathered m sound once ready i used (λ (k : Network) (t : State). online_in k t.step) (λ k t. online_own k t.step)
        own_anew false = refl

    passing : (view_of n (e c)).sight ≡ nothing → switch_of (e c).number c ≡ leaves → Q []
    unfolding played
    passing p l =
        let state : state_at after i ≡ s = (fits c).1 ∙ ap (λ (x : Sight). (played n s x).state) p in
        (held.stand ∙ (λ j. record { state = sym state j; listening = sym (listens_so c leaves l) j }), held.gift)

    goes_on : Held n after i (e c ∷ h)
    unfolding asked given
    goes_on = let k = by_asked c Q own by_tick turning passing in record { stand = k.0; gift = k.1 }

  -- what does not reach it
  passes : (c : Call) → asked_by n (entry_of m c) ≡ [] → keep (own_record n) (handed_out m c) ≡ []
  unfolding handed
  passes c = by_asked c (λ l. l ≡ [] → keep (own_record n) (handed_out m c) ≡ []) (λ _ p. some p) (λ _ p. some p) (λ _ _ p. some p)
      (λ p l _. own_out c l ∙ ap (λ (x : Sight). map (turned m.listening) (handed n s x)) p)

-- ---- since the start
module _ (m₀ : Manager) (b : Begun m₀) (i : ℕ) (used : i < length (networks_of m₀)) where
  held_since : (m : Manager) (h : History) → Since m₀ m h → Held (network_at m₀ i) m i h
  unfolding stands gifts asked given state_of
  held_since _ _ begun = record {
    stand = λ j. record { state = first_record j; listening = sym (starts_deaf m₀ b) j };
    gift = refl;
  }
    where
      first_record : started (network_at m₀ i) ≡ state_at m₀ i
      first_record = (follow m₀ m₀ [] b begun).state i used
  held_since _ _ (goes m h c r) =
      let f = follow m₀ m h b r in
      subst (λ (n : Network). Held n m i h → Held n (outcome m c).manager i (entry_of m c ∷ h)) (same_network m₀ m h f i)
      (λ held. goes_on m f.sound (once m₀ m h f) f.started i (in_use m₀ m h f i used) h held c) (held_since m h r)

  elsewhere_since : (m : Manager) (e : Entry) (h : History) → Since m₀ m (e ∷ h) → asked_by (network_at m₀ i) e ≡ []
      → keep (own_record (network_at m₀ i)) e.records ≡ []
  elsewhere_since m e h r =
      let k = latest m₀ m (e ∷ h) r e h refl in
      let f = follow m₀ k.on h b k.since in
      subst (λ (x : Entry). asked_by (network_at m₀ i) x ≡ [] → keep (own_record (network_at m₀ i)) x.records ≡ []) k.entry
      (subst (λ (n : Network). asked_by n (entry_of k.on k.call) ≡ [] → keep (own_record n) (handed_out k.on k.call) ≡ [])
      (same_network m₀ k.on h f i) (passes k.on f.sound (once m₀ k.on h f) f.started i (in_use m₀ k.on h f i used) k.call))

-- two histories that are the same to a network
same_alike : (n : Network) (m m' : Manager) (i j : ℕ) (h h' : History) → Held n m i h → Held n m' j h' → SameTo n h h'
    → Alike n (state_at m i) (state_at m' j) h h'
same_alike n m m' i j h h' p q e = record {
  record_same = ap (λ (x : Stand). x.state) (sym p.stand ∙ ap (stands n) e ∙ q.stand);
  given_same = sym p.gift ∙ ap (gifts n) e ∙ q.gift;
}

-- ---- calls that name nobody
module _ (m₀ m : Manager) (h : History) (f : Tracked m₀ m h) (ready : m₀.stage ≡ Stage.Started) where
  -- the answer to a call that is lent a buffer, by whether it has the room
  gate_answers : (room needs needs' : ℕ) (o o' : Outcome) → needs ≡ needs' → o.answer ≡ o'.answer
      → (by_gate m (gate_of m room needs) o).answer ≡ (by_gate m₀ (gate_of m₀ room needs') o').answer
  gate_answers room needs needs' o o' e q =
      ap (λ (k : ℕ). (by_gate m (gate_of m room k) o).answer) e
      ∙ ap (λ (g : Answer). (by_gate m g o).answer) (gates m m₀ f.started ready room needs') ∙ by_gate_lem (gate_of m₀ room needs')
    where
      by_gate_lem : (g : Answer) → (by_gate m g o).answer ≡ (by_gate m₀ g o').answer
      by_gate_lem (Err a) = refl
      by_gate_lem (Ok done) = q

  write_answers : (room : ℕ) → (writing_of m room).answer ≡ (writing_of m₀ room).answer
  unfolding writing_of
  write_answers room = by_room m ∙ ap (λ (x : Settings). cond (leb (length (encode x)) room) (Ok tt) (Err CallRefusal.TooShort)) f.settings ∙ sym (by_room m₀)
    where
      by_room : (k : Manager) → (cond (leb (length (encode (settings_of k))) room) (accepted k (length (encode (settings_of k)))) (refused k CallRefusal.TooShort)).answer
          ≡ cond (leb (length (encode (settings_of k))) room) (Ok tt) (Err CallRefusal.TooShort)
      by_room k = by_test (leb (length (encode (settings_of k))) room)
        where
          by_test : (b : Bool) → (cond b (accepted k (length (encode (settings_of k)))) (refused k CallRefusal.TooShort)).answer
              ≡ cond b (Ok tt) (Err CallRefusal.TooShort)
          by_test true = refl
          by_test false = refl

  listen_answers : (value : ℕ) (above : Bool) → (cond above (refused m CallRefusal.OutOfRange) (listened m (eqb 1 value))).answer
      ≡ (cond above (refused m₀ CallRefusal.OutOfRange) (listened m₀ (eqb 1 value))).answer
  unfolding listened
  listen_answers value true = refl
  listen_answers value false = refl

  -- they go by the sheet and by what they are lent
  sheet_answers : (c : Call) → ids_of c ≡ [] → (outcome m c).answer ≡ (outcome m₀ c).answer
  unfolding outcome all_ticked listen_needs
  sheet_answers c = by_kind c (kind_of c)
    where
      by_kind : (c : Call) → Kind c → ids_of c ≡ [] → (outcome m c).answer ≡ (outcome m₀ c).answer
      by_kind _ (names_id c id sight k) e = some (sym k.ids ∙ e)
      by_kind _ (reports_trouble c room id trouble k) e = some (sym k.ids ∙ e)
      by_kind _ (is_poll handle) e = some e
      by_kind _ (is_read bytes) e = rw (f.started, ready) refl
      by_kind _ (is_write room) e =
          ap (λ (g : Stage). (by_stage g (refused m CallRefusal.NotReady) (writing_of m room) (writing_of m room)).answer) f.started ∙ write_answers room
          ∙ sym (ap (λ (g : Stage). (by_stage g (refused m₀ CallRefusal.NotReady) (writing_of m₀ room) (writing_of m₀ room)).answer) ready)
      by_kind _ is_start e = rw (f.started, ready) refl
      by_kind _ (is_tick room) e = gate_answers room (tick_needs m) (tick_needs m₀) (all_ticked m) (all_ticked m₀) (same_needs m₀ m h f) refl
      by_kind _ (is_listen value room) e =
          gate_answers room (listen_needs m) (listen_needs m₀) _ _
          (ap (λ (x : Settings). 3 * summed controller_count (take x.count x.networks)) f.settings) (listen_answers value (ltb 1 value))

module _ (m₀ : Manager) (b : Begun m₀) where
  -- the number of the latest answer
  sheet_number : (m : Manager) (e : Entry) (h : History) → Since m₀ m (e ∷ h) → ids_of e.call ≡ [] → e.number ≡ (entry_of m₀ e.call).number
  sheet_number m e h r =
      let k = latest m₀ m (e ∷ h) r e h refl in
      subst (λ (x : Entry). ids_of x.call ≡ [] → x.number ≡ (entry_of m₀ x.call).number) k.entry
      (λ p. ap answer_number (sheet_answers m₀ k.on h (follow m₀ k.on h b k.since) (follow m₀ m₀ [] b begun).started k.call p))

  by_sheet : (m m' : Manager) (e e' : Entry) (h h' : History) → Since m₀ m (e ∷ h) → Since m₀ m' (e' ∷ h') → BySheet e e'
  by_sheet m m' e e' h h' r r' same none =
      sheet_number m e h r none ∙ ap (λ (c : Call). (entry_of m₀ c).number) same
      ∙ sym (sheet_number m' e' h' r' (ap ids_of (sym same) ∙ none))

  -- ---- nothing leaks across
  module _ (i : ℕ) (used : i < length (networks_of m₀)) where
    other_sheet : (m₀' : Manager) (j : ℕ) → Begun m₀' → j < length (networks_of m₀') → network_at m₀ i ≡ network_at m₀' j
        → (m m' : Manager) (h h' : History) → Since m₀ m h → Since m₀' m' h' → SameTo (network_at m₀ i) h h'
        → Alike (network_at m₀ i) (state_at m i) (state_at m' j) h h'
    other_sheet m₀' j b' used' e m m' h h' r r' =
        same_alike (network_at m₀ i) m m' i j h h' (held_since m₀ b i used m h r)
        (subst (λ (n : Network). Held n m' j h') (sym e) (held_since m₀' b' j used' m' h' r'))

    pub nothing_leaks : NothingLeaks m₀ i
    nothing_leaks = record {
      alike = other_sheet m₀ i b used refl;
      other_sheet = other_sheet;
      elsewhere = elsewhere_since m₀ b i used;
      by_sheet = by_sheet;
    }
