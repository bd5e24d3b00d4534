-- What listening does, for every started manager and each of its networks, over every history of calls since the start.
use Rattle.lists.proofs.Basics.{ℕ, ◌<◌, arith, eqb-true, ◌≡◌, refl, sym, ap, subst, ◌∙◌, List, [], ◌∷◌, map, Bool, true, false, not, cond, ◌&&◌}
use Rattle.lists.proofs.Basics.{true≢false, false≢true, eqb, length, get_or}
use mathlib.Core.Logic.{◌⊎◌, inl, inr}
use Rattle.lists.specs.Lists.{any}
use Rattle.lists.proofs.Any.{and_both}
use Rattle.records.specs.declared.Record.{Record}
use Rattle.records.specs.Records.{handed, listens, is_online, turned}
use Rattle.settings.specs.declared.Network.{Network}
use Rattle.settings.specs.Settings.{controllers_of, member}
use Rattle.settings.specs.Good.{InRange}
use Rattle.steps.specs.declared.Step.{Step}
use Rattle.steps.specs.declared.Step.TheVariants.{NoCommunication, TransceiverNormal, ControllersStopped, ControllersStarted, Checking, Full}
use Rattle.steps.specs.declared.Step.TheVariants.{Restarting, Waiting, Silent, ClearWake, DownStopped, TransceiverStandby, ControllersSleep}
use Rattle.steps.specs.declared.Step.TheVariants.{CheckWake, CheckWakeAgain, ResetStopped, ResetStarted}
use Rattle.steps.specs.Steps.{step_number, is_online_step}
use Rattle.handing.specs.declared.Round.{Round}
use Rattle.handing.specs.Handing.{round_record, online, online_in, targets_of, own_record}
use Rattle.handing.proofs.Laws.{online_own}
use Rattle.network.specs.declared.State.{State}
use Rattle.slots.specs.declared.Stage.{Stage}
use Rattle.slots.specs.declared.Manager.{Manager}
use Rattle.slots.specs.declared.Outcome.{Outcome}
use Rattle.slots.specs.Manager.{call_refusal_number, Answer, answer_number, networks_of, blank_state, network_at, state_at, with_listening}
use Rattle.slots.specs.Calls.{Call, start, changes, all_online, online_anew, all_ticked, listened, outcome, by_rules, handed_out}
use Rattle.calls.specs.Histories.{Entry, entry_of, History, Since, begun, goes, Switch, turns, leaves, switch_of, switched, listening}
use Rattle.calls.proofs.ByCall.{by_call}
use Rattle.calls.proofs.ByKind.{address_names}
use Rattle.manager_theorems.specs.Careful.{Sound}
use Rattle.network_demands.specs.Words.{Seen, since, told}
use Rattle.network_demands.specs.Own.{played, Fits}
use Rattle.network_demands.specs.Listening.{sending, pdu_by}
use Rattle.network_demands.proofs.Follows.{state_kept}
use Rattle.network_theorems.specs.Kept.{Kept}
use Rattle.network_demands.proofs.Arrows.{suits, own_outfit}
use Rattle.network_demands.proofs.Standing.{stands}
use Rattle.network_demands.proofs.Online.{sending_means, pdu_same, pdu_each, StaysOnline, hands_online, finds_online, stays_online}
use Rattle.demands.specs.View.{keep, is_turned, unturned, view_of, views_of}
use Rattle.demands.specs.Demands.{Begun}
use Rattle.demands.specs.Listening.{online_as, last_pdu, left_out, without, Listening, ListensIn}
use Rattle.demands.proofs.Apart.{Once}
use Rattle.demands.proofs.Parts.{own_gathered}
use Rattle.demands.proofs.Switches.{refused_leaves, call_switches, call_quiet, call_aloud, view_plain, handed_turned, call_hushed, entry_hushed}
use Rattle.demands.proofs.Follow.{Tracked, same_network, in_use, once, part, follow, latest, in_range}

-- ---- a call that sets or clears it
pub no_turn : {A : Type 0} {to : Bool} → leaves ≡ turns to → A
no_turn e = absurd cc

same_turn : {from to : Bool} → turns from ≡ turns to → from ≡ to
same_turn e = cc

module _ (m : Manager) (started : m.stage ≡ Stage.Started) where
  unstarted : {A : Type 0} → m.stage ≡ Stage.Loaded → A
  unstarted e = absurd cc

  -- it changes nothing else of a started manager
  pub turn_alone : (c : Call) (to : Bool) → switch_of (entry_of m c).number c ≡ turns to
      → with_listening (outcome m c).manager false ≡ with_listening m false
  unfolding all_ticked listened
  turn_alone = by_call m (λ c o rs. (to : Bool) → switch_of (answer_number o.answer) c ≡ turns to → with_listening o.manager false
      ≡ with_listening m false) (record {
        refuses = λ c a r f to e. refl;
        declines = λ c id sight i a n f d r to e. refl;
        takes = λ c id sight i n f t k to e. no_turn (sym (address_names 0 c id sight n).1 ∙ e);
        ticks = λ room s k to e. no_turn e;
        listens = λ value room s k a to e. refl;
        polls = λ handle i f to e. refl;
        reads = λ bytes f v to e. no_turn e;
        misreads = λ bytes fault f to e. refl;
        writes = λ room f to e. refl;
        starts = λ s to e. unstarted s;
      })

  -- P of what goes out on it
  pub by_turn : (P : Bool → List Record → Type 0) → ((to : Bool) → P to (map (turned to) (online_anew m to)))
      → (c : Call) (to : Bool) → switch_of (entry_of m c).number c ≡ turns to → P to (handed_out m c)
  unfolding all_ticked listened handed_out
  by_turn P p = by_call m (λ c o rs. (to : Bool) → switch_of (answer_number o.answer) c ≡ turns to → P to (map (turned o.manager.listening) rs))
      (record {
        refuses = λ c a r f to e. no_turn (sym (refused_leaves (call_refusal_number a) c r.refused) ∙ e);
        declines = λ c id sight i a n f d r to e. no_turn (sym (refused_leaves (call_refusal_number a) c r.refused) ∙ e);
        takes = λ c id sight i n f t k to e. no_turn (sym (address_names 0 c id sight n).1 ∙ e);
        ticks = λ room s k to e. no_turn e;
        listens = λ value room s k a to e.
            subst (λ (x : Bool). P x (map (turned (eqb 1 value)) (online_anew m (eqb 1 value)))) (same_turn e) (p (eqb 1 value));
        polls = λ handle i f to e. no_turn e;
        reads = λ bytes f v to e. no_turn e;
        misreads = λ bytes fault f to e. no_turn e;
        writes = λ room f to e. no_turn e;
        starts = λ s to e. unstarted s;
      })

  -- where nothing changes nothing goes out
  turn_again : (c : Call) (to : Bool) → switch_of (entry_of m c).number c ≡ turns to → m.listening ≡ to → handed_out m c ≡ []
  unfolding online_anew
  turn_again = by_turn (λ to rs. m.listening ≡ to → rs ≡ []) (λ to e. by_value_lem to e)
    where
      by_value_lem : (to : Bool) → m.listening ≡ to → map (turned to) (cond (changes m.listening to) (all_online m) []) ≡ []
      by_value_lem true e = rw e refl
      by_value_lem false e = rw e refl

  -- where it changes it hands out online for each network in a step for it
  turn_anew : (c : Call) (to : Bool) → switch_of (entry_of m c).number c ≡ turns to → m.listening ≡ not to → handed_out m c ≡ map (turned to) (all_online m)
  unfolding online_anew
  turn_anew = by_turn (λ to rs. m.listening ≡ not to → rs ≡ map (turned to) (all_online m)) (λ to e. by_value_lem to e)
    where
      by_value_lem : (to : Bool) → m.listening ≡ not to
          → map (turned to) (cond (changes m.listening to) (all_online m) []) ≡ map (turned to) (all_online m)
      by_value_lem true e = rw e refl
      by_value_lem false e = rw e refl

-- ---- records of one network
-- whose a record is goes by its kind and its target
own_turned : (n : Network) (listening : Bool) (r : Record) → own_record n (turned listening r) ≡ own_record n r
unfolding turned own_record
own_turned n listening r = by_test (listening && is_online r) refl
  where
    by_test : (b : Bool) → listening && is_online r ≡ b → own_record n (cond b (listens r.target) r) ≡ own_record n r
    by_test true e =
        let kind = eqb-true 3 r.kind (and_both (eqb 3 r.kind) _ (and_both listening _ e).1).0 in
        ap (λ (k : ℕ). member r.target (targets_of n k)) kind
    by_test false e = refl

pub keep_turned : (n : Network) (listening : Bool) (rs : List Record) → keep (own_record n) (map (turned listening) rs)
    ≡ map (turned listening) (keep (own_record n) rs)
unfolding keep
keep_turned n listening [] = refl
keep_turned n listening (r ∷ rs) = rw (own_turned n listening r) (by_test (own_record n r) (keep_turned n listening rs))
  where
    by_test : (b : Bool) → keep (own_record n) (map (turned listening) rs) ≡ map (turned listening) (keep (own_record n) rs)
        → cond b (turned listening r ∷ keep (own_record n) (map (turned listening) rs)) (keep (own_record n) (map (turned listening) rs))
        ≡ map (turned listening) (cond b (r ∷ keep (own_record n) rs) (keep (own_record n) rs))
    by_test true later = ap (λ (l : List Record). turned listening r ∷ l) later
    by_test false later = later

-- online for a network, as it goes out
each_turned : (listening : Bool) (ids : List ℕ) → map (turned listening) (map (round_record (Round.Pdu online)) ids)
    ≡ map (λ (c : ℕ). handed 3 c (online_as listening)) ids
unfolding turned
each_turned listening [] = refl
each_turned true (id ∷ ids) = ap (λ (l : List Record). listens id ∷ l) (each_turned true ids)
each_turned false (id ∷ ids) = ap (λ (l : List Record). handed 3 id 0 ∷ l) (each_turned false ids)

online_turned : (n : Network) (step : Step) (listening : Bool)
    → map (turned listening) (online_in n step) ≡ cond (is_online_step step) (map (λ (c : ℕ). handed 3 c (online_as listening)) (controllers_of n)) []
unfolding online_in
online_turned n step listening = by_step (is_online_step step)
  where
    by_step : (b : Bool) → map (turned listening) (cond b (map (round_record (Round.Pdu online)) (controllers_of n)) [])
        ≡ cond b (map (λ (c : ℕ). handed 3 c (online_as listening)) (controllers_of n)) []
    by_step true = each_turned listening (controllers_of n)
    by_step false = refl

-- ---- the last record of kind 3 for a controller
-- a record of kind 3 for one of the network's controllers is the network's own
pdu_own : (n : Network) (c : ℕ) (r : Record) → member c (controllers_of n) ≡ true → eqb 3 r.kind && eqb c r.target ≡ true → own_record n r ≡ true
unfolding own_record targets_of any
pdu_own n c r own e =
    let p = and_both (eqb 3 r.kind) _ e in
    let kind = eqb-true 3 r.kind p.0 in
    let target = eqb-true c r.target p.1 in
    sym (ap (λ (k : ℕ). member r.target (targets_of n k)) kind) ∙ sym (ap (λ (x : ℕ). member x (controllers_of n)) target) ∙ own

-- one record more
pdu_more : (c : ℕ) (r : Record) (rs : List Record) (before : ℕ) (b : Bool) → eqb 3 r.kind && eqb c r.target ≡ b
    → pdu_by c (r ∷ rs) before ≡ pdu_by c rs (cond b r.argument before)
unfolding pdu_by
pdu_more c r rs before b e = ap (λ (x : Bool). pdu_by c rs (cond x r.argument before)) e

-- so it is found among those
own_pdu : (n : Network) (c : ℕ) → member c (controllers_of n) ≡ true → (rs : List Record) (before : ℕ)
    → pdu_by c (keep (own_record n) rs) before ≡ pdu_by c rs before
unfolding pdu_by keep
own_pdu n c own [] before = refl
own_pdu n c own (r ∷ rs) before = by_test (own_record n r) refl (eqb 3 r.kind && eqb c r.target) refl (own_pdu n c own rs)
  where
    by_test : (b : Bool) → own_record n r ≡ b → (x : Bool) → eqb 3 r.kind && eqb c r.target ≡ x
        → ((before : ℕ) → pdu_by c (keep (own_record n) rs) before ≡ pdu_by c rs before)
        → pdu_by c (cond b (r ∷ keep (own_record n) rs) (keep (own_record n) rs)) before ≡ pdu_by c (r ∷ rs) before
    by_test true e x f later = later _
    by_test false e true f later = absurd (true≢false (sym (pdu_own n c r own f) ∙ e))
    by_test false e false f later = later before ∙ sym (pdu_more c r rs before false f)

-- an argument as it goes out
abbrev raised : Bool → ℕ → ℕ
raised listening argument = cond (listening && eqb 0 argument) 2 argument

-- online so raised is online as it goes out, and that stays so
raised_online : (listening : Bool) → raised listening 0 ≡ online_as listening
raised_online true = refl
raised_online false = refl

raised_again : (listening : Bool) → raised listening (online_as listening) ≡ online_as listening
raised_again true = refl
raised_again false = refl

-- records as they go out say the same of it as the rules' own, in their form; or neither says anything
abbrev Agree : ℕ → Bool → List Record → ℕ → ℕ → Type 0
Agree c listening rs out made =
    (pdu_by c (map (turned listening) rs) out ≡ raised listening (pdu_by c rs made))
    ⊎ ((pdu_by c (map (turned listening) rs) out ≡ out) × (pdu_by c rs made ≡ made))

-- one record
one_turned : (c : ℕ) (listening : Bool) (r : Record)
    → (eqb 3 (turned listening r).kind && eqb c (turned listening r).target ≡ eqb 3 r.kind && eqb c r.target)
    × (eqb 3 r.kind && eqb c r.target ≡ true → (turned listening r).argument ≡ raised listening r.argument)
unfolding turned
one_turned c false r = (refl, λ e. refl)
one_turned c true r = by_test (eqb 3 r.kind) (eqb 0 r.argument) refl refl
  where
    by_test : (k a : Bool) → eqb 3 r.kind ≡ k → eqb 0 r.argument ≡ a
        → (eqb 3 (cond (k && a) (listens r.target) r).kind && eqb c (cond (k && a) (listens r.target) r).target
        ≡ k && eqb c r.target)
        × (k && eqb c r.target ≡ true → (cond (k && a) (listens r.target) r).argument ≡ cond a 2 r.argument)
    by_test true true p q = (refl, λ e. refl)
    by_test true false p q = (rw p refl, λ e. refl)
    by_test false a p q = (rw p refl, λ e. absurd (false≢true e))

pdu_agrees : (c : ℕ) (l : Bool) (rs : List Record) (out made : ℕ) → Agree c l rs out made
unfolding pdu_by
pdu_agrees c l [] out made = inr (refl, refl)
pdu_agrees c l (r ∷ rs) out made = by_test (eqb 3 r.kind && eqb c r.target) refl (pdu_agrees c l rs)
  where
    by_test : (b : Bool) → eqb 3 r.kind && eqb c r.target ≡ b → ((out made : ℕ) → Agree c l rs out made) → Agree c l (r ∷ rs) out made
    by_test true e later = decided (later (raised l r.argument) r.argument)
      where
        goes_out : pdu_by c (map (turned l) (r ∷ rs)) out ≡ pdu_by c (map (turned l) rs) (raised l r.argument)
        goes_out = pdu_more c (turned l r) (map (turned l) rs) out true ((one_turned c l r).0 ∙ e)
            ∙ ap (pdu_by c (map (turned l) rs)) ((one_turned c l r).1 e)

        is_made : pdu_by c (r ∷ rs) made ≡ pdu_by c rs r.argument
        is_made = pdu_more c r rs made true e

        decided : Agree c l rs (raised l r.argument) r.argument → Agree c l (r ∷ rs) out made
        decided (inl p) = inl (goes_out ∙ p ∙ ap (raised l) (sym is_made))
        decided (inr p) = inl (goes_out ∙ p.0 ∙ ap (raised l) (sym (is_made ∙ p.1)))
    by_test false e later = passed (later out made)
      where
        goes_out : pdu_by c (map (turned l) (r ∷ rs)) out ≡ pdu_by c (map (turned l) rs) out
        goes_out = pdu_more c (turned l r) (map (turned l) rs) out false ((one_turned c l r).0 ∙ e)

        is_made : pdu_by c (r ∷ rs) made ≡ pdu_by c rs made
        is_made = pdu_more c r rs made false e

        passed : Agree c l rs out made → Agree c l (r ∷ rs) out made
        passed (inl p) = inl (goes_out ∙ p ∙ ap (raised l) (sym is_made))
        passed (inr p) = inr (goes_out ∙ p.0, is_made ∙ p.1)

-- ---- the whole manager
module _ (m₀ : Manager) (b : Begun m₀) where
  -- the start clears it
  pub starts_deaf : m₀.listening ≡ false
  starts_deaf =
      ap (λ (m : Manager). m.listening) b.same ∙ call_switches b.before start
      ∙ ap (λ (a : Answer). switched (switch_of (answer_number a) start) b.before.listening) b.accepted

  shared : (m : Manager) (h : History) → Since m₀ m h → m.listening ≡ listening h
  unfolding listening
  shared _ _ begun = starts_deaf
  shared _ _ (goes m h c s) = call_switches m c ∙ ap (switched (switch_of (entry_of m c).number c)) (shared m h s)

  -- what holds of the records of the latest call, by whether the manager listens after it
  of_latest : (listens : Bool) (p : Record → Bool) → ((m : Manager) (c : Call) → (outcome m c).manager.listening ≡ listens → any p (handed_out m c) ≡ false)
      → (m : Manager) (e : Entry) (h : History) → Since m₀ m (e ∷ h) → listening (e ∷ h) ≡ listens → any p e.records ≡ false
  of_latest listens p f m e h s l =
      let k = latest m₀ m (e ∷ h) s e h refl in
      ap (λ (x : Entry). any p x.records) (sym k.entry)
      ∙ f k.on k.call (ap (λ (x : Manager). x.listening) (sym k.manager) ∙ shared m (e ∷ h) s ∙ l)

  -- the history with listening taken out is that of the same calls without it
  nothing_else : (m : Manager) (h : History) → Since m₀ m h → Since m₀ (with_listening m false) (without h)
  unfolding without
  nothing_else _ _ begun = subst (λ (m : Manager). Since m₀ m []) (sym deaf) begun
    where
      deaf : with_listening m₀ false ≡ m₀
      deaf = λ i.
          record { stage = m₀.stage; listening = sym starts_deaf i; settings = m₀.settings; states = m₀.states }
  nothing_else _ _ (goes m h c s) =
      by_switch (switch_of (entry_of m c).number c) refl (follow m₀ m h b s).started (nothing_else m h s)
    where
      by_switch : (x : Switch) → switch_of (entry_of m c).number c ≡ x → m.stage ≡ Stage.Started → Since m₀ (with_listening m false) (without h)
          → Since m₀ (with_listening (outcome m c).manager false) (left_out x (entry_of m c) (without h))
      by_switch (turns to) e g k = subst (λ (y : Manager). Since m₀ y (without h)) (sym (turn_alone m g c to e)) k
      by_switch leaves e g k =
          let plain : Entry = record {
            call = c;
            number = (entry_of m c).number;
            mode = (entry_of m c).mode;
            records = map unturned (handed_out m c);
          } in
          subst (λ (y : Manager). Since m₀ y (plain ∷ without h)) (ap (λ (o : Outcome). o.manager) (call_hushed m c e))
          (subst (λ (x : Entry). Since m₀ (outcome (with_listening m false) c).manager (x ∷ without h)) (entry_hushed m c e)
          (goes (with_listening m false) (without h) c k))

  pub listening_since : Listening m₀
  listening_since = record {
    shared = shared;
    quiet = of_latest true is_online call_quiet;
    aloud = of_latest false is_turned call_aloud;
    not_again = λ m e h s to.
        let k = latest m₀ m (e ∷ h) s e h refl in
        subst (λ (y : Entry). switch_of y.number y.call ≡ turns to → listening h ≡ to → y.records ≡ []) k.entry
        (λ x l. turn_again k.on (follow m₀ k.on h b k.since).started k.call to x (shared k.on h k.since ∙ l));
    nothing_else = nothing_else;
  }

-- ---- one network
-- steps 4, 5, 15 and 16, by their numbers
online_numbers : (step : Step) → is_online_step step ≡ member (step_number step) (4 ∷ 5 ∷ 15 ∷ 16 ∷ [])
unfolding any
online_numbers NoCommunication = refl
online_numbers TransceiverNormal = refl
online_numbers ControllersStopped = refl
online_numbers ControllersStarted = refl
online_numbers (Checking t) = refl
online_numbers Full = refl
online_numbers Restarting = refl
online_numbers (Waiting t) = refl
online_numbers Silent = refl
online_numbers ClearWake = refl
online_numbers DownStopped = refl
online_numbers TransceiverStandby = refl
online_numbers ControllersSleep = refl
online_numbers CheckWake = refl
online_numbers CheckWakeAgain = refl
online_numbers ResetStopped = refl
online_numbers ResetStarted = refl

-- at the start nothing was told
unsent : (n : Network) → sending n [] ≡ false
unfolding told since any
unsent n = refl

-- of what a call to listen that changes something hands out, a network's own records
own_anew : (m : Manager) → Sound m → Once (networks_of m) → m.stage ≡ Stage.Started → (i : ℕ) → i < length (networks_of m) → (to : Bool)
    → keep (own_record (network_at m i)) (map (turned to) (all_online m))
    ≡ cond (is_online_step (state_at m i).step) (map (λ (c : ℕ). handed 3 c (online_as to)) (controllers_of (network_at m i))) []
unfolding all_online
own_anew m sound once started i used to =
    keep_turned (network_at m i) to _
    ∙ ap (map (turned to)) (own_gathered m sound once started i used (λ (n : Network) (s : State). online_in n s.step) (λ n s. online_own n s.step))
    ∙ online_turned (network_at m i) (state_at m i).step to

module _ (m₀ : Manager) (b : Begun m₀) (i : ℕ) (used : i < length (networks_of m₀)) where
  abbrev n : Network
  n = network_at m₀ i

  -- full is told or the network is held exactly in such a step
  in_step : (m : Manager) (h : History) → Since m₀ m h → sending n (views_of n h) ≡ is_online_step (state_at m i).step
  in_step m h s =
      let f = follow m₀ m h b s in
      sending_means n (in_range m₀ b i used) (views_of n h) (f.ran i used) ∙ ap (λ (t : State). is_online_step t.step) (f.state i used)

  -- what a call that changes it hands out to the network
  anew_call : (m : Manager) (h : History) → Since m₀ m h → (c : Call) (to : Bool) → switch_of (entry_of m c).number c ≡ turns to
      → listening h ≡ not to → keep (own_record n) (handed_out m c)
      ≡ cond (sending n (views_of n h)) (map (λ (x : ℕ). handed 3 x (online_as to)) (controllers_of n)) []
  anew_call m h s c to x l =
      let f = follow m₀ m h b s in
      ap (keep (own_record n)) (turn_anew m f.started c to x (shared m₀ b m h s ∙ l))
      ∙ subst (λ (k : Network). keep (own_record k) (map (turned to) (all_online m))
      ≡ cond (is_online_step (state_at m i).step) (map (λ (y : ℕ). handed 3 y (online_as to)) (controllers_of k)) []) (same_network m₀ m h f i)
      (own_anew m f.sound (once m₀ m h f) f.started i (in_use m₀ m h f i used) to)
      ∙ ap (λ (z : Bool). cond z (map (λ (y : ℕ). handed 3 y (online_as to)) (controllers_of n)) []) (sym (in_step m h s))

  -- ---- the last that each controller was handed
  module _ (c : ℕ) (own : member c (controllers_of n) ≡ true) where
    -- a call that leaves it as it was, as the network sees it
    kept_last : (m : Manager) (h : History) → Since m₀ m h → (call : Call) → switch_of (entry_of m call).number call ≡ leaves
        → (sending n (views_of n h) ≡ true → last_pdu c h ≡ online_as (listening h)) → is_online_step (state_at (outcome m call).manager i).step ≡ true
        → pdu_by c (handed_out m call) (last_pdu c h) ≡ online_as (listening h)
    kept_last m h s call x before online-now = by_entry (stays_online n (state_at m i) suited kept view fits step_after_lem)
      where
        f : Tracked m₀ m h
        f = follow m₀ m h b s

        range : InRange n
        range = in_range m₀ b i used

        suited : suits (own_outfit n) (state_at m i).step ≡ true
        suited = subst (λ (t : State). suits (own_outfit n) t.step ≡ true) (f.state i used) (stands n range (views_of n h) (f.ran i used)).suited

        kept : Kept n (state_at m i)
        kept = subst (Kept n) (f.state i used) (state_kept n range (views_of n h) (f.ran i used))

        view : Seen
        view = view_of n (entry_of m call)

        fits : Fits n (state_at m i) view
        fits = (part m₀ m h f call i used).0

        step_after_lem : is_online_step (played n (state_at m i) view.sight).state.step ≡ true
        step_after_lem = ap (λ (t : State). is_online_step t.step) (sym (part m₀ m h f call i used).1) ∙ online-now

        seen_by : (a : ℕ) → pdu_by c (by_rules m call) a ≡ pdu_by c view.records a
        seen_by a = sym (ap (λ (rs : List Record). pdu_by c rs a) (view_plain m call n x) ∙ own_pdu n c own (by_rules m call) a)

        out : handed_out m call ≡ map (turned (listening h)) (by_rules m call)
        out = handed_turned m call (listening h)
            (call_switches m call ∙ ap (λ (y : Switch). switched y m.listening) x ∙ shared m₀ b m h s)

        by_entry : StaysOnline n (state_at m i) view → pdu_by c (handed_out m call) (last_pdu c h) ≡ online_as (listening h)
        by_entry (hands_online g) =
            ap (λ (rs : List Record). pdu_by c rs (last_pdu c h)) out
            ∙ decided (pdu_agrees c (listening h) (by_rules m call) (last_pdu c h) 1)
          where
            decided : Agree c (listening h) (by_rules m call) (last_pdu c h) 1
                → pdu_by c (map (turned (listening h)) (by_rules m call)) (last_pdu c h) ≡ online_as (listening h)
            decided (inl p) = p ∙ ap (raised (listening h)) (seen_by 1 ∙ g c own 1) ∙ raised_online (listening h)
            decided (inr p) = absurd (let z : 1 ≡ 0 = sym p.1 ∙ seen_by 1 ∙ g c own 1 in omega (arith, z))
        by_entry (finds_online was none) =
            ap (λ (rs : List Record). pdu_by c rs (last_pdu c h)) out
            ∙ decided (pdu_agrees c (listening h) (by_rules m call) (last_pdu c h) (last_pdu c h))
          where
            earlier : last_pdu c h ≡ online_as (listening h)
            earlier = before (in_step m h s ∙ was)

            decided : Agree c (listening h) (by_rules m call) (last_pdu c h) (last_pdu c h)
                → pdu_by c (map (turned (listening h)) (by_rules m call)) (last_pdu c h) ≡ online_as (listening h)
            decided (inl p) =
                p ∙ ap (raised (listening h)) (seen_by (last_pdu c h) ∙ pdu_same c view.records (last_pdu c h) none ∙ earlier)
                ∙ raised_again (listening h)
            decided (inr p) = p.0 ∙ earlier

    -- a call that sets or clears it, in such a step: the record of the network stays
    turned_last : (m : Manager) (h : History) → Since m₀ m h → (call : Call) (to : Bool) → switch_of (entry_of m call).number call ≡ turns to
        → sending n (views_of n h) ≡ true → last_pdu c h ≡ online_as (listening h) → pdu_by c (handed_out m call) (last_pdu c h) ≡ online_as to
    unfolding pdu_by
    turned_last m h s call to x now earlier = by_change (listening h) refl to x
      where
        same : (l : Bool) → listening h ≡ l → switch_of (entry_of m call).number call ≡ turns l → pdu_by c (handed_out m call) (last_pdu c h) ≡ online_as l
        same l p y =
            ap (λ (rs : List Record). pdu_by c rs (last_pdu c h)) (turn_again m (follow m₀ m h b s).started call l y (shared m₀ b m h s ∙ p))
            ∙ earlier ∙ ap online_as p

        other : (l : Bool) → listening h ≡ not l → switch_of (entry_of m call).number call ≡ turns l → pdu_by c (handed_out m call) (last_pdu c h) ≡ online_as l
        other l p y =
            sym (own_pdu n c own (handed_out m call) (last_pdu c h))
            ∙ ap (λ (rs : List Record). pdu_by c rs (last_pdu c h)) (anew_call m h s call l y p
            ∙ ap (λ (z : Bool). cond z (map (λ (k : ℕ). handed 3 k (online_as l)) (controllers_of n)) []) now)
            ∙ pdu_each c (online_as l) (controllers_of n) (last_pdu c h) ∙ ap (λ (z : Bool). cond z (online_as l) (last_pdu c h)) own

        by_change : (was : Bool) → listening h ≡ was → (l : Bool) → switch_of (entry_of m call).number call ≡ turns l
            → pdu_by c (handed_out m call) (last_pdu c h) ≡ online_as l
        by_change true p true y = same true p y
        by_change true p false y = other false p y
        by_change false p true y = other true p y
        by_change false p false y = same false p y

    last : (m : Manager) (h : History) → Since m₀ m h → sending n (views_of n h) ≡ true → last_pdu c h ≡ online_as (listening h)
    unfolding last_pdu listening
    last _ _ begun now = absurd (false≢true (sym (unsent n) ∙ now))
    last _ _ (goes m h call s) now = by_switch (switch_of (entry_of m call).number call) refl (λ z. last m h s z) (in_step _ _ (goes m h call s))
      where
        by_switch : (x : Switch) → switch_of (entry_of m call).number call ≡ x
            → (sending n (views_of n h) ≡ true → last_pdu c h ≡ online_as (listening h))
            → sending n (views_of n (entry_of m call ∷ h)) ≡ is_online_step (state_at (outcome m call).manager i).step
            → pdu_by c (handed_out m call) (last_pdu c h) ≡ online_as (switched x (listening h))
        by_switch leaves x before step = kept_last m h s call x before (sym step ∙ now)
        by_switch (turns to) x before step =
            let f = follow m₀ m h b s in
            let stays : sending n (views_of n h) ≡ true = in_step m h s ∙ ap (λ (ts : List State). is_online_step (get_or ts i blank_state).step)
            (sym (ap (λ (y : Manager). y.states) (turn_alone m f.started call to x))) ∙ sym step ∙ now in
            turned_last m h s call to x stays (before stays)

  pub listens_in : ListensIn m₀ i
  listens_in = record {
    steps = λ m h s. in_step m h s ∙ online_numbers (state_at m i).step;
    last_heard = λ m h s now c own. last c own m h s now;
    hands_anew = λ m e h s to.
        let k = latest m₀ m (e ∷ h) s e h refl in
        subst (λ (y : Entry). switch_of y.number y.call ≡ turns to → listening h ≡ not to → keep (own_record n) y.records
        ≡ cond (sending n (views_of n h)) (map (λ (c : ℕ). handed 3 c (online_as to)) (controllers_of n)) []) k.entry
        (λ x l. anew_call k.on h k.since k.call to x l);
  }
