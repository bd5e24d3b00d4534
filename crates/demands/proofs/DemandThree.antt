-- Demand 3, and which bus-offs count, for every network of every started manager, over every history of calls since the start.
use Rattle.lists.proofs.Basics.{ℕ, suc, ◌<◌, ◌≤◌, min, eq-eqb, le-ltb, ◌≡◌, refl, sym, ap, subst, ◌∙◌, [], ◌∷◌, ◌++◌, true}
use Rattle.lists.proofs.Basics.{false, cond, eqb, ltb, length}
use Rattle.std.specs.Prelude.{Result}
use Rattle.slots.specs.declared.CallRefusal.{CallRefusal}
use Rattle.records.specs.Records.{mode_number}
use Rattle.settings.specs.declared.Network.{Network}
use Rattle.settings.specs.declared.Id.{Id}
use Rattle.settings.specs.Settings.{controllers_of}
use Rattle.settings.specs.Good.{InRange, Distinct}
use Rattle.network.specs.declared.State.{State}
use Rattle.slots.specs.declared.Stage.{Stage}
use Rattle.slots.specs.declared.Manager.{Manager}
use Rattle.slots.specs.Manager.{networks_of, network_at, state_at, tick_needs}
use Rattle.slots.specs.Calls.{Call, poll, tick, by_slot, polled, gate_of, all_ticked, outcome}
use Rattle.calls.specs.Histories.{is_accepted, Entry, entry_of, History, Since, goes}
use Rattle.manager_theorems.proofs.Counts.{tick_needs_paper}
use Rattle.steps.specs.Steps.{is_restarting}
use Rattle.network_demands.specs.Words.{told, counts}
use Rattle.network_demands.specs.Own.{Ran}
use Rattle.network_demands.proofs.Follows.{told_follows}
use Rattle.network_demands.proofs.Counted.{restarting_means, count_follows, bus_off_raises}
use Rattle.network_demands.proofs.OneFault.{counted_once}
use Rattle.network_demands.proofs.Told.{told_exactly, told_no, first_sentence}
use Rattle.network_demands.proofs.Second.{late_answers, late_after_stall, second_sentence}
use Rattle.network_demands.proofs.Third.{said_from, on_just_that_tick, said_from_the_third, on_the_third_tick}
use Rattle.demands.specs.View.{view_of, views_of}
use Rattle.demands.specs.Demands.{Begun, Demand3, Counting}
use Rattle.demands.proofs.Parts.{own_slot}
use Rattle.demands.proofs.Follow.{once, in_use, same_network, same_needs, follow, latest, sound, ran_since, in_range, distinct}

-- ---- the views of a history that is split
pub views_append : (n : Network) (s h : History) → views_of n (s ++ h) ≡ views_of n s ++ views_of n h
views_append n [] h = refl
views_append n (e ∷ s) h = ap (λ (l : _). view_of n e ∷ l) (views_append n s h)

-- ---- ticks
-- a started manager accepts a tick that has the room it needs
tick_accepted : (m : Manager) (room : ℕ) →
    m.stage ≡ Stage.Started → ltb room (tick_needs m) ≡ false → is_accepted (outcome m (tick room)).answer ≡ true
unfolding outcome gate_of all_ticked tick_needs
tick_accepted m room s e = rw (s, e) refl

-- the latest call of a history, where it is such a tick
last_ticked : (m₀ m : Manager) (t : Entry) (h : History) → Begun m₀ → Since m₀ m (t ∷ h) → (room : ℕ) → t.call ≡ tick room
    → tick_needs m₀ ≤ room → eqb 0 t.number ≡ true
last_ticked m₀ m t h b s room q l =
    let k = latest m₀ m (t ∷ h) s t h refl in
    let call : k.call ≡ tick room = ap (λ (x : Entry). x.call) k.entry ∙ q in
    let f = follow m₀ k.on h b k.since in
    let fits : tick_needs k.on ≤ room = subst (λ (needs : ℕ). needs ≤ room) (sym (same_needs m₀ k.on h f)) l in
    ap (λ (x : Entry). eqb 0 x.number) (sym k.entry) ∙ ap (λ (x : Call). is_accepted (outcome k.on x).answer) call
    ∙ tick_accepted k.on room f.started (le-ltb room (tick_needs k.on) fits)

-- ---- demand 3
module _ (m₀ : Manager) (b₀ : Begun m₀) (i : ℕ) (h₀ : i < length (networks_of m₀)) where
  abbrev n : Network
  n = network_at m₀ i

  split : (m : Manager) (s : History) (b : Entry) (h : History) → Since m₀ m (s ++ (b ∷ h)) → Ran n (views_of n s ++ (view_of n b ∷ views_of n h))
  split m s b h r = subst (Ran n) (views_append n s (b ∷ h)) (ran_since m₀ b₀ i h₀ m (s ++ (b ∷ h)) r)

  -- with one call more
  split_last : (m : Manager) (t : Entry) (s : History) (b : Entry) (h : History) → Since m₀ m (t ∷ (s ++ (b ∷ h)))
      → Ran n (view_of n t ∷ (views_of n s ++ (view_of n b ∷ views_of n h)))
  split_last m t s b h r =
      subst (λ (l : _). Ran n (view_of n t ∷ l)) (views_append n s (b ∷ h)) (ran_since m₀ b₀ i h₀ m (t ∷ (s ++ (b ∷ h))) r)

  range : InRange n
  range = in_range m₀ b₀ i h₀

  apart : Distinct (controllers_of n)
  apart = distinct m₀ b₀ i h₀

  pub demand_3 : Demand3 m₀ n
  demand_3 = record {
    told_exactly = λ m h s. told_exactly n range apart (views_of n h) (ran_since m₀ b₀ i h₀ m h s);
    told_no = λ m h s. told_no n range apart (views_of n h) (ran_since m₀ b₀ i h₀ m h s);
    answered = λ m h s. first_sentence n range apart (views_of n h) (ran_since m₀ b₀ i h₀ m h s);
    delayed = λ m s b h r. second_sentence n range apart (views_of n s) (view_of n b) (views_of n h) (split m s b h r);
    late_answers = λ m s b h r. late_answers n range apart (views_of n s) (view_of n b) (views_of n h) (split m s b h r);
    ticks = λ m t h s room q l. rw (q, last_ticked m₀ m t h b₀ s room q (rw (tick_needs_paper m₀ (sound m₀ b₀)) l)) refl;
    on_just_that_tick = λ m t s b h r u.
        on_just_that_tick n range apart (view_of n b) (views_of n h) u (view_of n t) (views_of n s) (split_last m t s b h r);
    said_from = λ m s b h r u. said_from n range apart (view_of n b) (views_of n h) u (views_of n s) (split m s b h r);
    late_after_stall = λ m s b h r. late_after_stall n range apart (views_of n s) (view_of n b) (views_of n h) (split m s b h r);
    on_the_third_tick = λ m t s b h r x.
        on_the_third_tick n range apart (view_of n b) (views_of n h) x (view_of n t) (views_of n s) (split_last m t s b h r);
    said_from_the_third = λ m s b h r x. said_from_the_third n range apart (view_of n b) (views_of n h) x (views_of n s) (split m s b h r);
  }

  -- what poll answers is the mode last told, as it is read off the records
  pub poll_tells : (m : Manager) (h : History) → Since m₀ m h → (entry_of m (poll n.handle)).mode ≡ told n (views_of n h)
  unfolding outcome
  poll_tells m h s =
      let f = follow m₀ m h b₀ s in
      let own = ap (λ (k : Network). eqb k.handle n.handle) (same_network m₀ m h f i) ∙ eq-eqb n.handle n.handle refl in
      let slot = own_slot m f.sound (once m₀ m h f) f.started i (in_use m₀ m h f i h₀) (Id.OfNetwork n.handle) own in
      ap (λ (x : Result ℕ CallRefusal). (by_slot m x (λ j. polled m (state_at m j).told)).mode) slot
      ∙ ap (λ (t : State). mode_number t.told) (sym (f.state i h₀)) ∙ told_follows n (views_of n h) (f.ran i h₀)

  -- which bus-offs count, by the record in the slot
  pub counting : Counting m₀ i
  counting = record {
    restarting = λ m h s.
        let f = follow m₀ m h b₀ s in
        ap (λ (t : State). is_restarting t.step) (sym (f.state i h₀)) ∙ sym (restarting_means n range (views_of n h) (f.ran i h₀));
    count = λ m h s.
        let f = follow m₀ m h b₀ s in
        ap (λ (t : State). t.count) (sym (f.state i h₀)) ∙ count_follows n range (views_of n h) (f.ran i h₀);
    raises = λ m h s c fell.
        let e = view_of n (entry_of m c) in
        let f = follow m₀ m h b₀ s in
        let g = follow m₀ (outcome m c).manager (entry_of m c ∷ h) b₀ (goes m h c s) in
        ap (λ (t : State). t.count) (sym (g.state i h₀)) ∙ bus_off_raises n range e (views_of n h) (g.ran i h₀) fell
        ∙ ap (λ (t : State). cond (counts n e (views_of n h)) (min (suc t.count) 255) t.count) (f.state i h₀);
    one_fault = λ m s b h r. counted_once n range (views_of n s) (view_of n b) (views_of n h) (split m s b h r);
  }
