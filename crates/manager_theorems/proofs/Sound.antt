-- What holds of a manager from `new` on, and that a tick changes each network by its own rules only.
use Rattle.std.specs.Prelude.{Ok}
use Rattle.lists.proofs.Basics.{ℕ, zero, suc, ◌<◌, ◌≤◌, arith, eqb-true, eqb-false, ◌≡◌, refl, sym, subst, ◌∙◌, List, [], ◌∷◌, Bool, true, false}
use Rattle.lists.proofs.Basics.{eqb, ltb, length, get_or, set, length-set, get_or-set_same, get_or-set_other}
use Rattle.lists.proofs.Parts.{padded_length}
use Rattle.settings.specs.declared.Network.{Network}
use Rattle.settings.specs.Settings.{blank_network}
use Rattle.settings.specs.Good.{InRange, EachInRange}
use Rattle.sheet.specs.Reading.{decode}
use Rattle.sheet.proofs.Theorems.{accepted_good}
use Rattle.lists.specs.Lists.{Bytes}
use Rattle.network.specs.declared.State.{State}
use Rattle.network.specs.State.{started}
use Rattle.network.specs.Moving.{tick_state}
use Rattle.network_theorems.specs.Kept.{Kept}
use Rattle.network_theorems.proofs.Kept.{start_kept, tick_kept}
use Rattle.network_theorems.proofs.Parts.{part_kept}
use Rattle.slots.specs.declared.Stage.{Stage}
use Rattle.slots.specs.declared.Manager.{Manager}
use Rattle.slots.specs.Manager.{networks_of, settings_of, blank_state, network_at, state_at, with_state, with_states, with_listening, each, tick_needs}
use Rattle.slots.specs.Calls.{Call, tick, new_manager, after_reading, gate_of, all_ticked, listened, outcome}
use Rattle.slots.proofs.Each.{length_each}
use Rattle.slots.proofs.Own.{slot_network, slot_state, each_slot, ticked_own}
use Rattle.calls.specs.Histories.{ReadsBytes, Reached, at_new, after}
use Rattle.calls.proofs.ByCall.{by_call}
use Rattle.manager_theorems.specs.Careful.{Sound}

-- ---- each network by its own rules
each_past : (f : Network → State → State) (ns : List Network) (ss : List State) (i : ℕ) (e : State) →
    length ns ≤ i → get_or (each f ns ss) i e ≡ get_or ss i e
unfolding each
each_past f [] ss i e h = refl
each_past f (n ∷ ns) [] zero e h = absurd (omega arith)
each_past f (n ∷ ns) [] (suc i) e h = refl
each_past f (n ∷ ns) (s ∷ ss) zero e h = absurd (omega arith)
each_past f (n ∷ ns) (s ∷ ss) (suc i) e h = each_past f ns ss i e (omega arith)

module _ (m : Manager) where
  -- T1: an accepted tick gives each network in use the record after its own tick, and leaves the rest
  pub tick_own_rules : Sound m → (room : ℕ) → m.stage ≡ Stage.Started → ltb room (tick_needs m) ≡ false → (i : ℕ) → i < length (networks_of m)
      → state_at (outcome m (tick room)).manager i ≡ tick_state (network_at m i) (state_at m i)
  unfolding outcome gate_of all_ticked
  tick_own_rules s room e f i h = rw (f, e) (ticked_own m s.networks s.states i h)

  pub tick_leaves_rest : (room : ℕ) → m.stage ≡ Stage.Started → ltb room (tick_needs m) ≡ false → (i : ℕ) → length (networks_of m) ≤ i
      → state_at (outcome m (tick room)).manager i ≡ state_at m i
  unfolding outcome gate_of all_ticked
  tick_leaves_rest room e f i h = rw (f, e) (each_past tick_state (networks_of m) m.states i blank_state h)

-- ---- Sound is kept
pub in_range_at : (ns : List Network) (i : ℕ) (d : Network) → EachInRange ns → i < length ns → InRange (get_or ns i d)
unfolding EachInRange
in_range_at [] i d g h = absurd (omega arith)
in_range_at (n ∷ ns) zero d g h = g.0
in_range_at (n ∷ ns) (suc i) d g h = in_range_at ns i d g.1 (omega arith)

pub slot_in_range : (m : Manager) → Sound m → (i : ℕ) → i < length (networks_of m) → InRange (network_at m i)
slot_in_range m s i h = subst InRange (slot_network m i h) (in_range_at (networks_of m) i blank_network s.in_range h)

new_sound : Sound new_manager
unfolding EachInRange
new_sound = record {
  networks = refl;
  states = refl;
  in_range = tt;
  good = λ f. absurd (f refl);
  kept = λ e. absurd cc;
}

module _ (m : Manager) (s : Sound m) where
  -- a record stored in slot i of a started manager, which is kept where the slot is in use
  stored_sound : (i : ℕ) (t : State) → i < length (networks_of m) → Kept (network_at m i) t → Sound (with_state m i t)
  stored_sound i t used p = record {
    networks = s.networks;
    states = length-set m.states i t ∙ s.states;
    in_range = s.in_range;
    good = s.good;
    kept = λ e j h. at_slot e j h (eqb j i) refl;
  }
    where
      at_slot : m.stage ≡ Stage.Started → (j : ℕ) → j < length (networks_of m) → (b : Bool) → eqb j i ≡ b
          → Kept (network_at m j) (get_or (set m.states i t) j blank_state)
      at_slot e j h true q =
          let f : j ≡ i = eqb-true j i q in
          let same = get_or-set_same m.states i t blank_state (slot_state m s.networks s.states i used) in
          subst (λ (k : ℕ). Kept (network_at m k) (get_or (set m.states i t) k blank_state)) (sym f) (subst (Kept (network_at m i)) (sym same) p)
      at_slot e j h false q =
          subst (Kept (network_at m j)) (sym (get_or-set_other m.states i j t blank_state (eqb-false j i q))) (s.kept e j h)

  -- every record in use is f of its network and its old record
  each_sound : (f : Network → State → State) (listening : Bool) → (m.stage ≡ Stage.Empty → ⊥)
      → ((i : ℕ) → i < length (networks_of m) → Kept (network_at m i) (f (network_at m i) (state_at m i)))
      → Sound (with_states m listening (each f (networks_of m) m.states))
  each_sound f listening loaded p = record {
    networks = s.networks;
    states = length_each f (networks_of m) m.states ∙ s.states;
    in_range = s.in_range;
    good = λ _. s.good loaded;
    kept = λ e i h. subst (Kept (network_at m i)) (sym (each_slot m f s.networks s.states i h)) (p i h);
  }

  read_sound : (bytes : List ℕ) →
      Bytes bytes → (decode bytes).answer ≡ Ok tt → Sound (after_reading m (decode bytes) (Ok tt)).manager
  read_sound bytes w e =
      let g = accepted_good bytes w e in
      record {
        networks =
            padded_length 8 blank_network (decode bytes).settings.networks (decode bytes).settings.count g.few_networks g.blank_slots;
        states = refl;
        in_range = g.in_range;
        good = λ _. g;
        kept = λ f. absurd cc;
      }

  -- whether the manager listens is no part of it
  listening_sound : (listening : Bool) → Sound (with_listening m listening)
  listening_sound listening =
      record { networks = s.networks; states = s.states; in_range = s.in_range; good = s.good; kept = s.kept }

  -- every call keeps it
  pub call_sound : (c : Call) → ReadsBytes m c → Sound (outcome m c).manager
  unfolding all_ticked listened
  call_sound = by_call m (λ c o rs. ReadsBytes m c → Sound o.manager) (record {
    refuses = λ c a r f w. s;
    declines = λ c id sight i a n f d r w. s;
    takes = λ c id sight i n f t k w. stored_sound i _ f.used
        (part_kept (network_at m i) (state_at m i) (slot_in_range m s i f.used) (s.kept f.started i f.used) sight);
    ticks = λ room e k w. each_sound tick_state m.listening (λ f. cc)
        (λ i h. tick_kept (network_at m i) (state_at m i) (s.kept e i h));
    listens = λ value room e k a w. listening_sound (eqb 1 value);
    polls = λ handle i f w. s;
    reads = λ bytes f e w. read_sound bytes (w bytes refl f) e;
    misreads = λ bytes fault f w. s;
    writes = λ room f w. s;
    starts = λ e w. each_sound (λ n t. started n) false (λ f. cc) (λ i h. start_kept (network_at m i));
  })

  -- once started, a manager stays so and keeps its settings
  pub call_settled : m.stage ≡ Stage.Started →
      (c : Call) → ((outcome m c).manager.stage ≡ Stage.Started) × (settings_of (outcome m c).manager ≡ settings_of m)
  unfolding all_ticked listened
  call_settled e = by_call m (λ c o rs. (o.manager.stage ≡ Stage.Started) × (settings_of o.manager ≡ settings_of m)) (record {
    refuses = λ c a r f. (e, refl);
    declines = λ c id sight i a n f d r. (e, refl);
    takes = λ c id sight i n f t k. (e, refl);
    ticks = λ room g k. (refl, refl);
    listens = λ value room g k a. (e, refl);
    polls = λ handle i f. (e, refl);
    reads = λ bytes f a. absurd (f e);
    misreads = λ bytes fault f. (e, refl);
    writes = λ room f. (e, refl);
    starts = λ g. absurd cc;
  })

-- after any sequence of calls
pub reached_sound : (m : Manager) → Reached m → Sound m
reached_sound _ at_new = new_sound
reached_sound _ (after m c w r) = call_sound m (reached_sound m r) c w
