-- What a call does to the network that it names, and a tick to each: what that network makes of it, by its own record, in its own slot.
use Rattle.std.specs.Prelude.{Result, Ok, Err}
use Rattle.lists.proofs.Basics.{ℕ, zero, suc, ◌<◌, ◌≤◌, arith, ◌≡◌, refl, sym, ap, ◌∙◌, List, [], ◌∷◌, true, false, false≢true, true≢false, length, get_or}
use Rattle.lists.proofs.Basics.{length-take, get_or-take}
use lib.Seq.{set_out}
use Rattle.settings.specs.declared.Network.{Network}
use Rattle.settings.specs.declared.Id.{Id}
use Rattle.settings.specs.Settings.{blank_network}
use Rattle.network.specs.declared.Refusal.{Refusal}
use Rattle.network.specs.declared.State.{State}
use Rattle.network.specs.Moving.{tick_state}
use Rattle.network.specs.Replies.{is_taken}
use Rattle.network.specs.Parts.{Sight, part_of, records_of}
use Rattle.slots.specs.declared.CallRefusal.{CallRefusal}
use Rattle.slots.specs.declared.Manager.{Manager}
use Rattle.slots.specs.Manager.{networks_of, blank_state, network_at, state_at, with_state, refused, accepted, each}
use Rattle.slots.specs.Calls.{slot_of, by_slot, answer_of, settled, slot_outcome, named, all_ticked}

-- ---- the answer for a reply
-- what is taken is accepted
pub taken_answer : (reply : Result Unit Refusal) → is_taken reply ≡ true → answer_of reply ≡ Ok tt
taken_answer (Ok done) e = refl
taken_answer (Err refusal) e = absurd (false≢true e)

-- the refusal of a reply that is one
pub declined_answer : (reply : Result Unit Refusal) → is_taken reply ≡ false → (refusal : CallRefusal) × (answer_of reply ≡ Err refusal)
declined_answer (Ok done) e = absurd (true≢false e)
declined_answer (Err refusal) e = (CallRefusal.Network refusal, refl)

-- ---- a call that names an id
module _ (m : Manager) (i : ℕ) (sight : Sight) where
  -- N16: what is taken is stored in the slot, and nothing else of the manager changes
  pub slot_takes : is_taken (part_of (network_at m i) (state_at m i) sight).reply ≡ true → slot_outcome m i sight
      ≡ accepted (with_state m i (part_of (network_at m i) (state_at m i) sight).state) (length (records_of (network_at m i) (state_at m i) sight))
  unfolding slot_outcome settled
  slot_takes e = rw (taken_answer _ e) refl

  -- R2: what is refused changes nothing
  pub slot_declines : (refusal : CallRefusal) → answer_of (part_of (network_at m i) (state_at m i) sight).reply ≡ Err refusal
      → slot_outcome m i sight ≡ refused m refusal
  unfolding slot_outcome settled
  slot_declines refusal e = rw e refl

  -- the slot that is found is the one that is asked
  pub named_at : (id : Id) → slot_of m id ≡ Ok i → named m id sight ≡ slot_outcome m i sight
  unfolding named
  named_at id e = ap (λ (slot : Result ℕ CallRefusal). by_slot m slot (λ j. slot_outcome m j sight)) e

-- past the slots nothing is stored
pub with_state_out : (m : Manager) (i : ℕ) (s : State) → length m.states ≡ 8 → 8 ≤ i → m ≡ with_state m i s
with_state_out m i s e h =
    let k : length m.states ≤ i = omega arith in
    λ j. record { stage = m.stage; listening = m.listening; settings = m.settings; states = sym (set_out m.states i s k) j }

-- ---- each network
-- the network of a slot in use
pub slot_network : (m : Manager) (i : ℕ) → i < length (networks_of m) → get_or (networks_of m) i blank_network ≡ network_at m i
slot_network m i h = let t = length-take m.settings.count m.settings.networks in get_or-take m.settings.count m.settings.networks i blank_network (omega arith)

-- what slot i holds after f of each network and its record
each_at : (f : Network → State → State) (ns : List Network) (ss : List State) (i : ℕ) (d : Network) (e : State) →
    i < length ns → i < length ss → get_or (each f ns ss) i e ≡ f (get_or ns i d) (get_or ss i e)
unfolding each
each_at f [] ss i d e h k = absurd (omega arith)
each_at f (n ∷ ns) [] i d e h k = absurd (omega arith)
each_at f (n ∷ ns) (s ∷ ss) zero d e h k = refl
each_at f (n ∷ ns) (s ∷ ss) (suc i) d e h k = each_at f ns ss i d e (omega arith) (omega arith)

module _ (m : Manager) where
  pub slot_state : length m.settings.networks ≡ 8 → length m.states ≡ 8 → (i : ℕ) → i < length (networks_of m) → i < length m.states
  slot_state e f i h = let t = length-take m.settings.count m.settings.networks in omega arith

  -- a record that f gives, of the network and the record of its slot
  pub each_slot : (f : Network → State → State) → length m.settings.networks ≡ 8 → length m.states ≡ 8 → (i : ℕ) → i < length (networks_of m)
      → get_or (each f (networks_of m) m.states) i blank_state ≡ f (network_at m i) (state_at m i)
  each_slot f e g i h =
      each_at f (networks_of m) m.states i blank_network blank_state h (slot_state e g i h)
      ∙ ap (λ (n : Network). f n (state_at m i)) (slot_network m i h)

  -- T1: after a tick each network has the record that follows its own
  pub ticked_own : length m.settings.networks ≡ 8 → length m.states ≡ 8 → (i : ℕ) → i < length (networks_of m)
      → state_at (all_ticked m).manager i ≡ tick_state (network_at m i) (state_at m i)
  unfolding all_ticked
  ticked_own e f i h = each_slot tick_state e f i h
