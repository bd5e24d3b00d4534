-- R13, R14, R22, R23: what a started manager answers to a request for one of its networks, by the step that the network is in.
use Rattle.lists.proofs.Basics.{ℕ, ◌≡◌, refl, ap, ◌∙◌}
use Rattle.std.specs.Prelude.{Ok, Err, Result}
use Rattle.slots.specs.declared.CallRefusal.{CallRefusal}
use Rattle.settings.specs.declared.Id.{Id}
use Rattle.steps.specs.Steps.{step_number}
use Rattle.network.specs.declared.Refusal.{Refusal}
use Rattle.network.specs.declared.State.{State}
use Rattle.network.specs.Replies.{reply_number}
use Rattle.network.specs.Parts.{a_request}
use Rattle.network_theorems.specs.Requests.{request_number}
use Rattle.network_theorems.proofs.Requests.{request_by_step}
use Rattle.slots.specs.declared.Manager.{Manager}
use Rattle.slots.specs.Manager.{answer_number, network_at, state_at}
use Rattle.slots.specs.Calls.{request, by_slot, settled, slot_outcome, named, outcome}
use Rattle.calls.specs.Histories.{entry_of}
use Rattle.calls.proofs.ByCall.{Found}

module _ (m : Manager) where
  -- the number of the answer is that of the network's reply
  settled_number : (i : ℕ) (reply : Result Unit Refusal) (s : State) (count : ℕ) → answer_number (settled m i reply s count).answer ≡ reply_number reply
  unfolding settled
  settled_number i (Ok tt) s count = refl
  settled_number i (Err refusal) s count = refl

  -- a request that names network i has the answer that its mode and the step of that network say
  pub request_answered : (handle mode i : ℕ) → Found m (Id.OfNetwork handle) i
      → (entry_of m (request handle mode)).number ≡ request_number (step_number (state_at m i).step) mode
  unfolding outcome named slot_outcome
  request_answered handle mode i f =
      ap (λ (slot : Result ℕ CallRefusal). answer_number (by_slot m slot (λ i. slot_outcome m i (a_request mode))).answer) f.slot
      ∙ settled_number i _ _ _ ∙ request_by_step (network_at m i) (state_at m i) mode
