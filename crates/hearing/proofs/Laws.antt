-- What a message does, by the network that it names: a message is refused and its record stays, or the record is stored in its slot.
use Rattle.std.specs.Prelude.{Ok, Err, Result}
use Rattle.lists.proofs.Basics.{ℕ, ◌≡◌, refl, ap, List, [], false, true≢false, length}
use Rattle.std.proofs.lemmas.List.{set-get_or}
use Rattle.records.specs.declared.Record.{Record}
use Rattle.settings.specs.declared.Network.{Network}
use Rattle.network.specs.declared.Message.{Message}
use Rattle.network.specs.declared.Part.{Part}
use Rattle.network.specs.declared.Refusal.{Refusal}
use Rattle.network.specs.declared.Report.{Report}
use Rattle.network.specs.declared.State.{State}
use Rattle.network.specs.Replies.{is_taken}
use Rattle.network.specs.Parts.{part_of, report_part, records_of, said, addressee}
use Rattle.network_theorems.proofs.Parts.{by_request, by_answer, by_report}
use Rattle.slots.specs.declared.CallRefusal.{CallRefusal}
use Rattle.slots.specs.declared.Manager.{Manager}
use Rattle.slots.specs.Manager.{Answer, network_at, state_at, with_state, blank_state, answered}
use Rattle.slots.specs.Calls.{slot_of, answer_of, call_of, outcome, named, slot_outcome, settled, Hears}
use Rattle.hearing.specs.Heard.{HeardAt}

-- a part that is refused leaves the record as it was
abbrev Stays : State → Part → Type 0
Stays s p = is_taken p.reply ≡ false → p.state ≡ s

unmoved : (n : Network) (s : State) (message : Message) → Stays s (part_of n s (said message))
unfolding part_of report_part
unmoved n s (Message.Request handle mode) =
    by_request s (Stays s) mode (λ _ _ _ e. absurd (true≢false e)) (λ _. refl) (λ _. refl) (λ _. refl) (λ _. refl)
unmoved n s (Message.Answer controller mode ok) =
    by_answer s (Stays s) n controller mode ok (λ _ _ e. absurd (true≢false e)) (λ _ _. refl) (λ _ _. refl) (λ _ _. refl)
unmoved n s (Message.TransceiverMode transceiver mode) =
    by_report s (Stays s) (Report.Transceiver mode) _ (λ _ e. absurd (true≢false e)) (λ _ _. refl) (λ _ _. refl)
unmoved n s (Message.ClearDone transceiver) =
    by_report s (Stays s) Report.Cleared _ (λ _ e. absurd (true≢false e)) (λ _ _. refl) (λ _ _. refl)
unmoved n s (Message.CheckDone transceiver) =
    by_report s (Stays s) Report.Checked _ (λ _ e. absurd (true≢false e)) (λ _ _. refl) (λ _ _. refl)

-- it hands out nothing
quiet : (n : Network) (s : State) (message : Message) → records_of n s (said message) ≡ []
unfolding records_of
quiet n s (Message.Request handle mode) = refl
quiet n s (Message.Answer controller mode ok) = refl
quiet n s (Message.TransceiverMode transceiver mode) = refl
quiet n s (Message.ClearDone transceiver) = refl
quiet n s (Message.CheckDone transceiver) = refl

-- the call by which it comes names the network that it names
by_name : (m : Manager) (message : Message) → outcome m (call_of message) ≡ named m (addressee message) (said message)
unfolding outcome
by_name m (Message.Request handle mode) = refl
by_name m (Message.Answer controller mode ok) = refl
by_name m (Message.TransceiverMode transceiver mode) = refl
by_name m (Message.ClearDone transceiver) = refl
by_name m (Message.CheckDone transceiver) = refl

stored : (m : Manager) (i : ℕ) (reply : Result Unit Refusal) (s : State) (rs : List Record) → rs ≡ [] → (is_taken reply ≡ false → s ≡ state_at m i) →
    answered (with_state m i s) (answer_of reply) ≡ settled m i reply s (length rs)
unfolding settled
stored m i (Ok tt) s rs none stays = rw none refl
stored m i (Err refusal) s rs none stays =
    rw (stays refl)
    (ap (λ (states : List State). answered (record {
      stage = m.stage;
      listening = m.listening;
      settings = m.settings;
      states = states;
    }) (answer_of (Err refusal))) (set-get_or m.states i blank_state))

module _ (m : Manager) (message : Message) where
  pub unknown_hears : (refusal : CallRefusal) → slot_of m (addressee message) ≡ Err refusal → Hears m message (Err refusal) m
  unfolding named
  unknown_hears refusal e = rw (by_name m message, e) refl

  pub found_hears : (i : ℕ) → slot_of m (addressee message) ≡ Ok i → (reply : Result Unit Refusal) (after : Manager) → HeardAt m i message reply after →
      (answer : Answer) → answer ≡ answer_of reply → Hears m message answer after
  unfolding named slot_outcome
  found_hears i e reply after h answer a =
      let n = network_at m i in let s = state_at m i in
      let part = part_of n s (said message) in
      rw (by_name m message, e, a, h.replies, h.stored)
      (stored m i part.reply part.state (records_of n s (said message)) (quiet n s message) (unmoved n s message))
