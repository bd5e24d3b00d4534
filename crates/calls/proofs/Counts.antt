-- The count returned is the number of records handed out, and they have room in the lent buffer.
use Rattle.lists.proofs.Basics.{ℕ, ◌*◌, ◌≤◌, arith, ltb-false, ◌≡◌, refl, sym, ◌∙◌, List, true, false≢true, eqb, length}
use Rattle.lists.proofs.Basics.{length-map}
use Rattle.records.specs.declared.Record.{Record}
use Rattle.records.specs.Records.{turned, records_at}
use Rattle.records.proofs.Laws.{records_back}
use Rattle.slots.specs.declared.Manager.{Manager}
use Rattle.slots.specs.declared.Outcome.{Outcome}
use Rattle.network.specs.Moving.{tick_records}
use Rattle.slots.specs.Manager.{networks_of, share, tick_needs, listen_needs}
use Rattle.slots.specs.Calls.{Call, all_ticked, listened, outcome, by_rules, handed_out, buffer_with, Gives}
use Rattle.lent_calls.proofs.Gathered.{gathered_summed}
use Rattle.lent_calls.proofs.Ticks.{tick_share}
use Rattle.listen_calls.proofs.Online.{anew_fits}
use Rattle.calls.specs.Histories.{room_of, counts_records}
use Rattle.calls.proofs.ByCall.{by_call}

-- the records fit into the bytes that were lent, and the count is their number
pub record Counted (c : Call) (o : Outcome) (rs : List Record) : Type 0 where
  pub count : counts_records c ≡ true → o.count ≡ length rs
  pub room : 3 * length rs ≤ room_of c

rules_counted : (m : Manager) (c : Call) → Counted c (outcome m c) (by_rules m c)
unfolding all_ticked tick_needs listened
rules_counted m = by_call m Counted (record {
  refuses = λ c a r f. record { count = λ _. refl; room = omega arith };
  declines = λ c id sight i a e f d r. record { count = λ _. refl; room = omega arith };
  takes = λ c id sight i e f t room. record { count = λ _. refl; room = room };
  ticks = λ room s e. record { count = λ _. refl; room = omega (arith, ltb-false room (tick_needs m) e, gathered_summed tick_records share tick_share (networks_of m) m.states) };
  listens = λ value room s e a. record { count = λ _. refl; room = omega (arith, ltb-false room (listen_needs m) e, anew_fits m (eqb 1 value)) };
  polls = λ handle i f. record { count = λ _. refl; room = omega arith };
  reads = λ bytes f e. record { count = λ e. absurd (false≢true e); room = omega arith };
  misreads = λ bytes fault f. record { count = λ e. absurd (false≢true e); room = omega arith };
  writes = λ room f. record { count = λ e. absurd (false≢true e); room = omega arith };
  starts = λ e. record { count = λ _. refl; room = omega arith };
})

-- as many go out as the rules make
pub counted : (m : Manager) (c : Call) → Counted c (outcome m c) (handed_out m c)
unfolding handed_out
counted m c =
    let made = rules_counted m c in
    let many : length (handed_out m c) ≡ length (by_rules m c) = length-map (by_rules m c) (turned (outcome m c).manager.listening) in
    record { count = λ e. made.count e ∙ sym many; room = omega (arith, made.room, many) }

-- what a call leaves in its lent buffer, read up to its count, is what it hands out
pub handed_back : (m : Manager) (c : Call) (b : List ℕ) (r : Outcome) (after : List ℕ) → counts_records c ≡ true → Gives m c b r after
    → records_at r.count after ≡ handed_out m c
unfolding buffer_with
handed_back m c b r after e g = rw (g.buffer, g.result, (counted m c).count e) (records_back (handed_out m c) _)
