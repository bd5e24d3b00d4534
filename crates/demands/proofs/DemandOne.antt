-- Demand 1: every call comes back with an answer of its own list, and a refusal leaves the manager and the lent buffer exactly as they were. That
-- every call comes back is in the contracts: no public function has a `requires`, and neither has `calling::make`, which makes any of them.
use Rattle.lists.proofs.Basics.{ℕ, ◌≡◌, refl, sym, ap, subst, ◌∙◌, List, true, false, eqb}
use Rattle.std.specs.Prelude.{Err}
use Rattle.slots.specs.declared.CallRefusal.{CallRefusal}
use Rattle.lists.specs.Lists.{any}
use Rattle.lists.proofs.Any.{or_second}
use Rattle.settings.specs.Settings.{member}
use Rattle.entries.specs.declared.Fault.{Fault}
use Rattle.entries.specs.declared.Fault.TheVariants.{Cut, UnknownTag, WrongLength, OutOfOrder, OutOfRange, UsedBefore, TooMany, NoTransceiver}
use Rattle.entries.specs.declared.Fault.TheVariants.{Empty}
use Rattle.slots.specs.declared.Manager.{Manager}
use Rattle.slots.specs.declared.Outcome.{Outcome}
use Rattle.slots.specs.Manager.{call_refusal_number, answer_number}
use Rattle.slots.specs.Calls.{Call, read, all_ticked, listened, outcome, handed_out}
use Rattle.calls.specs.Histories.{is_accepted, entry_of, refusals_of, answers_of}
use Rattle.calls.proofs.ByCall.{by_call}
use Rattle.calling.specs.declared.Task.{Task}
use Rattle.calling.specs.Returned.{call_of, Returned}
use Rattle.calling.proofs.ByTask.{by_task}
use Rattle.manager_theorems.specs.Careful.{Careful}
use Rattle.manager_theorems.proofs.Careful.{refused_changes_nothing, refused_untouched, refused_unwritten}
use Rattle.demands.specs.DemandsOneAndTwo.{Demand1}

-- a sheet's refusals are those of a reading
fault_among : (bytes : List ℕ) (fault : Fault) → member (answer_number (Err (CallRefusal.Sheet fault))) (answers_of (read bytes)) ≡ true
unfolding any
fault_among bytes Cut = refl
fault_among bytes UnknownTag = refl
fault_among bytes WrongLength = refl
fault_among bytes OutOfOrder = refl
fault_among bytes OutOfRange = refl
fault_among bytes UsedBefore = refl
fault_among bytes TooMany = refl
fault_among bytes NoTransceiver = refl
fault_among bytes Empty = refl

-- a refusal of the list is an answer of the list
refusal_among : (c : Call) (number : ℕ) → member number (refusals_of c) ≡ true → member number (answers_of c) ≡ true
unfolding any
refusal_among c number e = or_second (eqb 0 number) _ e

-- every call has an answer of its list
pub every_call_answers : (m : Manager) (c : Call) → member (entry_of m c).number (answers_of c) ≡ true
unfolding any all_ticked listened
every_call_answers m = by_call m (λ c o rs. member (answer_number o.answer) (answers_of c) ≡ true) (record {
  refuses = λ c a r f. refusal_among c (call_refusal_number a) r.among;
  declines = λ c id sight i a e f d r. refusal_among c (call_refusal_number a) r.among;
  takes = λ c id sight i e f t k. refl;
  ticks = λ room s e. refl;
  listens = λ value room s e a. refl;
  polls = λ handle i f. refl;
  reads = λ bytes f e. refl;
  misreads = λ bytes fault f. fault_among bytes fault;
  writes = λ room f. refl;
  starts = λ e. refl;
})

-- a refused call leaves the lent buffer: records go out through it, or it is not looked at, or the sheet goes out
untouched : (m : Manager) (task : Task) (bytes before : List ℕ) (r : Outcome) (after : List ℕ) → Returned m task bytes before r after
    → is_accepted r.answer ≡ false → after ≡ before
untouched m task bytes before r after g e =
    by_task m bytes before (λ c left. r ≡ outcome m c → after ≡ left → after ≡ before)
    (λ c _ p q. refused_untouched m c before r after (record { result = p; buffer = q }) e) (λ p q. q)
    (λ p q. refused_unwritten m before r after (record { result = p; buffer = q }) e) task g.result g.buffer

-- of every call that code makes
pub demand_1 : (m : Manager) (task : Task) (bytes before : List ℕ) (r : Outcome) (after : List ℕ) → Returned m task bytes before r after
    → Demand1 m (call_of task bytes before) before r after
demand_1 m task bytes before r after g =
    let c = call_of task bytes before in
    let careful : Careful m r (handed_out m c) =
    subst (λ (o : Outcome). Careful m o (handed_out m c)) (sym g.result) (refused_changes_nothing m c) in
    record {
      answers = ap (λ (o : Outcome). member (answer_number o.answer) (answers_of c)) g.result ∙ every_call_answers m c;
      manager = λ e. (careful e).manager;
      count = λ e. (careful e).count;
      mode = λ e. (careful e).mode;
      buffer = untouched m task bytes before r after g;
    }
