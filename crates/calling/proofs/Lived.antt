-- What code got back is what the definitions of the calls give: the histories that it notes are those of which the demands speak.
use Rattle.std.specs.Prelude.{Ok, Err}
use Rattle.lists.proofs.Basics.{ℕ, ◌≤◌, arith, ◌≡◌, refl, sym, ap, subst, ◌∙◌, List, [], ◌∷◌, ◌++◌, Bool, cond, true≢false, false≢true}
use Rattle.lists.proofs.Basics.{eqb}
use Rattle.lists.specs.Lists.{Bytes}
use Rattle.records.specs.Records.{records_at}
use Rattle.entries.specs.declared.Fault.{Fault}
use Rattle.entries.specs.Entries.{fault_number}
use Rattle.network_theorems.proofs.Parts.{refusal_refuses}
use Rattle.slots.specs.declared.CallRefusal.{CallRefusal}
use Rattle.slots.specs.declared.Manager.{Manager}
use Rattle.slots.specs.declared.Outcome.{Outcome}
use Rattle.slots.specs.Manager.{Answer, call_refusal_number, answer_number}
use Rattle.slots.specs.Calls.{Call, read, outcome, by_rules, handed_out}
use Rattle.calls.specs.Histories.{Entry, entry_of, History, Since, begun, goes, Reached, at_new, after as Led-on, counts_records}
use Rattle.calls.proofs.Counts.{handed_back}
use Rattle.calling.specs.declared.Task.{Task}
use Rattle.calling.specs.Returned.{New, call_of, lent_after, Returned}
use Rattle.calling.specs.Lived.{noted, Lived, begins, makes, ReadsOnlyBytes}
use Rattle.calling.proofs.ByTask.{by_task, made}

-- ---- what is noted
-- the records that a caller finds in the buffer are those that the call hands out
records_noted : (m : Manager) (task : Task) (bytes before : List ℕ) (r : Outcome) (after : List ℕ) → Returned m task bytes before r after
    → cond (counts_records (call_of task bytes before)) (records_at r.count after) [] ≡ handed_out m (call_of task bytes before)
unfolding by_rules handed_out
records_noted m task bytes before r after g =
    by_task m bytes before (λ c left. r ≡ outcome m c → after ≡ left → cond (counts_records c) (records_at r.count after) [] ≡ handed_out m c)
    (λ c e p q. ap (λ (b : Bool). cond b (records_at r.count after) []) e ∙ handed_back m c before r after e (record { result = p; buffer = q }))
    (λ p q. refl) (λ p q. refl) task g.result g.buffer

-- of every call: what code notes of it is the entry that the definitions give
pub noted_entry : (m : Manager) (task : Task) (bytes before : List ℕ) (r : Outcome) (after : List ℕ) → Returned m task bytes before r after
    → noted (call_of task bytes before) r after ≡ entry_of m (call_of task bytes before)
noted_entry m task bytes before r after g = λ i.
    record {
      call = call_of task bytes before;
      number = answer_number (g.result i).answer;
      mode = (g.result i).mode;
      records = records_noted m task bytes before r after g i;
    }

-- ---- histories
-- what code notes of its calls is a history
pub lived_since : (m₀ m : Manager) (h : History) → Lived m₀ m h → Since m₀ m h
lived_since m₀ _ _ begins = begun
lived_since m₀ _ _ (makes m h task bytes before r after l g) =
    let step = goes m h (call_of task bytes before) (lived_since m₀ m h l) in
    subst (λ (o : Outcome). Since m₀ o.manager (noted (call_of task bytes before) r after ∷ h)) (sym g.result)
    (subst (λ (e : Entry). Since m₀ (outcome m (call_of task bytes before)).manager (e ∷ h)) (sym (noted_entry m task bytes before r after g)) step)

-- a reading reads the bytes beside its task
read_bytes : (m : Manager) (task : Task) (bytes before : List ℕ) → Bytes bytes → (b : List ℕ) → call_of task bytes before ≡ read b → Bytes b
read_bytes m task bytes before w =
    by_task m bytes before (λ c left. (b : List ℕ) → c ≡ read b → Bytes b) (λ c e b q. absurd (true≢false (sym e ∙ ap counts_records q)))
    (λ b q. let same : bytes ≡ b = cc in subst Bytes same w) (λ b q. absurd cc) task

-- whatever it read were bytes
pub lived_bytes : (m₀ m : Manager) (h : History) → Lived m₀ m h → ReadsOnlyBytes h
unfolding ReadsOnlyBytes
lived_bytes m₀ _ _ begins = tt
lived_bytes m₀ _ _ (makes m h task bytes before r after l g) = (read_bytes m task bytes before g.reads, lived_bytes m₀ m h l)

-- from a new manager on, code has none but those that calls can lead to
pub lived_reached : (m₀ m : Manager) (h : History) → New m₀ → Lived m₀ m h → Reached m
lived_reached m₀ _ _ new begins = subst Reached (sym new) at_new
lived_reached m₀ _ _ new (makes m h task bytes before r after l g) =
    subst (λ (o : Outcome). Reached o.manager) (sym g.result) (Led-on m (call_of task bytes before)
    (λ b e _. read_bytes m task bytes before g.reads b e) (lived_reached m₀ m h new l))

-- a history that read only bytes is what code can note
pub since_lived : (m₀ m : Manager) (h : History) → Since m₀ m h → ReadsOnlyBytes h → Lived m₀ m h
unfolding ReadsOnlyBytes
since_lived m₀ _ _ begun w = begins
since_lived m₀ _ _ (goes m h c s) w =
    let t = made c w.0 in
    let d = call_of t.task t.bytes t.before in
    let g : Returned m t.task t.bytes t.before (outcome m d) (lent_after m d t.before) =
    record { reads = t.reads; result = refl; buffer = refl } in
    let step = makes m h t.task t.bytes t.before (outcome m d) (lent_after m d t.before) (since_lived m₀ m h s w.1) g in
    subst (λ (x : Call). Lived m₀ (outcome m x).manager (entry_of m x ∷ h)) t.same
    (subst (λ (e : Entry). Lived m₀ (outcome m d).manager (e ∷ h)) (noted_entry m t.task t.bytes t.before _ _ g) step)

-- ---- a history cut at one of its entries
-- the call of the entry e: the manager that it was made on, what it returned, and what code noted before it and since
pub record Cut (m₀ m : Manager) (s : History) (e : Entry) (h : History) : Type 0 where
  pub on : Manager
  pub result : Outcome
  pub given : result ≡ outcome on e.call
  pub number : answer_number result.answer ≡ e.number
  pub reads : (bytes : List ℕ) → e.call ≡ read bytes → Bytes bytes
  pub earlier : Lived m₀ on h
  pub since : Lived result.manager m s

-- the entry is the last one, or one of those before it
pub cut : (m₀ m : Manager) (x : History) → Lived m₀ m x → (s : History) (e : Entry) (h : History) → x ≡ s ++ (e ∷ h) → Cut m₀ m s e h
cut m₀ _ _ begins [] e h q = absurd cc
cut m₀ _ _ begins (a ∷ s) e h q = absurd cc
cut m₀ _ _ (makes m k task bytes before r after l g) [] e h q =
    let entry : noted (call_of task bytes before) r after ≡ e = cc in
    let call = ap (λ (x : Entry). x.call) entry in
    record {
      on = m;
      result = r;
      given = g.result ∙ ap (outcome m) call;
      number = ap (λ (x : Entry). x.number) entry;
      reads = λ b f. read_bytes m task bytes before g.reads b (call ∙ f);
      earlier = let same : k ≡ h = cc in subst (Lived m₀ m) same l;
      since = begins;
    }
cut m₀ _ _ (makes m k task bytes before r after l g) (a ∷ s) e h q =
    let entry : noted (call_of task bytes before) r after ≡ a = cc in
    let c = cut m₀ m k l s e h (let same : k ≡ s ++ (e ∷ h) = cc in same) in
    record {
      on = c.on;
      result = c.result;
      given = c.given;
      number = c.number;
      reads = c.reads;
      earlier = c.earlier;
      since = subst (λ (x : Entry). Lived c.result.manager r.manager (x ∷ s)) entry (makes m s task bytes before r after c.since g);
    }

-- ---- the number of an answer
-- the refusals of a sheet begin at 30
fault_number_lem : (f : Fault) → 0x30 ≤ fault_number f
fault_number_lem Fault.Cut = omega arith
fault_number_lem Fault.UnknownTag = omega arith
fault_number_lem Fault.WrongLength = omega arith
fault_number_lem Fault.OutOfOrder = omega arith
fault_number_lem Fault.OutOfRange = omega arith
fault_number_lem Fault.UsedBefore = omega arith
fault_number_lem Fault.TooMany = omega arith
fault_number_lem Fault.NoTransceiver = omega arith
fault_number_lem Fault.Empty = omega arith

-- 0 is the number of no refusal
refusal_number_lem : (r : CallRefusal) → call_refusal_number r ≡ 0 → ⊥
refusal_number_lem CallRefusal.NotReady e = omega (arith, e)
refusal_number_lem CallRefusal.Running e = omega (arith, e)
refusal_number_lem CallRefusal.TooShort e = omega (arith, e)
refusal_number_lem CallRefusal.NoHandle e = omega (arith, e)
refusal_number_lem CallRefusal.NoController e = omega (arith, e)
refusal_number_lem CallRefusal.NoTransceiver e = omega (arith, e)
refusal_number_lem CallRefusal.OutOfRange e = omega (arith, e)
refusal_number_lem (CallRefusal.Network refusal) e = absurd (false≢true (sym (refusal_refuses refusal) ∙ ap (eqb 0) e))
refusal_number_lem (CallRefusal.Sheet fault) e = absurd (omega (arith, fault_number_lem fault, e))

-- 0 is the number of the one answer that is no refusal
pub number_accepted : (a : Answer) → answer_number a ≡ 0 → a ≡ Ok tt
number_accepted (Ok done) e = refl
number_accepted (Err refusal) e = absurd (refusal_number_lem refusal e)
