-- Histories of what code got back: each entry is made of what its call returned and of the lent buffer that the call left, and of nothing else.
use Rattle.std.specs.Prelude.{ℕ, ◌≡◌, List, [], ◌∷◌, cond}
use Rattle.lists.specs.Lists.{Bytes}
use Rattle.records.specs.Records.{records_at}
use Rattle.slots.specs.declared.Manager.{Manager}
use Rattle.slots.specs.declared.Outcome.{Outcome}
use Rattle.slots.specs.Manager.{answer_number}
use Rattle.slots.specs.Calls.{Call, read}
use Rattle.calls.specs.Histories.{Entry, History, counts_records}
use Rattle.calling.specs.declared.Task.{Task}
use Rattle.calling.specs.Returned.{call_of, Returned}

-- what a caller notes of a call: the number of the answer and the mode that came back, and of a call whose count is that of records, so many records
-- from the front of the lent buffer
abbrev pub noted : Call → Outcome → List ℕ → Entry
noted c r after =
    record {
      call = c;
      number = answer_number r.answer;
      mode = r.mode;
      records = cond (counts_records c) (records_at r.count after) [];
    }

-- what code notes of its calls, on a manager: each is made on the manager that the one before returned
pub data Lived (m₀ : Manager) : Manager → History → Type 0 where
  begins : Lived m₀ m₀ []
  makes : (m : Manager) (h : History) (task : Task) (bytes before : List ℕ) (r : Outcome) (after : List ℕ) → Lived m₀ m h
      → Returned m task bytes before r after → Lived m₀ r.manager (noted (call_of task bytes before) r after ∷ h)

-- whatever a history read were bytes
unfoldable pub ReadsOnlyBytes : History → Type 0
ReadsOnlyBytes [] = Unit
ReadsOnlyBytes (e ∷ h) = ((bytes : List ℕ) → e.call ≡ read bytes → Bytes bytes) × ReadsOnlyBytes h
