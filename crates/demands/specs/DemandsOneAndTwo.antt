-- Demands 1 and 2. Both speak of what calls returned to the code that made them (`Returned`) and of what code noted of its calls (`Lived`), on any
-- manager, with any numbers, bytes and buffers and in any order. A history has the latest call first: in s ++ (e ∷ h), s follows the entry e.
use Rattle.std.specs.Prelude.{ℕ, ◌≤◌, ◌≡◌, List, [], ◌∷◌, ◌++◌, map, true, false, length, take, drop, Ok}
use Rattle.lists.specs.Lists.{Bytes}
use Rattle.settings.specs.declared.Settings.{Settings}
use Rattle.settings.specs.Settings.{member}
use Rattle.settings.specs.Good.{Good}
use Rattle.sheet.specs.declared.Reading.{Reading}
use Rattle.sheet.specs.Reading.{decode}
use Rattle.sheet.specs.Encode.{encode}
use Rattle.slots.specs.declared.Stage.{Stage}
use Rattle.slots.specs.declared.Manager.{Manager}
use Rattle.slots.specs.declared.Outcome.{Outcome}
use Rattle.slots.specs.Manager.{answer_number, settings_of}
use Rattle.slots.specs.Calls.{Call, read, outcome}
use Rattle.calls.specs.Histories.{is_accepted, Entry, entry_of, History, answers_of}
use Rattle.calling.specs.declared.Task.{Task}
use Rattle.calling.specs.Returned.{New, call_of, Returned}
use Rattle.calling.specs.Lived.{noted, Lived}

-- ---- demand 1
-- of one call: its answer is one of its own list, which is 0 and its refusals; and beside a refusal the manager is the one that it was made on,
-- nothing is counted, no mode is told, and every byte of the lent buffer is as it was
pub record Demand1 (m : Manager) (c : Call) (before : List ℕ) (r : Outcome) (after : List ℕ) : Type 0 where
  pub answers : member (answer_number r.answer) (answers_of c) ≡ true
  pub manager : is_accepted r.answer ≡ false → r.manager ≡ m
  pub count : is_accepted r.answer ≡ false → r.count ≡ 0
  pub mode : is_accepted r.answer ≡ false → r.mode ≡ 0
  pub buffer : is_accepted r.answer ≡ false → after ≡ before

-- ---- demand 2
-- the calls of a history
abbrev pub calls_of : History → List Call
calls_of h = map (λ (e : Entry). e.call) h

-- an entry that is an accepted reading of these bytes
pub record HasRead (e : Entry) (bytes : List ℕ) : Type 0 where
  pub call : e.call ≡ read bytes
  pub accepted : e.number ≡ 0

-- no entry of a history is an accepted reading
unfoldable pub NoneRead : History → Type 0
NoneRead [] = Unit
NoneRead (e ∷ h) = ((bytes : List ℕ) → HasRead e bytes → ⊥) × NoneRead h

-- what a writing gives back of bytes that were read: it is accepted, they stand from the front of the lent buffer, later bytes stay, and the count is
-- their length
pub record GivesBack (bytes before : List ℕ) (r : Outcome) (after : List ℕ) : Type 0 where
  pub accepted : r.answer ≡ Ok tt
  pub count : r.count ≡ length bytes
  pub buffer : after ≡ bytes ++ drop (length bytes) before

-- what a reading takes over of a manager whose sheet was written: it is accepted, and the manager that it returns has the same networks
pub record TakesOver (m : Manager) (r : Outcome) : Type 0 where
  pub accepted : r.answer ≡ Ok tt
  pub settings : settings_of r.manager ≡ settings_of m

-- each call gives exactly what the rules give, and a sheet and its settings say the same, there and back
pub record Demand2 : Type 0 where
  -- what came back and what was handed out are those of the rules
  pub by_the_rules : (m : Manager) (task : Task) (bytes before : List ℕ) (r : Outcome) (after : List ℕ) → Returned m task bytes before r after
      → (r ≡ outcome m (call_of task bytes before)) × (noted (call_of task bytes before) r after ≡ entry_of m (call_of task bytes before))
  -- new managers are the same
  pub one_new : (m m' : Manager) → New m → New m' → m ≡ m'
  -- the same call gives the same, to every byte of the lent buffer
  pub one_outcome : (m : Manager) (task : Task) (bytes before : List ℕ) (r r' : Outcome) (after after' : List ℕ)
      → Returned m task bytes before r after → Returned m task bytes before r' after' → (r ≡ r') × (after ≡ after')
  -- the same calls give the same answers, modes and records in the same order, and the same manager after them
  pub one_history : (m₀ m m' : Manager) (h h' : History) → Lived m₀ m h → Lived m₀ m' h' → calls_of h ≡ calls_of h' → (m ≡ m') × (h ≡ h')
  -- settings that are written and read again are the same settings
  pub write_then_read : (s : Settings) → Good s
      → decode (encode s) ≡ (let r : Reading = record { answer = Ok tt; place = length (encode s); settings = s } in r)
  -- a sheet that is read and written again is the same sheet
  pub read_then_write : (b : List ℕ) → Bytes b → (decode b).answer ≡ Ok tt → encode (decode b).settings ≡ b
  -- settings have one sheet
  pub one_sheet : (s : Settings) (b : List ℕ) → Bytes b → (decode b).answer ≡ Ok tt → (decode b).settings ≡ s → b ≡ encode s
  -- after an accepted reading, and any calls up to the next one, a writing that has the room gives back the very bytes that were read
  pub reading_written : (m₀ m : Manager) (s : History) (e : Entry) (h : History) (bytes : List ℕ) → Lived m₀ m (s ++ (e ∷ h)) → HasRead e bytes
      → NoneRead s → (unread before : List ℕ) (r : Outcome) (after : List ℕ) → Returned m Task.Write unread before r after
      → length bytes ≤ length before → GivesBack bytes before r after
  -- what a manager writes is accepted by any that is not started, a new one among them, and gives it the same networks
  pub writing_read : (m₀ m : Manager) (h : History) → New m₀ → Lived m₀ m h
      → (unread before : List ℕ) (w : Outcome) (after : List ℕ) → Returned m Task.Write unread before w after → w.answer ≡ Ok tt
      → (n : Manager) → (n.stage ≡ Stage.Started → ⊥) → (unlent left : List ℕ) (r : Outcome)
      → Returned n Task.Read (take w.count after) unlent r left → TakesOver m r
