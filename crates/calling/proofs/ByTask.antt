-- The calls as tasks, gone over once: a fact about what every task leaves in the lent buffer has three cases, and every call is some task.
use Rattle.lists.proofs.Basics.{ℕ, ◌≡◌, refl, ap, ◌∙◌, List, [], true, length, replicate, length-replicate}
use Rattle.lists.specs.Lists.{Bytes}
use Rattle.records.specs.Records.{bytes as bytes_of}
use Rattle.slots.specs.declared.Manager.{Manager}
use Rattle.slots.specs.Calls.{Call, read, write, start, request, poll, bus_off, stall, answer, transceiver_mode, clear_done, check_done, tick}
use Rattle.slots.specs.Calls.{listen, by_rules, handed_out, buffer_with, written_into}
use Rattle.calls.specs.Histories.{counts_records}
use Rattle.calling.specs.declared.Task.{Task}
use Rattle.calling.specs.Returned.{call_of, lent_after}

-- P call buffer: the task's count is that of records, which stand from the front of the buffer; it is the reading; or it is the writing
module _ (m : Manager) (bytes before : List ℕ) (P : Call → List ℕ → Type 0)
    (records : (c : Call) → counts_records c ≡ true → P c (buffer_with before (handed_out m c)))
    (reads : P (read bytes) before)
    (writes : P (write (length before)) (written_into m before)) where
  pub by_task : (task : Task) → P (call_of task bytes before) (lent_after m (call_of task bytes before) before)
  unfolding by_rules handed_out buffer_with bytes_of
  by_task Task.Read = reads
  by_task Task.Write = writes
  by_task Task.Start = records start refl
  by_task (Task.Request handle mode) = records (request handle mode) refl
  by_task (Task.Poll handle) = records (poll handle) refl
  by_task (Task.BusOff controller) = records (bus_off controller (length before)) refl
  by_task (Task.Stall handle) = records (stall handle (length before)) refl
  by_task (Task.Answer controller mode ok) = records (answer controller mode ok) refl
  by_task (Task.TransceiverMode transceiver mode) = records (transceiver_mode transceiver mode) refl
  by_task (Task.ClearDone transceiver) = records (clear_done transceiver) refl
  by_task (Task.CheckDone transceiver) = records (check_done transceiver) refl
  by_task Task.Tick = records (tick (length before)) refl
  by_task (Task.Listen value) = records (listen value (length before)) refl

-- a task that is the call
pub record Made (c : Call) : Type 0 where
  pub task : Task
  pub bytes : List ℕ
  pub before : List ℕ
  pub reads : Bytes bytes
  pub same : call_of task bytes before ≡ c

-- that is lent nothing and reads nothing
plain : (task : Task) → Made (call_of task [] [])
unfolding Bytes
plain task = record { task = task; bytes = []; before = []; reads = tt; same = refl }

-- that is lent so many bytes
lent : (task : Task) (call : ℕ → Call) → ((b : List ℕ) → call_of task [] b ≡ call (length b)) → (room : ℕ) → Made (call room)
unfolding Bytes
lent task call is room =
    record {
      task = task;
      bytes = [];
      before = replicate room 0;
      reads = tt;
      same = is (replicate room 0) ∙ ap call (length-replicate room 0);
    }

pub made : (c : Call) → ((bytes : List ℕ) → c ≡ read bytes → Bytes bytes) → Made c
made (read bytes) f = record { task = Task.Read; bytes = bytes; before = []; reads = f bytes refl; same = refl }
made (write room) f = lent Task.Write write (λ b. refl) room
made start f = plain Task.Start
made (request handle mode) f = plain (Task.Request handle mode)
made (poll handle) f = plain (Task.Poll handle)
made (bus_off controller room) f = lent (Task.BusOff controller) (bus_off controller) (λ b. refl) room
made (stall handle room) f = lent (Task.Stall handle) (stall handle) (λ b. refl) room
made (answer controller mode ok) f = plain (Task.Answer controller mode ok)
made (transceiver_mode transceiver mode) f = plain (Task.TransceiverMode transceiver mode)
made (clear_done transceiver) f = plain (Task.ClearDone transceiver)
made (check_done transceiver) f = plain (Task.CheckDone transceiver)
made (tick room) f = lent Task.Tick tick (λ b. refl) room
made (listen value room) f = lent (Task.Listen value) (listen value) (λ b. refl) room
