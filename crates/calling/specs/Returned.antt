-- What code has of a call of the manager that it made: what came back, and the lent buffer as it was before and after. It is what the public calls
-- promise, each by its own contract, and that what is read are bytes, as its type says. It is the contract of `calling::make`.
use Rattle.std.specs.Prelude.{ℕ, ◌≡◌, List, length}
use Rattle.lists.specs.Lists.{Bytes}
use Rattle.slots.specs.declared.Manager.{Manager}
use Rattle.slots.specs.declared.Outcome.{Outcome}
use Rattle.slots.specs.Calls.{Call, read, write, start, request, poll, bus_off, stall, answer, transceiver_mode, clear_done, check_done, tick}
use Rattle.slots.specs.Calls.{listen, new_manager, outcome, handed_out, buffer_with, written_into}
use Rattle.calling.specs.declared.Task.{Task}

-- a manager as it comes before any call
abbrev pub New : Manager → Type 0
New m = m ≡ new_manager

-- the call that a task is: a reading has its bytes, and a call that is lent a buffer has the buffer's length
abbrev pub call_of : Task → List ℕ → List ℕ → Call
call_of Task.Read bytes buffer = read bytes
call_of Task.Write bytes buffer = write (length buffer)
call_of Task.Start bytes buffer = start
call_of (Task.Request handle mode) bytes buffer = request handle mode
call_of (Task.Poll handle) bytes buffer = poll handle
call_of (Task.BusOff controller) bytes buffer = bus_off controller (length buffer)
call_of (Task.Stall handle) bytes buffer = stall handle (length buffer)
call_of (Task.Answer controller mode ok) bytes buffer = answer controller mode ok
call_of (Task.TransceiverMode transceiver mode) bytes buffer = transceiver_mode transceiver mode
call_of (Task.ClearDone transceiver) bytes buffer = clear_done transceiver
call_of (Task.CheckDone transceiver) bytes buffer = check_done transceiver
call_of Task.Tick bytes buffer = tick (length buffer)
call_of (Task.Listen value) bytes buffer = listen value (length buffer)

-- what a buffer holds after a call: the sheet from its front, or the records; a call that is lent none leaves every byte
abbrev pub lent_after : Manager → Call → List ℕ → List ℕ
lent_after m (read bytes) buffer = buffer
lent_after m (write room) buffer = written_into m buffer
lent_after m start buffer = buffer
lent_after m (request handle mode) buffer = buffer
lent_after m (poll handle) buffer = buffer
lent_after m (bus_off controller room) buffer = buffer_with buffer (handed_out m (bus_off controller room))
lent_after m (stall handle room) buffer = buffer_with buffer (handed_out m (stall handle room))
lent_after m (answer controller mode ok) buffer = buffer
lent_after m (transceiver_mode transceiver mode) buffer = buffer
lent_after m (clear_done transceiver) buffer = buffer
lent_after m (check_done transceiver) buffer = buffer
lent_after m (tick room) buffer = buffer_with buffer (handed_out m (tick room))
lent_after m (listen value room) buffer = buffer_with buffer (handed_out m (listen value room))

-- what was returned is the outcome of the call, and the lent buffer is as the call leaves it; what is read are bytes
pub record Returned (m : Manager) (task : Task) (bytes before : List ℕ) (r : Outcome) (after : List ℕ) : Type 0 where
  pub reads : Bytes bytes
  pub result : r ≡ outcome m (call_of task bytes before)
  pub buffer : after ≡ lent_after m (call_of task bytes before) before
