-- Histories: calls with the answers and the records that they gave; the managers that calls can lead to; and how one network sees a call. Then the
-- answers that a call can have, and what it is lent. The rules R1, R5, R6, H2, H4, T2, L1, L4, L5 and V1 of docs/RULES.md.
use Rattle.std.specs.Prelude.{ℕ, ◌≡◌, List, [], ◌∷◌, Bool, true, false, ◌&&◌, cond, eqb, ltb}
use Rattle.lists.specs.Lists.{Bytes}
use Rattle.records.specs.declared.Record.{Record}
use Rattle.settings.specs.declared.Network.{Network}
use Rattle.settings.specs.declared.Id.{Id}
use Rattle.settings.specs.Settings.{has}
use Rattle.network.specs.declared.Report.{Report}
use Rattle.network.specs.Parts.{Sight, a_tick, a_bus_off, a_stall, an_answer, a_request, a_report, nothing}
use Rattle.slots.specs.declared.Stage.{Stage}
use Rattle.slots.specs.declared.Manager.{Manager}
use Rattle.slots.specs.Manager.{Answer, answer_number}
use Rattle.slots.specs.Calls.{Call, read, write, start, request, poll, bus_off, stall, answer, transceiver_mode, clear_done, check_done, tick}
use Rattle.slots.specs.Calls.{listen, new_manager, bus_off_needs, stall_needs, outcome, handed_out}

-- R1: the one answer that is no refusal has the number 0
abbrev pub is_accepted : Answer → Bool
is_accepted a = eqb 0 (answer_number a)

-- a call with the number of its answer (0: accepted), the polled mode, and the records that it handed out
pub record Entry : Type 0 where
  pub call : Call
  pub number : ℕ
  pub mode : ℕ
  pub records : List Record

-- what a call on a manager adds to its history
abbrev pub entry_of : Manager → Call → Entry
entry_of m c = record { call = c; number = answer_number (outcome m c).answer; mode = (outcome m c).mode; records = handed_out m c }

-- a history has the latest call first
abbrev pub History : Type 0
History = List Entry

-- the calls of a history, on a manager: the manager after them, and each answer and record as the calls give it
pub data Since (m₀ : Manager) : Manager → History → Type 0 where
  begun : Since m₀ m₀ []
  goes : (m : Manager) (h : History) (c : Call) → Since m₀ m h → Since m₀ (outcome m c).manager (entry_of m c ∷ h)

-- what a manager that is not started reads are bytes
abbrev pub ReadsBytes : Manager → Call → Type 0
ReadsBytes m c = (bytes : List ℕ) → c ≡ read bytes → (m.stage ≡ Stage.Started → ⊥) → Bytes bytes

-- the managers that any sequence of calls can lead to: a new one, or one call more
pub data Reached : Manager → Type 0 where
  at_new : Reached new_manager
  after : (m : Manager) (c : Call) → ReadsBytes m c → Reached m → Reached (outcome m c).manager

-- ---- how one network sees a call

-- V1: the id that a call names, a handle, a controller's or a transceiver's, as a list of none or one
abbrev pub ids_of : Call → List Id
ids_of (read bytes) = []
ids_of (write room) = []
ids_of start = []
ids_of (request handle mode) = Id.OfNetwork handle ∷ []
ids_of (poll handle) = Id.OfNetwork handle ∷ []
ids_of (bus_off controller room) = Id.OfController controller ∷ []
ids_of (stall handle room) = Id.OfNetwork handle ∷ []
ids_of (answer controller mode ok) = Id.OfController controller ∷ []
ids_of (transceiver_mode transceiver mode) = Id.OfTransceiver transceiver ∷ []
ids_of (clear_done transceiver) = Id.OfTransceiver transceiver ∷ []
ids_of (check_done transceiver) = Id.OfTransceiver transceiver ∷ []
ids_of (tick room) = []
ids_of (listen value room) = []

-- whom a call concerns: the network that has an id, and what it is to that network; every network; or none
pub data Address : Type 0 where
  to : (id : Id) (sight : Sight) → Address
  to_all : Address
  to_nobody : Address

-- T2, B1, X1, L4: by the number of its answer; a tick that was refused concerns nobody, nor does a bus-off or a stall that was refused with 20 and
-- lent too few bytes, nor a call to listen
abbrev pub address_of : ℕ → Call → Address
address_of number (read bytes) = to_nobody
address_of number (write room) = to_nobody
address_of number start = to_nobody
address_of number (request handle mode) = to (Id.OfNetwork handle) (a_request mode)
address_of number (poll handle) = to_nobody
address_of number (bus_off controller room) =
    cond (ltb room bus_off_needs && eqb 0x20 number) to_nobody (to (Id.OfController controller) a_bus_off)
address_of number (stall handle room) = cond (ltb room stall_needs && eqb 0x20 number) to_nobody (to (Id.OfNetwork handle) a_stall)
address_of number (answer controller mode ok) = to (Id.OfController controller) (an_answer controller mode ok)
address_of number (transceiver_mode transceiver mode) = to (Id.OfTransceiver transceiver) (a_report (Report.Transceiver mode))
address_of number (clear_done transceiver) = to (Id.OfTransceiver transceiver) (a_report Report.Cleared)
address_of number (check_done transceiver) = to (Id.OfTransceiver transceiver) (a_report Report.Checked)
address_of number (tick room) = cond (eqb 0 number) to_all to_nobody
address_of number (listen value room) = to_nobody

-- what it is to one network
abbrev pub seen_as : Network → Address → Sight
seen_as n (to id sight) = cond (has id n) sight nothing
seen_as n to_all = a_tick
seen_as n to_nobody = nothing

-- ---- whether the manager listens

-- what a call says of that: it sets or clears it, or leaves it as it was
pub data Switch : Type 0 where
  turns : (listening : Bool) → Switch
  leaves : Switch

-- L1, L5: an accepted call to listen sets or clears it, an accepted start clears it, and every other call leaves it
abbrev pub switch_of : ℕ → Call → Switch
switch_of number (read bytes) = leaves
switch_of number (write room) = leaves
switch_of number start = cond (eqb 0 number) (turns false) leaves
switch_of number (request handle mode) = leaves
switch_of number (poll handle) = leaves
switch_of number (bus_off controller room) = leaves
switch_of number (stall handle room) = leaves
switch_of number (answer controller mode ok) = leaves
switch_of number (transceiver_mode transceiver mode) = leaves
switch_of number (clear_done transceiver) = leaves
switch_of number (check_done transceiver) = leaves
switch_of number (tick room) = leaves
switch_of number (listen value room) = cond (eqb 0 number) (turns (eqb 1 value)) leaves

-- so it is after the call
abbrev pub switched : Switch → Bool → Bool
switched (turns listening) before = listening
switched leaves before = before

-- L1, L5: the manager listens after a history exactly if the last call that sets or clears it sets it; it does not where none does
unfoldable pub listening : History → Bool
listening [] = false
listening (e ∷ h) = switched (switch_of e.number e.call) (listening h)

-- ---- the answers that each call can have

-- R6: the refusals whose row of the table can apply to such a call, in the order in which they are tested
abbrev pub refusals_of : Call → List ℕ
refusals_of (read bytes) = 0x0B ∷ 0x30 ∷ 0x31 ∷ 0x32 ∷ 0x33 ∷ 0x34 ∷ 0x35 ∷ 0x36 ∷ 0x37 ∷ 0x38 ∷ []
refusals_of (write room) = 0x01 ∷ 0x20 ∷ []
refusals_of start = 0x01 ∷ 0x0B ∷ []
refusals_of (request handle mode) = 0x01 ∷ 0x03 ∷ 0x21 ∷ 0x08 ∷ 0x24 ∷ 0x25 ∷ []
refusals_of (poll handle) = 0x01 ∷ 0x03 ∷ []
refusals_of (bus_off controller room) = 0x01 ∷ 0x20 ∷ 0x04 ∷ 0x22 ∷ []
refusals_of (stall handle room) = 0x01 ∷ 0x20 ∷ 0x03 ∷ 0x22 ∷ []
refusals_of (answer controller mode ok) = 0x01 ∷ 0x04 ∷ 0x21 ∷ 0x22 ∷ []
refusals_of (transceiver_mode transceiver mode) = 0x01 ∷ 0x05 ∷ 0x21 ∷ 0x22 ∷ []
refusals_of (clear_done transceiver) = 0x01 ∷ 0x05 ∷ 0x22 ∷ []
refusals_of (check_done transceiver) = 0x01 ∷ 0x05 ∷ 0x22 ∷ []
refusals_of (tick room) = 0x01 ∷ 0x20 ∷ []
refusals_of (listen value room) = 0x01 ∷ 0x20 ∷ 0x21 ∷ []

-- R1: it is accepted, or has one of these refusals
abbrev pub answers_of : Call → List ℕ
answers_of c = 0 ∷ refusals_of c

-- ---- lent buffers

-- how many bytes it is lent for records
abbrev pub room_of : Call → ℕ
room_of (read bytes) = 0
room_of (write room) = 0
room_of start = 0
room_of (request handle mode) = 0
room_of (poll handle) = 0
room_of (bus_off controller room) = room
room_of (stall handle room) = room
room_of (answer controller mode ok) = 0
room_of (transceiver_mode transceiver mode) = 0
room_of (clear_done transceiver) = 0
room_of (check_done transceiver) = 0
room_of (tick room) = room
room_of (listen value room) = room

-- R5, H2, H4: its count is that of the records: a reading counts networks, and the writer bytes
abbrev pub counts_records : Call → Bool
counts_records (read bytes) = false
counts_records (write room) = false
counts_records start = true
counts_records (request handle mode) = true
counts_records (poll handle) = true
counts_records (bus_off controller room) = true
counts_records (stall handle room) = true
counts_records (answer controller mode ok) = true
counts_records (transceiver_mode transceiver mode) = true
counts_records (clear_done transceiver) = true
counts_records (check_done transceiver) = true
counts_records (tick room) = true
counts_records (listen value room) = true
