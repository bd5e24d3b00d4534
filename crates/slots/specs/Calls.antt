-- The calls of the manager, and the outcome of each, complete: answer, next manager, count, polled mode, place, the records handed out, and where a
-- buffer is lent every byte of it. Of the refusals that apply the highest in the table of docs/RULES.md is given (R6). The rules R2 to R24, H2 to H4,
-- N6 to N9, N16, T1, B1, X1, L1 to L5 and A1 to A5.
use Rattle.sheet.specs.declared.TooShort.{TooShort}
use Rattle.entries.specs.declared.Fault.{Fault}
use Rattle.std.specs.Prelude.{ℕ, ◌*◌, ◌≡◌, List, [], ◌∷◌, ◌++◌, map, Bool, false, not, cond, leb, ltb, eqb, length, drop, replicate, Option, Some, None, Result, Ok, Err}
use Rattle.records.specs.declared.Mode.{Mode}
use Rattle.records.specs.declared.Record.{Record}
use Rattle.records.specs.Records.{mode_number, turned, bytes}
use Rattle.settings.specs.declared.Settings.{Settings}
use Rattle.settings.specs.declared.Network.{Network}
use Rattle.settings.specs.declared.Id.{Id}
use Rattle.settings.specs.Settings.{most_networks, blank_network, holder_of}
use Rattle.sheet.specs.declared.Reading.{Reading}
use Rattle.sheet.specs.Reading.{decode}
use Rattle.sheet.specs.Encode.{encode}
use Rattle.sheet.specs.Writing.{buffer_after}
use Rattle.handing.specs.Handing.{online_in}
use Rattle.network.specs.declared.Message.{Message}
use Rattle.network.specs.declared.Refusal.{Refusal}
use Rattle.network.specs.declared.Report.{Report}
use Rattle.network.specs.declared.State.{State}
use Rattle.network.specs.declared.Trouble.{Trouble}
use Rattle.network.specs.State.{started}
use Rattle.network.specs.Moving.{tick_state, tick_records}
use Rattle.network.specs.Parts.{Sight, a_bus_off, a_stall, an_answer, a_request, a_report, part_of, records_of}
use Rattle.slots.specs.declared.Stage.{Stage}
use Rattle.slots.specs.declared.CallRefusal.{CallRefusal}
use Rattle.slots.specs.declared.Manager.{Manager}
use Rattle.slots.specs.declared.Outcome.{Outcome}
use Rattle.slots.specs.Manager.{Answer, networks_of, settings_of, blank_states, network_at, state_at, with_state, with_states, with_listening, refused, accepted}
use Rattle.slots.specs.Manager.{each, gathered, tick_needs, listen_needs}

-- G2: a call with its arguments; of a lent buffer the number of bytes
pub data Call : Type 0 where
  read : (bytes : List ℕ) → Call
  write : (room : ℕ) → Call
  start : Call
  request : (handle mode : ℕ) → Call
  poll : (handle : ℕ) → Call
  bus_off : (controller room : ℕ) → Call
  stall : (handle room : ℕ) → Call
  answer : (controller mode ok : ℕ) → Call
  transceiver_mode : (transceiver mode : ℕ) → Call
  clear_done : (transceiver : ℕ) → Call
  check_done : (transceiver : ℕ) → Call
  tick : (room : ℕ) → Call
  listen : (value room : ℕ) → Call

-- ---- the sheet and the start

-- a manager before any call: no sheet, every slot blank
abbrev pub new_manager : Manager
new_manager =
    record { stage = Stage.Empty; listening = false; settings = record { networks = replicate most_networks blank_network; count = 0 }; states = blank_states }

-- one of three, by the stage
abbrev pub by_stage : {A : Type 0} → Stage → A → A → A → A
by_stage Stage.Empty a b c = a
by_stage Stage.Loaded a b c = b
by_stage Stage.Started a b c = c

-- R19, L5: a manager with the settings of the sheet that was read, whatever it had before; whether it listens stays
abbrev pub loaded : Manager → Settings → Manager
loaded m s =
    record { stage = Stage.Loaded; listening = m.listening; settings = s; states = blank_states }

-- what a reading gives that was made before the start
abbrev pub after_reading : Manager → Reading → Result Unit Fault → Outcome
-- R5, R19: accepted, its count is the number of networks and its place that of the reading; its sheet takes the place of the one before
after_reading m r (Ok accepted) =
    record { answer = Ok tt; manager = loaded m r.settings; count = r.settings.count; mode = 0; place = r.place }
-- R3, R4, R20: refused, the place is that of the refusal, the count is 0, and the former sheet stays in force
after_reading m r (Err fault) = record { answer = Err (CallRefusal.Sheet fault); manager = m; count = 0; mode = 0; place = r.place }

-- what reading these bytes gives, before the start
unfoldable pub read_into : Manager → List ℕ → Outcome
read_into m bytes = after_reading m (decode bytes) (decode bytes).answer

-- R9, H4: the writer's answer: 20 where too few bytes were lent, else the length of the sheet as its count
abbrev pub after_writing : Manager → Result ℕ TooShort → Outcome
after_writing m (Err short) = refused m CallRefusal.TooShort
after_writing m (Ok n) = accepted m n

-- R9, R18, H4: writing needs as many bytes as the sheet has, which is its count; with fewer it is refused with 20
unfoldable pub writing_of : Manager → ℕ → Outcome
writing_of m room =
    cond (leb (length (encode (settings_of m))) room) (accepted m (length (encode (settings_of m)))) (refused m CallRefusal.TooShort)

-- N7, N8, L5: every network has the record of the start, and the manager does not listen
abbrev pub started_from : Manager → Manager
started_from m = with_states m false (each (λ n s. started n) (networks_of m) m.states)

-- ---- a call that names an id

-- R10 to R12: nobody has this handle, controller or transceiver
abbrev pub unknown : Id → CallRefusal
unknown (Id.OfNetwork handle) = CallRefusal.NoHandle
unknown (Id.OfController controller) = CallRefusal.NoController
unknown (Id.OfTransceiver transceiver) = CallRefusal.NoTransceiver

-- the slot of the network that has the id, or the refusal where there is none
abbrev pub slot_at : Id → Option ℕ → Result ℕ CallRefusal
slot_at id (Some i) = Ok i
slot_at id None = Err (unknown id)

-- R7: before the start no id is looked up
unfoldable pub slot_of : Manager → Id → Result ℕ CallRefusal
slot_of m id = by_stage m.stage (Err CallRefusal.NotReady) (Err CallRefusal.NotReady) (slot_at id (holder_of id (networks_of m)))

-- the refusal, or what the slot gives
abbrev pub by_slot : Manager → Result ℕ CallRefusal → (ℕ → Outcome) → Outcome
by_slot m (Err refusal) found = refused m refusal
by_slot m (Ok i) found = found i

-- the manager's answer for a network's reply
abbrev pub answer_of : Result Unit Refusal → Answer
answer_of (Ok tt) = Ok tt
answer_of (Err refusal) = Err (CallRefusal.Network refusal)

-- the refusal, or what it gives
abbrev pub by_gate : Manager → Answer → Outcome → Outcome
by_gate m (Err refusal) o = refused m refusal
by_gate m (Ok done) o = o

-- R2, N16: a network's part lifted to its slot: what is taken stores its record there and nowhere else, and a refusal changes nothing
unfoldable pub settled : Manager → ℕ → Result Unit Refusal → State → ℕ → Outcome
settled m i reply s count = by_gate m (answer_of reply) (accepted (with_state m i s) count)

-- what slot i makes of a call
unfoldable pub slot_outcome : Manager → ℕ → Sight → Outcome
slot_outcome m i sight =
    let part = part_of (network_at m i) (state_at m i) sight in
    settled m i part.reply part.state (length (records_of (network_at m i) (state_at m i) sight))

-- R6: 01, then the refusal for an unknown id, then what the network makes of it
unfoldable pub named : Manager → Id → Sight → Outcome
named m id sight = by_slot m (slot_of m id) (λ i. slot_outcome m i sight)

-- R2: the records that the slot hands out, none where there is no slot
abbrev pub slot_records : Manager → Result ℕ CallRefusal → Sight → List Record
slot_records m (Err refusal) sight = []
slot_records m (Ok i) sight = records_of (network_at m i) (state_at m i) sight

-- N6: a poll gives the number of the mode that was last told, and the manager stays
abbrev pub polled : Manager → Mode → Outcome
polled m told = record { answer = Ok tt; manager = m; count = 0; mode = mode_number told; place = 0 }

-- ---- a call that is lent a buffer for records

-- R6, R7, R9: whether it may go on: 01, then 20 with less room than it needs
unfoldable pub gate_of : Manager → ℕ → ℕ → Answer
gate_of m room needs =
    by_stage m.stage (Err CallRefusal.NotReady) (Err CallRefusal.NotReady) (cond (ltb room needs) (Err CallRefusal.TooShort) (Ok tt))

-- R2: the records, none where it is refused
abbrev pub gate_records : Answer → List Record → List Record
gate_records (Err refusal) rs = []
gate_records (Ok done) rs = rs

-- R17: the bytes that a bus-off needs
abbrev pub bus_off_needs : ℕ
bus_off_needs = 9

-- R21: the bytes that a stall needs
abbrev pub stall_needs : ℕ
stall_needs = 3

-- the bytes that the call needs by which trouble is reported
abbrev pub trouble_needs : Trouble → ℕ
trouble_needs Trouble.BusOff = bus_off_needs
trouble_needs Trouble.Stall = stall_needs

-- T1, H2: every network in use has ticked, in the order of the sheet, and the count is the number of all records
unfoldable pub all_ticked : Manager → Outcome
all_ticked m =
    accepted (with_states m m.listening (each tick_state (networks_of m) m.states))
    (length (gathered tick_records (networks_of m) m.states))

-- L3: a manager that listens or does not comes to do the other
abbrev pub changes : Bool → Bool → Bool
changes before after = cond before (not after) after

-- L3: online for the controllers of each network that is in a step for it, in the order of the sheet
unfoldable pub all_online : Manager → List Record
all_online m = gathered (λ (n : Network) (s : State). online_in n s.step) (networks_of m) m.states

-- L3: what is handed out again where that changes; where nothing changes, nothing
unfoldable pub online_anew : Manager → Bool → List Record
online_anew m listening = cond (changes m.listening listening) (all_online m) []

-- L1, L4: it listens or does not from now on, and no network's record changes
unfoldable pub listened : Manager → Bool → Outcome
listened m listening = accepted (with_listening m listening) (length (online_anew m listening))

-- R13, L1: 1 sets it and 0 clears it; any other value is refused with 21
abbrev pub by_value : {A : Type 0} → ℕ → A → (Bool → A) → A
by_value value refuse set = cond (ltb 1 value) refuse (set (eqb 1 value))

-- ---- every call

-- R6, K7: what a call gives; in each case its refusals stand in the order in which they are tested
unfoldable pub outcome : Manager → Call → Outcome
-- R4, R8, R19: 0B on a manager that runs, where the bytes are not looked at and the place is 0; until the start every reading is made
outcome m (read bytes) = by_stage m.stage (read_into m bytes) (read_into m bytes) (refused m CallRefusal.Running)
-- R7: 01 without a sheet; it works before and after the start
outcome m (write room) = by_stage m.stage (refused m CallRefusal.NotReady) (writing_of m room) (writing_of m room)
-- R7, R8: 01 without a sheet, 0B on a manager that runs
outcome m start = by_stage m.stage (refused m CallRefusal.NotReady) (accepted (started_from m) 0) (refused m CallRefusal.Running)
-- R7, R10, R13, R14, R22, R23: 01, 03, 21, and of silent 08, 24 or 25
outcome m (request handle mode) = named m (Id.OfNetwork handle) (a_request mode)
-- R7, R10, N6: 01, 03, else the mode that was last told
outcome m (poll handle) = by_slot m (slot_of m (Id.OfNetwork handle)) (λ i. polled m (state_at m i).told)
-- R7, R9, R11, R15, R17, B1: 01, 20 (9 bytes in every step), 04, 22; it concerns the network that has the controller
outcome m (bus_off controller room) = by_gate m (gate_of m room bus_off_needs) (named m (Id.OfController controller) a_bus_off)
-- R7, R9, R10, R15, R21, X1: 01, 20 (3 bytes in every step), 03, 22
outcome m (stall handle room) = by_gate m (gate_of m room stall_needs) (named m (Id.OfNetwork handle) a_stall)
-- R7, R11, R13, R15, A1: 01, 04, 21 (a mode above 2 or an ok value above 1), 22
outcome m (answer controller mode ok) = named m (Id.OfController controller) (an_answer controller mode ok)
-- R7, R12, R13, R15, A3: 01, 05, 21 (above 2), 22: mode 2 is in range, but no step asks for it
outcome m (transceiver_mode transceiver mode) = named m (Id.OfTransceiver transceiver) (a_report (Report.Transceiver mode))
-- R7, R12, R15, A4: 01, 05, 22
outcome m (clear_done transceiver) = named m (Id.OfTransceiver transceiver) (a_report Report.Cleared)
-- R7, R12, R15, A5: 01, 05, 22
outcome m (check_done transceiver) = named m (Id.OfTransceiver transceiver) (a_report Report.Checked)
-- R7, R9, R16: 01, 20
outcome m (tick room) = by_gate m (gate_of m room (tick_needs m)) (all_ticked m)
-- R7, R9, R13, R24, L1: 01, 20 (whatever it then hands out), 21 (above 1)
outcome m (listen value room) = by_gate m (gate_of m room (listen_needs m)) (by_value value (refused m CallRefusal.OutOfRange) (listened m))

-- the call by which a message comes
abbrev pub call_of : Message → Call
call_of (Message.Request handle mode) = request handle mode
call_of (Message.Answer controller mode ok) = answer controller mode ok
call_of (Message.TransceiverMode transceiver mode) = transceiver_mode transceiver mode
call_of (Message.ClearDone transceiver) = clear_done transceiver
call_of (Message.CheckDone transceiver) = check_done transceiver

-- K7: what a message gives to whoever lends the manager: its answer, and the manager after it; no such call counts, polls or has a place
abbrev pub Hears : Manager → Message → Answer → Manager → Type 0
Hears m message said after =
    (let o : Outcome = record { answer = said; manager = after; count = 0; mode = 0; place = 0 } in o) ≡ outcome m (call_of message)

-- H2: the records that the rules of the networks make on a call, in the order in which they are made; only a bus-off, a stall, a tick and a call to
-- listen make any
unfoldable pub by_rules : Manager → Call → List Record
by_rules m (read bytes) = []
by_rules m (write room) = []
-- N9: none on the start
by_rules m start = []
by_rules m (request handle mode) = []
by_rules m (poll handle) = []
by_rules m (bus_off controller room) = gate_records (gate_of m room bus_off_needs) (slot_records m (slot_of m (Id.OfController controller)) a_bus_off)
by_rules m (stall handle room) = gate_records (gate_of m room stall_needs) (slot_records m (slot_of m (Id.OfNetwork handle)) a_stall)
by_rules m (answer controller mode ok) = []
by_rules m (transceiver_mode transceiver mode) = []
by_rules m (clear_done transceiver) = []
by_rules m (check_done transceiver) = []
by_rules m (tick room) = gate_records (gate_of m room (tick_needs m)) (gathered tick_records (networks_of m) m.states)
by_rules m (listen value room) = gate_records (gate_of m room (listen_needs m)) (by_value value [] (online_anew m))

-- H2, L2: the records that a call hands out: those of the rules, with online turned where the manager listens after the call
unfoldable pub handed_out : Manager → Call → List Record
handed_out m c = map (turned (outcome m c).manager.listening) (by_rules m c)

-- ---- lent buffers

-- H2, H3: a buffer with records from its front; the bytes behind them are as they were
unfoldable pub buffer_with : List ℕ → List Record → List ℕ
buffer_with b rs = bytes rs ++ drop (3 * length rs) b

-- R2, H4: a buffer after writing the sheet; without a sheet every byte stays
unfoldable pub written_into : Manager → List ℕ → List ℕ
written_into m b = by_stage m.stage b (buffer_after (settings_of m) b) (buffer_after (settings_of m) b)

-- K7: what a call gives that is lent the buffer b and leaves it as `after`: its outcome, and the records that it hands out from the buffer's front
pub record Gives (m : Manager) (c : Call) (b : List ℕ) (r : Outcome) (after : List ℕ) : Type 0 where
  pub result : r ≡ outcome m c
  pub buffer : after ≡ buffer_with b (handed_out m c)

-- what a slot gives that a bus-off or a stall names
pub record SlotGives (m : Manager) (slot : Result ℕ CallRefusal) (sight : Sight) (b : List ℕ) (r : Outcome) (after : List ℕ) : Type 0 where
  pub result : r ≡ by_slot m slot (λ i. slot_outcome m i sight)
  pub buffer : after ≡ buffer_with b (slot_records m slot sight)

-- K7: the same of the writer, which hands out no records but its sheet
pub record Writes (m : Manager) (b : List ℕ) (r : Outcome) (after : List ℕ) : Type 0 where
  pub result : r ≡ outcome m (write (length b))
  pub buffer : after ≡ written_into m b

-- the manager after a list of calls, the first call first
unfoldable pub run : Manager → List Call → Manager
run m [] = m
run m (c ∷ cs) = run (outcome m c).manager cs
