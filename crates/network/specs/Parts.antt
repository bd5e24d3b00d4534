-- What one network makes of a call: its reply, its record after the call, and the records that it hands out. The manager's outcome of a call that
-- names an id is this part of the network that has it. The rules R2, R13, R15, N14, B6, X5, A1 and A3 to A6 of docs/RULES.md.
use Rattle.std.specs.Prelude.{ℕ, List, [], Bool, false, cond, eqb, ltb, Option, None, Some, Result, Ok, Err}
use Rattle.records.specs.declared.Mode.{Mode}
use Rattle.records.specs.declared.Record.{Record}
use Rattle.records.specs.Records.{mode_named, by_named}
use Rattle.settings.specs.declared.Network.{Network}
use Rattle.settings.specs.declared.Id.{Id}
use Rattle.network.specs.declared.Hit.{Hit}
use Rattle.network.specs.declared.Message.{Message}
use Rattle.network.specs.declared.Part.{Part}
use Rattle.network.specs.declared.Refusal.{Refusal}
use Rattle.network.specs.declared.Report.{Report}
use Rattle.network.specs.declared.State.{State}
use Rattle.network.specs.declared.Trouble.{Trouble}
use Rattle.network.specs.State.{wants}
use Rattle.network.specs.Replies.{request_reply}
use Rattle.network.specs.Moving.{tick_state, tick_records}
use Rattle.network.specs.Answers.{takes_report, after_answer, after_report}
use Rattle.network.specs.BusOff.{hit_of, stall_of, after_hit, hit_records}

-- what a call is to one network: a tick, a bus-off of one of its controllers, a stall of its sending, an answer of a controller, a request for it, a
-- report of its transceiver, or nothing of its own
pub data Sight : Type 0 where
  a_tick : Sight
  a_bus_off : Sight
  a_stall : Sight
  an_answer : (controller mode ok : ℕ) → Sight
  a_request : (mode : ℕ) → Sight
  a_report : (report : Report) → Sight
  nothing : Sight

-- trouble, as the network sees it
abbrev pub sight_of : Trouble → Sight
sight_of Trouble.BusOff = a_bus_off
sight_of Trouble.Stall = a_stall

-- the id that a message names
abbrev pub addressee : Message → Id
addressee (Message.Request handle mode) = Id.OfNetwork handle
addressee (Message.Answer controller mode ok) = Id.OfController controller
addressee (Message.TransceiverMode transceiver mode) = Id.OfTransceiver transceiver
addressee (Message.ClearDone transceiver) = Id.OfTransceiver transceiver
addressee (Message.CheckDone transceiver) = Id.OfTransceiver transceiver

-- a message, as the network sees it that has the id
abbrev pub said : Message → Sight
said (Message.Request handle mode) = a_request mode
said (Message.Answer controller mode ok) = an_answer controller mode ok
said (Message.TransceiverMode transceiver mode) = a_report (Report.Transceiver mode)
said (Message.ClearDone transceiver) = a_report Report.Cleared
said (Message.CheckDone transceiver) = a_report Report.Checked

-- taken: the record is new
abbrev pub taken : State → Part
taken s = record { reply = Ok tt; state = s }

-- R2: refused, the record stays as it was
abbrev pub declined : State → Refusal → Part
declined s refusal = record { reply = Err refusal; state = s }

-- one part where the reply is taken, and another for each refusal
abbrev pub by_reply : Result Unit Refusal → Part → (Refusal → Part) → Part
by_reply (Ok tt) part refuse = part
by_reply (Err refusal) part refuse = refuse refusal

-- N14: a request for one of the three modes is stored where it is taken
unfoldable pub wanted_part : State → Mode → Part
wanted_part s mode = by_reply (request_reply s.step mode) (taken (wants s mode)) (declined s)

-- R13: a request with the mode as a number, refused with 21 where it is none of the three
unfoldable pub request_part : State → ℕ → Part
request_part s mode = by_named (mode_named mode) (wanted_part s) (declined s Refusal.OutOfRange)

-- R13, A1, A3: a mode that is reported and is none of 0 to 2
abbrev pub out_of_range_part : Report → Bool
out_of_range_part (Report.Controller mode) = ltb 2 mode
out_of_range_part (Report.Transceiver mode) = ltb 2 mode
out_of_range_part Report.Cleared = false
out_of_range_part Report.Checked = false

-- R13, R15, A6: 21 for a mode that is reported out of range; where the step takes the report the record is `after`; all else is refused with 22
unfoldable pub taken_part : State → Report → State → Part
taken_part s report after =
    cond (out_of_range_part report) (declined s Refusal.OutOfRange) (cond (takes_report s report) (taken after) (declined s Refusal.NotTaken))

-- A3 to A5: a report of the transceiver
unfoldable pub report_part : State → Report → Part
report_part s report = taken_part s report (after_report s)

-- R13, A1: an answer of a controller, refused with 21 for an ok value above 1 too
unfoldable pub answer_part : Network → State → ℕ → ℕ → ℕ → Part
answer_part n s controller mode ok =
    cond (ltb 1 ok) (declined s Refusal.OutOfRange) (taken_part s (Report.Controller mode) (after_answer n s controller (eqb ok 1)))

-- R15, B6, X5: a bus-off or a stall that the step does not take is refused with 22
abbrev pub hit_reply : Option Hit → Result Unit Refusal
hit_reply (Some hit) = Ok tt
hit_reply None = Err Refusal.NotTaken

-- the reply to trouble and the record after it; not taken, all stays
unfoldable pub hit_part : State → Option Hit → Part
hit_part s (Some hit) = taken (after_hit s hit)
hit_part s None = declined s Refusal.NotTaken

-- the reply to a call and the record after it
unfoldable pub part_of : Network → State → Sight → Part
part_of n s a_tick = taken (tick_state n s)
part_of n s a_bus_off = hit_part s (hit_of s.step)
part_of n s a_stall = hit_part s (stall_of s.step)
part_of n s (an_answer controller mode ok) = answer_part n s controller mode ok
part_of n s (a_request mode) = request_part s mode
part_of n s (a_report report) = report_part s report
part_of n s nothing = taken s

-- the records that the network hands out on it
unfoldable pub records_of : Network → State → Sight → List Record
records_of n s a_tick = tick_records n s
records_of n s a_bus_off = hit_records n (hit_of s.step)
records_of n s a_stall = hit_records n (stall_of s.step)
records_of n s (an_answer controller mode ok) = []
records_of n s (a_request mode) = []
records_of n s (a_report report) = []
records_of n s nothing = []
