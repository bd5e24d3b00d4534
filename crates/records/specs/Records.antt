-- The records that are handed out, and their bytes: the rules H1, H2, H5 to H12 and L2 of docs/RULES.md.
use Rattle.std.specs.Prelude.{ℕ, zero, suc, ◌+◌, ◌*◌, List, [], ◌∷◌, Bool, ◌&&◌, cond, eqb, get_or, drop, Result, Ok, Err}
use Rattle.records.specs.declared.Record.{Record}
use Rattle.records.specs.declared.ControllerMode.{ControllerMode}
use Rattle.records.specs.declared.TransceiverMode.{TransceiverMode}
use Rattle.records.specs.declared.PduMode.{PduMode}
use Rattle.records.specs.declared.Mode.{Mode}
use Rattle.records.specs.declared.UnknownMode.{UnknownMode}
use Rattle.records.specs.declared.Notice.{Notice}
use Rattle.records.specs.declared.EventStatus.{EventStatus}

-- H5: the number of each mode of a controller
abbrev pub controller_number : ControllerMode → ℕ
controller_number ControllerMode.Stopped = 0
controller_number ControllerMode.Started = 1
controller_number ControllerMode.Sleep = 2

-- H6: the number of each mode of a transceiver
abbrev pub transceiver_number : TransceiverMode → ℕ
transceiver_number TransceiverMode.Normal = 0
transceiver_number TransceiverMode.Standby = 1

-- H7: the number of each PDU mode
abbrev pub pdu_number : PduMode → ℕ
pdu_number PduMode.Online = 0
pdu_number PduMode.TxOffline = 1

-- H10: the number of each mode that the communication manager is told, also where a mode is wanted or polled
abbrev pub mode_number : Mode → ℕ
mode_number Mode.No = 0
mode_number Mode.Silent = 1
mode_number Mode.Full = 2

-- R13: the mode that a number names: 0, 1 and 2 name one, and no other does
abbrev pub mode_named : ℕ → Result Mode UnknownMode
mode_named number =
    cond (eqb number 0) (Ok Mode.No) (cond (eqb number 1) (Ok Mode.Silent) (cond (eqb number 2) (Ok Mode.Full) (Err (record {}))))

-- one of two, by whether a number names a mode
abbrev pub by_named : {A : Type 0} → Result Mode UnknownMode → (Mode → A) → A → A
by_named (Ok mode) known unknown = known mode
by_named (Err e) known unknown = unknown

-- H11: the number of each notice to the mode manager
abbrev pub notice_number : Notice → ℕ
notice_number Notice.No = 0
notice_number Notice.Silent = 1
notice_number Notice.Full = 2
notice_number Notice.BusOff = 3

-- H12: the number of each status for the event manager
abbrev pub status_number : EventStatus → ℕ
status_number EventStatus.Passed = 0
status_number EventStatus.Prefailed = 1

-- H1: a record by its three numbers, in the order of its bytes
abbrev pub handed : ℕ → ℕ → ℕ → Record
handed kind target argument = record { kind = kind; target = target; argument = argument }

-- ---- the eight kinds, each with a controller, a transceiver or a handle as its target
-- H5: kind 1, the mode of the controller with this id
abbrev pub controller_mode : ℕ → ControllerMode → Record
controller_mode id mode = handed 1 id (controller_number mode)

-- H6: kind 2, the mode of the transceiver with this id
abbrev pub transceiver_mode : ℕ → TransceiverMode → Record
transceiver_mode id mode = handed 2 id (transceiver_number mode)

-- H7: kind 3, the PDU mode of the controller with this id
abbrev pub pdu_mode : ℕ → PduMode → Record
pdu_mode id mode = handed 3 id (pdu_number mode)

-- H7, L2: kind 3 with argument 2, by which the controller with this id receives and does not send
abbrev pub listens : ℕ → Record
listens id = handed 3 id 2

-- H8: kind 4, the wake flag of the transceiver with this id is to be cleared
abbrev pub clear_wake : ℕ → Record
clear_wake id = handed 4 id 0

-- H9: kind 5, the wake flag of the transceiver with this id is to be checked
abbrev pub check_wake : ℕ → Record
check_wake id = handed 5 id 0

-- H10: kind 6, the communication manager is told a mode, which a poll gives from then on
abbrev pub tells : ℕ → Mode → Record
tells handle mode = handed 6 handle (mode_number mode)

-- H11: kind 7, the mode manager is told of a network's mode, or of its bus-off
abbrev pub notes : ℕ → Notice → Record
notes handle notice = handed 7 handle (notice_number notice)

-- H12: kind 8, the event manager is told: passed is the all-clear, prefailed comes with a bus-off while up
abbrev pub reports : ℕ → EventStatus → Record
reports handle status = handed 8 handle (status_number status)

-- ---- records as they go out
-- H7: kind 3 online, whichever controller it is for
abbrev pub is_online : Record → Bool
is_online r = eqb 3 r.kind && eqb 0 r.argument

-- L2: online goes out with argument 2 where the manager listens; every other record goes out as it is
unfoldable pub turned : Bool → Record → Record
turned listening r = cond (listening && is_online r) (listens r.target) r

-- ---- records as bytes
-- H1: the bytes of records, three for each
unfoldable pub bytes : List Record → List ℕ
bytes [] = []
bytes (r ∷ rs) = r.kind ∷ r.target ∷ r.argument ∷ bytes rs

-- H1, H2: record number k of a buffer
abbrev pub record_at : ℕ → List ℕ → Record
record_at k buffer = handed (get_or buffer (3 * k) 0) (get_or buffer (3 * k + 1) 0) (get_or buffer (3 * k + 2) 0)

-- H1, H2: so many records, as they stand at the front of a lent buffer
unfoldable pub records_at : ℕ → List ℕ → List Record
records_at zero buffer = []
records_at (suc n) buffer = handed (get_or buffer 0 0) (get_or buffer 1 0) (get_or buffer 2 0) ∷ records_at n (drop 3 buffer)
