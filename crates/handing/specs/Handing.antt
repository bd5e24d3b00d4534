-- What a move, a bus-off, a stall and listening hand out, record by record: the rules S14, H5 to H12, N11, N12, T10, T11, T23 to T25, T27, T28, B3, X2
-- and L3 of docs/RULES.md.
use Rattle.std.specs.Prelude.{ℕ, List, [], ◌∷◌, ◌++◌, map, Bool, cond}
use Rattle.records.specs.declared.Record.{Record}
use Rattle.records.specs.declared.PduMode.{PduMode}
use Rattle.records.specs.declared.Mode.{Mode}
use Rattle.records.specs.declared.Notice.{Notice}
use Rattle.records.specs.declared.EventStatus.{EventStatus}
use Rattle.records.specs.Records.{controller_mode, transceiver_mode, pdu_mode, clear_wake, check_wake, tells, notes, reports}
use Rattle.settings.specs.declared.Network.{Network}
use Rattle.settings.specs.Settings.{handles_of, controllers_of, transceivers_of, listed, member}
use Rattle.steps.specs.declared.Step.{Step}
use Rattle.steps.specs.declared.Ask.{Ask}
use Rattle.steps.specs.declared.Move.{Move}
use Rattle.steps.specs.declared.Move.TheVariants.{Stay, AskAgain, Count, EnterFull, EnterSilent, Pass, Wait, GoDown, EnterNoCommunication, Enter}
use Rattle.steps.specs.Steps.{asks_for, is_online_step}
use Rattle.steps.specs.Decision.{by_mode}
use Rattle.steps.specs.After.{first_down}
use Rattle.handing.specs.declared.Round.{Round}
use Rattle.handing.specs.declared.Errand.{Errand}

-- a record for a controller
abbrev pub round_record : Round → ℕ → Record
round_record (Round.Request mode) id = controller_mode id mode
round_record (Round.Pdu mode) id = pdu_mode id mode

-- a record for a transceiver
abbrev pub errand_record : Errand → ℕ → Record
errand_record (Errand.Mode mode) id = transceiver_mode id mode
errand_record Errand.Clear id = clear_wake id
errand_record Errand.Check id = check_wake id

-- N11, S14: what is handed out for what a step asks for; where it is about controllers, to each of the network, in the order of the sheet
unfoldable pub requests : Ask → Network → List Record
requests Ask.Nothing n = []
requests (Ask.Controllers mode) n = map (round_record (Round.Request mode)) (controllers_of n)
requests (Ask.Transceiver mode) n = map (errand_record (Errand.Mode mode)) (listed n.transceiver)
requests Ask.ClearWake n = map (errand_record Errand.Clear) (listed n.transceiver)
requests Ask.CheckWake n = map (errand_record Errand.Check) (listed n.transceiver)

-- what entering full and entering silent have in common: kind 3 for each controller, then kinds 6 and 7
unfoldable pub entering : Network → PduMode → Mode → Notice → List Record
entering n pdu mode notice = map (round_record (Round.Pdu pdu)) (controllers_of n) ++ (tells n.handle mode ∷ notes n.handle notice ∷ [])

-- the PDU mode of controllers that may send
abbrev pub online : PduMode
online = PduMode.Online

-- T23: every controller online, and full for the communication manager and for the mode manager
unfoldable pub entering_full : Network → List Record
entering_full n = entering n online Mode.Full Notice.Full

-- T24: every controller TX offline, and silent for the communication manager and for the mode manager
unfoldable pub entering_silent : Network → List Record
entering_silent n = entering n PduMode.TxOffline Mode.Silent Notice.Silent

-- T25, E16: the mode manager hears no, and where full was told the communication manager hears silent, before any controller is stopped
unfoldable pub down_notices : ℕ → Mode → List Record
down_notices handle told = notes handle Notice.No ∷ by_mode told [] [] (tells handle Mode.Silent ∷ [])

-- T25: these notices, then the requests of the first down step, which is 9 with partial networking and else 10
unfoldable pub going_down : Network → Mode → List Record
going_down n told = down_notices n.handle told ++ requests (asks_for (first_down n.partial)) n

-- what a move hands out, of a network in a step with a mode told
unfoldable pub move_records : Network → Step → Mode → Move → List Record
move_records n step told Stay = []
-- N12: all that the step asks for, again
move_records n step told AskAgain = requests (asks_for step) n
-- a tick that is counted hands out nothing
move_records n step told (Count next) = []
-- T23: entering full
move_records n step told EnterFull = entering_full n
-- T24: entering silent
move_records n step told EnterSilent = entering_silent n
-- T10, T27: the all-clear
move_records n step told Pass = reports n.handle EventStatus.Passed ∷ []
-- T11: every controller TX offline
move_records n step told Wait = map (round_record (Round.Pdu PduMode.TxOffline)) (controllers_of n)
-- T25: going down
move_records n step told GoDown = going_down n told
-- T28: no for the communication manager, whatever was told before
move_records n step told EnterNoCommunication = tells n.handle Mode.No ∷ []
-- N11: what the step asks for that is entered
move_records n step told (Enter next) = requests (asks_for next) n

-- B3: prefailed for the event manager, silent for the communication manager, bus-off for the mode manager
unfoldable pub recovery : ℕ → List Record
recovery handle = reports handle EventStatus.Prefailed ∷ tells handle Mode.Silent ∷ notes handle Notice.BusOff ∷ []

-- X2: silent for the communication manager, and nothing else
unfoldable pub reset : ℕ → List Record
reset handle = tells handle Mode.Silent ∷ []

-- L3: online for each controller of a network in step 4, 5, 15 or 16, and in any other step nothing
unfoldable pub online_in : Network → Step → List Record
online_in n step = cond (is_online_step step) (map (round_record (Round.Pdu online)) (controllers_of n)) []

-- H5 to H12: what a record of a kind can name of a network: its controllers, its transceiver, or its handle
unfoldable pub targets_of : Network → ℕ → List ℕ
targets_of n kind =
    cond (member kind (1 ∷ 3 ∷ [])) (controllers_of n)
    (cond (member kind (2 ∷ 4 ∷ 5 ∷ [])) (transceivers_of n)
    (cond (member kind (6 ∷ 7 ∷ 8 ∷ [])) (handles_of n) []))

-- a record is of one of the eight kinds and names the network's own controller, transceiver or handle
unfoldable pub own_record : Network → Record → Bool
own_record n r = member r.target (targets_of n r.kind)
