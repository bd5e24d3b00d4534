-- The manager, its answers with their numbers, and what all calls share. The rules R1 to R4, R7 to R13, R16, R24, H2, T1, L1 and L4 of docs/RULES.md.
use Rattle.std.specs.Prelude.{ℕ, ◌+◌, ◌*◌, max, List, [], ◌∷◌, ◌++◌, Bool, false, length, get_or, take, set, replicate, Result, Ok, Err}
use Rattle.records.specs.declared.Mode.{Mode}
use Rattle.records.specs.declared.Record.{Record}
use Rattle.settings.specs.declared.Network.{Network}
use Rattle.settings.specs.declared.Settings.{Settings}
use Rattle.settings.specs.Settings.{most_networks, blank_network, controllers_of}
use Rattle.entries.specs.Entries.{fault_number}
use Rattle.steps.specs.declared.Step.{Step}
use Rattle.network.specs.declared.State.{State}
use Rattle.network.specs.State.{blank_answers}
use Rattle.network.specs.Replies.{refusal_number}
use Rattle.slots.specs.declared.Stage.{Stage}
use Rattle.slots.specs.declared.CallRefusal.{CallRefusal}
use Rattle.slots.specs.declared.Share.{Share}
use Rattle.slots.specs.declared.Manager.{Manager}
use Rattle.slots.specs.declared.Outcome.{Outcome}

-- what a call answers: that it is accepted, or why it is not
abbrev pub Answer : Type 0
Answer = Result Unit CallRefusal

-- R1, R7 to R13, K6: the number of each refusal; a network has its own refusals, and the sheet has those from 30 to 38
abbrev pub call_refusal_number : CallRefusal → ℕ
call_refusal_number CallRefusal.NotReady = 0x01
call_refusal_number CallRefusal.Running = 0x0B
call_refusal_number CallRefusal.TooShort = 0x20
call_refusal_number CallRefusal.NoHandle = 0x03
call_refusal_number CallRefusal.NoController = 0x04
call_refusal_number CallRefusal.NoTransceiver = 0x05
call_refusal_number CallRefusal.OutOfRange = 0x21
call_refusal_number (CallRefusal.Network refusal) = refusal_number refusal
call_refusal_number (CallRefusal.Sheet fault) = fault_number fault

-- R1: the number of each answer, 0 for accepted
abbrev pub answer_number : Answer → ℕ
answer_number (Ok done) = 0x00
answer_number (Err refusal) = call_refusal_number refusal

-- the networks in use, in the order of the sheet
abbrev pub networks_of : Manager → List Network
networks_of m = take m.settings.count m.settings.networks

-- the settings of the last accepted sheet: what the writer writes
abbrev pub settings_of : Manager → Settings
settings_of m = m.settings

-- a record that is not in use
abbrev pub blank_state : State
blank_state =
    record { step = Step.NoCommunication; wanted = Mode.No; told = Mode.No; count = 0; asked = false; answers = blank_answers; reported = false }

-- one for each of the 8 slots: the records before the start
abbrev pub blank_states : List State
blank_states = replicate most_networks blank_state

-- the network of slot i; past the last slot it is the blank one
abbrev pub network_at : Manager → ℕ → Network
network_at m i = get_or m.settings.networks i blank_network

-- the record of slot i; past the last slot it is the blank one
abbrev pub state_at : Manager → ℕ → State
state_at m i = get_or m.states i blank_state

-- the record of slot i is new; the stage, the networks and all other records stay
abbrev pub with_state : Manager → ℕ → State → Manager
with_state m i s = record { stage = m.stage; listening = m.listening; settings = m.settings; states = set m.states i s }

-- all records are new: on a start and on a tick, after both of which the manager is a started one
abbrev pub with_states : Manager → Bool → List State → Manager
with_states m listening states =
    record { stage = Stage.Started; listening = listening; settings = m.settings; states = states }

-- L1, L4: the manager listens, or does not; all else stays
abbrev pub with_listening : Manager → Bool → Manager
with_listening m listening =
    record { stage = m.stage; listening = listening; settings = m.settings; states = m.states }

-- R2 to R4: beside this answer the manager stays as it was; the count, the polled mode and the place are 0
abbrev pub answered : Manager → Answer → Outcome
answered m answer = record { answer = answer; manager = m; count = 0; mode = 0; place = 0 }

-- R2 to R4: refused, and nothing changes
abbrev pub refused : Manager → CallRefusal → Outcome
refused m refusal = answered m (Err refusal)

-- accepted with a count, of records or of bytes written; only a poll gives a mode and only a read a place
abbrev pub accepted : Manager → ℕ → Outcome
accepted m count = record { answer = Ok tt; manager = m; count = count; mode = 0; place = 0 }

-- T1: f of each network and its record, in the order of the sheet; records past the networks stay
unfoldable pub each : (Network → State → State) → List Network → List State → List State
each f [] ss = ss
each f (n ∷ ns) [] = []
each f (n ∷ ns) (s ∷ ss) = f n s ∷ each f ns ss

-- T1, L3, H2: what each network hands out, network after network in the order of the sheet
unfoldable pub gathered : (Network → State → List Record) → List Network → List State → List Record
gathered f [] ss = []
gathered f (n ∷ ns) [] = []
gathered f (n ∷ ns) (s ∷ ss) = f n s ++ gathered f ns ss

-- how many controllers a network has
abbrev pub controller_count : Network → ℕ
controller_count n = length (controllers_of n)

-- R16: how many records a network may hand out on a tick: one for each controller and two more. A network made up without any controller counts as
-- one that has one, so that the room suffices for every manager, and not only for those that a sheet gives
abbrev pub share : Network → ℕ
share n = max 1 (controller_count n) + 2

-- R16, R24: how many a network may hand out on a tick, or on a call to listen, which is one for each controller
abbrev pub share_in : Share → Network → ℕ
share_in Share.Tick n = share n
share_in Share.Listen n = controller_count n

-- a number of each network, added up over all
unfoldable pub summed : (Network → ℕ) → List Network → ℕ
summed f [] = 0
summed f (n ∷ ns) = f n + summed f ns

-- three bytes for each record that the networks may hand out
unfoldable pub needs_of : Share → Manager → ℕ
needs_of share m = 3 * summed (share_in share) (networks_of m)

-- R16: the bytes that a tick needs
unfoldable pub tick_needs : Manager → ℕ
tick_needs m = 3 * summed share (networks_of m)

-- R24: the bytes that a call to listen needs: three for each controller of all networks
unfoldable pub listen_needs : Manager → ℕ
listen_needs m = 3 * summed controller_count (networks_of m)
