-- One network's part in what it sees, as a box that follows the rules plays it. What a wrong box gets wrong has a name of its own here, so that such
-- a box is an edit of one line; the rules themselves stand in `network`.
use Rattle.std.specs.Prelude.{◌≡◌, List, [], ◌∷◌, Bool, true, false, cond, Option, None, Some}
use Rattle.lists.specs.Lists.{any}
use Rattle.records.specs.declared.Record.{Record}
use Rattle.settings.specs.declared.Network.{Network}
use Rattle.steps.specs.declared.Step.{Step}
use Rattle.steps.specs.declared.Move.{Move}
use Rattle.steps.specs.Steps.{asks_for, timer_of}
use Rattle.steps.specs.Decision.{decision}
use Rattle.handing.specs.Handing.{move_records}
use Rattle.network.specs.declared.State.{State}
use Rattle.network.specs.declared.Hit.{Hit}
use Rattle.network.specs.declared.Part.{Part}
use Rattle.network.specs.State.{heard_of, started}
use Rattle.network.specs.Rules.{is_refusal, done_by, delay_of, reached_by, outfit_of}
use Rattle.network.specs.Moving.{after_move}
use Rattle.network.specs.BusOff.{hit_of, stall_of, after_hit, hit_records}
use Rattle.network.specs.Replies.{reply_number}
use Rattle.network.specs.Parts.{Sight, a_tick, a_bus_off, a_stall, an_answer, a_request, a_report, nothing, taken, hit_reply, request_part}
use Rattle.network.specs.Parts.{report_part, answer_part}
use Rattle.network_demands.specs.Words.{Seen, OwnHistory}

-- ---- the tick

-- a report that was asked for has come
abbrev pub report_heard : State → Bool
report_heard s = s.reported

-- the step is done
abbrev pub finished : Network → State → Bool
finished n s = cond s.asked (done_by (asks_for s.step) (heard_of n s) (report_heard s)) false

-- the time of the step is reached
abbrev pub reaches : Network → State → Bool
reaches n s = reached_by (timer_of s.step) n.ensure (delay_of n s.count)

-- what a tick decides for the network
abbrev pub decides : Network → State → Move
decides n s =
    decision s.step s.wanted (finished n s) (any is_refusal (heard_of n s)) (reaches n s) (outfit_of n.transceiver n.partial)

-- the record after a tick
abbrev pub tick_after : Network → State → State
tick_after n s = after_move n s (decides n s)

-- what the tick hands out
abbrev pub tick_hands : Network → State → List Record
tick_hands n s = move_records n s.step s.told (decides n s)

-- ---- the bus-off and the stall

-- the record after a bus-off while up
abbrev pub recovered : State → State
recovered s = after_hit s Hit.Recover

-- the record after a bus-off in step 3
abbrev pub restarted : State → State
restarted s = after_hit s Hit.Restart

-- what a stall does in a step
abbrev pub stalls : Step → Option Hit
stalls step = stall_of step

-- the record after a stall that is taken
abbrev pub reset_after : State → State
reset_after s = after_hit s Hit.Reset

-- by what the step makes of it
abbrev pub hit_after : State → Option Hit → State
hit_after s (Some Hit.Recover) = recovered s
hit_after s (Some Hit.Restart) = restarted s
hit_after s (Some Hit.Reset) = reset_after s
hit_after s None = s

-- ---- the part

-- the reply to what is seen, and the record after it
unfoldable pub played : Network → State → Sight → Part
played n s a_tick = taken (tick_after n s)
played n s a_bus_off = record { reply = hit_reply (hit_of s.step); state = hit_after s (hit_of s.step) }
played n s a_stall = record { reply = hit_reply (stalls s.step); state = hit_after s (stalls s.step) }
played n s (an_answer controller mode ok) = answer_part n s controller mode ok
played n s (a_request mode) = request_part s mode
played n s (a_report report) = report_part s report
played n s nothing = taken s

-- the records handed out
unfoldable pub handed : Network → State → Sight → List Record
handed n s a_tick = tick_hands n s
handed n s a_bus_off = hit_records n (hit_of s.step)
handed n s a_stall = hit_records n (stalls s.step)
handed n s (an_answer controller mode ok) = []
handed n s (a_request mode) = []
handed n s (a_report report) = []
handed n s nothing = []

-- the network's record after a history, since the start
unfoldable pub state_of : Network → OwnHistory → State
state_of n [] = started n
state_of n (e ∷ h) = (played n (state_of n h) e.sight).state

-- a call that is the network's business
abbrev pub concerns : Sight → Bool
concerns a_tick = true
concerns a_bus_off = true
concerns a_stall = true
concerns (an_answer controller mode ok) = true
concerns (a_request mode) = true
concerns (a_report report) = true
concerns nothing = false

-- each answer and each record is the one that the network's rules give
pub record Fits (n : Network) (s : State) (e : Seen) : Type 0 where
  pub number : concerns e.sight ≡ true → e.number ≡ reply_number (played n s e.sight).reply
  pub records : e.records ≡ handed n s e.sight

-- every entry of a history fits, each on the record that the entries before it left
unfoldable pub Ran : Network → OwnHistory → Type 0
Ran n [] = Unit {0}
Ran n (e ∷ h) = Fits n (state_of n h) e × Ran n h
