-- The words in which demand 3 speaks of a history, as one network sees it. All of them are read off the calls that concern the network, their
-- answers and the records that name its ids; none cites a rule.
use Rattle.std.specs.Prelude.{ℕ, suc, ◌+◌, ◌≤◌, ◌≡◌, List, [], ◌∷◌, ◌++◌, Bool, true, false, not, ◌&&◌, ◌||◌, cond, leb, ltb, eqb}
use Rattle.lists.specs.Lists.{any, every}
use Rattle.records.specs.declared.Record.{Record}
use Rattle.settings.specs.declared.Relation.{Relation}
use Rattle.settings.specs.declared.Network.{Network}
use Rattle.settings.specs.Settings.{controllers_of, member}
use Rattle.network.specs.declared.Report.{Report}
use Rattle.network.specs.Parts.{Sight, a_tick, a_bus_off, a_stall, an_answer, a_request, a_report, nothing}

-- ---- histories of one network

-- what a call was to the network, the number of its answer, and the records handed out that name its ids
pub record Seen : Type 0 where
  pub sight : Sight
  pub number : ℕ
  pub records : List Record

-- a history has the latest call first
abbrev pub OwnHistory : Type 0
OwnHistory = List Seen

-- R1: it was accepted
abbrev pub accepted : Seen → Bool
accepted e = eqb 0 e.number

-- ---- records

-- a record of a kind, a target and an argument
abbrev pub is : ℕ → ℕ → ℕ → Record → Bool
is kind target argument r = eqb kind r.kind && (eqb argument r.argument && eqb target r.target)

-- such a record was handed out
abbrev pub hands : ℕ → ℕ → ℕ → Seen → Bool
hands kind target argument e = any (is kind target argument) e.records

-- ---- parts of a history

-- what follows the last entry that passes the test; all, where none does
unfoldable pub since : (Seen → Bool) → OwnHistory → OwnHistory
since p [] = []
since p (e ∷ h) = cond (p e) [] (e ∷ since p h)

-- no entry passes the test
abbrev pub never : (Seen → Bool) → OwnHistory → Type 0
never p h = any p h ≡ false

-- how many entries pass the test
unfoldable pub tally : (Seen → Bool) → OwnHistory → ℕ
tally p [] = 0
tally p (e ∷ h) = cond (p e) (suc (tally p h)) (tally p h)

-- ---- what is seen

-- a tick
abbrev pub is_tick : Sight → Bool
is_tick a_tick = true
is_tick a_bus_off = false
is_tick a_stall = false
is_tick (an_answer controller mode ok) = false
is_tick (a_request mode) = false
is_tick (a_report report) = false
is_tick nothing = false

-- a bus-off of one of its controllers
abbrev pub is_bus_off : Sight → Bool
is_bus_off a_tick = false
is_bus_off a_bus_off = true
is_bus_off a_stall = false
is_bus_off (an_answer controller mode ok) = false
is_bus_off (a_request mode) = false
is_bus_off (a_report report) = false
is_bus_off nothing = false

-- a stall of its sending
abbrev pub is_stall : Sight → Bool
is_stall a_tick = false
is_stall a_bus_off = false
is_stall a_stall = true
is_stall (an_answer controller mode ok) = false
is_stall (a_request mode) = false
is_stall (a_report report) = false
is_stall nothing = false

-- an answer of a controller to the request for a mode, with this ok value
abbrev pub is_answer_on : ℕ → ℕ → ℕ → Sight → Bool
is_answer_on c mode value a_tick = false
is_answer_on c mode value a_bus_off = false
is_answer_on c mode value a_stall = false
is_answer_on c mode value (an_answer controller asked ok) = eqb c controller && (eqb mode asked && eqb value ok)
is_answer_on c mode value (a_request asked) = false
is_answer_on c mode value (a_report report) = false
is_answer_on c mode value nothing = false

-- one to the request to start
abbrev pub is_answer : ℕ → ℕ → Sight → Bool
is_answer c value sight = is_answer_on c 1 value sight

-- the mode of a request for the network; of all else the mode that was wanted before
abbrev pub wanted_by : Sight → ℕ → ℕ
wanted_by a_tick before = before
wanted_by a_bus_off before = before
wanted_by a_stall before = before
wanted_by (an_answer controller mode ok) before = before
wanted_by (a_request mode) before = mode
wanted_by (a_report report) before = before
wanted_by nothing before = before

-- ---- entries

-- a tick: one that was refused is not seen
abbrev pub ticked : Seen → Bool
ticked e = is_tick e.sight

-- a bus-off of the network, whatever its answer was; one that was refused for lack of room is not seen
abbrev pub fell : Seen → Bool
fell e = is_bus_off e.sight

-- a stall of the network that was accepted
abbrev pub stalled : Seen → Bool
stalled e = is_stall e.sight && accepted e

-- a bus-off or a stall that was accepted: what stood asked for no longer does
abbrev pub struck : Seen → Bool
struck e = (fell e && accepted e) || stalled e

-- T26: a shutdown begins, which 7 no says
abbrev pub shut : Network → Seen → Bool
shut n e = hands 7 n.handle 0 e

-- T27: the all-clear
abbrev pub cleared : Network → Seen → Bool
cleared n e = hands 8 n.handle 0 e

-- a bus-off of the network, an accepted stall, or the beginning of its shutdown: what a controller answered before it no longer counts
abbrev pub setback : Network → Seen → Bool
setback n e = fell e || (stalled e || shut n e)

-- ---- the mode last told by kind 6; no, where none was told

-- after the records of one call: the argument of the last kind 6 that names the handle; where there is none, `mode`, as it was before
unfoldable pub told_by : Network → List Record → ℕ → ℕ
told_by n [] mode = mode
told_by n (r ∷ rs) mode = told_by n rs (cond (eqb 6 r.kind && eqb n.handle r.target) r.argument mode)

-- N5: a network is said to be full where this is 2
unfoldable pub told : Network → OwnHistory → ℕ
told n [] = 0
told n (e ∷ h) = told_by n e.records (told n h)

-- ---- the mode last wanted: that of the last accepted request

-- N8: no is wanted, which is 0, until a request is accepted
unfoldable pub wanted : OwnHistory → ℕ
wanted [] = 0
wanted (e ∷ h) = cond (accepted e) (wanted_by e.sight (wanted h)) (wanted h)

-- ---- where the network stands, by what it told and was told

-- up: full was told since the last shutdown
abbrev pub up : Network → OwnHistory → Bool
up n h = any (hands 6 n.handle 2) (since (shut n) h)

-- it came to rest: no was told since the last shutdown
abbrev pub rested : Network → OwnHistory → Bool
rested n h = any (hands 6 n.handle 0) (since (shut n) h)

-- full was wanted at some tick since no was last told
unfoldable pub called_up : Network → OwnHistory → Bool
called_up n [] = false
called_up n (e ∷ h) = cond (hands 6 n.handle 0 e) false ((ticked e && eqb 2 (wanted h)) || called_up n h)

-- on: it came to rest, and was called up since
abbrev pub on : Network → OwnHistory → Bool
on n h = rested n h && called_up n h

-- the last tick handed out such a record, and no bus-off and no stall was accepted since
unfoldable pub awaited : ℕ → ℕ → ℕ → OwnHistory → Bool
awaited kind target argument [] = false
awaited kind target argument (e ∷ h) =
    cond (ticked e) (hands kind target argument e) (cond (struck e) false (awaited kind target argument h))

-- the mode that was wanted at the last tick; no where there was none
unfoldable pub wanted_at_tick : OwnHistory → ℕ
wanted_at_tick [] = 0
wanted_at_tick (e ∷ h) = cond (ticked e) (wanted h) (wanted_at_tick h)

-- ---- bus-offs while up, which of them count, and the delay that they bring

-- the entry, which follows h, is a bus-off while the network was up
abbrev pub fell_up : Network → Seen → OwnHistory → Bool
fell_up n e h = fell e && up n h

-- TX offline went to a controller of the network: the records of an entry are those that name its ids
abbrev pub quieted : Seen → Bool
quieted e = any (λ (r : Record). eqb 3 r.kind && eqb 1 r.argument) e.records

-- restarting: a bus-off came while the network was up, and neither TX offline nor a shutdown since
unfoldable pub restarting : Network → OwnHistory → Bool
restarting n [] = false
restarting n (e ∷ h) = cond (quieted e || shut n e) false (fell_up n e h || restarting n h)

-- the entry, which follows h, is a bus-off that counts: it came while the network was up, and not while it was restarting
abbrev pub counts : Network → Seen → OwnHistory → Bool
counts n e h = fell_up n e h && not (restarting n h)

-- how many bus-offs counted since the last all-clear: of each entry by what went before it
unfoldable pub falls : Network → OwnHistory → ℕ
falls n [] = 0
falls n (e ∷ h) = cond (cleared n e) 0 (cond (counts n e h) (suc (falls n h)) (falls n h))

-- so many bus-offs exceed the threshold, by a network's own relation: more than it, or at least as many
abbrev pub exceeds : Relation → ℕ → ℕ → Bool
exceeds Relation.Above threshold number = ltb threshold number
exceeds Relation.AtOrAbove threshold number = leb threshold number

-- the delay that a bus-off at the head of the history brings, whether it counts or not: the long one exactly where those that count, up to and with
-- it, exceed the threshold
abbrev pub delay_at : Network → OwnHistory → ℕ
delay_at n h = cond (exceeds n.relation n.threshold (falls n h)) n.long n.short

-- one fault is counted once: whatever s reports, which follows the bus-off b while up, no bus-off more counts until TX offline or a shutdown
abbrev pub CountedOnce : Network → OwnHistory → Seen → OwnHistory → Type 0
CountedOnce n s b h = fell_up n b h ≡ true → never quieted s → never (shut n) s → falls n (s ++ (b ∷ h)) ≡ falls n (b ∷ h)

-- the delay that is owed since the last setback: that of a bus-off while up, and else none
unfoldable pub owed : Network → OwnHistory → ℕ
owed n [] = 0
owed n (e ∷ h) = cond (setback n e) (cond (fell_up n e h) (delay_at n (e ∷ h)) 0) (owed n h)

-- ---- stalls

-- the last setback was a stall
unfoldable pub after_stall : Network → OwnHistory → Bool
after_stall n [] = false
after_stall n (e ∷ h) = cond (setback n e) (stalled e) (after_stall n h)

-- ---- a controller runs: its last answer to the request to start is ok, and it was asked before

-- some record of the history asks the controller to start: kind 1, argument 1
abbrev pub asked_to_start : ℕ → OwnHistory → Bool
asked_to_start c h = any (hands 1 c 1) h

-- the latest accepted answer on started decides: with ok 1 it runs if it was asked before; with ok 0 it does not
unfoldable pub runs : ℕ → OwnHistory → Bool
runs c [] = false
runs c (e ∷ h) =
    cond (is_answer c 1 e.sight && accepted e) (asked_to_start c h)
    (cond (is_answer c 0 e.sight && accepted e) false (runs c h))

-- every controller of the network runs
abbrev pub all_run : Network → OwnHistory → Bool
all_run n h = every (λ (c : ℕ). runs c h) (controllers_of n)

-- the number, counted from 1, of the first tick before which every controller runs; 0 where there is none
unfoldable pub first_running : Network → OwnHistory → ℕ
first_running n [] = 0
first_running n (e ∷ h) = cond (ltb 0 (first_running n h)) (first_running n h) (cond (ticked e && all_run n h) (suc (tally ticked h)) 0)

-- ---- exactly when a network is said to be full, and exactly when it is told no

-- full is due after h, of which s is what follows the last setback: there was a tick before which every controller runs, as many ticks
-- as the delay came after that one, and full was wanted at the last tick
abbrev pub duly : Network → ℕ → OwnHistory → OwnHistory → Bool
duly n delay s h = ltb 0 (first_running n s) && (leb (first_running n s + delay) (tally ticked s) && eqb 2 (wanted_at_tick h))

-- the network is said to be full exactly if that is due
abbrev pub Told : Network → OwnHistory → Type 0
Told n h = eqb 2 (told n h) ≡ duly n (owed n h) (since (setback n) h) h

-- no is the mode last told exactly if full was not told since no was
abbrev pub ToldNo : Network → OwnHistory → Type 0
ToldNo n h = eqb 0 (told n h) ≡ not (any (hands 6 n.handle 2) (since (hands 6 n.handle 0) h))

-- ---- demand 3, first sentence: in a network that is said to be full each controller was asked to start and its last answer says that it runs, both
-- since the latest of the start, the last bus-off, the last accepted stall and the last shutdown
abbrev pub Answered : Network → OwnHistory → Type 0
Answered n h = told n h ≡ 2 → (c : ℕ) → member c (controllers_of n) ≡ true → runs c (since (setback n) h) ≡ true

-- ---- second sentence: full again after a bus-off while up only when the delay that is due and two ticks are over. The history is s after the
-- bus-off b after h.

-- if b came while up, s has no further bus-off and no shutdown, and full is told at the end, then s has the delay plus two ticks or more
abbrev pub Delayed : Network → OwnHistory → Seen → OwnHistory → Type 0
Delayed n s b h =
    fell_up n b h ≡ true → never fell s → never (shut n) s → told n (s ++ (b ∷ h)) ≡ 2 → delay_at n (b ∷ h) + 2 ≤ tally ticked s

-- however late the answers are: if b came while up, and s has no further bus-off, no stall and no shutdown, then full is told exactly if it is due;
-- the tick before which every controller runs is never the first
abbrev pub LateAnswers : Network → OwnHistory → Seen → OwnHistory → Type 0
LateAnswers n s b h =
    fell_up n b h ≡ true → never fell s → never stalled s → never (shut n) s
    → (eqb 2 (told n (s ++ (b ∷ h))) ≡ duly n (delay_at n (b ∷ h)) s (s ++ (b ∷ h))) × (eqb 1 (first_running n s) ≡ false)

-- ---- what answers a request

-- kinds 1, 2, 4 and 5 ask for something
abbrev pub is_request : Record → Bool
is_request r = member r.kind (1 ∷ 2 ∷ 4 ∷ 5 ∷ [])

-- a report that what a request of this kind asks for is done: of a transceiver the asked mode, of a wake flag that it was cleared, or was checked
abbrev pub reports_on : ℕ → ℕ → Report → Bool
reports_on kind argument (Report.Controller mode) = false
reports_on kind argument (Report.Transceiver mode) = eqb 2 kind && eqb argument mode
reports_on kind argument Report.Cleared = eqb 4 kind
reports_on kind argument Report.Checked = eqb 5 kind

-- such a report, as it is seen
abbrev pub report_seen : ℕ → ℕ → Sight → Bool
report_seen kind argument a_tick = false
report_seen kind argument a_bus_off = false
report_seen kind argument a_stall = false
report_seen kind argument (an_answer controller mode ok) = false
report_seen kind argument (a_request mode) = false
report_seen kind argument (a_report report) = reports_on kind argument report
report_seen kind argument nothing = false

-- a call that says ok to the request, or reports that it is done: whatever the box answers to that call
abbrev pub grants : Record → Sight → Bool
grants r sight = (eqb 1 r.kind && is_answer_on r.target r.argument 1 sight) || report_seen r.kind r.argument sight

-- one that says not ok to it
abbrev pub denies : Record → Sight → Bool
denies r sight = eqb 1 r.kind && is_answer_on r.target r.argument 0 sight

-- F2: since the last tick, the last call that answers the request says ok
unfoldable pub granted : Record → OwnHistory → Bool
granted r [] = false
granted r (e ∷ s) = cond (ticked e) false (cond (grants r e.sight) true (cond (denies r e.sight) false (granted r s)))

-- what the last tick handed out; nothing, where there was none
unfoldable pub last_handed : OwnHistory → List Record
last_handed [] = []
last_handed (e ∷ s) = cond (ticked e) e.records (last_handed s)

-- each request that the last tick handed out is granted
abbrev pub all_granted : OwnHistory → Bool
all_granted s = every (λ (r : Record). not (is_request r) || granted r s) (last_handed s)

-- so it is before every tick of s. Nothing is asked of what stood open before s
unfoldable pub granted_at_ticks : OwnHistory → Bool
granted_at_ticks [] = true
granted_at_ticks (e ∷ s) = cond (ticked e) (all_granted s) true && granted_at_ticks s

-- ---- good ticks

-- full is wanted at every tick of s, which follows h, from the one with this number on, counted from 1
unfoldable pub full_from : ℕ → OwnHistory → OwnHistory → Bool
full_from number [] h = true
full_from number (e ∷ s) h = cond (ticked e && leb number (tally ticked (e ∷ s))) (eqb 2 (wanted (s ++ h))) true && full_from number s h

-- F2: the ticks of s are good: full is wanted at them, from one of them on; of each request that the tick before handed out the last call that
-- answers it says ok; no bus-off and no stall was accepted. A bus-off that is refused, an answer that is not ok and is followed by an ok, one that
-- nobody asked for: all of that may come
pub record GoodTicks (number : ℕ) (s h : OwnHistory) : Type 0 where
  pub full : full_from number s h ≡ true
  pub granted : granted_at_ticks s ≡ true
  pub calm : never struck s

-- ---- third sentence: where the ticks are good, that tick is the one that tells full

-- a tick t tells full exactly if it is the one numbered delay plus two after the bus-off b
abbrev pub OnJustThatTick : Network → Seen → OwnHistory → Seen → OwnHistory → Type 0
OnJustThatTick n t s b h =
    fell_up n b h ≡ true → GoodTicks 1 (t ∷ s) (b ∷ h) → ticked t ≡ true
    → hands 6 n.handle 2 t ≡ eqb (delay_at n (b ∷ h) + 2) (tally ticked (t ∷ s))

-- the same by the mode last told: silent up to that tick, full from it on
abbrev pub SaidFrom : Network → OwnHistory → Seen → OwnHistory → Type 0
SaidFrom n s b h =
    fell_up n b h ≡ true → GoodTicks 1 s (b ∷ h) → told n (s ++ (b ∷ h)) ≡ cond (leb (delay_at n (b ∷ h) + 2) (tally ticked s)) 2 1

-- ---- after a stall: the history is s after the stall b after h

-- however late the answers are: if s has no bus-off, no further stall and no shutdown, then full is told exactly if it is due, without a delay; the
-- tick before which every controller runs is never one of the first two
abbrev pub LateAfterStall : Network → OwnHistory → Seen → OwnHistory → Type 0
LateAfterStall n s b h =
    stalled b ≡ true → never fell s → never stalled s → never (shut n) s
    → (eqb 2 (told n (s ++ (b ∷ h))) ≡ duly n 0 s (s ++ (b ∷ h))) × (ltb 0 (first_running n s) ≡ leb 3 (first_running n s))

-- a tick t tells full exactly if it is the third after the stall b
abbrev pub OnTheThirdTick : Network → Seen → OwnHistory → Seen → OwnHistory → Type 0
OnTheThirdTick n t s b h =
    stalled b ≡ true → GoodTicks 1 (t ∷ s) (b ∷ h) → ticked t ≡ true → hands 6 n.handle 2 t ≡ eqb 3 (tally ticked (t ∷ s))

-- the same by the mode last told: silent up to that tick, full from it on
abbrev pub SaidFromTheThird : Network → OwnHistory → Seen → OwnHistory → Type 0
SaidFromTheThird n s b h =
    stalled b ≡ true → GoodTicks 1 s (b ∷ h) → told n (s ++ (b ∷ h)) ≡ cond (leb 3 (tally ticked s)) 2 1
