-- What the box promises of one network, entry by entry: e follows h, both as the network sees them. Which bus-offs, stalls, answers and requests are
-- taken, what is handed out on them, and what a tick hands out. All of it is read off calls, answers and records; nothing looks into the network's
-- record and nothing cites a rule of its steps.
use Rattle.std.specs.Prelude.{ℕ, ◌+◌, ◌≤◌, ◌≡◌, List, [], ◌∷◌, ◌++◌, Bool, true, false, ◌&&◌, ◌||◌, cond, not, leb, ltb, eqb, length, get_or, Some}
use Rattle.lists.specs.Lists.{any}
use Rattle.records.specs.declared.Record.{Record}
use Rattle.records.specs.Records.{handed}
use Rattle.settings.specs.declared.Network.{Network}
use Rattle.settings.specs.Settings.{controllers_of, member}
use Rattle.network.specs.declared.Report.{Report}
use Rattle.network.specs.Parts.{Sight, a_tick, a_bus_off, a_stall, an_answer, a_request, a_report, nothing}
use Rattle.network_demands.specs.Words.{Seen, OwnHistory, accepted, hands, since, tally, ticked, fell, shut, cleared, told, wanted, up}
use Rattle.network_demands.specs.Words.{rested, on}
use Rattle.network_demands.specs.Words.{is_stall, is_answer_on, setback, awaited, fell_up, restarting, owed, after_stall, asked_to_start}
use Rattle.network_demands.specs.Words.{first_running}

-- ---- bus-offs

-- B3: what a bus-off while up hands out, in this order: 8 prefailed, 6 silent, 7 bus-off
abbrev pub fall_records : Network → List Record
fall_records n = handed 8 n.handle 1 ∷ handed 6 n.handle 1 ∷ handed 7 n.handle 3 ∷ []

-- B3, B5, B6: a bus-off hands out these three while up and else nothing; it is taken exactly if the controllers were asked to start since the last
-- shutdown
pub record BusOffs (n : Network) (e : Seen) (h : OwnHistory) : Type 0 where
  pub records : fell e ≡ true → e.records ≡ cond (up n h) (fall_records n) []
  pub accepted : fell e ≡ true → (c : ℕ) → member c (controllers_of n) ≡ true → accepted e ≡ asked_to_start c (since (shut n) h)

-- ---- stalls

-- X2, X5: a stall is taken exactly if full is told, and hands out 6 silent then and else nothing
pub record Stalls (n : Network) (e : Seen) (h : OwnHistory) : Type 0 where
  pub records : e.sight ≡ a_stall → e.records ≡ cond (eqb 2 (told n h)) (handed 6 n.handle 1 ∷ []) []
  pub accepted : e.sight ≡ a_stall → accepted e ≡ eqb 2 (told n h)

-- ---- answers and reports

-- A1 to A6: each is taken exactly if its numbers are in range and just that stands asked for: the last tick handed the request out, and no bus-off
-- and no stall was accepted since
pub record Answers (n : Network) (e : Seen) (h : OwnHistory) : Type 0 where
  pub controllers : (c mode ok : ℕ) → e.sight ≡ an_answer c mode ok → member c (controllers_of n) ≡ true
      → accepted e ≡ leb mode 2 && (leb ok 1 && awaited 1 c mode h)
  pub transceivers : (t mode : ℕ) → e.sight ≡ a_report (Report.Transceiver mode) → n.transceiver ≡ Some t
      → accepted e ≡ leb mode 2 && awaited 2 t mode h
  pub clears : (t : ℕ) → e.sight ≡ a_report Report.Cleared → n.transceiver ≡ Some t → accepted e ≡ awaited 4 t 0 h
  pub checks : (t : ℕ) → e.sight ≡ a_report Report.Checked → n.transceiver ≡ Some t → accepted e ≡ awaited 5 t 0 h

-- ---- requests

-- N15: a request is taken exactly if its mode is in range, and silent only while up; and exactly when each of its refusals is given
pub record Requests (n : Network) (e : Seen) (h : OwnHistory) : Type 0 where
  pub accepted : (mode : ℕ) → e.sight ≡ a_request mode → accepted e ≡ leb mode 2 && (not (eqb 1 mode) || up n h)
  -- R13: 21, for a mode that is none of the three
  pub out_of_range : (mode : ℕ) → e.sight ≡ a_request mode → eqb 0x21 e.number ≡ ltb 2 mode
  -- R14: 08, for silent asked for of a network that came to rest and was not called up since
  pub asleep : (mode : ℕ) → e.sight ≡ a_request mode → eqb 0x08 e.number ≡ eqb 1 mode && (rested n h && not (on n h))
  -- R22: 24, of one that is on and has not told full since its last shutdown
  pub coming_up : (mode : ℕ) → e.sight ≡ a_request mode → eqb 0x24 e.number ≡ eqb 1 mode && (on n h && not (up n h))
  -- R23: 25, of one that did not come to rest since its last shutdown, or since the start
  pub going_down : (mode : ℕ) → e.sight ≡ a_request mode → eqb 0x25 e.number ≡ eqb 1 mode && not (rested n h)

-- ---- ticks

-- a record of a kind was handed out
abbrev pub hands_kind : ℕ → Seen → Bool
hands_kind kind e = any (λ (r : Record). eqb kind r.kind) e.records

-- the last accepted answer of a controller on this mode is ok
unfoldable pub said_ok : ℕ → ℕ → OwnHistory → Bool
said_ok c mode [] = false
said_ok c mode (e ∷ h) =
    cond (is_answer_on c mode 1 e.sight && accepted e) true
    (cond (is_answer_on c mode 0 e.sight && accepted e) false (said_ok c mode h))

-- a report that the transceiver is normal
abbrev pub is_normal : Report → Bool
is_normal (Report.Controller mode) = false
is_normal (Report.Transceiver mode) = eqb 0 mode
is_normal Report.Cleared = false
is_normal Report.Checked = false

-- such a report, as it is seen
abbrev pub says_normal : Sight → Bool
says_normal a_tick = false
says_normal a_bus_off = false
says_normal a_stall = false
says_normal (an_answer controller mode ok) = false
says_normal (a_request mode) = false
says_normal (a_report report) = is_normal report
says_normal nothing = false

-- an accepted report that the transceiver is normal
abbrev pub reported_normal : Seen → Bool
reported_normal e = says_normal e.sight && accepted e

-- what follows the entry by which no was last told
abbrev pub since_rest : Network → OwnHistory → OwnHistory
since_rest n h = since (hands 6 n.handle 0) h

-- 6 full goes out only by a tick, where full was not told and is wanted
pub record SaysFull (n : Network) (e : Seen) (h : OwnHistory) : Type 0 where
  pub tick : ticked e ≡ true
  pub news : eqb 2 (told n h) ≡ false
  pub called : wanted h ≡ 2

-- T24: silent is entered only where it is wanted, and not while the network is restarting
pub record EntersSilent (n : Network) (h : OwnHistory) : Type 0 where
  pub called : wanted h ≡ 1
  pub settled : restarting n h ≡ false

-- T25: a shutdown begins with 7 no; 6 silent follows exactly if full was told; after these no record of kind 6, 7 or 8
pub record Shutdown (n : Network) (e : Seen) (h : OwnHistory) : Type 0 where
  pub rest : List Record
  pub records : e.records ≡ handed 7 n.handle 0 ∷ (cond (eqb 2 (told n h)) (handed 6 n.handle 1 ∷ []) [] ++ rest)
  pub no_more : any (λ (r : Record). leb 6 r.kind) rest ≡ false

-- a network that did not come to rest since its last shutdown gets no request to start, no PDU mode and no 6 full
pub record StaysDown (n : Network) (e : Seen) : Type 0 where
  pub not_started : (c : ℕ) → hands 1 c 1 e ≡ false
  pub no_traffic : hands_kind 3 e ≡ false
  pub not_full : hands 6 n.handle 2 e ≡ false

-- since no was last told, each controller's last answer on stopped is ok, and a transceiver was reported normal
pub record Prepared (n : Network) (h : OwnHistory) : Type 0 where
  pub stopped : (c : ℕ) → member c (controllers_of n) ≡ true → said_ok c 0 (since_rest n h) ≡ true
  pub normal : (t : ℕ) → n.transceiver ≡ Some t → any reported_normal (since_rest n h) ≡ true

-- since the last setback each controller's last answer on stopped is ok
abbrev pub Stopped : Network → OwnHistory → Type 0
Stopped n h = (c : ℕ) → member c (controllers_of n) ≡ true → said_ok c 0 (since (setback n) h) ≡ true

-- a request to start goes out only by a tick at which the network is on and no is not wanted; the first since the last shutdown only to a network
-- that is prepared; T29: the first since a stall that was the last setback only where each controller has stopped since
pub record AsksToStart (n : Network) (c : ℕ) (e : Seen) (h : OwnHistory) : Type 0 where
  pub tick : ticked e ≡ true
  pub while_on : on n h ≡ true
  pub called : eqb 0 (wanted h) ≡ false
  pub prepared : asked_to_start c (since (shut n) h) ≡ false → Prepared n h
  pub stopped : after_stall n h ≡ true → asked_to_start c (since (setback n) h) ≡ false → Stopped n h

-- H5 to H12: the highest argument that a record of a kind has, with listening taken out
abbrev pub highest : ℕ → ℕ
highest kind = get_or (0 ∷ 2 ∷ 1 ∷ 1 ∷ 0 ∷ 0 ∷ 2 ∷ 3 ∷ 1 ∷ []) kind 0

-- the wait after a bus-off begins: a delay is owed, and the latest tick is the first since the bus-off before which every controller runs
abbrev pub wait_begins : Network → OwnHistory → Bool
wait_begins n h = ltb 0 (owed n h) && eqb (first_running n (since (setback n) h)) (tally ticked (since (setback n) h))

-- what a tick hands out, and that else only a bus-off and a stall hand out anything
pub record Ticks (n : Network) (e : Seen) (h : OwnHistory) : Type 0 where
  -- where full was told, a tick leaves it so exactly if full is wanted
  pub stays_full : ticked e ≡ true → told n h ≡ 2 → eqb 2 (told n (e ∷ h)) ≡ eqb 2 (wanted h)
  pub says_full : hands 6 n.handle 2 e ≡ true → SaysFull n e h
  -- T28: 6 no goes out only of a network that did not come to rest since its last shutdown
  pub says_no : hands 6 n.handle 0 e ≡ true → rested n h ≡ false
  -- T3, T26: a shutdown begins exactly by a tick at which the network is on and no is wanted
  pub shuts : shut n e ≡ ticked e && (eqb 0 (wanted h) && on n h)
  pub shuts_first : shut n e ≡ true → Shutdown n e h
  -- T10, T27: the all-clear comes exactly by a tick after which full is told and whose number since full was said is the ensure time
  pub passes : cleared n e ≡ ticked e && (eqb 2 (told n (e ∷ h)) && eqb n.ensure (tally ticked (since (hands 6 n.handle 2) (e ∷ h))))
  -- T23: every controller goes online exactly where full is said
  pub online : (c : ℕ) → member c (controllers_of n) ≡ true → hands 3 c 0 e ≡ hands 6 n.handle 2 e
  -- T23: 7 full goes out exactly with 6 full
  pub notes_full : hands 7 n.handle 2 e ≡ hands 6 n.handle 2 e
  -- T24, T25: 7 silent goes out exactly by a tick that hands out 6 silent and is no shutdown
  pub notes_silent : hands 7 n.handle 1 e ≡ ticked e && (hands 6 n.handle 1 e && not (shut n e))
  pub enters_silent : hands 7 n.handle 1 e ≡ true → EntersSilent n h
  -- T11, T24: every controller goes TX offline exactly with 7 silent and by the tick with which the wait begins
  pub offline : (c : ℕ) → member c (controllers_of n) ≡ true → hands 3 c 1 e ≡ hands 7 n.handle 1 e || (ticked e && wait_begins n (e ∷ h))
  -- B3: 7 bus-off and 8 prefailed go out exactly by a bus-off while up, and so by no tick
  pub notes_bus_off : hands 7 n.handle 3 e ≡ fell_up n e h
  pub prefails : hands 8 n.handle 1 e ≡ fell_up n e h
  pub stays_down : rested n h ≡ false → StaysDown n e
  -- while full is told no controller is asked for anything
  pub full_asks_nothing : told n (e ∷ h) ≡ 2 → hands_kind 1 e ≡ false
  pub starts : (c : ℕ) → hands 1 c 1 e ≡ true → AsksToStart n c e h
  -- no record has an argument above those of its kind
  pub known : any (λ (r : Record). ltb (highest r.kind) r.argument) e.records ≡ false
  -- F5: a tick hands out at most two records more than the network has controllers, and what is neither a tick, a bus-off nor a
  -- stall hands out none
  pub few : ticked e ≡ true → length e.records ≤ n.count + 2
  pub none : ticked e ≡ false → fell e ≡ false → is_stall e.sight ≡ false → e.records ≡ []
