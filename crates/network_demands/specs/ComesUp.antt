-- How long a network takes until it is said to be full, and how many records are handed out for it until then: from rest, from the start, and from
-- anywhere. As in demand 3 all of it is read off calls, answers and records. The history is s after h, the latest entry first.
use Rattle.std.specs.Prelude.{ℕ, suc, ◌+◌, ◌*◌, ◌≤◌, max, ◌≡◌, [], ◌∷◌, ◌++◌, Bool, true, not, ◌&&◌, cond, leb, eqb, length, Option, None, Some}
use Rattle.settings.specs.declared.Network.{Network}
use Rattle.network_demands.specs.Words.{Seen, OwnHistory, hands, tally, ticked, told, rested, called_up, exceeds, GoodTicks}

-- ---- the figures

-- one of three: without a transceiver, with one, and with partial networking
abbrev pub by_fit : Option ℕ → Bool → ℕ → ℕ → ℕ → ℕ
by_fit None isPartial bare fitted partial = bare
by_fit (Some id) isPartial bare fitted partial = cond isPartial partial fitted

-- by the settings of the network
abbrev pub by_outfit : Network → ℕ → ℕ → ℕ → ℕ
by_outfit n bare fitted partial = by_fit n.transceiver n.partial bare fitted partial

-- F3: from rest full is told on the third tick without a transceiver, and on the fourth with one
abbrev pub ticks_from_rest : Network → ℕ
ticks_from_rest n = by_outfit n 3 4 4

-- F4: until then three records go out for each controller, and two more, or three with a transceiver
abbrev pub records_from_rest : Network → ℕ
records_from_rest n = 3 * n.count + by_outfit n 2 3 3

-- F6: from the start a network comes to rest on this tick
abbrev pub ticks_to_rest : Network → ℕ
ticks_to_rest n = by_outfit n 3 4 6

-- F6: and full is told on this one
abbrev pub ticks_from_start : Network → ℕ
ticks_from_start n = ticks_to_rest n + ticks_from_rest n

-- F7: until then five records go out for each controller, and three, five or seven more
abbrev pub records_from_start : Network → ℕ
records_from_start n = 5 * n.count + by_outfit n 3 5 7

-- F8: the longest delay that a bus-off can bring: the long one, or the short one where that is longer and one bus-off does not exceed the threshold
abbrev pub longest_delay : Network → ℕ
longest_delay n = cond (exceeds n.relation n.threshold 1) n.long (max n.long n.short)

-- F8: from anywhere full is told within so many ticks
abbrev pub most_ticks : Network → ℕ
most_ticks n = max (by_outfit n 6 8 11) (longest_delay n + 2)

-- ---- at rest

-- F1: at rest: no was told since the last shutdown, and full was wanted at no tick since no was last told
abbrev pub is_at_rest : Network → OwnHistory → Bool
is_at_rest n h = rested n h && not (called_up n h)

-- how many records a part of a history has that name the network's ids
unfoldable pub record_count : OwnHistory → ℕ
record_count [] = 0
record_count (e ∷ s) = length e.records + record_count s

-- F3: from rest, no is the mode last told up to that tick, and full from it on
abbrev pub FromRest : Network → OwnHistory → OwnHistory → Type 0
FromRest n s h = is_at_rest n h ≡ true → GoodTicks 1 s h → told n (s ++ h) ≡ cond (leb (ticks_from_rest n) (tally ticked s)) 2 0

-- F3: a tick t tells full exactly if it is that one
abbrev pub OnThatTickFromRest : Network → Seen → OwnHistory → OwnHistory → Type 0
OnThatTickFromRest n t s h =
    is_at_rest n h ≡ true → GoodTicks 1 (t ∷ s) h → ticked t ≡ true → hands 6 n.handle 2 t ≡ eqb (ticks_from_rest n) (tally ticked (t ∷ s))

-- F4: up to and with that tick just so many records were handed out
abbrev pub RecordsFromRest : Network → OwnHistory → OwnHistory → Type 0
RecordsFromRest n s h = is_at_rest n h ≡ true → GoodTicks 1 s h → tally ticked s ≡ ticks_from_rest n → record_count s ≡ records_from_rest n

-- ---- from the start: s is the whole history

-- F6: no is the mode last told up to that tick, and full from it on; full need not be wanted before the network came to rest
abbrev pub FromStart : Network → OwnHistory → Type 0
FromStart n s = GoodTicks (suc (ticks_to_rest n)) s [] → told n s ≡ cond (leb (ticks_from_start n) (tally ticked s)) 2 0

-- F6: a tick t tells no exactly if it is the one on which the network comes to rest
abbrev pub ToRest : Network → Seen → OwnHistory → Type 0
ToRest n t s =
    GoodTicks (suc (ticks_to_rest n)) (t ∷ s) [] → ticked t ≡ true → hands 6 n.handle 0 t ≡ eqb (ticks_to_rest n) (tally ticked (t ∷ s))

-- F6: a tick t tells full exactly if it is that one
abbrev pub OnThatTickFromStart : Network → Seen → OwnHistory → Type 0
OnThatTickFromStart n t s =
    GoodTicks (suc (ticks_to_rest n)) (t ∷ s) [] → ticked t ≡ true → hands 6 n.handle 2 t ≡ eqb (ticks_from_start n) (tally ticked (t ∷ s))

-- F7: up to and with that tick just so many records were handed out
abbrev pub RecordsFromStart : Network → OwnHistory → Type 0
RecordsFromStart n s = GoodTicks (suc (ticks_to_rest n)) s [] → tally ticked s ≡ ticks_from_start n → record_count s ≡ records_from_start n

-- ---- from anywhere

-- F8: never stuck: whatever went before, after so many good ticks full is told, and stays told as long as they are good
abbrev pub NeverStuck : Network → OwnHistory → OwnHistory → Type 0
NeverStuck n s h = GoodTicks 1 s h → most_ticks n ≤ tally ticked s → told n (s ++ h) ≡ 2
