-- The conditions of the tick's decision: whether the step is done, whether an answer is a refusal, whether the timer is reached, and the outfit. The
-- rules N13, S27, T1, T10, T13 and T19 of docs/RULES.md.
use Rattle.std.specs.Prelude.{ℕ, ◌+◌, List, Bool, true, false, cond, leb, ltb, Option, None, Some}
use Rattle.lists.specs.Lists.{any, every}
use Rattle.settings.specs.declared.Relation.{Relation}
use Rattle.settings.specs.declared.Network.{Network}
use Rattle.steps.specs.declared.Ask.{Ask}
use Rattle.steps.specs.declared.Timer.{Timer}
use Rattle.steps.specs.declared.Outfit.{Outfit}
use Rattle.steps.specs.declared.Move.{Move}
use Rattle.steps.specs.Steps.{asks_for, timer_of}
use Rattle.steps.specs.Decision.{decision}
use Rattle.network.specs.declared.LastAnswer.{LastAnswer}
use Rattle.network.specs.declared.State.{State}
use Rattle.network.specs.State.{heard_of}

-- the controller answered ok in this step; one that has not answered yet is not ok
abbrev pub is_okay : LastAnswer → Bool
is_okay LastAnswer.Pending = false
is_okay LastAnswer.Okay = true
is_okay LastAnswer.Refused = false

-- the controller answered with ok 0; no answer is no refusal. Step 12 with partial networking looks for one
abbrev pub is_refusal : LastAnswer → Bool
is_refusal LastAnswer.Pending = false
is_refusal LastAnswer.Okay = false
is_refusal LastAnswer.Refused = true

-- N13: what was asked for is there: of controllers the last answer of each is ok; of all else the report has come
abbrev pub done_by : Ask → List LastAnswer → Bool → Bool
done_by Ask.Nothing hs reported = false
done_by (Ask.Controllers mode) hs reported = every is_okay hs
done_by (Ask.Transceiver mode) hs reported = reported
done_by Ask.ClearWake hs reported = reported
done_by Ask.CheckWake hs reported = reported

-- N13: a step is done that has asked, and what it asked for is there
unfoldable pub is_done : Network → State → Bool
is_done n s = cond s.asked (done_by (asks_for s.step) (heard_of n s) s.reported) false

-- S27, T13: the long delay where the count is above the threshold, or by the newer relation at it already
abbrev pub is_long : Relation → ℕ → ℕ → Bool
is_long Relation.Above threshold count = ltb threshold count
is_long Relation.AtOrAbove threshold count = leb threshold count

-- T13: how long step 7 waits at a bus-off count, in ticks: the long delay or else the short one, by the network's own relation
unfoldable pub delay_of : Network → ℕ → ℕ
delay_of n count = cond (is_long n.relation n.threshold count) n.long n.short

-- T10, T13: with this tick the number of ticks reaches its time, in step 4 the ensure time and in step 7 the delay
abbrev pub reached_by : Timer → ℕ → ℕ → Bool
reached_by Timer.Idle ensure delay = false
reached_by (Timer.Ensure ticks) ensure delay = leb ensure (ticks + 1)
reached_by (Timer.Delay ticks) ensure delay = leb delay (ticks + 1)

-- no transceiver, a transceiver, a transceiver with partial networking
abbrev pub outfit_of : Option ℕ → Bool → Outfit
outfit_of None partial = Outfit.Bare
outfit_of (Some id) partial = cond partial Outfit.Partial Outfit.Fitted

-- T1, T19: the one move that a tick makes; the last answer of some controller being a refusal is one of its conditions
unfoldable pub move_of : Network → State → Move
move_of n s =
    decision s.step s.wanted (is_done n s) (any is_refusal (heard_of n s))
    (reached_by (timer_of s.step) n.ensure (delay_of n s.count))
    (outfit_of n.transceiver n.partial)
