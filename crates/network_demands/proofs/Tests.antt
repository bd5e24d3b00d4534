-- What demand 3 and the promises need of a network's three tests: that its step is done, that its time is reached, and that it takes a stall. Where a
-- box has other tests, that which is false of them is refused here.
use Rattle.lists.proofs.Basics.{ℕ, ◌+◌, ◌≡◌, refl, sym, ap, ◌∙◌, Bool, true, false, cond, false≢true, leb}
use Rattle.std.specs.Prelude.{None, Some}
use Rattle.lists.specs.Lists.{every}
use Rattle.records.specs.declared.ControllerMode.{ControllerMode}
use Rattle.settings.specs.declared.Network.{Network}
use Rattle.steps.specs.declared.Step.{Step}
use Rattle.steps.specs.declared.Step.TheVariants.{Checking, Waiting}
use Rattle.steps.specs.declared.Ask.{Ask}
use Rattle.steps.specs.Steps.{asks_for, timer_of, is_full_step}
use Rattle.network.specs.declared.Hit.{Hit}
use Rattle.network.specs.declared.State.{State}
use Rattle.network.specs.State.{heard_of}
use Rattle.network.specs.Rules.{done_by, is_okay, delay_of, reached_by}
use Rattle.network.specs.BusOff.{stall_of}
use Rattle.network_demands.specs.Own.{report_heard, finished, reaches, stalls}

-- the transceiver is asked for something
abbrev pub is_errand : Ask → Bool
is_errand Ask.Nothing = false
is_errand (Ask.Controllers mode) = false
is_errand (Ask.Transceiver mode) = true
is_errand Ask.ClearWake = true
is_errand Ask.CheckWake = true

-- what holds only once asked
pub once_asked : (asked x : Bool) → cond asked x false ≡ true → x ≡ true
once_asked true x e = e
once_asked false x e = absurd (false≢true e)

-- a stall is taken just in the full steps
pub stalls_just : (step : Step) → stalls step ≡ cond (is_full_step step) (Some Hit.Reset) None
unfolding stall_of
stalls_just step = refl

-- whatever the delay is, the time of step 4 is the ensure time
checked_by : (ensure delay t : ℕ) (step : Step) → step ≡ Checking t → reached_by (timer_of step) ensure delay ≡ leb ensure (t + 1)
checked_by ensure delay t step f = ap (λ (step : Step). reached_by (timer_of step) ensure delay) f

module _ (n : Network) (s : State) where
  -- a step that asks the controllers for a mode is done just where it has asked and the last answer of each is ok
  pub finished_just : (mode : ControllerMode) → asks_for s.step ≡ Ask.Controllers mode
      → finished n s ≡ cond s.asked (every is_okay (heard_of n s)) false
  finished_just mode f = ap (λ (ask : Ask). cond s.asked (done_by ask (heard_of n s) (report_heard s)) false) f

  -- a report is heard just where it has come
  heard_just : report_heard s ≡ s.reported
  heard_just = by_test s.reported refl
    where
      by_test : (b : Bool) → s.reported ≡ b → report_heard s ≡ b
      by_test true q = rw (q) refl
      by_test false q = rw (q) refl

  -- a step that asks the transceiver for something is done just where it has asked and the report has come
  pub finished_reported : is_errand (asks_for s.step) ≡ true → finished n s ≡ cond s.asked s.reported false
  finished_reported f = ap (λ (done : Bool). cond s.asked done false) (by_ask (asks_for s.step) f)
    where
      by_ask : (ask : Ask) → is_errand ask ≡ true → done_by ask (heard_of n s) (report_heard s) ≡ s.reported
      by_ask Ask.Nothing f = absurd (false≢true f)
      by_ask (Ask.Controllers mode) f = absurd (false≢true f)
      by_ask (Ask.Transceiver mode) f = heard_just
      by_ask Ask.ClearWake f = heard_just
      by_ask Ask.CheckWake f = heard_just

  -- a step is done only where it has asked
  pub finished_asked : finished n s ≡ true → s.asked ≡ true
  finished_asked e = by_test s.asked e
    where
      by_test : (b : Bool) → cond b (done_by (asks_for s.step) (heard_of n s) (report_heard s)) false ≡ true → b ≡ true
      by_test true e = refl
      by_test false e = absurd (false≢true e)

  -- the time of step 7 is reached just where the delay of the count has passed with this tick
  pub reaches_just : (t : ℕ) → s.step ≡ Waiting t → reaches n s ≡ leb (delay_of n s.count) (t + 1)
  reaches_just t f = ap (λ (step : Step). reached_by (timer_of step) n.ensure (delay_of n s.count)) f

  -- a report that is heard has come
  heard_reported : report_heard s ≡ true → s.reported ≡ true
  heard_reported e = by_test s.reported refl
    where
      by_test : (b : Bool) → s.reported ≡ b → b ≡ true
      by_test true q = refl
      by_test false q = absurd (false≢true (rw q at e))

  -- a step is done only where what it asks for was answered or reported
  pub done_answered : (step : Step) → s.step ≡ step → finished n s ≡ true → done_by (asks_for step) (heard_of n s) s.reported ≡ true
  done_answered step f e =
      by_ask (asks_for step) (ap (λ (x : Step). done_by (asks_for x) (heard_of n s) (report_heard s)) (sym f) ∙ once_asked s.asked _ e)
    where
      by_ask : (ask : Ask) → done_by ask (heard_of n s) (report_heard s) ≡ true → done_by ask (heard_of n s) s.reported ≡ true
      by_ask Ask.Nothing e = e
      by_ask (Ask.Controllers mode) e = e
      by_ask (Ask.Transceiver mode) e = heard_reported e
      by_ask Ask.ClearWake e = heard_reported e
      by_ask Ask.CheckWake e = heard_reported e

  -- the time of step 4 is reached just where the ensure time has passed with this tick
  pub reaches_checked : (t : ℕ) → s.step ≡ Checking t → reaches n s ≡ leb n.ensure (t + 1)
  reaches_checked t f = checked_by n.ensure _ t s.step f
