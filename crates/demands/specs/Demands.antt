-- Demand 3 for a network of a started manager, over every history of calls since the start, as the network sees it. The words of its sentences stand
-- in `network_demands`. A history has the latest call first: in s ++ (b ∷ h), s follows the bus-off or the stall b, which follows h.
use Rattle.std.specs.Prelude.{ℕ, suc, ◌+◌, ◌*◌, ◌≤◌, min, ◌≡◌, ◌∷◌, ◌++◌, true, cond, eqb, length, Ok}
use Rattle.settings.specs.declared.Network.{Network}
use Rattle.steps.specs.Steps.{step_number}
use Rattle.slots.specs.declared.Manager.{Manager}
use Rattle.slots.specs.Manager.{networks_of, network_at, state_at}
use Rattle.slots.specs.Calls.{Call, start, tick, outcome}
use Rattle.calls.specs.Histories.{Entry, entry_of, History, Since, Reached}
use Rattle.manager_theorems.specs.Careful.{all_controllers}
use Rattle.network_demands.specs.Words.{ticked, fell, restarting, counts, falls, CountedOnce, Told, ToldNo, Answered, Delayed, LateAnswers}
use Rattle.network_demands.specs.Words.{OnJustThatTick, SaidFrom, LateAfterStall, OnTheThirdTick, SaidFromTheThird}
use Rattle.demands.specs.View.{view_of, views_of}

-- a manager that was just started: calls led to one with a sheet, and its start was accepted
pub record Begun (m₀ : Manager) : Type 0 where
  pub before : Manager
  pub reached : Reached before
  pub accepted : (outcome before start).answer ≡ Ok tt
  pub same : m₀ ≡ (outcome before start).manager

-- R16: the room of a tick, by the formula of the rule
abbrev pub paper_needs : Manager → ℕ
paper_needs m = 3 * (all_controllers (networks_of m) + 2 * length (networks_of m))

-- a tick that is lent the bytes it needs is accepted, and so is one of the network's
abbrev pub TickTaken : ℕ → Network → Entry → Type 0
TickTaken needs n t = (room : ℕ) → t.call ≡ tick room → needs ≤ room → ticked (view_of n t) ≡ true

-- exactly when one network is said to be full, and when no was told last; the three sentences of demand 3, the second also for late answers; a tick
-- that is lent the bytes it needs is accepted; `said_from` is the third sentence again, by the mode last told. The last three say of a stall what
-- `late_answers`, `on_just_that_tick` and `said_from` say of a bus-off while up
pub record Demand3 (m₀ : Manager) (n : Network) : Type 0 where
  pub told_exactly : (m : Manager) (h : History) → Since m₀ m h → Told n (views_of n h)
  pub told_no : (m : Manager) (h : History) → Since m₀ m h → ToldNo n (views_of n h)
  pub answered : (m : Manager) (h : History) → Since m₀ m h → Answered n (views_of n h)
  pub delayed : (m : Manager) (s : History) (b : Entry) (h : History) →
      Since m₀ m (s ++ (b ∷ h)) → Delayed n (views_of n s) (view_of n b) (views_of n h)
  pub late_answers : (m : Manager) (s : History) (b : Entry) (h : History) →
      Since m₀ m (s ++ (b ∷ h)) → LateAnswers n (views_of n s) (view_of n b) (views_of n h)
  pub ticks : (m : Manager) (t : Entry) (h : History) → Since m₀ m (t ∷ h) → TickTaken (paper_needs m₀) n t
  pub on_just_that_tick : (m : Manager) (t : Entry) (s : History) (b : Entry) (h : History) → Since m₀ m (t ∷ (s ++ (b ∷ h)))
      → OnJustThatTick n (view_of n t) (views_of n s) (view_of n b) (views_of n h)
  pub said_from : (m : Manager) (s : History) (b : Entry) (h : History) → Since m₀ m (s ++ (b ∷ h))
      → SaidFrom n (views_of n s) (view_of n b) (views_of n h)
  pub late_after_stall : (m : Manager) (s : History) (b : Entry) (h : History) → Since m₀ m (s ++ (b ∷ h))
      → LateAfterStall n (views_of n s) (view_of n b) (views_of n h)
  pub on_the_third_tick : (m : Manager) (t : Entry) (s : History) (b : Entry) (h : History) → Since m₀ m (t ∷ (s ++ (b ∷ h)))
      → OnTheThirdTick n (view_of n t) (views_of n s) (view_of n b) (views_of n h)
  pub said_from_the_third : (m : Manager) (s : History) (b : Entry) (h : History) → Since m₀ m (s ++ (b ∷ h))
      → SaidFromTheThird n (views_of n s) (view_of n b) (views_of n h)

-- which bus-offs count, by the record of the network in a slot: restarting is step 6; the record's count is the number of bus-offs that count since
-- the last all-clear, up to 255; a bus-off of the network raises it exactly if it counts; and one fault is counted once
pub record Counting (m₀ : Manager) (i : ℕ) : Type 0 where
  pub restarting : (m : Manager) (h : History) → Since m₀ m h
      → eqb 6 (step_number (state_at m i).step) ≡ restarting (network_at m₀ i) (views_of (network_at m₀ i) h)
  pub count : (m : Manager) (h : History) → Since m₀ m h → (state_at m i).count ≡ min (falls (network_at m₀ i) (views_of (network_at m₀ i) h)) 255
  pub raises : (m : Manager) (h : History) → Since m₀ m h → (c : Call) → fell (view_of (network_at m₀ i) (entry_of m c)) ≡ true
      → (state_at (outcome m c).manager i).count
      ≡ cond (counts (network_at m₀ i) (view_of (network_at m₀ i) (entry_of m c)) (views_of (network_at m₀ i) h))
      (min (suc (state_at m i).count) 255) (state_at m i).count
  pub one_fault : (m : Manager) (s : History) (b : Entry) (h : History) → Since m₀ m (s ++ (b ∷ h))
      → CountedOnce (network_at m₀ i) (views_of (network_at m₀ i) s) (view_of (network_at m₀ i) b) (views_of (network_at m₀ i) h)
