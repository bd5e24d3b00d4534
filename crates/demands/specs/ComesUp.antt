-- How long a network of a started manager takes to full, and how many records that costs, over every history of calls since the start. The words
-- stand in `network_demands`. A history has the latest call first: in s ++ h, s follows h; in t ∷ s, t is the latest call.
use Rattle.std.specs.Prelude.{ℕ, ◌≡◌, ◌∷◌, ◌++◌, eqb}
use Rattle.settings.specs.declared.Network.{Network}
use Rattle.steps.specs.Steps.{step_number}
use Rattle.slots.specs.declared.Manager.{Manager}
use Rattle.slots.specs.Manager.{network_at, state_at}
use Rattle.calls.specs.Histories.{Entry, History, Since}
use Rattle.network_demands.specs.ComesUp.{is_at_rest, FromRest, OnThatTickFromRest, RecordsFromRest, FromStart, ToRest, OnThatTickFromStart}
use Rattle.network_demands.specs.ComesUp.{RecordsFromStart, NeverStuck}
use Rattle.demands.specs.View.{view_of, views_of}

-- F3, F4, F6 to F8: from rest and from the start full is told on just one tick, and so many records go out up to it; from the start no is told on
-- one; and from anywhere full is told
pub record ComesUp (m₀ : Manager) (n : Network) : Type 0 where
  pub from_rest : (m : Manager) (s h : History) → Since m₀ m (s ++ h) → FromRest n (views_of n s) (views_of n h)
  pub on_that_tick_from_rest : (m : Manager) (t : Entry) (s h : History) → Since m₀ m (t ∷ (s ++ h))
      → OnThatTickFromRest n (view_of n t) (views_of n s) (views_of n h)
  pub records_from_rest : (m : Manager) (s h : History) → Since m₀ m (s ++ h) → RecordsFromRest n (views_of n s) (views_of n h)
  pub from_start : (m : Manager) (s : History) → Since m₀ m s → FromStart n (views_of n s)
  pub to_rest : (m : Manager) (t : Entry) (s : History) → Since m₀ m (t ∷ s) → ToRest n (view_of n t) (views_of n s)
  pub on_that_tick_from_start : (m : Manager) (t : Entry) (s : History) → Since m₀ m (t ∷ s)
      → OnThatTickFromStart n (view_of n t) (views_of n s)
  pub records_from_start : (m : Manager) (s : History) → Since m₀ m s → RecordsFromStart n (views_of n s)
  pub never_stuck : (m : Manager) (s h : History) → Since m₀ m (s ++ h) → NeverStuck n (views_of n s) (views_of n h)

-- F1: at rest, as that is read off the history, is step 0 in the record of the network's slot
abbrev pub RestsInStep0 : Manager → ℕ → Type 0
RestsInStep0 m₀ i = (m : Manager) (h : History) → Since m₀ m h
    → is_at_rest (network_at m₀ i) (views_of (network_at m₀ i) h) ≡ eqb 0 (step_number (state_at m i).step)
