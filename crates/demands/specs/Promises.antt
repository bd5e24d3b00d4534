-- The promises for a network of a started manager, of every call since the start: which bus-offs, stalls, answers and requests are taken, what is
-- handed out on them, and what a tick hands out. The entry e is the latest of a history, h what came before it; the network sees both, with listening
-- taken out of the records.
use Rattle.std.specs.Prelude.{◌∷◌}
use Rattle.settings.specs.declared.Network.{Network}
use Rattle.slots.specs.declared.Manager.{Manager}
use Rattle.calls.specs.Histories.{Entry, History, Since}
use Rattle.network_demands.specs.Promises.{BusOffs, Stalls, Answers, Requests, Ticks}
use Rattle.demands.specs.View.{view_of, views_of}

-- they hold of each call, whatever was called before it
pub record Promises (m₀ : Manager) (n : Network) : Type 0 where
  pub bus_offs : (m : Manager) (e : Entry) (h : History) → Since m₀ m (e ∷ h) → BusOffs n (view_of n e) (views_of n h)
  pub stalls : (m : Manager) (e : Entry) (h : History) → Since m₀ m (e ∷ h) → Stalls n (view_of n e) (views_of n h)
  pub answers : (m : Manager) (e : Entry) (h : History) → Since m₀ m (e ∷ h) → Answers n (view_of n e) (views_of n h)
  pub requests : (m : Manager) (e : Entry) (h : History) → Since m₀ m (e ∷ h) → Requests n (view_of n e) (views_of n h)
  pub ticks : (m : Manager) (e : Entry) (h : History) → Since m₀ m (e ∷ h) → Ticks n (view_of n e) (views_of n h)
