-- The promises, for every network of every started manager, over every history of calls since the start.
use Rattle.lists.proofs.Basics.{ℕ, ◌<◌, ◌∷◌, length}
use Rattle.settings.specs.declared.Network.{Network}
use Rattle.settings.specs.Good.{InRange}
use Rattle.slots.specs.declared.Manager.{Manager}
use Rattle.slots.specs.Manager.{networks_of, network_at}
use Rattle.calls.specs.Histories.{Entry, History, Since}
use Rattle.network_demands.specs.Own.{Ran}
use Rattle.network_demands.proofs.Promises.{bus_offs, stalling, answers, requests}
use Rattle.network_demands.proofs.Ticks.{ticks}
use Rattle.demands.specs.View.{view_of, views_of}
use Rattle.demands.specs.Demands.{Begun}
use Rattle.demands.specs.Promises.{Promises}
use Rattle.demands.proofs.Follow.{ran_since, in_range, distinct}

module _ (m₀ : Manager) (b : Begun m₀) (i : ℕ) (l : i < length (networks_of m₀)) where
  abbrev n : Network
  n = network_at m₀ i

  range : InRange n
  range = in_range m₀ b i l

  -- a history since the start, as the network sees it
  ran : (m : Manager) (e : Entry) (h : History) → Since m₀ m (e ∷ h) → Ran n (view_of n e ∷ views_of n h)
  ran m e h = ran_since m₀ b i l m (e ∷ h)

  pub promises : Promises m₀ n
  promises = record {
    bus_offs = λ m e h s. bus_offs n range (view_of n e) (views_of n h) (ran m e h s);
    stalls = λ m e h s. stalling n range (view_of n e) (views_of n h) (ran m e h s);
    answers = λ m e h s. answers n range (view_of n e) (views_of n h) (ran m e h s);
    requests = λ m e h s. requests n range (view_of n e) (views_of n h) (ran m e h s);
    ticks = λ m e h s. ticks n range (distinct m₀ b i l) (view_of n e) (views_of n h) (ran m e h s);
  }
