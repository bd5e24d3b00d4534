-- How long, how many, and never stuck: for every network of every started manager, over every history of calls since the start.
use Rattle.lists.proofs.Basics.{ℕ, ◌<◌, ap, subst, ◌∙◌, ◌∷◌, ◌++◌, eqb, length}
use Rattle.settings.specs.declared.Network.{Network}
use Rattle.settings.specs.Settings.{controllers_of}
use Rattle.settings.specs.Good.{InRange, Distinct}
use Rattle.steps.specs.Steps.{step_number}
use Rattle.network.specs.declared.State.{State}
use Rattle.slots.specs.declared.Manager.{Manager}
use Rattle.slots.specs.Manager.{networks_of, network_at}
use Rattle.calls.specs.Histories.{History, Since}
use Rattle.network_demands.specs.Own.{Ran}
use Rattle.network_demands.proofs.NeverStuck.{never_stuck}
use Rattle.network_demands.proofs.Climbing.{rest_means, from_rest, on_that_tick_from_rest, records_from_rest_lem, from_start, to_rest}
use Rattle.network_demands.proofs.Climbing.{on_that_tick_from_start, records_from_start_lem}
use Rattle.demands.specs.View.{view_of, views_of}
use Rattle.demands.specs.Demands.{Begun}
use Rattle.demands.specs.ComesUp.{ComesUp, RestsInStep0}
use Rattle.demands.proofs.Follow.{follow, ran_since, in_range, distinct}
use Rattle.demands.proofs.DemandThree.{views_append}

module _ (m₀ : Manager) (b₀ : Begun m₀) (i : ℕ) (h₀ : i < length (networks_of m₀)) where
  abbrev n : Network
  n = network_at m₀ i

  range : InRange n
  range = in_range m₀ b₀ i h₀

  apart : Distinct (controllers_of n)
  apart = distinct m₀ b₀ i h₀

  -- a history since the start, as the network sees it
  ran : (m : Manager) (h : History) → Since m₀ m h → Ran n (views_of n h)
  ran m h = ran_since m₀ b₀ i h₀ m h

  parts : (m : Manager) (s h : History) → Since m₀ m (s ++ h) → Ran n (views_of n s ++ views_of n h)
  parts m s h r = subst (Ran n) (views_append n s h) (ran m (s ++ h) r)

  pub comes_up : ComesUp m₀ n
  comes_up = record {
    from_rest = λ m s h r. from_rest n range apart (views_of n h) (views_of n s) (parts m s h r);
    on_that_tick_from_rest = λ m t s h r. on_that_tick_from_rest n range apart (views_of n h) (view_of n t) (views_of n s) (parts m (t ∷ s) h r);
    records_from_rest = λ m s h r. records_from_rest_lem n range apart (views_of n h) (views_of n s) (parts m s h r);
    from_start = λ m s r. from_start n range apart (views_of n s) (ran m s r);
    to_rest = λ m t s r. to_rest n range apart (view_of n t) (views_of n s) (ran m (t ∷ s) r);
    on_that_tick_from_start = λ m t s r. on_that_tick_from_start n range apart (view_of n t) (views_of n s) (ran m (t ∷ s) r);
    records_from_start = λ m s r. records_from_start_lem n range apart (views_of n s) (ran m s r);
    never_stuck = λ m s h r. never_stuck n range apart (views_of n h) (views_of n s) (parts m s h r);
  }

  pub rests_in_step_0 : RestsInStep0 m₀ i
  rests_in_step_0 m h r =
      let f = follow m₀ m h b₀ r in
      rest_means n range (views_of n h) (f.ran i h₀) ∙ ap (λ (t : State). eqb 0 (step_number t.step)) (f.state i h₀)
