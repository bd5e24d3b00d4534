-- One fault is counted once, however many controllers report it, and however often.
use Rattle.lists.proofs.Basics.{◌≡◌, refl, ap, ◌∙◌, [], ◌∷◌, ◌++◌, Bool, true, false, not, ◌&&◌, or-true, and-false}
use Rattle.settings.specs.declared.Network.{Network}
use Rattle.settings.specs.Good.{InRange}
use Rattle.network_demands.specs.Words.{Seen, OwnHistory, never, shut, fell_up, quieted, restarting, falls, CountedOnce}
use Rattle.network_demands.specs.Own.{Ran}
use Rattle.network_demands.proofs.Counted.{falls_by, restarting_begins, restarting_uncleared}
use Rattle.network_demands.proofs.Second.{never_first, never_rest}
use Rattle.network_demands.proofs.Says.{ran_earlier}

module _ (n : Network) (g : InRange n) where
  -- a network that is restarting stays so until TX offline or a shutdown
  restarting_on : (s h : OwnHistory) → restarting n h ≡ true → never quieted s → never (shut n) s → restarting n (s ++ h) ≡ true
  unfolding restarting
  restarting_on [] h z q d = z
  restarting_on (e ∷ s) h z q d =
      rw (never_first quieted e s q, never_first (shut n) e s d, restarting_on s h z (never_rest quieted e s q) (never_rest (shut n) e s d))
      (or-true (fell_up n e (s ++ h)))

  -- and until then those that count are those from before
  falls_on : (s h : OwnHistory) → Ran n (s ++ h) → restarting n h ≡ true → never quieted s → never (shut n) s → falls n (s ++ h) ≡ falls n h
  unfolding Ran
  falls_on [] h r z q d = refl
  falls_on (e ∷ s) h r z q d =
      let still = restarting_on s h z (never_rest quieted e s q) (never_rest (shut n) e s d) in
      falls_by n e (s ++ h) false false (restarting_uncleared n g e (s ++ h) r still)
      (ap (λ (b : Bool). fell_up n e (s ++ h) && not b) still ∙ and-false (fell_up n e (s ++ h)))
      ∙ falls_on s h r.1 z (never_rest quieted e s q) (never_rest (shut n) e s d)

  pub counted_once : (s : OwnHistory) (b : Seen) (h : OwnHistory) → Ran n (s ++ (b ∷ h)) → CountedOnce n s b h
  counted_once s b h r u q d = falls_on s (b ∷ h) r (restarting_begins n g b h (ran_earlier n s (b ∷ h) r) u) q d
