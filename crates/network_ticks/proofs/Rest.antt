-- The tick of a network that rests changes nothing and hands out nothing.
use Rattle.lists.proofs.Basics.{◌≡◌, refl, ap, [], Bool, true, false≢true}
use Rattle.records.specs.declared.Mode.{Mode}
use Rattle.settings.specs.declared.Network.{Network}
use Rattle.steps.specs.declared.Step.{Step}
use Rattle.steps.specs.declared.Phase.{Phase}
use Rattle.steps.specs.declared.Outfit.{Outfit}
use Rattle.steps.specs.declared.Move.{Move}
use Rattle.steps.specs.Steps.{phase_of}
use Rattle.steps.specs.Decision.{decision}
use Rattle.steps.proofs.Laws.{InPhase, in_phase}
use Rattle.handing.specs.Handing.{move_records}
use Rattle.network.specs.declared.State.{State}
use Rattle.network.specs.Rules.{move_of}
use Rattle.network.specs.Moving.{after_move, tick_state, tick_records}
use Rattle.network.specs.Rest.{rests_in_phase, rests_in}

-- a tick decides to stay
module _ (step : Step) (done refused reached : Bool) (outfit : Outfit) where
  stays_in : (phase : Phase) (wanted : Mode) → InPhase phase step → rests_in_phase phase wanted ≡ true
      → decision step wanted done refused reached outfit ≡ Move.Stay
  unfolding decision
  stays_in Phase.Off Mode.No p e = rw p refl
  stays_in Phase.Off Mode.Silent p e = absurd (false≢true e)
  stays_in Phase.Off Mode.Full p e = absurd (false≢true e)
  stays_in Phase.Rising wanted p e = absurd (false≢true e)
  stays_in Phase.Checking wanted p e = absurd (false≢true e)
  stays_in Phase.Full Mode.No p e = absurd (false≢true e)
  stays_in Phase.Full Mode.Silent p e = absurd (false≢true e)
  stays_in Phase.Full Mode.Full p e = rw p refl
  stays_in Phase.Recovering wanted p e = absurd (false≢true e)
  stays_in Phase.Silent Mode.No p e = absurd (false≢true e)
  stays_in Phase.Silent Mode.Silent p e = rw p refl
  stays_in Phase.Silent Mode.Full p e = absurd (false≢true e)
  stays_in Phase.Falling wanted p e = absurd (false≢true e)
  stays_in Phase.Resetting wanted p e = absurd (false≢true e)

module _ (n : Network) (s : State) (e : rests_in s.step s.wanted ≡ true) where
  moves_not : move_of n s ≡ Move.Stay
  unfolding move_of
  moves_not = stays_in s.step _ _ _ _ (phase_of s.step) s.wanted (in_phase s.step) e

  pub resting_stays : tick_state n s ≡ s
  unfolding tick_state after_move
  resting_stays = ap (after_move n s) moves_not

  pub resting_hands_out_nothing : tick_records n s ≡ []
  unfolding tick_records move_records
  resting_hands_out_nothing = ap (move_records n s.step s.told) moves_not
