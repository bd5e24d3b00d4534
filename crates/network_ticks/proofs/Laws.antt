-- Laws that the proofs of the functions cite, each in the shape that the code has.
use Rattle.lists.proofs.Basics.{ℕ, ◌≡◌, refl, ◌∙◌, Bool, false}
use Rattle.std.specs.List.{list_any}
use Rattle.lists.specs.Lists.{any}
use Rattle.lists.proofs.Any.{any-list}
use Rattle.settings.specs.declared.Network.{Network}
use Rattle.steps.specs.declared.Timer.{Timer}
use Rattle.steps.specs.declared.Outfit.{Outfit}
use Rattle.steps.specs.declared.Move.{Move}
use Rattle.steps.specs.Steps.{asks_for, timer_of, asks_to_sleep}
use Rattle.steps.specs.Decision.{decision}
use Rattle.steps.proofs.Laws.{only_sleep}
use Rattle.network.specs.declared.State.{State}
use Rattle.network.specs.State.{heard_of}
use Rattle.network.specs.Rules.{is_refusal, is_done, delay_of, reached_by, outfit_of, move_of}

-- ---- move_of
-- the decision on the conditions as the code has them is the move
module _ (n : Network) (s : State) (done refused reached : Bool) (timer : Timer) (delay : ℕ) (outfit : Outfit) (m : Move)
    (d : done ≡ is_done n s) (i : timer ≡ timer_of s.step) (t : delay ≡ delay_of n s.count) (r : reached ≡ reached_by timer n.ensure delay)
    (o : outfit ≡ outfit_of n.transceiver n.partial) where
  pub move_refused : refused ≡ list_any is_refusal (heard_of n s) → m ≡ decision s.step s.wanted done refused reached outfit → m ≡ move_of n s
  unfolding move_of
  move_refused f e = e ∙ rw (r, d, i, t, o, f, any-list is_refusal (heard_of n s)) refl

  pub move_awake : asks_to_sleep (asks_for s.step) ≡ false → m ≡ decision s.step s.wanted done false reached outfit → m ≡ move_of n s
  unfolding move_of
  move_awake f e =
      e ∙ only_sleep s.wanted done (any is_refusal (heard_of n s)) reached outfit s.step f ∙ rw (r, d, i, t, o) refl
