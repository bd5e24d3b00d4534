-- Which entry tells full: the one after which full is told, where it was not before it.
use Rattle.lists.proofs.Basics.{ℕ, suc, arith, eq-eqb, ne_eqb, leb-true, leb-false}
use Rattle.lists.proofs.Basics.{◌≡◌, refl, sym, ap, ◌∙◌, [], ◌∷◌, ◌++◌, Bool, true, false, not, ◌&&◌}
use Rattle.lists.proofs.Basics.{leb, eqb}
use Rattle.lists.specs.Lists.{any}
use Rattle.records.specs.declared.Mode.{Mode}
use Rattle.settings.specs.declared.Network.{Network}
use Rattle.settings.specs.Good.{InRange}
use Rattle.steps.specs.declared.Step.{Step}
use Rattle.steps.specs.declared.Move.{Move}
use Rattle.steps.specs.Steps.{is_full_step}
use Rattle.handing.specs.Handing.{recovery, reset}
use Rattle.network.specs.declared.State.{State}
use Rattle.network.specs.Moving.{told_after, after_move}
use Rattle.network.specs.BusOff.{made_anew, after_hit}
use Rattle.network_theorems.specs.Kept.{is_full_mode}
use Rattle.network_theorems.proofs.Moves.{ByMove}
use Rattle.network_theorems.proofs.Kept.{lowered_not_full}
use Rattle.network_demands.specs.Words.{hands, Seen, OwnHistory, told}
use Rattle.network_demands.specs.Words.{wanted}
use Rattle.network_demands.specs.Own.{finished, decides, state_of, Ran}
use Rattle.network_demands.proofs.Views.{by_part, by_tick}
use Rattle.network_demands.proofs.Handed.{is_enter_full, move_says_full}
use Rattle.network_demands.proofs.Follows.{state_kept, told_follows}
use Rattle.network_demands.proofs.Way.{starts_not_full}
use Rattle.network_demands.proofs.Told.{full_mode_number}

-- ---- which entry tells full
-- a move that enters full makes the told mode full, where it was not
abbrev SaysNow : Mode → Step → Mode → Move → Type 0
SaysNow told step wanted m = is_full_mode told ≡ is_full_step step → is_enter_full m ≡ (is_full_mode (told_after m told) && not (is_full_mode told))

both_not : (b : Bool) → false ≡ (b && not b)
both_not true = refl
both_not false = refl

says_now : (told : Mode) (done : Bool) → ByMove done (SaysNow told)
says_now told done = record {
  stays = λ step wanted k. both_not (is_full_mode told);
  asks_again = λ step wanted a k. both_not (is_full_mode told);
  counts = λ step next wanted p p' f k. both_not (is_full_mode told);
  passes = λ step wanted p f k. both_not (is_full_mode told);
  fills = λ step wanted p k. sym (ap not (k ∙ p.unsaid));
  starts = λ step wanted d a k. sym (ap not (k ∙ starts_not_full step a));
  silences = λ step wanted p k. refl;
  waits = λ step wanted d a f k. both_not (is_full_mode told);
  goes_down_lem = λ step o k. rw (lowered_not_full told) refl;
  ends = λ step wanted u k. refl;
  enters = λ step next wanted a u f k. both_not (is_full_mode told);
}

-- full is told exactly if the record says so
full_told_lem : (n : Network) (h : OwnHistory) → Ran n h → is_full_mode (state_of n h).told ≡ eqb 2 (told n h)
full_told_lem n h r = sym (full_mode_number (state_of n h).told) ∙ ap (eqb 2) (told_follows n h r)

-- an entry hands out 6 full exactly if full is told after it and was not before
pub says_full : (n : Network) → InRange n → (t : Seen) (h : OwnHistory) → Ran n (t ∷ h)
    → hands 6 n.handle 2 t ≡ (eqb 2 (told n (t ∷ h)) && not (eqb 2 (told n h)))
unfolding Ran state_of any recovery reset after_move after_hit made_anew
says_full n g t h r =
    by_part n w (λ e x. hands 6 n.handle 2 e ≡ (is_full_mode x.told && not (is_full_mode w.told))) (record {
      plain = λ sight number mode reported p. both_not (is_full_mode w.told);
      hears = λ c mode ok m l e. both_not (is_full_mode w.told);
      recovers = λ u. refl;
      restarts = λ u a. both_not (is_full_mode w.told);
      not_taken = λ u a. both_not (is_full_mode w.told);
      resets = λ u. refl;
      ticks = move_says_full n w.step _ (decides n w)
          ∙ by_tick n w (SaysNow w.told) (says_now w.told (finished n w)) (state_kept n g h r.1).told;
    }) t r.0
    ∙ rw (full_told_lem n (t ∷ h) r, full_told_lem n h r.1) refl
  where
    w : State
    w = state_of n h

-- what ran by the rules did so from the beginning
pub ran_earlier : (n : Network) (s h : OwnHistory) → Ran n (s ++ h) → Ran n h
unfolding Ran
ran_earlier n [] h r = r
ran_earlier n (e ∷ s) h r = ran_earlier n s h r.1

-- a number is reached now and was not before
pub just_reached : (d t : ℕ) → (leb d (suc t) && not (leb d t)) ≡ eqb d (suc t)
just_reached d t = by_test (leb d (suc t)) (leb d t) refl refl
  where
    by_test : (a c : Bool) → leb d (suc t) ≡ a → leb d t ≡ c → (a && not c) ≡ eqb d (suc t)
    by_test true true p q = sym (ne_eqb d (suc t) (λ e. omega (arith, leb-true d t q, e)))
    by_test true false p q = sym (eq-eqb d (suc t) (omega (arith, leb-true d (suc t) p, leb-false d t q)))
    by_test false c p q = sym (ne_eqb d (suc t) (λ e. omega (arith, leb-false d (suc t) p, e)))
