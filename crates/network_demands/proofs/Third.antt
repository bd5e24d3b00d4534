-- Demand 3, third sentence: with good ticks full is told on just the tick that the delay says; and after a stall on the third.
use Rattle.lists.proofs.Basics.{suc, ◌+◌, ◌-◌, arith, ◌≡◌, refl, sym, ap, ◌∙◌, ◌∷◌, ◌++◌, true, false, cond, false≢true, true≢false}
use Rattle.lists.proofs.Basics.{eqb, leb}
use Rattle.lists.proofs.Any.{and_both}
use Rattle.records.specs.declared.Mode.{Mode}
use Rattle.records.specs.Records.{mode_number}
use Rattle.settings.specs.declared.Network.{Network}
use Rattle.settings.specs.Settings.{controllers_of}
use Rattle.settings.specs.Good.{Distinct, InRange}
use Rattle.steps.specs.declared.Step.{Step}
use Rattle.steps.specs.declared.Step.TheVariants.{Restarting, ResetStopped}
use Rattle.steps.specs.Steps.{step_number, is_up, is_asking}
use Rattle.network.specs.declared.State.{State}
use Rattle.network.specs.Rules.{delay_of}
use Rattle.network.specs.BusOff.{made_anew, after_hit}
use Rattle.network_demands.specs.Words.{Seen, OwnHistory, hands, tally, ticked, fell, stalled, told, fell_up, delay_at}
use Rattle.network_demands.specs.Words.{GoodTicks}
use Rattle.network_demands.specs.Own.{state_of, Ran}
use Rattle.network_demands.proofs.Views.{by_part}
use Rattle.network_demands.proofs.Up.{up_means}
use Rattle.network_demands.proofs.Says.{ran_earlier}
use Rattle.network_demands.proofs.Arrows.{own_outfit, has_rested}
use Rattle.network_demands.proofs.Counted.{counted, delay_follows}
use Rattle.network_demands.proofs.Told.{delay_range}
use Rattle.network_demands.proofs.Toward.{ticks_left}
use Rattle.network_demands.proofs.Nearer.{left}
use Rattle.network_demands.proofs.Countdown.{Unasked, told_down, tells_down}

-- a recovery or a reset has just begun: the step has not asked, and silent was told
record Begins (s : State) (step : Step) : Type 0 where
  at : s.step ≡ step
  unasked : s.asked ≡ false
  told : s.told ≡ Mode.Silent

begins_unasked : (s : State) (step : Step) → Begins s step → is_asking step ≡ true → eqb 12 (step_number step) ≡ false → has_rested step ≡ true
    → Unasked s true 1
begins_unasked s step i asks other rests = record {
  asking = ap is_asking i.at ∙ asks;
  unasked = i.unasked;
  awake = λ z. true≢false (ap (λ (x : Step). eqb 12 (step_number x)) (sym z ∙ i.at) ∙ other);
  falls = λ z. absurd (true≢false z);
  rested = ap has_rested i.at ∙ rests;
  called = λ _. omega arith;
  not_full = ap (λ (mode : Mode). eqb 2 (mode_number mode)) i.told;
}

-- ---- after a bus-off while up
module _ (n : Network) (g : InRange n) (f : Distinct (controllers_of n)) (b : Seen) (h : OwnHistory) (u : fell_up n b h ≡ true) where
  abbrev struck : State
  struck = state_of n (b ∷ h)

  recovery_begins : Ran n (b ∷ h) → Begins struck Restarting
  unfolding Ran state_of after_hit made_anew
  recovery_begins r =
      let both = and_both (fell b) _ u in
      by_part n (state_of n h) (λ e t. fell e ≡ true → is_up (state_of n h).step ≡ true → Begins t Restarting) (record {
        plain = λ sight number mode reported p z _. absurd (false≢true (sym p.bus_off ∙ z));
        hears = λ c mode ok m l t z _. absurd (false≢true z);
        recovers = λ u _ _. record { at = refl; unasked = refl; told = refl };
        restarts = λ u a _ up. absurd (false≢true (sym u ∙ up));
        not_taken = λ u a _ up. absurd (false≢true (sym u ∙ up));
        resets = λ u z _. absurd (false≢true z);
        ticks = λ z _. absurd (false≢true z);
      }) b r.0 both.0 (sym (up_means n h r.1) ∙ both.1)

  -- the delay and one tick are left, and one tick is needed to ask
  recovery_left : Ran n (b ∷ h) → suc (left n struck) ≡ delay_at n (b ∷ h) + 2
  recovery_left r =
      let step = (recovery_begins r).at in
      let delay = delay_follows n g (b ∷ h) struck (counted n g (b ∷ h) r) in
      let some = (delay_range n g struck.count).0 in
      let same : left n struck ≡ suc (suc (delay_of n struck.count - 1)) = ap (ticks_left (own_outfit n) (delay_of n struck.count)) step in
      omega (arith, same, delay, some)

  recovers : Ran n (b ∷ h) → Unasked struck true 1
  recovers r = begins_unasked struck Restarting (recovery_begins r) refl refl refl

  pub said_from : (s : OwnHistory) → Ran n (s ++ (b ∷ h)) → GoodTicks 1 s (b ∷ h)
      → told n (s ++ (b ∷ h)) ≡ cond (leb (delay_at n (b ∷ h) + 2) (tally ticked s)) 2 1
  said_from s r i =
      let early = ran_earlier n s (b ∷ h) r in
      told_down n g f (b ∷ h) true 1 (recovers early) (λ _ _ _ _ _. omega arith) s r i
      ∙ rw (recovery_left early, (recovery_begins early).told) refl

  pub on_just_that_tick : (t : Seen) (s : OwnHistory) → Ran n (t ∷ (s ++ (b ∷ h))) → GoodTicks 1 (t ∷ s) (b ∷ h) → ticked t ≡ true
      → hands 6 n.handle 2 t ≡ eqb (delay_at n (b ∷ h) + 2) (tally ticked (t ∷ s))
  on_just_that_tick t s r i tick =
      let early = ran_earlier n (t ∷ s) (b ∷ h) r in
      tells_down n g f (b ∷ h) true 1 (recovers early) (λ _ _ _ _ _. omega arith) t s r i tick ∙ rw (recovery_left early) refl

-- ---- after a stall
module _ (n : Network) (g : InRange n) (f : Distinct (controllers_of n)) (b : Seen) (h : OwnHistory) (x : stalled b ≡ true) where
  abbrev stuck : State
  stuck = state_of n (b ∷ h)

  reset_begins : Ran n (b ∷ h) → Begins stuck ResetStopped
  unfolding Ran state_of after_hit made_anew
  reset_begins r = by_part n (state_of n h) (λ e t. stalled e ≡ true → Begins t ResetStopped) (record {
    plain = λ sight number mode reported p x. absurd (false≢true (sym p.stall ∙ x));
    hears = λ c mode ok m l t x. absurd (false≢true x);
    recovers = λ u x. absurd (false≢true x);
    restarts = λ u a x. absurd (false≢true x);
    not_taken = λ u a x. absurd (false≢true x);
    resets = λ u x. record { at = refl; unasked = refl; told = refl };
    ticks = λ x. absurd (false≢true x);
  }) b r.0 x

  reset_left : Ran n (b ∷ h) → suc (left n stuck) ≡ 3
  reset_left r = ap (λ (step : Step). suc (ticks_left (own_outfit n) (delay_of n stuck.count) step)) (reset_begins r).at

  resets : Ran n (b ∷ h) → Unasked stuck true 1
  resets r = begins_unasked stuck ResetStopped (reset_begins r) refl refl refl

  pub said_from_the_third : (s : OwnHistory) → Ran n (s ++ (b ∷ h)) → GoodTicks 1 s (b ∷ h)
      → told n (s ++ (b ∷ h)) ≡ cond (leb 3 (tally ticked s)) 2 1
  said_from_the_third s r i =
      let early = ran_earlier n s (b ∷ h) r in
      told_down n g f (b ∷ h) true 1 (resets early) (λ _ _ _ _ _. omega arith) s r i ∙ rw (reset_left early, (reset_begins early).told) refl

  pub on_the_third_tick : (t : Seen) (s : OwnHistory) → Ran n (t ∷ (s ++ (b ∷ h))) → GoodTicks 1 (t ∷ s) (b ∷ h) → ticked t ≡ true
      → hands 6 n.handle 2 t ≡ eqb 3 (tally ticked (t ∷ s))
  on_the_third_tick t s r i tick =
      let early = ran_earlier n (t ∷ s) (b ∷ h) r in
      tells_down n g f (b ∷ h) true 1 (resets early) (λ _ _ _ _ _. omega arith) t s r i tick ∙ rw (reset_left early) refl
