-- The ticks since full was last said: in step 4 its tick count is their number, below the ensure time; in step 5 they are the ensure time or more.
use Rattle.lists.proofs.Basics.{ℕ, suc, ◌+◌, ◌≤◌, ◌<◌, arith, eq-eqb, ne_eqb, leb-true, leb-false, lt-ltb, ◌≡◌, refl, sym, ap, ◌∙◌, [], ◌∷◌, Bool}
use Rattle.lists.proofs.Basics.{true, false, cond, ◌&&◌, true≢false, eqb, leb}
use Rattle.lists.specs.Lists.{any}
use Rattle.records.specs.declared.Mode.{Mode}
use Rattle.settings.specs.declared.Network.{Network}
use Rattle.settings.specs.Good.{InRange}
use Rattle.steps.specs.declared.Step.{Step}
use Rattle.steps.specs.declared.Step.TheVariants.{Checking}
use Rattle.steps.specs.declared.Phase.{Phase}
use Rattle.steps.specs.declared.Timer.{Timer}
use Rattle.steps.specs.declared.Outfit.{Outfit}
use Rattle.steps.specs.declared.Move.{Move}
use Rattle.steps.specs.Steps.{phase_of, timer_of, full_phase, is_full_step}
use Rattle.steps.specs.Decision.{risen}
use Rattle.steps.specs.After.{first_down, step_after}
use Rattle.handing.specs.Handing.{recovery, reset}
use Rattle.network.specs.declared.State.{State}
use Rattle.network.specs.State.{started}
use Rattle.network.specs.Moving.{after_move}
use Rattle.network.specs.BusOff.{made_anew, after_hit}
use Rattle.network.specs.Parts.{a_tick}
use Rattle.network_theorems.specs.Kept.{Kept}
use Rattle.network_demands.specs.Words.{Seen, OwnHistory, hands, since, tally, ticked}
use Rattle.network_demands.specs.Own.{finished, decides, reaches, tick_hands, played, state_of, Fits, Ran}
use Rattle.network_demands.proofs.Views.{seen, by_part}
use Rattle.network_demands.proofs.Tests.{reaches_checked}
use Rattle.network_demands.proofs.Handed.{is_pass, is_enter_full, move_says_full}
use Rattle.network_demands.proofs.Follows.{state_kept}
use Rattle.network_demands.proofs.Arrows.{suits, own_outfit, ByArrow, by_tick_arrow}
use Rattle.network_demands.proofs.Standing.{stands}
use Rattle.network_demands.proofs.Turns.{first_down_not_full}

-- ---- by the step, k being the ticks since full was last said
abbrev Counted : ℕ → Timer → ℕ → Type 0
Counted ensure Timer.Idle k = Unit
Counted ensure (Timer.Ensure t) k = (k ≡ t) × (t < ensure)
Counted ensure (Timer.Delay t) k = Unit

abbrev ByPhase : ℕ → Phase → Timer → ℕ → Type 0
ByPhase ensure Phase.Off timer k = Unit
ByPhase ensure Phase.Rising timer k = Unit
ByPhase ensure Phase.Checking timer k = Counted ensure timer k
ByPhase ensure Phase.Full timer k = ensure ≤ k
ByPhase ensure Phase.Recovering timer k = Unit
ByPhase ensure Phase.Silent timer k = Unit
ByPhase ensure Phase.Falling timer k = Unit
ByPhase ensure Phase.Resetting timer k = Unit

abbrev Checked : ℕ → Step → ℕ → Type 0
Checked ensure step k = ByPhase ensure (phase_of step) (timer_of step) k

-- of a step that is not full nothing is said
not_full : (ensure k : ℕ) (phase : Phase) (timer : Timer) → full_phase phase ≡ false → ByPhase ensure phase timer k
not_full ensure k Phase.Off timer e = tt
not_full ensure k Phase.Rising timer e = tt
not_full ensure k Phase.Checking timer e = absurd (true≢false e)
not_full ensure k Phase.Full timer e = absurd (true≢false e)
not_full ensure k Phase.Recovering timer e = tt
not_full ensure k Phase.Silent timer e = tt
not_full ensure k Phase.Falling timer e = tt
not_full ensure k Phase.Resetting timer e = tt

-- ---- ticks
-- the number after a move
abbrev after : ℕ → Move → ℕ
after k m = cond (is_enter_full m) 0 (suc k)

-- the step after it is as stated, and it is the all-clear exactly if the step is full and the number is the ensure time
abbrev pub Goes : ℕ → ℕ → Step → Move → Type 0
Goes ensure k next m = Checked ensure next (after k m) × (is_pass m ≡ is_full_step next && eqb ensure (after k m))

module _ (ensure k : ℕ) (some : 0 < ensure) (few : ensure < 65536) (partial done reached : Bool) (outfit : Outfit) where
  abbrev Checks : Step → Mode → Move → Type 0
  Checks step wanted m =
      ((t : ℕ) → step ≡ Checking t → reached ≡ leb ensure (t + 1)) → Checked ensure step k → Goes ensure k (step_after m step partial) m

  -- to a step that is not full
  leaves : (next : Step) (m : Move) → is_full_step next ≡ false → is_pass m ≡ false → Goes ensure k next m
  leaves next m f p = (not_full ensure (after k m) (phase_of next) (timer_of next) f, p ∙ rw f refl)

  -- to step 4
  enters : (m : Move) → is_enter_full m ≡ true → is_pass m ≡ false → Goes ensure k (Checking 0) m
  enters m e p = rw e ((refl, some), p ∙ sym (ne_eqb ensure 0 (λ z. omega (arith, some))))

  counts_on : (t : ℕ) → reached ≡ false → reached ≡ leb ensure (t + 1) → (k ≡ t) × (t < ensure)
      → ((suc k ≡ risen t) × (risen t < ensure)) × (false ≡ true && eqb ensure (suc k))
  counts_on t r e i =
      let l = leb-false ensure (t + 1) (sym e ∙ r) in
      let up = lt-ltb t 65535 (omega arith) in
      rw up ((omega (arith, i.0), omega arith), sym (ne_eqb ensure (suc k) (λ z. omega (arith, i.0))))

  reaches_it : (t : ℕ) → reached ≡ true → reached ≡ leb ensure (t + 1) → (k ≡ t) × (t < ensure)
      → (ensure ≤ suc k) × (true ≡ true && eqb ensure (suc k))
  reaches_it t r e i =
      let l = leb-true ensure (t + 1) (sym e ∙ r) in
      (omega (arith, i.0), sym (eq-eqb ensure (suc k) (omega (arith, i.0, i.1))))

  checks : ByArrow done reached outfit Checks
  checks = record {
    rests = λ wanted w q i. (tt, refl);
    called = λ u q i. (tt, refl);
    called_bare = λ u q i. (tt, refl);
    climbs = λ d q i. (tt, refl);
    begins = λ d q i. (tt, refl);
    starts = λ d q i. enters Move.EnterFull refl refl;
    asks_again = λ step wanted a g q i. leaves step Move.AskAgain a.not_full refl;
    checks = λ t r q i. counts_on t r (q t refl) i;
    passes = λ t r q i. reaches_it t r (q t refl) i;
    stays_full = λ q i. (omega (arith, i), sym (ne_eqb ensure (suc k) (λ z. omega (arith, i))));
    stays_silent = λ q i. (tt, refl);
    waits = λ wanted w d q i. (tt, refl);
    waits_on = λ t wanted w r q i. (tt, refl);
    resumes = λ wanted w d q i. (tt, refl);
    fills = λ step p e q i. enters Move.EnterFull refl refl;
    silences = λ step p q i. (tt, refl);
    goes_down_lem = λ step o q i. leaves (first_down partial) Move.GoDown (first_down_not_full partial) refl;
    sinks = λ step next wanted d e _ q i. leaves next (Move.Enter next) (ap full_phase e.falls) refl;
    ends = λ step wanted d q i. (tt, refl);
  }

-- ---- all that is seen
module _ (n : Network) where
  -- the ticks since full was last said
  abbrev pub since_full : OwnHistory → ℕ
  since_full h = tally ticked (since (hands 6 n.handle 2) h)

  -- a tick is one more, or the first
  pub since_full_tick : (h : OwnHistory) (e : Seen) → ticked e ≡ true → since_full (e ∷ h) ≡ cond (hands 6 n.handle 2 e) 0 (suc (since_full h))
  unfolding since tally
  since_full_tick h e t = by_test (hands 6 n.handle 2 e)
    where
      by_test : (b : Bool) → tally ticked (cond b [] (e ∷ since (hands 6 n.handle 2) h)) ≡ cond b 0 (suc (since_full h))
      by_test true = refl
      by_test false = rw t refl

  -- what a tick makes of it
  pub checked_tick : (s : State) (k : ℕ) → InRange n → Kept n s → suits (own_outfit n) s.step ≡ true → Checked n.ensure s.step k
      → Goes n.ensure k (step_after (decides n s) s.step n.partial) (decides n s)
  checked_tick s k g kept u i =
      by_tick_arrow n s (Checks n.ensure k g.ensure.0 g.ensure.1 n.partial (finished n s) (reaches n s) (own_outfit n))
      (checks n.ensure k g.ensure.0 g.ensure.1 n.partial (finished n s) (reaches n s) (own_outfit n)) u kept
      (reaches_checked n s) i

  checked_call : InRange n → (h : OwnHistory) (s : State) → Kept n s → suits (own_outfit n) s.step ≡ true
      → Checked n.ensure s.step (since_full h)
      → (e : Seen) → Fits n s e → Checked n.ensure (played n s e.sight).state.step (since_full (e ∷ h))
  unfolding since tally any recovery reset after_move after_hit made_anew
  checked_call g h s kept u i = by_part n s (λ e t. Checked n.ensure t.step (since_full (e ∷ h))) (record {
    plain = λ sight number mode reported p. rw p.tick i;
    hears = λ c mode ok m l e. i;
    recovers = λ u. tt;
    restarts = λ u a. i;
    not_taken = λ u a. i;
    resets = λ f. tt;
    ticks = rw (since_full_tick h (seen a_tick 0 (tick_hands n s)) refl, move_says_full n s.step s.told (decides n s))
        (checked_tick s (since_full h) g kept u i).0;
  })

  -- from the start on
  pub checked : InRange n → (h : OwnHistory) → Ran n h → Checked n.ensure (state_of n h).step (since_full h)
  unfolding state_of Ran started since tally
  checked g [] r = not_full n.ensure 0 (phase_of (first_down n.partial)) (timer_of (first_down n.partial)) (first_down_not_full n.partial)
  checked g (e ∷ h) r =
      checked_call g h (state_of n h) (state_kept n g h r.1) (stands n g h r.1).suited (checked g h r.1) e r.0
