-- What follows a bus-off while up, up to the next setback: full is told exactly if it is due, and so not before the delay and two ticks.
use Rattle.lists.proofs.Basics.{ℕ, zero, suc, ◌+◌, ◌≤◌, arith, eqb-false, ne_eqb, ltb-true, leb-true, ◌≡◌, refl, sym, ap, ◌∙◌, [], ◌∷◌, ◌++◌}
use Rattle.lists.proofs.Basics.{append-nil, Bool, true, false, ◌&&◌, ◌||◌, or-false, or-true, false≢true, true≢false, eqb, ltb, leb}
use Rattle.lists.proofs.Tests.{split}
use Rattle.records.specs.Records.{mode_number}
use Rattle.lists.specs.Lists.{any}
use Rattle.lists.proofs.Any.{any_append_left, any_append_right, and_both}
use Rattle.settings.specs.declared.Network.{Network}
use Rattle.settings.specs.Settings.{controllers_of}
use Rattle.settings.specs.Good.{Distinct, InRange}
use Rattle.network.specs.Parts.{Sight, a_tick, a_bus_off, a_stall, an_answer, a_request, a_report, nothing}
use Rattle.network_theorems.proofs.Theorems.{checked_or_full_means_told_full}
use Rattle.network_demands.specs.Words.{Seen, OwnHistory, since, never, tally, is_bus_off, is_stall, ticked, fell, stalled, shut, setback}
use Rattle.network_demands.specs.Words.{told, wanted_at_tick, up, fell_up, delay_at, owed, after_stall, first_running, duly, Delayed, LateAnswers}
use Rattle.network_demands.specs.Words.{accepted, LateAfterStall}
use Rattle.network_demands.specs.Own.{state_of, Ran}
use Rattle.network_demands.proofs.Views.{by_part}
use Rattle.network_demands.proofs.Follows.{state_kept, told_follows}
use Rattle.network_demands.proofs.Way.{soonest}
use Rattle.network_demands.proofs.Told.{told_exactly, never_sooner}

-- ---- what is said of every entry is said of the first and of the rest
pub never_first : (p : Seen → Bool) (e : Seen) (h : OwnHistory) → never p (e ∷ h) → p e ≡ false
unfolding any
never_first p e h f = sym (or-false (p e)) ∙ any_append_left p (e ∷ []) h f

pub never_rest : (p : Seen → Bool) (e : Seen) (h : OwnHistory) → never p (e ∷ h) → never p h
never_rest p e h f = any_append_right p (e ∷ []) h f

-- neither a bus-off, nor a stall, nor a shutdown is no setback
pub no_setbacks : (n : Network) (s : OwnHistory) → never fell s → never stalled s → never (shut n) s → never (setback n) s
unfolding any
no_setbacks n [] f x z = refl
no_setbacks n (e ∷ s) f x z = rw (never_first fell e s f, never_first stalled e s x, never_first (shut n) e s z)
    (no_setbacks n s (never_rest fell e s f) (never_rest stalled e s x) (never_rest (shut n) e s z))

-- ---- what follows an entry, where nothing after it passes the test
pub since_on : (p : Seen → Bool) (s h : OwnHistory) → never p s → since p (s ++ h) ≡ s ++ since p h
unfolding since
since_on p [] h f = refl
since_on p (e ∷ s) h f = rw (never_first p e s f) (ap (λ (x : OwnHistory). e ∷ x) (since_on p s h (never_rest p e s f)))

owed_on : (n : Network) (s h : OwnHistory) → never (setback n) s → owed n (s ++ h) ≡ owed n h
unfolding owed
owed_on n [] h f = refl
owed_on n (e ∷ s) h f = rw (never_first (setback n) e s f) (owed_on n s h (never_rest (setback n) e s f))

stall_on : (n : Network) (s h : OwnHistory) → never (setback n) s → after_stall n (s ++ h) ≡ after_stall n h
unfolding after_stall
stall_on n [] h f = refl
stall_on n (e ∷ s) h f = rw (never_first (setback n) e s f) (stall_on n s h (never_rest (setback n) e s f))

-- of a history that is s after a setback b, s follows the last setback
pub since_setback : (n : Network) (s : OwnHistory) (b : Seen) (h : OwnHistory) → setback n b ≡ true → never (setback n) s
    → since (setback n) (s ++ (b ∷ h)) ≡ s
unfolding since
since_setback n s b h u f = since_on (setback n) s (b ∷ h) f ∙ rw u (append-nil s)

module _ (n : Network) (s : OwnHistory) (b : Seen) (h : OwnHistory) (u : fell_up n b h ≡ true) (f : never (setback n) s) where
  pub fell_back : setback n b ≡ true
  fell_back = rw (and_both (fell b) (up n h) u).0 refl

  -- after a bus-off while up its delay is owed, and no stall came last
  pub owed_bus_off : owed n (s ++ (b ∷ h)) ≡ delay_at n (b ∷ h)
  unfolding owed
  owed_bus_off = owed_on n s (b ∷ h) f ∙ rw ((and_both (fell b) (up n h) u).0, (and_both (fell b) (up n h) u).1) refl

  pub no_stall_last : after_stall n (s ++ (b ∷ h)) ≡ false
  unfolding after_stall
  no_stall_last = stall_on n s (b ∷ h) f ∙ rw fell_back (no_stall b.sight (accepted b) (and_both (fell b) (up n h) u).0)
    where
      no_stall : (sight : Sight) (accepted : Bool) → is_bus_off sight ≡ true → is_stall sight && accepted ≡ false
      no_stall a_tick accepted e = refl
      no_stall a_bus_off accepted e = refl
      no_stall a_stall accepted e = absurd (false≢true e)
      no_stall (an_answer controller mode ok) accepted e = refl
      no_stall (a_request mode) accepted e = refl
      no_stall (a_report report) accepted e = refl
      no_stall nothing accepted e = refl

-- what is seen last is a stall that was accepted
module _ (n : Network) (s : OwnHistory) (b : Seen) (h : OwnHistory) (u : stalled b ≡ true) (f : never (setback n) s) where
  pub stalled_back : setback n b ≡ true
  stalled_back = rw u (or-true (fell b))

  -- after it no delay is owed, and it came last
  pub owed_stall : owed n (s ++ (b ∷ h)) ≡ 0
  unfolding owed
  owed_stall = owed_on n s (b ∷ h) f ∙ rw (stalled_back, not_fell b.sight (and_both (is_stall b.sight) (accepted b) u).0) refl
    where
      not_fell : (sight : Sight) → is_stall sight ≡ true → is_bus_off sight ≡ false
      not_fell a_tick e = refl
      not_fell a_bus_off e = absurd (false≢true e)
      not_fell a_stall e = refl
      not_fell (an_answer controller mode ok) e = refl
      not_fell (a_request mode) e = refl
      not_fell (a_report report) e = refl
      not_fell nothing e = refl

  pub stall_last : after_stall n (s ++ (b ∷ h)) ≡ true
  unfolding after_stall
  stall_last = stall_on n s (b ∷ h) f ∙ rw stalled_back u

-- one entry more does not make fewer
tally_more : (p : Seen → Bool) (e : Seen) (s : OwnHistory) → tally p s ≤ tally p (e ∷ s)
unfolding tally
tally_more p e s = split (λ (k : ℕ). tally p s ≤ k) (p e) (λ _. omega arith) (λ _. omega arith)

-- a stall is accepted only where full is told
pub stalls_when_full : (n : Network) → InRange n → (e : Seen) (h : OwnHistory) → Ran n (e ∷ h) → stalled e ≡ true → told n h ≡ 2
unfolding Ran
stalls_when_full n g e h r = by_part n (state_of n h) (λ e t. stalled e ≡ true → told n h ≡ 2) (record {
  plain = λ sight number mode reported p x. absurd (false≢true (sym p.stall ∙ x));
  hears = λ c mode ok m l t x. absurd (false≢true x);
  recovers = λ u x. absurd (false≢true x);
  restarts = λ u a x. absurd (false≢true x);
  not_taken = λ u a x. absurd (false≢true x);
  resets = λ full x. sym (told_follows n h r.1)
      ∙ ap mode_number (checked_or_full_means_told_full n (state_of n h) (state_kept n g h r.1) full);
  ticks = λ x. absurd (false≢true x);
}) e r.0

-- full that is due took the delay after the tick before which all run
due_passed : (k d ticks : ℕ) (full : Bool) → ltb 0 k && (leb (k + d) ticks && full) ≡ true → eqb 1 k ≡ false → d + 2 ≤ ticks
due_passed k d ticks full e f =
    let x = and_both (ltb 0 k) _ e in
    let y = and_both (leb (k + d) ticks) full x.1 in
    let one = eqb-false 1 k f in
    omega (arith, ltb-true 0 k x.0, leb-true (k + d) ticks y.0)

-- a number that is 0 or at least 2 is not 1
not_one : (k : ℕ) → ltb 0 k ≡ leb 2 k → eqb 1 k ≡ false
not_one zero e = refl
not_one (suc zero) e = absurd (true≢false e)
not_one (suc (suc k)) e = ne_eqb 1 (suc (suc k)) (λ z. omega (arith, z))

module _ (n : Network) (g : InRange n) (f : Distinct (controllers_of n)) where
  module _ (s : OwnHistory) (b : Seen) (h : OwnHistory) (r : Ran n (s ++ (b ∷ h))) where
    -- with no setback in s, full is told exactly if it is due
    due_since : setback n b ≡ true → never (setback n) s → eqb 2 (told n (s ++ (b ∷ h))) ≡ duly n (owed n (s ++ (b ∷ h))) s (s ++ (b ∷ h))
    due_since u c =
        told_exactly n g f (s ++ (b ∷ h)) r
        ∙ ap (λ (q : OwnHistory). duly n (owed n (s ++ (b ∷ h))) q (s ++ (b ∷ h))) (since_setback n s b h u c)

    soon_since : setback n b ≡ true → never (setback n) s → ltb 0 (first_running n s) ≡ leb (soonest (after_stall n (s ++ (b ∷ h)))) (first_running n s)
    soon_since u c =
        let same = since_setback n s b h u c in
        ap (λ (q : OwnHistory). ltb 0 (first_running n q)) (sym same) ∙ never_sooner n g f (s ++ (b ∷ h)) r
        ∙ ap (λ (q : OwnHistory). leb (soonest (after_stall n (s ++ (b ∷ h)))) (first_running n q)) same

    pub late_answers : LateAnswers n s b h
    late_answers u c x z =
        let calm = no_setbacks n s c x z in
        let back = fell_back n s b h u calm in (
          due_since back calm ∙ ap (λ (d : ℕ). duly n d s (s ++ (b ∷ h))) (owed_bus_off n s b h u calm),
          not_one (first_running n s)
              (soon_since back calm ∙ ap (λ (y : Bool). leb (soonest y) (first_running n s)) (no_stall_last n s b h u calm)),
        )

    pub late_after_stall : LateAfterStall n s b h
    late_after_stall u c x z =
        let calm = no_setbacks n s c x z in
        let back = stalled_back n s b h u calm in (
          due_since back calm ∙ ap (λ (d : ℕ). duly n d s (s ++ (b ∷ h))) (owed_stall n s b h u calm),
          soon_since back calm ∙ ap (λ (y : Bool). leb (soonest y) (first_running n s)) (stall_last n s b h u calm),
        )

    -- demand 3, second sentence, of one network, where no stall was accepted since the bus-off
    unstalled_sentence : never stalled s → Delayed n s b h
    unstalled_sentence x u c z t =
        let y = late_answers u c x z in
        due_passed (first_running n s) (delay_at n (b ∷ h)) (tally ticked s) (eqb 2 (wanted_at_tick (s ++ (b ∷ h))))
        (sym y.0 ∙ ap (eqb 2) t) y.1

  module _ (b : Seen) (h : OwnHistory) (u : fell_up n b h ≡ true) where
    -- where one was, full was told before it, so that the delay and two ticks had passed already
    stalled_later : (s : OwnHistory) → Ran n (s ++ (b ∷ h)) → never fell s → never (shut n) s → any stalled s ≡ true
        → delay_at n (b ∷ h) + 2 ≤ tally ticked s
    unfolding Ran any
    stalled_later [] r c z x = absurd (false≢true x)
    stalled_later (e ∷ s) r c z x =
        by_test (any stalled s) refl (stalled e) refl x (stalled_later s r.1 (never_rest fell e s c) (never_rest (shut n) e s z))
      where
        by_test : (earlier : Bool) → any stalled s ≡ earlier → (now : Bool) → stalled e ≡ now → now || earlier ≡ true
            → (any stalled s ≡ true → delay_at n (b ∷ h) + 2 ≤ tally ticked s) → delay_at n (b ∷ h) + 2 ≤ tally ticked (e ∷ s)
        by_test true a now q y before = omega (arith, before a, tally_more ticked e s)
        by_test false a true q y before =
            omega (
              arith,
              unstalled_sentence s b h r.1 a u (never_rest fell e s c) (never_rest (shut n) e s z)
                  (stalls_when_full n g e (s ++ (b ∷ h)) r q),
              tally_more ticked e s,
            )
        by_test false a false q y before = absurd (false≢true y)

  pub second_sentence : (s : OwnHistory) (b : Seen) (h : OwnHistory) → Ran n (s ++ (b ∷ h)) → Delayed n s b h
  second_sentence s b h r u c z t = by_test (any stalled s) refl
    where
      by_test : (a : Bool) → any stalled s ≡ a → delay_at n (b ∷ h) + 2 ≤ tally ticked s
      by_test true x = stalled_later b h u s r c z x
      by_test false x = unstalled_sentence s b h r x u c z t
