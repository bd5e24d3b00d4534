-- Never stuck: from any history, after so many good ticks as the outfit and the delays say, full is told.
use Rattle.lists.proofs.Basics.{ℕ, zero, suc, ◌-◌, ◌<◌, ◌≤◌, max, arith, leb-true, eqb-true, ltb-false, ◌≡◌, refl, sym, ap, subst, ◌∙◌, [], ◌∷◌, ◌++◌}
use Rattle.lists.proofs.Basics.{Bool}
use Rattle.lists.proofs.Basics.{true, false, cond, false≢true, ltb}
use Rattle.lists.proofs.Tests.{split}
use Rattle.records.specs.declared.Mode.{Mode}
use Rattle.std.specs.Prelude.{Option, None, Some}
use Rattle.settings.specs.declared.Network.{Network}
use Rattle.settings.specs.Settings.{controllers_of}
use Rattle.settings.specs.Good.{Distinct, InRange}
use Rattle.steps.specs.declared.Step.{Step}
use Rattle.steps.specs.declared.Outfit.{Outfit}
use Rattle.steps.specs.declared.Move.{Move}
use Rattle.steps.specs.Steps.{phase_of, is_restarting}
use Rattle.steps.specs.After.{step_after}
use Rattle.steps.proofs.Laws.{numbered_is}
use Rattle.network.specs.declared.State.{State}
use Rattle.network.specs.State.{started}
use Rattle.network.specs.Rules.{is_long, delay_of, outfit_of}
use Rattle.network.specs.Moving.{count_after, after_move}
use Rattle.network.specs.BusOff.{raised, counted_in, made_anew, after_hit}
use Rattle.network_theorems.specs.Delays.{least_long}
use Rattle.network_theorems.proofs.Theorems.{delay_long}
use Rattle.network_demands.specs.Words.{GoodTicks, Seen, OwnHistory, tally, ticked, struck, told, exceeds}
use Rattle.network_demands.specs.Own.{state_of, Ran}
use Rattle.network_demands.specs.ComesUp.{by_fit, by_outfit, longest_delay, most_ticks, NeverStuck}
use Rattle.network_demands.proofs.Views.{by_part}
use Rattle.network_demands.proofs.Follows.{state_kept}
use Rattle.network_demands.proofs.Second.{never_first}
use Rattle.network_demands.proofs.Arrows.{own_outfit, first_down_lem, by_tick_arrow}
use Rattle.network_demands.proofs.Standing.{stands}
use Rattle.network_demands.proofs.Counted.{exceeds_from}
use Rattle.network_demands.proofs.Told.{delay_range, told_in_full}
use Rattle.network_demands.proofs.Toward.{by_each, less, is_none, none_left, recovering_phase, at_most}
use Rattle.network_demands.proofs.Nearer.{left, left_more, onward_then, fewer_ticks}

-- ---- a recovery has a bus-off that was counted
abbrev Counts : Network → State → Type 0
Counts n s = recovering_phase (phase_of s.step) ≡ true → 0 < s.count

abbrev CountsAfter : Bool → ℕ → Step → Mode → Move → Type 0
CountsAfter partial count step wanted m =
    (recovering_phase (phase_of step) ≡ true → 0 < count) → recovering_phase (phase_of (step_after m step partial)) ≡ true → 0 < count_after m count

raised_some : (count : ℕ) → 0 < raised count
raised_some count = split (λ (x : ℕ). 0 < x) (ltb count 255) (λ _. omega arith) (λ e. omega (arith, ltb-false count 255 e))

-- step 6 was counted before
again_some : (n : Network) (s : State) → Counts n s → 0 < counted_in s.step s.count
again_some n s i = split (λ (x : ℕ). 0 < x) (is_restarting s.step) (λ e. i (by_step s.step e)) (λ _. raised_some s.count)
  where
    by_step : (step : Step) → is_restarting step ≡ true → recovering_phase (phase_of step) ≡ true
    by_step step e = ap (λ (x : Step). recovering_phase (phase_of x)) (numbered_is 6 step e)

counts_more : (n : Network) → InRange n → (e : Seen) (h : OwnHistory) → Ran n (e ∷ h) → Counts n (state_of n h) → Counts n (state_of n (e ∷ h))
unfolding state_of Ran after_move after_hit made_anew
counts_more n g e h r before = by_part n s (λ e t. Counts n t) (record {
  plain = λ sight number mode reported p. before;
  hears = λ c mode ok m l t. before;
  recovers = λ u z. again_some n s before;
  restarts = λ u a. before;
  not_taken = λ u a. before;
  resets = λ u z. absurd (false≢true z);
  ticks = by_tick_arrow n s (CountsAfter n.partial s.count) (record {
    rests = λ wanted w i z. absurd (false≢true z);
    called = λ u i z. absurd (false≢true z);
    called_bare = λ u i z. absurd (false≢true z);
    climbs = λ d i z. absurd (false≢true z);
    begins = λ d i z. absurd (false≢true z);
    starts = λ d i z. absurd (false≢true z);
    asks_again = λ step wanted a g i z. i z;
    checks = λ t r i z. absurd (false≢true z);
    passes = λ t r i z. absurd (false≢true z);
    stays_full = λ i z. absurd (false≢true z);
    stays_silent = λ i z. absurd (false≢true z);
    waits = λ wanted w d i z. i refl;
    waits_on = λ t wanted w r i z. i refl;
    resumes = λ wanted w d i z. absurd (false≢true z);
    fills = λ step q f i z. absurd (false≢true z);
    silences = λ step q i z. absurd (false≢true z);
    goes_down_lem = λ step o i z. absurd (false≢true (sym (ap recovering_phase (first_down_lem n.partial).falls) ∙ z));
    sinks = λ step next wanted d e u i z. absurd (false≢true (sym (ap recovering_phase e.falls) ∙ z));
    ends = λ step wanted d i z. absurd (false≢true z);
  }) (stands n g h r.1).suited (state_kept n g h r.1) before;
}) e r.0
  where
    s : State
    s = state_of n h

pub counts : (n : Network) → InRange n → (h : OwnHistory) → Ran n h → Counts n (state_of n h)
unfolding state_of Ran started
counts n g [] r = λ e. absurd (false≢true (sym (ap recovering_phase (first_down_lem n.partial).falls) ∙ e))
counts n g (e ∷ h) r = counts_more n g e h r (counts n g h r.1)

-- ---- so no delay is longer than the longest one
-- of two the one that a test picks is at most the larger
picked_most : (b : Bool) (long short : ℕ) → cond b long short ≤ max long short
picked_most true long short = omega arith
picked_most false long short = omega arith

delay_most : (n : Network) (count : ℕ) → 0 < count → delay_of n count ≤ longest_delay n
unfolding delay_of
delay_most n count some = split (λ (d : ℕ). delay_of n count ≤ d) (exceeds n.relation n.threshold 1)
    (λ e. let first = leb-true (least_long n.relation n.threshold) 1 (sym (exceeds_from n.relation n.threshold 1) ∙ e) in
    omega (arith, delay_long n count (omega (arith, first, some))))
    (λ _. picked_most (is_long n.relation n.threshold count) n.long n.short)

-- ---- how far at most
-- the figures by the settings are those by the outfit
pub by_outfit_lem : (n : Network) (bare fitted partial : ℕ) → by_outfit n bare fitted partial ≡ by_each (own_outfit n) bare fitted partial
by_outfit_lem n bare fitted partial = by_fit_lem n.transceiver n.partial
  where
    by_fit_lem : (t : Option ℕ) (b : Bool) → by_fit t b bare fitted partial ≡ by_each (outfit_of t b) bare fitted partial
    by_fit_lem None b = refl
    by_fit_lem (Some id) true = refl
    by_fit_lem (Some id) false = refl

-- one tick of the most is needed to ask
asked_first : (outfit : Outfit) (most : ℕ) → by_each outfit 6 8 11 ≤ most → by_each outfit 5 7 10 ≤ most - 1
asked_first Outfit.Bare most l = omega (arith, l)
asked_first Outfit.Fitted most l = omega (arith, l)
asked_first Outfit.Partial most l = omega (arith, l)

far_at_most : (n : Network) → InRange n → (h : OwnHistory) → Ran n h → left n (state_of n h) ≤ most_ticks n - 1
far_at_most n g h r =
    let s = state_of n h in
    at_most s.step (own_outfit n) (delay_of n s.count) (most_ticks n - 1) (stands n g h r).suited
    (asked_first (own_outfit n) (most_ticks n) (subst (λ (k : ℕ). k ≤ most_ticks n) (by_outfit_lem n 6 8 11) (omega arith)))
    (λ e. omega (arith, delay_most n s.count (counts n g h r e))) (delay_range n g s.count).0

-- ---- each good tick brings it nearer
less_sub : (x most k : ℕ) → x ≤ most - k → less x ≤ most - suc k
less_sub zero most k l = omega arith
less_sub (suc x) most k l = omega (arith, l)

module _ (n : Network) (g : InRange n) (f : Distinct (controllers_of n)) (h : OwnHistory) where
  abbrev at : OwnHistory → State
  at q = state_of n (q ++ h)

  nearer_more : (e : Seen) (q : OwnHistory) → Ran n (e ∷ (q ++ h)) → GoodTicks 1 (e ∷ q) h
      → (0 < tally ticked q → left n (at q) ≤ most_ticks n - tally ticked q) → (b : Bool) → ticked e ≡ b
      → 0 < cond b (suc (tally ticked q)) (tally ticked q) → left n (at (e ∷ q)) ≤ most_ticks n - cond b (suc (tally ticked q)) (tally ticked q)
  unfolding Ran
  nearer_more e q r i earlier false t l =
      subst (λ (k : ℕ). k ≤ most_ticks n - tally ticked q)
      (sym (left_more n g h e q r (never_first struck e q i.calm) (λ z. absurd (false≢true (sym t ∙ z))) ∙ rw (t) refl)) (earlier l)
  nearer_more e q r i earlier true t l = by_ticks (tally ticked q) refl
    where
      by_ticks : (k : ℕ) → tally ticked q ≡ k → left n (at (e ∷ q)) ≤ most_ticks n - suc (tally ticked q)
      by_ticks zero z = rw (z) (far_at_most n g (e ∷ (q ++ h)) r)
      by_ticks (suc k) z =
          let some : 0 < tally ticked q = omega (arith, z) in
          let on = onward_then n g h f 1 e q r.1 i t some (λ _. omega arith) in
          subst (λ (k : ℕ). k ≤ most_ticks n - suc (tally ticked q))
          (sym (left_more n g h e q r (never_first struck e q i.calm) (λ _. on) ∙ rw (t) refl))
          (less_sub (left n (at q)) (most_ticks n) (tally ticked q) (earlier some))

  left_within : (q : OwnHistory) → Ran n (q ++ h) → GoodTicks 1 q h → 0 < tally ticked q → left n (at q) ≤ most_ticks n - tally ticked q
  unfolding Ran tally
  left_within [] r i l = absurd (omega (arith, l))
  left_within (e ∷ q) r i l = nearer_more e q r i (left_within q r.1 (fewer_ticks 1 e q h i)) (ticked e) refl l

  pub never_stuck : (q : OwnHistory) → Ran n (q ++ h) → NeverStuck n q h
  never_stuck q r i l =
      let within = left_within q r i (omega (arith, l)) in
      let none : left n (at q) ≡ 0 = omega (arith, within, l) in
      sym (eqb-true 2 (told n (q ++ h)) (told_in_full n g (q ++ h) r
      ∙ none_left (at q).step (own_outfit n) (delay_of n (at q).count) ∙ ap is_none none))
