-- What follows the last setback of a network, and the first tick of it before which all controllers run, with one entry more.
use Rattle.lists.proofs.Basics.{ℕ, suc, ◌<◌, arith, ltb-false, lt-ltb, ◌≡◌, refl, sym, ◌∙◌, List, [], ◌∷◌, Bool, true, false, cond, ◌&&◌, false≢true}
use Rattle.lists.proofs.Basics.{ltb, length, get_or}
use Rattle.lists.specs.Lists.{any}
use Rattle.lists.proofs.Tests.{split}
use Rattle.lists.proofs.Any.{any_append_right}
use Rattle.settings.specs.declared.Network.{Network}
use Rattle.settings.specs.Settings.{controllers_of, member}
use Rattle.settings.specs.Good.{InRange}
use Rattle.settings.proofs.Good.{some_controller}
use Rattle.network_demands.specs.Words.{hands, Seen, OwnHistory, since, tally, is_answer, ticked, stalled, setback, fell_up, delay_at, owed}
use Rattle.network_demands.specs.Words.{accepted, after_stall, asked_to_start, runs, all_run, first_running}
use Rattle.network_demands.proofs.Handed.{eqb_same}
use Rattle.network_demands.proofs.Slots.{every_member}

-- ---- with one entry more
-- what follows the last setback, and what is owed since, by whether the entry is one
pub since_by : (n : Network) (e : Seen) (h : OwnHistory) (b : Bool) → setback n e ≡ b
    → since (setback n) (e ∷ h) ≡ cond b [] (e ∷ since (setback n) h)
unfolding since
since_by n e h b q = rw q refl

pub owed_by : (n : Network) (e : Seen) (h : OwnHistory) (b : Bool) → setback n e ≡ b
    → owed n (e ∷ h) ≡ cond b (cond (fell_up n e h) (delay_at n (e ∷ h)) 0) (owed n h)
unfolding owed
owed_by n e h b q = rw q refl

pub stall_by : (n : Network) (e : Seen) (h : OwnHistory) (b : Bool) → setback n e ≡ b
    → after_stall n (e ∷ h) ≡ cond b (stalled e) (after_stall n h)
unfolding after_stall
stall_by n e h b q = rw q refl

-- a controller that was not asked to start does not run
pub asked_first : (c : ℕ) (h : OwnHistory) → asked_to_start c h ≡ false → runs c h ≡ false
unfolding runs
asked_first c [] a = refl
asked_first c (e ∷ h) a =
    let earlier = any_append_right (hands 1 c 1) (e ∷ []) h a in
    split (λ (b : Bool). b ≡ false) (is_answer c 1 e.sight && accepted e) (λ _. earlier)
    (λ _. split (λ (b : Bool). b ≡ false) (is_answer c 0 e.sight && accepted e) (λ _. refl) (λ _. asked_first c h earlier))

module _ (n : Network) where
  -- the first tick before which all controllers run: it stays the first
  pub first_stays : (e : Seen) (s : OwnHistory) → 0 < first_running n s → first_running n (e ∷ s) ≡ first_running n s
  unfolding first_running
  first_stays e s l = rw (lt-ltb 0 (first_running n s) l) refl

  -- what is no tick is not the first
  pub first_no_tick : (e : Seen) (s : OwnHistory) → ticked e ≡ false → first_running n (e ∷ s) ≡ first_running n s
  unfolding first_running
  first_no_tick e s t = rw t (by_test (ltb 0 (first_running n s)) refl)
    where
      by_test : (b : Bool) → ltb 0 (first_running n s) ≡ b → cond b (first_running n s) 0 ≡ first_running n s
      by_test true q = refl
      by_test false q = omega (arith, ltb-false 0 (first_running n s) q)

  -- a tick is the first where none was before it and all run now
  pub first_tick : (e : Seen) (s : OwnHistory) → ticked e ≡ true → first_running n s ≡ 0
      → first_running n (e ∷ s) ≡ cond (all_run n s) (suc (tally ticked s)) 0
  unfolding first_running
  first_tick e s t z = rw (t, z) refl

  -- where no controller was asked to start, not all run
  pub none_run : InRange n → (s : OwnHistory) → ((c : ℕ) → member c (controllers_of n) ≡ true → asked_to_start c s ≡ false) → all_run n s ≡ false
  unfolding any
  none_run g s a = by_test (all_run n s) refl
    where
      by_list : (l : List ℕ) → 0 < length l → member (get_or l 0 0) l ≡ true
      by_list [] f = absurd (omega arith)
      by_list (x ∷ l) f = rw (eqb_same x) refl

      by_test : (b : Bool) → all_run n s ≡ b → b ≡ false
      by_test true e =
          let c = get_or (controllers_of n) 0 0 in
          let m = by_list (controllers_of n) (some_controller n g) in
          absurd (false≢true (sym (asked_first c s (a c m)) ∙ every_member (λ (c : ℕ). runs c s) c (controllers_of n) e m))
      by_test false e = refl
