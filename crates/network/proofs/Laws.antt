-- Laws that the proofs of the functions cite, each in the shape that the code has.
use Rattle.lists.proofs.Basics.{ℕ, ◌≡◌, refl, sym, ◌∙◌, Bool, true, false, true≢false, cond, eqb, set}
use Rattle.std.specs.Prelude.{None, Some, position}
use Rattle.lists.specs.Lists.{first}
use Rattle.lists.proofs.Any.{first-position}
use Rattle.settings.specs.declared.Network.{Network}
use Rattle.settings.specs.Settings.{controllers_of, member}
use Rattle.network.specs.declared.LastAnswer.{LastAnswer}
use Rattle.network.specs.declared.State.{State}
use Rattle.network.specs.Answers.{answer_of, with_answers, after_answer}

-- ---- after_answer
module _ (n : Network) (s : State) (id : ℕ) (ok : Bool) where
  abbrev is : ℕ → Bool
  is x = eqb x id

  -- the controller stands at i
  pub answer_found : (i : ℕ) (a : LastAnswer) → a ≡ answer_of ok → Some i ≡ position is (controllers_of n) →
      with_answers s (set s.answers i a) ≡ after_answer n s id ok
  unfolding after_answer
  answer_found i a e f = rw e (by_test (member id (controllers_of n)) (f ∙ sym (first-position is (controllers_of n))))
    where
      by_test : (b : Bool) → Some i ≡ cond b (Some (first is (controllers_of n))) None → with_answers s (set s.answers i (answer_of ok))
          ≡ cond b (with_answers s (set s.answers (first is (controllers_of n)) (answer_of ok))) s
      by_test true g = let z : i ≡ first is (controllers_of n) = cc in rw z refl
      by_test false g = absurd (let z : ◌≡◌ {A = Bool} true false = cc in true≢false z)

  -- it stands nowhere
  pub answer_none : None ≡ position is (controllers_of n) → s ≡ after_answer n s id ok
  unfolding after_answer
  answer_none f = by_test (member id (controllers_of n)) (f ∙ sym (first-position is (controllers_of n)))
    where
      by_test : (b : Bool) → None ≡ cond b (Some (first is (controllers_of n))) None → s
          ≡ cond b (with_answers s (set s.answers (first is (controllers_of n)) (answer_of ok))) s
      by_test true g = absurd (let z : ◌≡◌ {A = Bool} true false = cc in true≢false z)
      by_test false g = refl
