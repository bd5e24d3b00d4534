-- How far a network is from full, over a history: each good tick brings it one tick nearer, and nothing else changes how far it is.
use Rattle.lists.proofs.Basics.{ℕ, suc, ◌<◌, ◌≤◌, arith, le-leb, eqb-true, ◌≡◌, refl, sym, ap, ◌∙◌, ◌∷◌, ◌++◌, Bool, true}
use Rattle.lists.proofs.Basics.{false, cond, ◌&&◌, false≢true, true≢false, eqb, leb}
use Rattle.lists.specs.Lists.{any}
use Rattle.lists.proofs.Any.{and_both}
use Rattle.records.specs.declared.Mode.{Mode}
use Rattle.records.specs.Records.{mode_number}
use Rattle.settings.specs.declared.Network.{Network}
use Rattle.settings.specs.Settings.{controllers_of}
use Rattle.settings.specs.Good.{Distinct, InRange}
use Rattle.steps.specs.declared.Step.TheVariants.{ControllersSleep}
use Rattle.steps.specs.declared.Move.{Move}
use Rattle.steps.specs.declared.Move.TheVariants.{Stay, AskAgain, Count, EnterFull, EnterSilent, Pass, Wait, GoDown, EnterNoCommunication, Enter}
use Rattle.steps.specs.Steps.{is_asking}
use Rattle.steps.specs.After.{step_after}
use Rattle.network.specs.declared.State.{State}
use Rattle.network.specs.State.{heard_of}
use Rattle.network.specs.Rules.{is_refusal, delay_of}
use Rattle.network.specs.Moving.{count_after, after_move}
use Rattle.network_demands.specs.Words.{Seen, OwnHistory, tally, ticked, struck, wanted}
use Rattle.network_demands.specs.Own.{finished, reaches, decides, tick_after, state_of, Ran}
use Rattle.network_demands.specs.Words.{all_granted, granted_at_ticks, full_from, GoodTicks}
use Rattle.network_demands.proofs.Views.{by_part}
use Rattle.network_demands.proofs.Follows.{wanted_follows}
use Rattle.network_demands.proofs.Second.{never_rest}
use Rattle.network_demands.proofs.Arrows.{suits, own_outfit, has_rested}
use Rattle.network_demands.proofs.Standing.{stands}
use Rattle.network_demands.proofs.Told.{delay_range}
use Rattle.network_demands.proofs.Granted.{granted_done, granted_sleep}
use Rattle.network_demands.proofs.Toward.{ticks_left, onward, goes_onward, less, nearer}

-- ---- the ticks that are left, by the record
abbrev pub left : Network → State → ℕ
left n s = ticks_left (own_outfit n) (delay_of n s.count) s.step

-- what a tick needs to go on
pub record Onward (n : Network) (s : State) : Type 0 where
  pub done : is_asking s.step ≡ true → finished n s ≡ true
  pub sleep : s.step ≡ ControllersSleep → any is_refusal (heard_of n s) ≡ false
  pub called : has_rested s.step ≡ true → s.wanted ≡ Mode.Full

module _ (n : Network) (g : InRange n) (s : State) (u : suits (own_outfit n) s.step ≡ true) (o : Onward n s) where
  -- it does
  pub moves_on : decides n s ≡ onward (own_outfit n) (reaches n s) s.step
  moves_on =
      goes_onward s.step s.wanted (finished n s) (any is_refusal (heard_of n s)) (reaches n s) (own_outfit n) u o.done o.sleep o.called

  -- the count matters only where a delay is left
  count_aside : (m : Move) → ticks_left (own_outfit n) (delay_of n (count_after m s.count)) (step_after m s.step n.partial)
      ≡ ticks_left (own_outfit n) (delay_of n s.count) (step_after m s.step n.partial)
  count_aside Stay = refl
  count_aside AskAgain = refl
  count_aside (Count next) = refl
  count_aside EnterFull = refl
  count_aside EnterSilent = refl
  count_aside Pass = refl
  count_aside Wait = refl
  count_aside GoDown = refl
  count_aside EnterNoCommunication = refl
  count_aside (Enter next) = refl

  -- one tick nearer
  pub tick_nearer : left n (tick_after n s) ≡ less (left n s)
  unfolding after_move
  tick_nearer =
      let range = delay_range n g s.count in
      count_aside (decides n s) ∙ ap (λ (m : Move). ticks_left (own_outfit n) (delay_of n s.count) (step_after m s.step n.partial)) moves_on
      ∙ nearer s.step (own_outfit n) n.ensure (delay_of n s.count) n.partial u range.0 range.1

-- the mode with number 2 is full
pub full_number : (mode : Mode) → mode_number mode ≡ 2 → mode ≡ Mode.Full
full_number Mode.No e = absurd (omega (arith, e))
full_number Mode.Silent e = absurd (omega (arith, e))
full_number Mode.Full e = refl

-- ---- good ticks, by the last entry and those before it
when : (a b : Bool) → cond a b true ≡ true → a ≡ true → b ≡ true
when true b e q = e
when false b e q = absurd (false≢true q)

-- full is wanted at the last tick, where its number is reached
pub full_then : (number : ℕ) (e : Seen) (s h : OwnHistory) → full_from number (e ∷ s) h ≡ true → ticked e ≡ true → number ≤ suc (tally ticked s)
    → wanted (s ++ h) ≡ 2
unfolding full_from tally
full_then number e s h a t l =
    let x = and_both (cond (ticked e && leb number (tally ticked (e ∷ s))) (eqb 2 (wanted (s ++ h))) true) _ a in
    let now : ticked e && leb number (tally ticked (e ∷ s)) ≡ true = rw (t) (le-leb number (suc (tally ticked s)) l) in
    sym (eqb-true 2 (wanted (s ++ h)) (when (ticked e && leb number (tally ticked (e ∷ s))) _ x.0 now))

-- each request of the last tick is granted
pub granted_then : (e : Seen) (s : OwnHistory) → granted_at_ticks (e ∷ s) ≡ true → ticked e ≡ true → all_granted s ≡ true
unfolding granted_at_ticks
granted_then e s a t = when (ticked e) _ (and_both (cond (ticked e) (all_granted s) true) _ a).0 t

-- the good ticks of a history are those of its beginning
pub fewer_ticks : (number : ℕ) (e : Seen) (s h : OwnHistory) → GoodTicks number (e ∷ s) h → GoodTicks number s h
unfolding full_from granted_at_ticks
fewer_ticks number e s h i = record {
  full = (and_both (cond (ticked e && leb number (tally ticked (e ∷ s))) (eqb 2 (wanted (s ++ h))) true) _ i.full).1;
  granted = (and_both (cond (ticked e) (all_granted s) true) _ i.granted).1;
  calm = never_rest struck e s i.calm;
}

-- ---- all that is seen
module _ (n : Network) (g : InRange n) (h : OwnHistory) where
  abbrev at : OwnHistory → State
  at q = state_of n (q ++ h)

  -- a tick that goes on brings the network nearer, and nothing else does
  pub left_more : (e : Seen) (q : OwnHistory) → Ran n (e ∷ (q ++ h)) → struck e ≡ false → (ticked e ≡ true → Onward n (at q))
      → left n (at (e ∷ q)) ≡ cond (ticked e) (less (left n (at q))) (left n (at q))
  unfolding Ran state_of
  left_more e q r calm o =
      by_part n (at q) (λ e t. struck e ≡ false → (ticked e ≡ true → Onward n (at q)) → left n t
      ≡ cond (ticked e) (less (left n (at q))) (left n (at q))) (record {
        plain = λ sight number mode reported p _ _. rw p.tick refl;
        hears = λ c mode ok m l t _ _. refl;
        recovers = λ u calm _. absurd (true≢false calm);
        restarts = λ u a calm _. absurd (true≢false calm);
        not_taken = λ u a _ _. refl;
        resets = λ u calm _. absurd (true≢false calm);
        ticks = λ _ o. tick_nearer n g (at q) (stands n g (q ++ h) r.1).suited (o refl);
      }) e r.0 calm o

  -- once there was a good tick, the next one goes on, if full is wanted or the network goes down
  pub onward_then : Distinct (controllers_of n) → (number : ℕ) (e : Seen) (q : OwnHistory) → Ran n (q ++ h) → GoodTicks number (e ∷ q) h
      → ticked e ≡ true → 0 < tally ticked q → (has_rested (at q).step ≡ true → number ≤ suc (tally ticked q)) → Onward n (at q)
  onward_then f number e q r i t l called =
      let calm = never_rest struck e q i.calm in
      let all = granted_then e q i.granted t in
      record {
        done = granted_done n g f h q r calm l all;
        sleep = granted_sleep n g f h q r calm l all;
        called = λ z. full_number (at q).wanted (wanted_follows n (q ++ h) r ∙ full_then number e q h i.full t (called z));
      }
