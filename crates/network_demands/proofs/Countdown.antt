-- The ticks that are left, counted down: from a step that has not asked, the first good tick asks and each later one brings the network nearer, until
-- full is told.
use Rattle.lists.proofs.Basics.{ℕ, zero, suc, ◌-◌, ◌<◌, ◌≤◌, arith, eqb-true, leb-false, le-leb, lt-leb, ◌≡◌, refl, sym, ap, ◌∙◌, [], ◌∷◌}
use Rattle.lists.proofs.Basics.{◌++◌, Bool, true, false, cond, not, ◌&&◌, false≢true, true≢false, eqb, leb}
use Rattle.lists.specs.Lists.{any}
use Rattle.records.specs.declared.Mode.{Mode}
use Rattle.records.specs.Records.{mode_number}
use Rattle.settings.specs.declared.Network.{Network}
use Rattle.settings.specs.Settings.{controllers_of}
use Rattle.settings.specs.Good.{Distinct, InRange}
use Rattle.steps.specs.declared.Step.{Step}
use Rattle.steps.specs.declared.Step.TheVariants.{ControllersSleep}
use Rattle.steps.specs.declared.Outfit.{Outfit}
use Rattle.steps.specs.declared.Move.{Move}
use Rattle.steps.specs.declared.Move.TheVariants.{AskAgain}
use Rattle.steps.specs.Steps.{is_asking, is_full_step}
use Rattle.steps.specs.After.{step_after}
use Rattle.network.specs.declared.State.{State}
use Rattle.network.specs.State.{heard_of}
use Rattle.network.specs.Rules.{is_refusal, delay_of}
use Rattle.network.specs.Moving.{told_after, count_after, after_move}
use Rattle.network.specs.Parts.{a_tick}
use Rattle.network_demands.specs.Words.{Seen, OwnHistory, hands, never, tally, ticked, struck, told, GoodTicks}
use Rattle.network_demands.specs.Own.{finished, reaches, decides, tick_after, tick_hands, state_of, Ran}
use Rattle.network_demands.proofs.Views.{seen, by_part}
use Rattle.network_demands.proofs.Tests.{finished_asked}
use Rattle.network_demands.proofs.Follows.{wanted_follows, told_follows}
use Rattle.network_demands.proofs.Second.{never_first, never_rest}
use Rattle.network_demands.proofs.Says.{says_full, just_reached}
use Rattle.network_demands.proofs.Arrows.{suits, own_outfit, has_rested}
use Rattle.network_demands.proofs.Standing.{stands}
use Rattle.network_demands.proofs.Told.{told_in_full}
use Rattle.network_demands.proofs.Toward.{ticks_left, onward, asks_again, less, is_none, none_left, keeps_told, keeps_rested}
use Rattle.network_demands.proofs.Nearer.{left, Onward, moves_on, tick_nearer, full_number, full_then, onward_then, fewer_ticks}

-- where none was counted, this is none
pub no_tick : (b : Bool) (k : ℕ) → cond b (suc k) k ≡ 0 → (b ≡ false) × (k ≡ 0)
no_tick true k z = absurd (omega (arith, z))
no_tick false k z = (refl, z)

-- ---- before the first tick nothing has moved
pub record Unmoved (s t : State) : Type 0 where
  pub step : t.step ≡ s.step
  pub told : t.told ≡ s.told
  pub count : t.count ≡ s.count
  pub asked : t.asked ≡ s.asked

module _ (n : Network) (h : OwnHistory) where
  unmoved_more : (e : Seen) (q : OwnHistory) → Ran n (e ∷ (q ++ h)) → struck e ≡ false → ticked e ≡ false
      → Unmoved (state_of n h) (state_of n (q ++ h)) → Unmoved (state_of n h) (state_of n (e ∷ (q ++ h)))
  unfolding Ran state_of
  unmoved_more e q r calm tick i =
      by_part n s (λ e t. struck e ≡ false → ticked e ≡ false → Unmoved (state_of n h) t) (record {
        plain = λ sight number mode reported p _ _. record { step = i.step; told = i.told; count = i.count; asked = i.asked };
        hears = λ c mode ok m l t _ _. record { step = i.step; told = i.told; count = i.count; asked = i.asked };
        recovers = λ u calm _. absurd (true≢false calm);
        restarts = λ u a calm _. absurd (true≢false calm);
        not_taken = λ u a _ _. i;
        resets = λ u calm _. absurd (true≢false calm);
        ticks = λ _ tick. absurd (true≢false tick);
      }) e r.0 calm tick
    where
      s : State
      s = state_of n (q ++ h)

  pub unmoved : (q : OwnHistory) → Ran n (q ++ h) → never struck q → tally ticked q ≡ 0 → Unmoved (state_of n h) (state_of n (q ++ h))
  unfolding Ran tally
  unmoved [] r calm z = record { step = refl; told = refl; count = refl; asked = refl }
  unmoved (e ∷ q) r calm z =
      let x = no_tick (ticked e) (tally ticked q) z in
      unmoved_more e q r (never_first struck e q calm) x.0 (unmoved q r.1 (never_rest struck e q calm) x.1)

-- ---- on the way: full is told on the last tick, and a mode until then; a network that does not go down does not begin to
pub record Heads (n : Network) (s : State) (q : OwnHistory) (rests : Bool) (mode : Mode) (last : ℕ) : Type 0 where
  pub left : left n s ≡ last - tally ticked q
  pub told : tally ticked q < last → s.told ≡ mode
  pub rested : rests ≡ true → has_rested s.step ≡ true

less_same : (x last k : ℕ) → x ≡ last - k → less x ≡ last - suc k
less_same zero last k e = omega (arith, e)
less_same (suc x) last k e = omega (arith, e)

-- full is where nothing is left
full_left : (step : Step) (outfit : Outfit) (delay last k : ℕ) → ticks_left outfit delay step ≡ last - k → is_full_step step ≡ leb last k
full_left step outfit delay last k e = none_left step outfit delay ∙ by_number_lem (ticks_left outfit delay step) refl
  where
    by_number_lem : (x : ℕ) → ticks_left outfit delay step ≡ x → is_none x ≡ leb last k
    by_number_lem zero z = sym (le-leb last k (omega (arith, e, z)))
    by_number_lem (suc x) z = sym (lt-leb last k (omega (arith, e, z)))

module _ (n : Network) (g : InRange n) (rests : Bool) (mode : Mode) (last : ℕ) (falls : rests ≡ false → mode ≡ Mode.No) where
  -- what is no tick
  heads_quiet : (s t : State) (q : OwnHistory) (e : Seen) → t.step ≡ s.step → t.told ≡ s.told → t.count ≡ s.count → ticked e ≡ false
      → Heads n s q rests mode last → Heads n t (e ∷ q) rests mode last
  unfolding tally
  heads_quiet s t q e step said count tick i = record {
    left = rw (step, count, tick) i.left;
    told = λ l. said ∙ i.told (rw (tick) at l);
    rested = λ z. ap has_rested step ∙ i.rested z;
  }

  -- full is where the last tick is reached
  pub heads_full : (s : State) (q : OwnHistory) → Heads n s q rests mode last → is_full_step s.step ≡ leb last (tally ticked q)
  heads_full s q i = full_left s.step (own_outfit n) (delay_of n s.count) last (tally ticked q) i.left

  -- a tick that goes on
  module _ (s : State) (q : OwnHistory) (u : suits (own_outfit n) s.step ≡ true) (o : Onward n s) (i : Heads n s q rests mode last) where
    abbrev m : Move
    m = onward (own_outfit n) (reaches n s) s.step

    abbrev next : Step
    next = step_after m s.step n.partial

    pub same_step : (tick_after n s).step ≡ next
    unfolding after_move
    same_step = ap (λ (x : Move). step_after x s.step n.partial) (moves_on n g s u o)

    now_left : left n (tick_after n s) ≡ last - suc (tally ticked q)
    now_left = tick_nearer n g s u o ∙ less_same (left n s) last (tally ticked q) i.left

    now_full : is_full_step next ≡ leb last (suc (tally ticked q))
    now_full =
        ap is_full_step (sym same_step)
        ∙ full_left (tick_after n s).step (own_outfit n) (delay_of n (tick_after n s).count) last (suc (tally ticked q)) now_left

    -- where it goes down, the mode is no
    down_told : tally ticked q < last → has_rested s.step ≡ false → s.told ≡ Mode.No
    down_told l z = i.told l ∙ falls (by_test rests i.rested)
      where
        by_test : (b : Bool) → (b ≡ true → has_rested s.step ≡ true) → b ≡ false
        by_test true f = absurd (true≢false (sym (f refl) ∙ z))
        by_test false f = refl

    now_told : suc (tally ticked q) < last → (tick_after n s).told ≡ mode
    unfolding after_move
    now_told l =
        let before : tally ticked q < last = omega (arith, l) in
        let not_yet = heads_full s q i ∙ lt-leb last (tally ticked q) before in
        ap (λ (x : Move). told_after x s.told) (moves_on n g s u o)
        ∙ keeps_told s.step (own_outfit n) (reaches n s) s.told n.partial not_yet (down_told before)
        ∙ ap (λ (b : Bool). cond b Mode.Full s.told) (now_full ∙ lt-leb last (suc (tally ticked q)) l) ∙ i.told before

    heads_tick : Heads n (tick_after n s) (seen a_tick 0 (tick_hands n s) ∷ q) rests mode last
    unfolding tally
    heads_tick = record {
      left = now_left;
      told = now_told;
      rested = λ z. ap has_rested same_step ∙ keeps_rested s.step (own_outfit n) (reaches n s) n.partial (i.rested z);
    }

  -- all that is seen
  module _ (h : OwnHistory) where
    abbrev at : OwnHistory → State
    at q = state_of n (q ++ h)

    pub heads_more : (e : Seen) (q : OwnHistory) → Ran n (e ∷ (q ++ h)) → struck e ≡ false → (ticked e ≡ true → Onward n (at q))
        → Heads n (at q) q rests mode last → Heads n (at (e ∷ q)) (e ∷ q) rests mode last
    unfolding Ran state_of
    heads_more e q r calm o i =
        by_part n (at q) (λ e t. struck e ≡ false → (ticked e ≡ true → Onward n (at q)) → Heads n t (e ∷ q) rests mode last) (record {
          plain = λ sight number wanted reported p _ _. heads_quiet (at q) _ q _ refl refl refl p.tick i;
          hears = λ c k ok m l t _ _. heads_quiet (at q) _ q _ refl refl refl refl i;
          recovers = λ u calm _. absurd (true≢false calm);
          restarts = λ u a calm _. absurd (true≢false calm);
          not_taken = λ u a _ _. heads_quiet (at q) _ q _ refl refl refl refl i;
          resets = λ u calm _. absurd (true≢false calm);
          ticks = λ _ o. heads_tick (at q) q (stands n g (q ++ h) r.1).suited (o refl) i;
        }) e r.0 calm o

    -- what is told
    pub heads_told : (q : OwnHistory) → Ran n (q ++ h) → Heads n (at q) q rests mode last
        → told n (q ++ h) ≡ cond (leb last (tally ticked q)) 2 (mode_number mode)
    heads_told q r i = by_test (leb last (tally ticked q)) refl
      where
        by_test : (b : Bool) → leb last (tally ticked q) ≡ b → told n (q ++ h) ≡ cond b 2 (mode_number mode)
        by_test true e = sym (eqb-true 2 (told n (q ++ h)) (told_in_full n g (q ++ h) r ∙ heads_full (at q) q i ∙ e))
        by_test false e = sym (told_follows n (q ++ h) r) ∙ ap mode_number (i.told (leb-false last (tally ticked q) e))

-- where another mode was told up to a tick and full from it on, that tick tells full, and no other
pub told_then : (n : Network) → InRange n → (last mode : ℕ) → eqb 2 mode ≡ false → (t : Seen) (q h : OwnHistory) → Ran n (t ∷ (q ++ h))
    → ticked t ≡ true → told n (q ++ h) ≡ cond (leb last (tally ticked q)) 2 mode
    → told n (t ∷ (q ++ h)) ≡ cond (leb last (tally ticked (t ∷ q))) 2 mode → hands 6 n.handle 2 t ≡ eqb last (tally ticked (t ∷ q))
unfolding tally
told_then n g last mode other t q h r tick before after =
    says_full n g t (q ++ h) r ∙ rw (before, after, tick) (full_mode (leb last (suc (tally ticked q))) (leb last (tally ticked q))
    ∙ just_reached last (tally ticked q))
  where
    full_mode : (a b : Bool) → (eqb 2 (cond a 2 mode) && not (eqb 2 (cond b 2 mode))) ≡ (a && not b)
    full_mode true true = refl
    full_mode true false = rw (other) refl
    full_mode false b = rw (other) refl

-- ---- from a step that has not asked
pub record Unasked (s : State) (rests : Bool) (number : ℕ) : Type 0 where
  pub asking : is_asking s.step ≡ true
  pub unasked : s.asked ≡ false
  pub awake : s.step ≡ ControllersSleep → ⊥
  pub falls : rests ≡ false → s.told ≡ Mode.No
  pub rested : has_rested s.step ≡ rests
  pub called : has_rested s.step ≡ true → number ≤ 1
  pub not_full : eqb 2 (mode_number s.told) ≡ false

module _ (n : Network) (g : InRange n) (f : Distinct (controllers_of n)) (h : OwnHistory) (rests : Bool) (number : ℕ)
    (i : Unasked (state_of n h) rests number) where
  abbrev first : State
  first = state_of n h

  abbrev then : OwnHistory → State
  then q = state_of n (q ++ h)

  -- the tick after which full is told
  abbrev last : ℕ
  last = suc (left n first)

  abbrev Way : OwnHistory → Type 0
  Way q = Heads n (then q) q rests first.told last

  -- the first tick asks
  module _ (s : State) (u : Unmoved first s) (w : has_rested s.step ≡ true → s.wanted ≡ Mode.Full) where
    pub asks_first : decides n s ≡ AskAgain
    asks_first =
        asks_again s.step s.wanted (finished n s) (any is_refusal (heard_of n s)) (reaches n s) (own_outfit n)
        (ap is_asking u.step ∙ i.asking) (not_done (finished n s) refl) (λ z. absurd (i.awake (sym u.step ∙ z))) w
      where
        not_done : (b : Bool) → finished n s ≡ b → b ≡ false
        not_done true e = absurd (true≢false (sym (finished_asked n s e) ∙ u.asked ∙ i.unasked))
        not_done false e = refl

    heads_first : (q : OwnHistory) → tally ticked q ≡ 0 → Heads n (tick_after n s) (seen a_tick 0 (tick_hands n s) ∷ q) rests first.told last
    unfolding after_move tally
    heads_first q k = record {
      left = rw (k) (ap (λ (m : Move). ticks_left (own_outfit n) (delay_of n (count_after m s.count)) (step_after m s.step n.partial)) asks_first
          ∙ rw (u.step, u.count) (omega arith));
      told = λ _. ap (λ (m : Move). told_after m s.told) asks_first ∙ u.told;
      rested = λ z. ap (λ (m : Move). has_rested (step_after m s.step n.partial)) asks_first ∙ ap has_rested u.step ∙ i.rested ∙ z;
    }

  -- where the network does not go down full is wanted
  module _ (called : (q : OwnHistory) → Ran n (q ++ h) → Way q → 0 < tally ticked q → has_rested (then q).step ≡ true
      → number ≤ suc (tally ticked q)) where
    way_first : (e : Seen) (q : OwnHistory) → Ran n (e ∷ (q ++ h)) → GoodTicks number (e ∷ q) h → ticked e ≡ true → tally ticked q ≡ 0 → Way (e ∷ q)
    unfolding Ran state_of
    way_first e q r good tick k =
        let u = unmoved n h q r.1 (never_rest struck e q good.calm) k in
        let w : has_rested (then q).step ≡ true → (then q).wanted ≡ Mode.Full = λ z. full_number (then q).wanted
        (wanted_follows n (q ++ h) r.1 ∙ full_then number e q h good.full tick (rw (k) (i.called (ap has_rested (sym u.step) ∙ z)))) in
        by_part n (then q) (λ e t. ticked e ≡ true → Heads n t (e ∷ q) rests first.told last) (record {
          plain = λ sight k mode reported p z. absurd (false≢true (sym p.tick ∙ z));
          hears = λ c mode ok m l t z. absurd (false≢true z);
          recovers = λ u z. absurd (false≢true z);
          restarts = λ u a z. absurd (false≢true z);
          not_taken = λ u a z. absurd (false≢true z);
          resets = λ u z. absurd (false≢true z);
          ticks = λ _. heads_first (then q) u w q k;
        }) e r.0 tick

    -- and each later one goes on
    pub way_onward : (e : Seen) (q : OwnHistory) → Ran n (q ++ h) → GoodTicks number (e ∷ q) h → ticked e ≡ true → 0 < tally ticked q → Way q
        → Onward n (then q)
    way_onward e q r good tick some way = onward_then n g h f number e q r good tick some (called q r way some)

    way_more : (e : Seen) (q : OwnHistory) → Ran n (e ∷ (q ++ h)) → GoodTicks number (e ∷ q) h → (0 < tally ticked q → Way q)
        → (b : Bool) → ticked e ≡ b → (k : ℕ) → tally ticked q ≡ k → 0 < cond b (suc k) k → Way (e ∷ q)
    unfolding Ran
    way_more e q r good earlier true tick zero k l = way_first e q r good tick k
    way_more e q r good earlier false tick zero k l = absurd (omega (arith, l))
    way_more e q r good earlier b tick (suc x) k l =
        let some : 0 < tally ticked q = omega (arith, k) in
        heads_more n g rests first.told last i.falls h e q r (never_first struck e q good.calm)
        (λ z. way_onward e q r.1 good z some (earlier some)) (earlier some)

    pub on_the_way : (q : OwnHistory) → Ran n (q ++ h) → GoodTicks number q h → 0 < tally ticked q → Way q
    unfolding Ran tally
    on_the_way [] r good l = absurd (omega (arith, l))
    on_the_way (e ∷ q) r good l =
        way_more e q r good (on_the_way q r.1 (fewer_ticks number e q h good)) (ticked e) refl (tally ticked q) refl l

    -- what was told stays so up to the last tick, and full is told from it on
    pub told_down : (q : OwnHistory) → Ran n (q ++ h) → GoodTicks number q h
        → told n (q ++ h) ≡ cond (leb last (tally ticked q)) 2 (mode_number first.told)
    told_down q r good = by_ticks (tally ticked q) refl
      where
        by_ticks : (k : ℕ) → tally ticked q ≡ k → told n (q ++ h) ≡ cond (leb last (tally ticked q)) 2 (mode_number first.told)
        by_ticks zero k =
            sym (told_follows n (q ++ h) r) ∙ ap mode_number (unmoved n h q r good.calm k).told
            ∙ sym (ap (λ (b : Bool). cond b 2 (mode_number first.told)) (lt-leb last (tally ticked q) (omega (arith, k))))
        by_ticks (suc x) k = heads_told n g rests first.told last i.falls h q r (on_the_way q r good (omega (arith, k)))

    -- and a tick tells full exactly if it is that one
    pub tells_down : (t : Seen) (q : OwnHistory) → Ran n (t ∷ (q ++ h)) → GoodTicks number (t ∷ q) h → ticked t ≡ true
        → hands 6 n.handle 2 t ≡ eqb last (tally ticked (t ∷ q))
    unfolding Ran
    tells_down t q r good tick =
        told_then n g last (mode_number first.told) i.not_full t q h r tick
        (told_down q r.1 (fewer_ticks number t q h good)) (told_down (t ∷ q) r good)
