-- From rest and from the start: on which tick full is told, and how many records are handed out up to it.
use Rattle.lists.proofs.Basics.{ℕ, zero, suc, ◌+◌, ◌-◌, ◌*◌, ◌<◌, ◌≤◌, arith, eqb-true, eqb-false, eq-eqb, ne_eqb, ltb-true, ltb-false, leb-true}
use Rattle.lists.proofs.Basics.{leb-false, le-leb}
use Rattle.lists.proofs.Basics.{◌≡◌, refl, sym, ap, subst, ◌∙◌, [], ◌∷◌, ◌++◌, append-nil, Bool, true, false, cond, not, ◌&&◌, ◌||◌, or-true}
use Rattle.lists.proofs.Basics.{false≢true, true≢false}
use Rattle.lists.proofs.Basics.{eqb, leb, ltb, length}
use Rattle.lists.specs.Lists.{any}
use Rattle.lists.proofs.Any.{and_both}
use Rattle.records.specs.declared.ControllerMode.{ControllerMode}
use Rattle.records.specs.declared.Mode.{Mode}
use Rattle.records.specs.Records.{mode_number}
use Rattle.std.specs.Prelude.{Option, None, Some}
use Rattle.settings.specs.declared.Network.{Network}
use Rattle.settings.specs.Settings.{controllers_of, listed}
use Rattle.settings.specs.Good.{Distinct, InRange}
use Rattle.settings.proofs.Good.{controllers_counted}
use Rattle.steps.specs.declared.Step.{Step}
use Rattle.steps.specs.declared.Step.TheVariants.{NoCommunication}
use Rattle.steps.specs.declared.Ask.{Ask}
use Rattle.steps.specs.declared.Outfit.{Outfit}
use Rattle.steps.specs.declared.Move.{Move}
use Rattle.steps.specs.declared.Move.TheVariants.{AskAgain}
use Rattle.steps.specs.Steps.{step_number, phase_of, asks_for, is_up, is_asking}
use Rattle.steps.specs.Decision.{by_transceiver}
use Rattle.steps.specs.After.{first_down, step_after}
use Rattle.steps.proofs.Laws.{numbered_is}
use Rattle.handing.specs.Handing.{requests, move_records}
use Rattle.network.specs.declared.State.{State}
use Rattle.network.specs.State.{blank_answers, started}
use Rattle.network.specs.Rules.{delay_of, outfit_of}
use Rattle.network.specs.Moving.{after_move}
use Rattle.network.specs.Parts.{a_tick}
use Rattle.network_theorems.proofs.Moves.{full_quiet}
use Rattle.network_demands.specs.Words.{GoodTicks, Seen, OwnHistory, hands, since, never, tally, ticked, struck, told, wanted, rested, called_up}
use Rattle.network_demands.specs.Own.{reaches, decides, tick_after, tick_hands, state_of, Ran}
use Rattle.network_demands.specs.ComesUp.{by_fit, ticks_from_rest, records_from_rest, ticks_to_rest, ticks_from_start, records_from_start}
use Rattle.network_demands.specs.ComesUp.{is_at_rest, record_count, FromRest, OnThatTickFromRest, RecordsFromRest, FromStart, ToRest}
use Rattle.network_demands.specs.ComesUp.{OnThatTickFromStart, RecordsFromStart}
use Rattle.network_demands.proofs.Views.{seen, by_part}
use Rattle.network_demands.proofs.Handed.{is_end, move_says_no}
use Rattle.network_demands.proofs.Up.{any_since, says}
use Rattle.network_demands.proofs.Follows.{state_kept, wanted_follows, told_follows}
use Rattle.network_demands.proofs.Second.{never_first, never_rest}
use Rattle.network_demands.proofs.Says.{ran_earlier}
use Rattle.network_demands.proofs.Arrows.{suits, own_outfit, rested_phase, has_rested, up_rested, first_down_lem}
use Rattle.network_demands.proofs.Standing.{stands}
use Rattle.network_demands.proofs.Told.{told_no}
use Rattle.network_demands.proofs.Turns.{ends}
use Rattle.network_demands.proofs.Ticks.{ticks}
use Rattle.network_demands.proofs.Toward.{by_each, ticks_left, records_left, full_handed, rest_number, onward, further_falls, Advances}
use Rattle.network_demands.proofs.Toward.{advances}
use Rattle.network_demands.proofs.Toward.{length_round, length_errand}
use Rattle.network_demands.proofs.Nearer.{left, Onward, moves_on, full_number, onward_then, full_then, fewer_ticks}
use Rattle.network_demands.proofs.Countdown.{no_tick, unmoved, Heads, heads_full, heads_more, heads_told, told_then, Unasked, asks_first}
use Rattle.network_demands.proofs.Countdown.{way_onward, on_the_way, told_down, tells_down}
use Rattle.network_demands.proofs.NeverStuck.{by_outfit_lem}

-- a transceiver is there just where the outfit has one
listed_outfit : (n : Network) → length (listed n.transceiver) ≡ by_transceiver (own_outfit n) 0 1
listed_outfit n = by_fit_lem n.transceiver n.partial
  where
    by_fit_lem : (t : Option ℕ) (b : Bool) → length (listed t) ≡ by_transceiver (outfit_of t b) 0 1
    by_fit_lem None b = refl
    by_fit_lem (Some id) true = refl
    by_fit_lem (Some id) false = refl

-- while no is told the network is not up
no_down : (n : Network) (h : OwnHistory) → Ran n h → (state_of n h).told ≡ Mode.No → is_up (state_of n h).step ≡ false
no_down n h r e = by_test (is_up (state_of n h).step) refl
  where
    by_test : (b : Bool) → is_up (state_of n h).step ≡ b → b ≡ false
    by_test true u =
        let i = says n h r in
        absurd (false≢true (sym (ap not (i.voice u)) ∙ sym i.silence ∙ ap (λ (mode : Mode). eqb 0 (mode_number mode)) e))
    by_test false u = refl

-- ---- the records that were handed out and those that are left are as many as ever
module _ (n : Network) (g : InRange n) (h : OwnHistory) (rests : Bool) (last total : ℕ) where
  abbrev at : OwnHistory → State
  at q = state_of n (q ++ h)

  abbrev Spent : Step → OwnHistory → Type 0
  Spent step q = tally ticked q ≤ last → record_count q + records_left (own_outfit n) (length (controllers_of n)) step ≡ total

  -- what is no tick hands out nothing
  spent_quiet : (step : Step) (q : OwnHistory) (e : Seen) → ticked e ≡ false → e.records ≡ [] → Spent step q → Spent step (e ∷ q)
  unfolding tally record_count
  spent_quiet step q e tick none i l = rw (none) (omega (arith, i (rw (tick) at l)))

  -- what a tick hands out was left before
  module _ (q : OwnHistory) (r : Ran n (q ++ h)) (o : Onward n (at q)) (i : Heads n (at q) q rests Mode.No last) where
    abbrev s : State
    s = at q

    abbrev m : Move
    m = onward (own_outfit n) (reaches n s) s.step

    suited : suits (own_outfit n) s.step ≡ true
    suited = (stands n g (q ++ h) r).suited

    advance : tally ticked q < last → Advances n s.told (own_outfit n) (delay_of n s.count) s.step (step_after m s.step n.partial) m
    advance l =
        advances n s.told (delay_of n s.count) n.partial s.step (own_outfit n) (reaches n s) (listed_outfit n) suited
        (no_down n (q ++ h) r (i.told l))

    same_records : length (tick_hands n s) ≡ length (move_records n s.step s.told m)
    same_records = ap (λ (x : Move). length (move_records n s.step s.told x)) (moves_on n g s suited o)

    same_step : (tick_after n s).step ≡ step_after m s.step n.partial
    unfolding after_move
    same_step = ap (λ (x : Move). step_after x s.step n.partial) (moves_on n g s suited o)

    spent_tick : Spent s.step q → Spent (tick_after n s).step (seen a_tick 0 (tick_hands n s) ∷ q)
    unfolding tally record_count
    spent_tick k l = rw (same_step) (omega (arith, l, same_records, (advance (omega (arith, l))).fewer, k (omega (arith, l))))

  spent_more : (e : Seen) (q : OwnHistory) → Ran n (e ∷ (q ++ h)) → struck e ≡ false → (ticked e ≡ true → Onward n (at q))
      → Heads n (at q) q rests Mode.No last → Spent (at q).step q → Spent (at (e ∷ q)).step (e ∷ q)
  unfolding Ran state_of
  spent_more e q r calm o i k =
      by_part n (at q) (λ e t. struck e ≡ false → (ticked e ≡ true → Onward n (at q)) → Spent t.step (e ∷ q)) (record {
        plain = λ sight number mode reported p _ _. spent_quiet (at q).step q _ p.tick refl k;
        hears = λ c mode ok m l t _ _. spent_quiet (at q).step q _ refl refl k;
        recovers = λ u calm _. absurd (true≢false calm);
        restarts = λ u a calm _. absurd (true≢false calm);
        not_taken = λ u a _ _. spent_quiet (at q).step q _ refl refl k;
        resets = λ u calm _. absurd (true≢false calm);
        ticks = λ _ o. spent_tick q r.1 (o refl) i k;
      }) e r.0 calm o

  -- when full is told, none is left
  spent_all : (falls : rests ≡ false → Mode.No ≡ Mode.No) (q : OwnHistory) → Heads n (at q) q rests Mode.No last → Spent (at q).step q
      → tally ticked q ≡ last → record_count q ≡ total
  spent_all falls q i k e =
      let full = heads_full n g rests Mode.No last falls (at q) q i ∙ le-leb last (tally ticked q) (omega (arith, e)) in
      omega (arith, k (omega (arith, e)), full_handed (at q).step (own_outfit n) (length (controllers_of n)) full)

-- ---- at rest
-- F1: a network is at rest, as that is read off the history, exactly in step 0
pub rest_means : (n : Network) → InRange n → (h : OwnHistory) → Ran n h → is_at_rest n h ≡ eqb 0 (step_number (state_of n h).step)
rest_means n g h r =
    let i = stands n g h r in
    called_on (rested n h) (called_up n h) ∙ rw (i.on, i.rested) (rest_number (state_of n h).step)
  where
    called_on : (a b : Bool) → a && not b ≡ a && not (a && b)
    called_on true b = refl
    called_on false b = refl

-- full is told only where it was wanted at a tick
spoken_called : (n : Network) → InRange n → Distinct (controllers_of n) → (h : OwnHistory) → Ran n h
    → any (hands 6 n.handle 2) (since (hands 6 n.handle 0) h) ≡ true → called_up n h ≡ true
unfolding Ran any since called_up
spoken_called n g f [] r e = absurd (false≢true e)
spoken_called n g f (e ∷ h) r s =
    by_tests (hands 6 n.handle 0 e) (hands 6 n.handle 2 e) refl
    (sym (any_since (hands 6 n.handle 2) (hands 6 n.handle 0) e h) ∙ s) (spoken_called n g f h r.1)
  where
    by_tests : (silence full : Bool) → hands 6 n.handle 2 e ≡ full
        → cond silence false (full || any (hands 6 n.handle 2) (since (hands 6 n.handle 0) h)) ≡ true
        → (any (hands 6 n.handle 2) (since (hands 6 n.handle 0) h) ≡ true → called_up n h ≡ true)
        → cond silence false ((ticked e && eqb 2 (wanted h)) || called_up n h) ≡ true
    by_tests true full z s earlier = absurd (false≢true s)
    by_tests false true z s earlier =
        let x = (ticks n g f e h r).says_full z in
        rw (x.tick, x.called) refl
    by_tests false false z s earlier = rw (earlier s) (or-true (ticked e && eqb 2 (wanted h)))

-- so no is what a network at rest told
rest_told : (n : Network) → InRange n → Distinct (controllers_of n) → (h : OwnHistory) → Ran n h → is_at_rest n h ≡ true → (state_of n h).told ≡ Mode.No
rest_told n g f h r z =
    no_number (state_of n h).told (ap (eqb 0) (told_follows n h r) ∙ told_no n g f h r ∙ ap not (by_test spoken refl))
  where
    spoken : Bool
    spoken = any (hands 6 n.handle 2) (since (hands 6 n.handle 0) h)

    no_number : (mode : Mode) → eqb 0 (mode_number mode) ≡ true → mode ≡ Mode.No
    no_number Mode.No e = refl
    no_number Mode.Silent e = absurd (false≢true e)
    no_number Mode.Full e = absurd (false≢true e)

    by_test : (b : Bool) → spoken ≡ b → b ≡ false
    by_test true e =
        absurd (false≢true (sym (ap not (spoken_called n g f h r e)) ∙ (and_both (rested n h) (not (called_up n h)) z).1))
    by_test false e = refl

-- ---- from rest
-- the ticks from rest, by the outfit
rest_figure : (n : Network) → by_transceiver (own_outfit n) 3 4 ≡ ticks_from_rest n
rest_figure n = by_fit_lem n.transceiver n.partial
  where
    by_fit_lem : (t : Option ℕ) (b : Bool) → by_transceiver (outfit_of t b) 3 4 ≡ by_fit t b 3 4 4
    by_fit_lem None b = refl
    by_fit_lem (Some id) true = refl
    by_fit_lem (Some id) false = refl

module _ (n : Network) (g : InRange n) (f : Distinct (controllers_of n)) (h : OwnHistory) (z : is_at_rest n h ≡ true) where
  abbrev after : OwnHistory → State
  after q = state_of n (q ++ h)

  abbrev Wakes : OwnHistory → Type 0
  Wakes q = Heads n (after q) q true Mode.No (ticks_from_rest n) × Spent n g h true (ticks_from_rest n) (records_from_rest n) (after q).step q

  no_fall : true ≡ false → Mode.No ≡ Mode.No
  no_fall _ = refl

  at_zero : Ran n h → (state_of n h).step ≡ NoCommunication
  at_zero r = numbered_is 0 (state_of n h).step (sym (rest_means n g h r) ∙ z)

  -- before the first tick
  rest_begins : Ran n h → Wakes []
  unfolding tally record_count
  rest_begins r = (
    record {
      left = ap (ticks_left (own_outfit n) (delay_of n (state_of n h).count)) (at_zero r) ∙ omega (arith, rest_figure n);
      told = λ _. rest_told n g f h r z;
      rested = λ _. ap has_rested (at_zero r);
    },
    λ _. rw (at_zero r) (omega (arith, controllers_counted n g, by_outfit_lem n 2 3 3, by_transceiver_lem (own_outfit n) 2 3)),
  )
    where
      by_transceiver_lem : (outfit : Outfit) (a b : ℕ) → by_transceiver outfit a b ≡ by_each outfit a b b
      by_transceiver_lem Outfit.Bare a b = refl
      by_transceiver_lem Outfit.Fitted a b = refl
      by_transceiver_lem Outfit.Partial a b = refl

  -- the first tick goes on, since step 0 asks for nothing; each later one, since what was asked is granted
  rest_onward : (e : Seen) (q : OwnHistory) → Ran n (q ++ h) → GoodTicks 1 (e ∷ q) h → ticked e ≡ true → Onward n (after q)
  rest_onward e q r i t = by_ticks (tally ticked q) refl
    where
      by_ticks : (k : ℕ) → tally ticked q ≡ k → Onward n (after q)
      by_ticks zero k =
          let step = (unmoved n h q r (never_rest struck e q i.calm) k).step ∙ at_zero (ran_earlier n q h r) in
          record {
            done = λ a. absurd (false≢true (sym (ap is_asking step) ∙ a));
            sleep = λ s. absurd (omega (arith, sym (ap step_number step) ∙ ap step_number s));
            called = λ _. full_number (after q).wanted (wanted_follows n (q ++ h) r ∙ full_then 1 e q h i.full t (omega arith));
          }
      by_ticks (suc k) l = onward_then n g h f 1 e q r i t (omega (arith, l)) (λ _. omega arith)

  wakes : (q : OwnHistory) → Ran n (q ++ h) → GoodTicks 1 q h → Wakes q
  unfolding Ran
  wakes [] r i = rest_begins r
  wakes (e ∷ q) r i =
      let calm = never_first struck e q i.calm in
      let before = wakes q r.1 (fewer_ticks 1 e q h i) in (
        heads_more n g true Mode.No (ticks_from_rest n) no_fall h e q r calm (rest_onward e q r.1 i) before.0,
        spent_more n g h true (ticks_from_rest n) (records_from_rest n) e q r calm (rest_onward e q r.1 i) before.0 before.1,
      )

-- F3, F4: from rest, of one network
module _ (n : Network) (g : InRange n) (f : Distinct (controllers_of n)) (h : OwnHistory) where
  pub from_rest : (q : OwnHistory) → Ran n (q ++ h) → FromRest n q h
  from_rest q r z i = heads_told n g true Mode.No (ticks_from_rest n) (no_fall n g f h z) h q r (wakes n g f h z q r i).0

  pub on_that_tick_from_rest : (t : Seen) (q : OwnHistory) → Ran n (t ∷ (q ++ h)) → OnThatTickFromRest n t q h
  unfolding Ran
  on_that_tick_from_rest t q r z i tick =
      told_then n g (ticks_from_rest n) 0 refl t q h r tick (from_rest q r.1 z (fewer_ticks 1 t q h i)) (from_rest (t ∷ q) r z i)

  pub records_from_rest_lem : (q : OwnHistory) → Ran n (q ++ h) → RecordsFromRest n q h
  records_from_rest_lem q r z i =
      let way = wakes n g f h z q r i in
      spent_all n g h true (ticks_from_rest n) (records_from_rest n) (no_fall n g f h z) q way.0 way.1

-- two tests that pass together are one
same_test : (a b c d : ℕ) → (a ≡ b → c ≡ d) → (c ≡ d → a ≡ b) → eqb a b ≡ eqb c d
same_test a b c d p q = by_test (eqb a b) refl
  where
    by_test : (x : Bool) → eqb a b ≡ x → x ≡ eqb c d
    by_test true e = sym (eq-eqb c d (p (eqb-true a b e)))
    by_test false e = sym (ne_eqb c d (λ z. eqb-false a b e (q z)))

-- ---- from the start
-- the figures of the first down step, of every outfit
module _ (n : Network) (g : InRange n) where
  down_left : (delay : ℕ) → ticks_left (own_outfit n) delay (first_down n.partial) ≡ ticks_from_start n - 1
  down_left delay = by_fit_lem n.transceiver n.partial g.partial
    where
      by_fit_lem : (t : Option ℕ) (b : Bool) → (b ≡ true → t ≡ None → ⊥)
          → ticks_left (outfit_of t b) delay (first_down b) ≡ by_fit t b 3 4 6 + by_fit t b 3 4 4 - 1
      by_fit_lem None true f = absurd (f refl refl)
      by_fit_lem None false f = refl
      by_fit_lem (Some id) true f = refl
      by_fit_lem (Some id) false f = refl

  down_records : length (requests (asks_for (first_down n.partial)) n)
      + records_left (own_outfit n) (length (controllers_of n)) (first_down n.partial) ≡ records_from_start n
  down_records =
      by_fit_lem n.transceiver n.partial g.partial (length (controllers_of n)) (length (listed n.transceiver)) (controllers_counted n g)
      (listed_outfit n) (length_round n ControllerMode.Stopped) (length_errand n Ask.ClearWake refl)
    where
      by_fit_lem : (t : Option ℕ) (b : Bool) → (b ≡ true → t ≡ None → ⊥) → (c l : ℕ) → c ≡ n.count
          → l ≡ by_transceiver (outfit_of t b) 0 1 → length (requests (Ask.Controllers ControllerMode.Stopped) n) ≡ c
          → length (requests Ask.ClearWake n) ≡ l
          → length (requests (asks_for (first_down b)) n) + records_left (outfit_of t b) c (first_down b) ≡ 5 * n.count + by_fit t b 3 5 7
      by_fit_lem None true f c l e p round errand = absurd (f refl refl)
      by_fit_lem None false f c l e p round errand = omega (arith, e, round)
      by_fit_lem (Some id) true f c l e p round errand = omega (arith, e, p, errand)
      by_fit_lem (Some id) false f c l e p round errand = omega (arith, e, round)

-- before the first tick nothing was handed out
module _ (n : Network) (h : OwnHistory) where
  quiet_more : (e : Seen) (q : OwnHistory) → Ran n (e ∷ (q ++ h)) → struck e ≡ false → ticked e ≡ false → record_count q ≡ 0 → record_count (e ∷ q) ≡ 0
  unfolding Ran record_count
  quiet_more e q r calm tick k =
      by_part n (state_of n (q ++ h)) (λ e t. struck e ≡ false → ticked e ≡ false → length e.records + record_count q ≡ 0) (record {
        plain = λ sight number mode reported p _ _. omega (arith, k);
        hears = λ c mode ok m l t _ _. omega (arith, k);
        recovers = λ u calm _. absurd (true≢false calm);
        restarts = λ u a calm _. absurd (true≢false calm);
        not_taken = λ u a _ _. omega (arith, k);
        resets = λ u calm _. absurd (true≢false calm);
        ticks = λ _ tick. absurd (true≢false tick);
      }) e r.0 calm tick

  quiet_count : (q : OwnHistory) → Ran n (q ++ h) → never struck q → tally ticked q ≡ 0 → record_count q ≡ 0
  unfolding Ran tally record_count
  quiet_count [] r calm z = refl
  quiet_count (e ∷ q) r calm z =
      let x = no_tick (ticked e) (tally ticked q) z in
      quiet_more e q r (never_first struck e q calm) x.0 (quiet_count q r.1 (never_rest struck e q calm) x.1)

module _ (n : Network) (g : InRange n) (f : Distinct (controllers_of n)) where
  abbrev risen : OwnHistory → State
  risen q = state_of n (q ++ [])

  -- full need be wanted from this tick on
  abbrev number : ℕ
  number = suc (ticks_to_rest n)

  starts : Unasked (state_of n []) false number
  unfolding state_of started
  starts = by_fit_lem n.partial
    where
      from : Step → State
      from step = record { step = step; wanted = Mode.No; told = Mode.No; count = 0; asked = false; answers = blank_answers; reported = false }

      falling : (step : Step) → is_asking step ≡ true → eqb 12 (step_number step) ≡ false → has_rested step ≡ false → Unasked (from step) false number
      falling step asks other falls = record {
        asking = asks;
        unasked = refl;
        awake = λ z. true≢false (ap (λ (x : Step). eqb 12 (step_number x)) (sym z) ∙ other);
        falls = λ _. refl;
        rested = falls;
        called = λ z. absurd (false≢true (sym falls ∙ z));
        not_full = refl;
      }

      by_fit_lem : (b : Bool) → Unasked (from (first_down b)) false number
      by_fit_lem true = falling (first_down true) refl refl refl
      by_fit_lem false = falling (first_down false) refl refl refl

  -- the last tick is the one of the figures
  start_figure : suc (left n (state_of n [])) ≡ ticks_from_start n
  unfolding state_of started
  start_figure = omega (arith, down_left n g (delay_of n 0), some_ticks n.transceiver n.partial)
    where
      some_ticks : (t : Option ℕ) (b : Bool) → 0 < by_fit t b 3 4 6 + by_fit t b 3 4 4
      some_ticks None b = omega arith
      some_ticks (Some id) true = omega arith
      some_ticks (Some id) false = omega arith

  abbrev Rises : OwnHistory → Type 0
  Rises q = Heads n (risen q) q false Mode.No (suc (left n (state_of n [])))

  -- a network that has more ticks left than one at rest goes down; to any other full is wanted
  called_then : (q : OwnHistory) → Ran n (q ++ []) → Rises q → 0 < tally ticked q → has_rested (risen q).step ≡ true → number ≤ suc (tally ticked q)
  called_then q r i some rest = by_test (leb (ticks_to_rest n) (tally ticked q)) refl
    where
      s : State
      s = risen q

      by_test : (b : Bool) → leb (ticks_to_rest n) (tally ticked q) ≡ b → number ≤ suc (tally ticked q)
      by_test true z = omega (arith, leb-true (ticks_to_rest n) (tally ticked q) z)
      by_test false z =
          let early = leb-false (ticks_to_rest n) (tally ticked q) z in
          let low = no_down n (q ++ []) r (i.told (omega (arith, early, start_figure))) in
          absurd (false≢true (sym (further_falls s.step (own_outfit n) (delay_of n s.count) low
          (omega (arith, i.left, early, start_figure, rest_figure n))) ∙ rest))

  rises : (q : OwnHistory) → Ran n (q ++ []) → GoodTicks number q [] → 0 < tally ticked q → Rises q
  unfolding state_of started
  rises = on_the_way n g f [] false number starts called_then

  onward_rise : (e : Seen) (q : OwnHistory) → Ran n (q ++ []) → GoodTicks number (e ∷ q) [] → ticked e ≡ true → 0 < tally ticked q → Rises q
      → Onward n (risen q)
  unfolding state_of started
  onward_rise = way_onward n g f [] false number starts called_then

  -- ---- the records
  abbrev Spends : OwnHistory → Type 0
  Spends q = Spent n g [] false (suc (left n (state_of n []))) (records_from_start n) (risen q).step q

  -- the first tick asks, and hands out what the first down step asks for
  asked_records : (s : State) (q : OwnHistory) → s.step ≡ first_down n.partial → decides n s ≡ AskAgain → record_count q ≡ 0
      → record_count (seen a_tick 0 (tick_hands n s) ∷ q) + records_left (own_outfit n) (length (controllers_of n)) (tick_after n s).step
      ≡ records_from_start n
  unfolding record_count move_records after_move
  asked_records s q step asks none =
      let same : (tick_after n s).step ≡ first_down n.partial = ap (λ (m : Move). step_after m s.step n.partial) asks ∙ step in
      let out : length (tick_hands n s) ≡ length (requests (asks_for (first_down n.partial)) n) =
      ap (λ (m : Move). length (move_records n s.step s.told m)) asks ∙ ap (λ (x : Step). length (requests (asks_for x) n)) step in
      rw (same) (omega (arith, out, none, down_records n g))

  spends_first : (e : Seen) (q : OwnHistory) → Ran n (e ∷ (q ++ [])) → GoodTicks number (e ∷ q) [] → ticked e ≡ true → tally ticked q ≡ 0
      → Spends (e ∷ q)
  unfolding Ran state_of started
  spends_first e q r i tick k =
      let calm = never_rest struck e q i.calm in
      let u = unmoved n [] q r.1 calm k in
      by_part n (risen q) (λ e t. ticked e ≡ true → Spent n g [] false (suc (left n (state_of n []))) (records_from_start n) t.step (e ∷ q)) (record {
        plain = λ sight number mode reported p z. absurd (false≢true (sym p.tick ∙ z));
        hears = λ c mode ok m l t z. absurd (false≢true z);
        recovers = λ u z. absurd (false≢true z);
        restarts = λ u a z. absurd (false≢true z);
        not_taken = λ u a z. absurd (false≢true z);
        resets = λ u z. absurd (false≢true z);
        ticks = λ _ _. asked_records (risen q) q u.step
            (asks_first n g f [] false number starts (risen q) u
            (λ z. absurd (false≢true (sym (down_falls n.partial) ∙ ap has_rested (sym u.step) ∙ z))))
            (quiet_count n [] q r.1 calm k);
      }) e r.0 tick
    where
      down_falls : (b : Bool) → has_rested (first_down b) ≡ false
      down_falls b = ap rested_phase (first_down_lem b).falls

  spends_more : (e : Seen) (q : OwnHistory) → Ran n (e ∷ (q ++ [])) → GoodTicks number (e ∷ q) [] → (0 < tally ticked q → Spends q)
      → (b : Bool) → ticked e ≡ b → (k : ℕ) → tally ticked q ≡ k → 0 < cond b (suc k) k → Spends (e ∷ q)
  unfolding Ran
  spends_more e q r i earlier true tick zero k l = spends_first e q r i tick k
  spends_more e q r i earlier false tick zero k l = absurd (omega (arith, l))
  spends_more e q r i earlier b tick (suc x) k l =
      let some : 0 < tally ticked q = omega (arith, k) in
      let way = rises q r.1 (fewer_ticks number e q [] i) some in
      spent_more n g [] false _ (records_from_start n) e q r (never_first struck e q i.calm)
      (λ z. onward_rise e q r.1 i z some way) way (earlier some)

  spends : (q : OwnHistory) → Ran n (q ++ []) → GoodTicks number q [] → 0 < tally ticked q → Spends q
  unfolding Ran tally
  spends [] r i l = absurd (omega (arith, l))
  spends (e ∷ q) r i l = spends_more e q r i (spends q r.1 (fewer_ticks number e q [] i)) (ticked e) refl (tally ticked q) refl l

  -- ---- which tick tells no
  rests_then : (t : Seen) (q : OwnHistory) → Ran n (t ∷ (q ++ [])) → GoodTicks number (t ∷ q) [] → ticked t ≡ true
      → hands 6 n.handle 0 t ≡ eqb (ticks_to_rest n) (suc (tally ticked q))
  unfolding Ran state_of started
  rests_then t q r i tick =
      by_part n s (λ t x. ticked t ≡ true → hands 6 n.handle 0 t ≡ eqb (ticks_to_rest n) (suc (tally ticked q))) (record {
        plain = λ sight number mode reported p z. absurd (false≢true (sym p.tick ∙ z));
        hears = λ c mode ok m l t z. absurd (false≢true z);
        recovers = λ u z. absurd (false≢true z);
        restarts = λ u a z. absurd (false≢true z);
        not_taken = λ u a z. absurd (false≢true z);
        resets = λ u z. absurd (false≢true z);
        ticks = λ _. move_says_no n s.step s.told (decides n s) ∙ by_ticks (tally ticked q) refl;
      }) t r.0 tick
    where
      s : State
      s = risen q

      by_ticks : (k : ℕ) → tally ticked q ≡ k → is_end (decides n s) ≡ eqb (ticks_to_rest n) (suc k)
      by_ticks zero k =
          let u = unmoved n [] q r.1 (never_rest struck t q i.calm) k in
          ap is_end (asks_first n g f [] false number starts s u
          (λ z. absurd (false≢true (sym (ap rested_phase (first_down_lem n.partial).falls) ∙ ap has_rested (sym u.step) ∙ z))))
          ∙ sym (not_first n.transceiver n.partial)
        where
          not_first : (t : Option ℕ) (b : Bool) → eqb (by_fit t b 3 4 6) 1 ≡ false
          not_first None b = refl
          not_first (Some id) true = refl
          not_first (Some id) false = refl
      by_ticks (suc x) k =
          let some : 0 < tally ticked q = omega (arith, k) in
          let way = rises q r.1 (fewer_ticks number t q [] i) some in
          subst (λ (y : ℕ). is_end (decides n s) ≡ eqb (ticks_to_rest n) (suc y)) k
          (by_test way (onward_rise t q r.1 i tick some way) (ltb (tally ticked q) (ticks_from_start n)) refl)
        where
          suited : suits (own_outfit n) s.step ≡ true
          suited = (stands n g (q ++ []) r.1).suited

          by_test : Rises q → Onward n s → (b : Bool) → ltb (tally ticked q) (ticks_from_start n) ≡ b
              → is_end (decides n s) ≡ eqb (ticks_to_rest n) (suc (tally ticked q))
          by_test way o true l =
              let before = ltb-true (tally ticked q) (ticks_from_start n) l in
              let figure = rest_figure n in
              ap is_end (moves_on n g s suited o)
              ∙ (advance n g [] false (suc (left n (state_of n []))) (records_from_start n) q r.1 o way (omega (arith, before, start_figure))).rests
              ∙ same_test (suc (by_transceiver (own_outfit n) 3 4)) (left n s) (ticks_to_rest n) (suc (tally ticked q))
              (λ e. omega (arith, e, way.left, start_figure, figure, before)) (λ e. omega (arith, e, way.left, start_figure, figure, before))
          by_test way o false l =
              let late = ltb-false (tally ticked q) (ticks_from_start n) l in
              let full = heads_full n g false Mode.No _ (λ _. refl) s q way
              ∙ le-leb (suc (left n (state_of n []))) (tally ticked q) (omega (arith, late, start_figure)) in
              not_ended (is_end (decides n s)) refl (up_rested (phase_of s.step) (full_quiet s.step full).up)
              ∙ sym (ne_eqb (ticks_to_rest n) (suc (tally ticked q)) (λ e. omega (arith, e, late, some_rest n.transceiver n.partial)))
            where
              some_rest : (t : Option ℕ) (b : Bool) → 2 < by_fit t b 3 4 4
              some_rest None b = omega arith
              some_rest (Some id) true = omega arith
              some_rest (Some id) false = omega arith

              not_ended : (b : Bool) → is_end (decides n s) ≡ b → has_rested s.step ≡ true → is_end (decides n s) ≡ false
              not_ended true e rest = absurd (true≢false (sym rest ∙ ends n s suited (state_kept n g (q ++ []) r.1) e))
              not_ended false e rest = e

-- F6, F7: from the start, of one network
module _ (n : Network) (g : InRange n) (f : Distinct (controllers_of n)) where
  -- a history is one since the start
  whole : (q : OwnHistory) → Ran n q → Ran n (q ++ [])
  whole q r = subst (Ran n) (sym (append-nil q)) r

  pub from_start : (q : OwnHistory) → Ran n q → FromStart n q
  unfolding state_of started
  from_start q r i = subst (λ (l : OwnHistory). told n l ≡ cond (leb (ticks_from_start n) (tally ticked q)) 2 0) (append-nil q)
      (told_down n g f [] false (number n g f) (starts n g f) (called_then n g f) q (whole q r) i
      ∙ ap (λ (x : ℕ). cond (leb x (tally ticked q)) 2 0) (start_figure n g f))

  pub on_that_tick_from_start : (t : Seen) (q : OwnHistory) → Ran n (t ∷ q) → OnThatTickFromStart n t q
  unfolding state_of started
  on_that_tick_from_start t q r i tick =
      tells_down n g f [] false (number n g f) (starts n g f) (called_then n g f) t q (whole (t ∷ q) r) i tick
      ∙ ap (λ (x : ℕ). eqb x (tally ticked (t ∷ q))) (start_figure n g f)

  pub to_rest : (t : Seen) (q : OwnHistory) → Ran n (t ∷ q) → ToRest n t q
  unfolding tally
  to_rest t q r i tick = rw (tick) (rests_then n g f t q (whole (t ∷ q) r) i tick)

  pub records_from_start_lem : (q : OwnHistory) → Ran n q → RecordsFromStart n q
  records_from_start_lem q r i e =
      let some : 0 < tally ticked q = omega (arith, e, start_figure n g f) in
      spent_all n g [] false _ (records_from_start n) (λ _. refl) q (rises n g f q (whole q r) i some) (spends n g f q (whole q r) i some)
      (e ∙ sym (start_figure n g f))
