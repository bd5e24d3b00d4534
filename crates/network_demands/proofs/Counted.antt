-- Which bus-offs count: restarting, as it is read off a history, is step 6 of the network's record, and the record's count is the number of bus-offs
-- that came while up and not while restarting, since the last all-clear.
use Rattle.lists.proofs.Basics.{ℕ, suc, ◌≤◌, min, arith, ltb-true, ltb-false, leb-true, leb-false, lt-leb, le-leb, ◌≡◌, refl, sym, ap, subst, ◌∙◌, [], ◌∷◌, Bool, true}
use Rattle.lists.proofs.Basics.{false, cond, not, ◌&&◌, ◌||◌, false≢true, ltb, leb}
use Rattle.lists.specs.Lists.{any}
use Rattle.lists.proofs.Tests.{split}
use Rattle.records.specs.declared.Mode.{Mode}
use Rattle.settings.specs.declared.Relation.{Relation}
use Rattle.settings.specs.declared.Relation.TheVariants.{Above, AtOrAbove}
use Rattle.settings.specs.declared.Network.{Network}
use Rattle.settings.specs.Good.{InRange}
use Rattle.settings.proofs.Good.{some_controller}
use Rattle.steps.specs.declared.Step.{Step}
use Rattle.steps.specs.declared.Step.TheVariants.{Restarting}
use Rattle.steps.specs.declared.Phase.{Phase}
use Rattle.steps.specs.declared.Outfit.{Outfit}
use Rattle.steps.specs.declared.Move.{Move}
use Rattle.steps.specs.declared.Move.TheVariants.{Stay, AskAgain, Count, EnterFull, EnterSilent, Pass, Wait, GoDown, EnterNoCommunication, Enter}
use Rattle.steps.specs.Steps.{up_phase, is_up, is_full_step, is_restarting}
use Rattle.steps.specs.Decision.{decision}
use Rattle.steps.specs.After.{first_down, step_after}
use Rattle.steps.proofs.Laws.{numbered_is, not_restarting}
use Rattle.handing.specs.Handing.{recovery, reset}
use Rattle.network.specs.declared.State.{State}
use Rattle.network.specs.State.{heard_of, started}
use Rattle.network.specs.Rules.{is_refusal, is_long, delay_of}
use Rattle.network.specs.Moving.{count_after, after_move}
use Rattle.network.specs.BusOff.{raised, made_anew, after_hit}
use Rattle.network.specs.Parts.{Sight, a_tick, a_bus_off, a_stall}
use Rattle.network_theorems.specs.Kept.{Kept}
use Rattle.network_theorems.specs.Delays.{least_long}
use Rattle.network_theorems.proofs.Theorems.{long_from}
use Rattle.network_demands.specs.Words.{Seen, OwnHistory, is_bus_off, fell, cleared, up, fell_up, restarting, counts, falls}
use Rattle.network_demands.specs.Words.{exceeds, delay_at}
use Rattle.network_demands.specs.Own.{finished, reaches, decides, tick_after, tick_hands, recovered, reset_after, played, state_of, Fits, Ran}
use Rattle.network_demands.proofs.Views.{either_way, seen, by_part}
use Rattle.network_demands.proofs.Handed.{is_pass, is_enter_silent, is_wait, is_go_down, move_quiets, move_shuts, move_clears}
use Rattle.network_demands.proofs.Up.{up_means}
use Rattle.network_demands.proofs.Follows.{state_kept}
use Rattle.network_demands.proofs.Arrows.{suits, own_outfit, ByArrow, by_tick_arrow}
use Rattle.network_demands.proofs.Standing.{stands}

-- ---- ticks
-- a move that ends restarting, by what it hands out
abbrev leaves : Move → Bool
leaves m = (is_enter_silent m || is_wait m) || is_go_down m

-- the first down step is another one
first_down_other : (partial : Bool) → false ≡ is_restarting (first_down partial)
first_down_other true = refl
first_down_other false = refl

-- in step 6 a tick leaves it by the wait or by going down; it does not enter silent, and does not say passed
record FromSix (partial : Bool) (step : Step) (m : Move) : Type 0 where
  next : cond (leaves m) false true ≡ is_restarting (step_after m step partial)
  not_silent : is_enter_silent m ≡ false
  not_passed : is_pass m ≡ false

from_six : (partial : Bool) (wanted : Mode) (done refused reached : Bool) (outfit : Outfit)
    → FromSix partial Restarting (decision Restarting wanted done refused reached outfit)
unfolding decision
from_six partial Mode.No done refused reached outfit = record { next = first_down_other partial; not_silent = refl; not_passed = refl }
from_six partial Mode.Silent done refused reached outfit =
    split (FromSix partial Restarting) done
    (λ _. record { next = refl; not_silent = refl; not_passed = refl }) (λ _. record { next = refl; not_silent = refl; not_passed = refl })
from_six partial Mode.Full done refused reached outfit =
    split (FromSix partial Restarting) done
    (λ _. record { next = refl; not_silent = refl; not_passed = refl }) (λ _. record { next = refl; not_silent = refl; not_passed = refl })

-- any other step leads to another one
abbrev Other : Bool → Step → Mode → Move → Type 0
Other partial step wanted m = is_restarting step ≡ false → is_restarting (step_after m step partial) ≡ false

other : (partial done reached : Bool) (outfit : Outfit) → ByArrow done reached outfit (Other partial)
other partial done reached outfit = record {
  rests = λ wanted w o. refl;
  called = λ u o. refl;
  called_bare = λ u o. refl;
  climbs = λ d o. refl;
  begins = λ d o. refl;
  starts = λ d o. refl;
  asks_again = λ step wanted a _ o. o;
  checks = λ t r o. refl;
  passes = λ t r o. refl;
  stays_full = λ o. refl;
  stays_silent = λ o. refl;
  waits = λ wanted w d o. refl;
  waits_on = λ t wanted w r o. refl;
  resumes = λ wanted w d o. refl;
  fills = λ step q f o. refl;
  silences = λ step q o. refl;
  goes_down_lem = λ step q o. sym (first_down_other partial);
  sinks = λ step next wanted d e u o.
      not_restarting next (λ (x : Step). not (is_up x)) refl (ap (λ (phase : Phase). not (up_phase phase)) e.falls);
  ends = λ step wanted d o. refl;
}

-- a tick in step 6
module _ (n : Network) (s : State) where
  in_six : is_restarting s.step ≡ true → FromSix n.partial s.step (decides n s)
  in_six r =
      subst (λ (step : Step). FromSix n.partial step
      (decision step s.wanted (finished n s) (any is_refusal (heard_of n s)) (reaches n s) (own_outfit n)))
      (sym (numbered_is 6 s.step r)) (from_six n.partial s.wanted (finished n s) (any is_refusal (heard_of n s)) (reaches n s) (own_outfit n))

  -- a tick in any step
  six_after : suits (own_outfit n) s.step ≡ true → Kept n s
      → cond (leaves (decides n s)) false (is_restarting s.step) ≡ is_restarting (step_after (decides n s) s.step n.partial)
  six_after u k = by_test (is_restarting s.step) refl
    where
      by_test : (b : Bool) → is_restarting s.step ≡ b
          → cond (leaves (decides n s)) false b ≡ is_restarting (step_after (decides n s) s.step n.partial)
      by_test true r = (in_six r).next
      by_test false r = sym (either_way (leaves (decides n s)) false)
          ∙ sym (by_tick_arrow n s (Other n.partial) (other n.partial (finished n s) (reaches n s) (own_outfit n)) u k r)

-- ---- numbers
-- the bus-offs that count with one entry more, by whether it is the all-clear and whether it is one of them
pub falls_by : (n : Network) (e : Seen) (h : OwnHistory) (clear fall : Bool) → cleared n e ≡ clear → counts n e h ≡ fall
    → falls n (e ∷ h) ≡ cond clear 0 (cond fall (suc (falls n h)) (falls n h))
unfolding falls
falls_by n e h clear fall p q = rw (p, q) refl

-- one more, and both stay at 255
raised_min : (k f : ℕ) → k ≡ min f 255 → raised k ≡ min (suc f) 255
raised_min k f e = split (λ (x : ℕ). x ≡ min (suc f) 255) (ltb k 255) (λ l. omega (arith, ltb-true k 255 l)) (λ l. omega (arith, ltb-false k 255 l))

-- by either relation a number exceeds the threshold from one number on, which the record's count can reach
pub exceeds_from : (r : Relation) (threshold f : ℕ) → exceeds r threshold f ≡ leb (least_long r threshold) f
exceeds_from Above threshold f = refl
exceeds_from AtOrAbove threshold f = refl

least_reached : (r : Relation) (threshold : ℕ) → threshold ≤ 254 → least_long r threshold ≤ 255
least_reached Above threshold h = omega arith
least_reached AtOrAbove threshold h = omega arith

-- the record's count stands for the true number: no threshold tells them apart, by neither relation
pub count_compares : (r : Relation) (threshold f : ℕ) → threshold ≤ 254 → is_long r threshold (min f 255) ≡ exceeds r threshold f
count_compares r threshold f h =
    long_from r threshold (min f 255) ∙ by_test (leb (least_long r threshold) f) refl ∙ sym (exceeds_from r threshold f)
  where
    by_test : (t : Bool) → leb (least_long r threshold) f ≡ t → leb (least_long r threshold) (min f 255) ≡ leb (least_long r threshold) f
    by_test true e =
        le-leb (least_long r threshold) (min f 255) (omega (arith, leb-true (least_long r threshold) f e, least_reached r threshold h)) ∙ sym e
    by_test false e = lt-leb (least_long r threshold) (min f 255) (omega (arith, leb-false (least_long r threshold) f e)) ∙ sym e

-- only passed makes the count 0
count_by_lem : (m : Move) (count : ℕ) → count_after m count ≡ cond (is_pass m) 0 count
count_by_lem Stay count = refl
count_by_lem AskAgain count = refl
count_by_lem (Count next) count = refl
count_by_lem EnterFull count = refl
count_by_lem EnterSilent count = refl
count_by_lem Pass count = refl
count_by_lem Wait count = refl
count_by_lem GoDown count = refl
count_by_lem EnterNoCommunication count = refl
count_by_lem (Enter next) count = refl

-- ---- all that is seen
pub record Counted (n : Network) (s : State) (h : OwnHistory) : Type 0 where
  pub restarts : restarting n h ≡ is_restarting s.step
  pub count : s.count ≡ min (falls n h) 255

module _ (n : Network) (h : OwnHistory) (s : State) (u : up n h ≡ is_up s.step) (k : Counted n s h) where
  abbrev StillCounted : Seen → State → Type 0
  StillCounted e t = Counted n t (e ∷ h)

  -- the count over an entry that is no bus-off that counts
  count_on : (e : Seen) (clear : Bool) → cleared n e ≡ clear → counts n e h ≡ false → cond clear 0 s.count ≡ min (falls n (e ∷ h)) 255
  count_on e true p q = ap (λ (x : ℕ). min x 255) (sym (falls_by n e h true false p q))
  count_on e false p q = k.count ∙ ap (λ (x : ℕ). min x 255) (sym (falls_by n e h false false p q))

  -- what is no bus-off while up and hands out nothing
  counted_quiet : (sight : Sight) (number : ℕ) (t : State) → is_bus_off sight && up n h ≡ false → t.step ≡ s.step → t.count ≡ s.count
      → StillCounted (seen sight number []) t
  unfolding restarting any
  counted_quiet sight number t calm same_step same_count = record {
    restarts = rw calm (k.restarts ∙ ap is_restarting (sym same_step));
    count = same_count ∙ count_on (seen sight number []) false refl (rw calm refl);
  }

  -- a bus-off while up counts exactly if it does not come in step 6, and leads there
  abbrev fall : Seen
  fall = seen a_bus_off 0 (recovery n.handle)

  fall_counts : is_up s.step ≡ true → counts n fall h ≡ not (is_restarting s.step)
  fall_counts f = rw (u ∙ f, k.restarts) refl

  pub counted_fall : is_up s.step ≡ true → StillCounted fall (recovered s)
  unfolding restarting any recovery after_hit made_anew
  counted_fall f = record { restarts = rw (u ∙ f) refl; count = by_test (is_restarting s.step) refl }
    where
      by_test : (b : Bool) → is_restarting s.step ≡ b → cond b s.count (raised s.count) ≡ min (falls n (fall ∷ h)) 255
      by_test true r = count_on fall false refl (fall_counts f ∙ ap not r)
      by_test false r = raised_min s.count (falls n h) k.count
          ∙ ap (λ (x : ℕ). min x 255) (sym (falls_by n fall h false true refl (fall_counts f ∙ ap not r)))

  -- a stall comes in steps 4 and 5, and leads to step 15
  counted_reset : is_full_step s.step ≡ true → StillCounted (seen a_stall 0 (reset n.handle)) (reset_after s)
  unfolding restarting any reset after_hit made_anew
  counted_reset f = record {
    restarts = k.restarts ∙ not_restarting s.step is_full_step refl f;
    count = count_on (seen a_stall 0 (reset n.handle)) false refl refl;
  }

  counted_tick : InRange n → suits (own_outfit n) s.step ≡ true → Kept n s → StillCounted (seen a_tick 0 (tick_hands n s)) (tick_after n s)
  unfolding restarting after_move
  counted_tick g fit kept =
      let m : Move = decides n s in
      let e : Seen = seen a_tick 0 (tick_hands n s) in
      record {
        restarts = rw (move_quiets n (some_controller n g) s.step s.told m, move_shuts n s.step s.told m, k.restarts)
            (six_after n s fit kept);
        count = count_by_lem m s.count ∙ count_on e (is_pass m) (move_clears n s.step _ m) refl;
      }

  counted_call : InRange n → suits (own_outfit n) s.step ≡ true → Kept n s → (e : Seen) → Fits n s e
      → StillCounted e (played n s e.sight).state
  unfolding after_hit made_anew
  counted_call g fit kept = by_part n s StillCounted (record {
    plain = λ sight number mode reported p. counted_quiet sight number _ (rw p.bus_off refl) refl refl;
    hears = λ c mode ok m l e. counted_quiet _ 0 _ refl refl refl;
    recovers = counted_fall;
    restarts = λ f a. counted_quiet a_bus_off 0 _ (u ∙ f) refl refl;
    not_taken = λ f a. counted_quiet a_bus_off 0x22 _ (u ∙ f) refl refl;
    resets = counted_reset;
    ticks = counted_tick g fit kept;
  })

  -- a bus-off raises the count exactly if it counts
  abbrev Raises : Seen → State → Type 0
  Raises e t = fell e ≡ true → t.count ≡ cond (counts n e h) (min (suc s.count) 255) s.count

  raises_call : (e : Seen) → Fits n s e → Raises e (played n s e.sight).state
  unfolding after_hit made_anew
  raises_call = by_part n s Raises (record {
    plain = λ sight number mode reported p z. absurd (false≢true (sym p.bus_off ∙ z));
    hears = λ c mode ok m l e z. absurd (false≢true z);
    recovers = λ f _. rw (u ∙ f, k.restarts) (by_test (is_restarting s.step));
    restarts = λ f a _. rw (u ∙ f) refl;
    not_taken = λ f a _. rw (u ∙ f) refl;
    resets = λ f z. absurd (false≢true z);
    ticks = λ z. absurd (false≢true z);
  })
    where
      by_test : (b : Bool) → cond b s.count (raised s.count) ≡ cond (not b) (min (suc s.count) 255) s.count
      by_test true = refl
      by_test false = raised_min s.count s.count (omega (arith, k.count))

  -- a bus-off while up begins restarting, and while that lasts no all-clear comes
  abbrev Lasts : Seen → State → Type 0
  Lasts e t = (fell_up n e h ≡ true → restarting n (e ∷ h) ≡ true) × (restarting n h ≡ true → cleared n e ≡ false)

  lasts_call : (e : Seen) → Fits n s e → Lasts e (played n s e.sight).state
  unfolding restarting any recovery reset after_hit made_anew
  lasts_call = by_part n s Lasts (record {
    plain = λ sight number mode reported p. (λ z. absurd (false≢true (sym (ap (λ (b : Bool). b && up n h) p.bus_off) ∙ z)), λ _. refl);
    hears = λ c mode ok m l e. (λ z. absurd (false≢true z), λ _. refl);
    recovers = λ f. (λ _. (counted_fall f).restarts, λ _. refl);
    restarts = λ f a. (λ z. absurd (false≢true (sym (u ∙ f) ∙ z)), λ _. refl);
    not_taken = λ f a. (λ z. absurd (false≢true (sym (u ∙ f) ∙ z)), λ _. refl);
    resets = λ f. (λ z. absurd (false≢true z), λ _. refl);
    ticks = (
      λ z. absurd (false≢true z),
      λ r. move_clears n s.step _ (decides n s) ∙ (in_six n s (sym k.restarts ∙ r)).not_passed,
    );
  })

-- ---- from the start on, in a history that ran by the rules
pub counted : (n : Network) → InRange n → (h : OwnHistory) → Ran n h → Counted n (state_of n h) h
unfolding state_of Ran started restarting falls
counted n g [] r = record { restarts = first_down_other n.partial; count = refl }
counted n g (e ∷ h) r =
    counted_call n h (state_of n h) (up_means n h r.1) (counted n g h r.1) g (stands n g h r.1).suited (state_kept n g h r.1) e r.0

-- restarting is step 6
pub restarting_means : (n : Network) → InRange n → (h : OwnHistory) → Ran n h → restarting n h ≡ is_restarting (state_of n h).step
restarting_means n g h r = (counted n g h r).restarts

-- the record's count is the number of bus-offs that count since the last all-clear, up to 255
pub count_follows : (n : Network) → InRange n → (h : OwnHistory) → Ran n h → (state_of n h).count ≡ min (falls n h) 255
count_follows n g h r = (counted n g h r).count

-- a bus-off raises it, up to 255, exactly if it comes while up and not while restarting
pub bus_off_raises : (n : Network) → InRange n → (e : Seen) (h : OwnHistory) → Ran n (e ∷ h) → fell e ≡ true
    → (state_of n (e ∷ h)).count ≡ cond (counts n e h) (min (suc (state_of n h).count) 255) (state_of n h).count
unfolding state_of Ran
bus_off_raises n g e h r = raises_call n h (state_of n h) (up_means n h r.1) (counted n g h r.1) e r.0

-- a bus-off while up begins restarting
pub restarting_begins : (n : Network) → InRange n → (b : Seen) (h : OwnHistory) → Ran n (b ∷ h) → fell_up n b h ≡ true → restarting n (b ∷ h) ≡ true
unfolding Ran
restarting_begins n g b h r = (lasts_call n h (state_of n h) (up_means n h r.1) (counted n g h r.1) b r.0).0

-- while restarting no all-clear comes
pub restarting_uncleared : (n : Network) → InRange n → (e : Seen) (h : OwnHistory) → Ran n (e ∷ h) → restarting n h ≡ true → cleared n e ≡ false
unfolding Ran
restarting_uncleared n g e h r = (lasts_call n h (state_of n h) (up_means n h r.1) (counted n g h r.1) e r.0).1

-- so the delay by the record's count is the one that a bus-off at the head of the history brings
pub delay_follows : (n : Network) → InRange n → (h : OwnHistory) (s : State) → Counted n s h → delay_of n s.count ≡ delay_at n h
unfolding delay_of
delay_follows n g h s k =
    ap (λ (count : ℕ). cond (is_long n.relation n.threshold count) n.long n.short) k.count
    ∙ ap (λ (b : Bool). cond b n.long n.short) (count_compares n.relation n.threshold (falls n h) (let few = g.threshold in omega arith))

-- silent is not entered while restarting
pub silence_settled : (n : Network) → InRange n → (h : OwnHistory) → Ran n h → is_enter_silent (decides n (state_of n h)) ≡ true
    → restarting n h ≡ false
silence_settled n g h r z = restarting_means n g h r ∙ by_test (is_restarting (state_of n h).step) refl
  where
    by_test : (b : Bool) → is_restarting (state_of n h).step ≡ b → b ≡ false
    by_test true six = absurd (false≢true (sym (in_six n (state_of n h) six).not_silent ∙ z))
    by_test false six = refl
