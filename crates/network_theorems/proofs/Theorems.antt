-- What the layers above rely on of one network, each theorem with its sentence. docs/PROOFS.md lists them.
use Rattle.lists.proofs.Basics.{ℕ, ◌+◌, ◌≤◌, ◌<◌, arith, lt-leb, le-leb, eqb-true, eqb-false, ltb-true, ltb-false, ◌≡◌, refl, sym, ap, ◌∙◌, Bool}
use Rattle.lists.proofs.Basics.{true, false, ◌||◌, eqb, ltb, leb, length}
use Rattle.std.specs.Prelude.{Option, None, Some}
use Rattle.lists.specs.Lists.{every}
use Rattle.records.specs.declared.Mode.{Mode}
use Rattle.settings.specs.declared.Relation.{Relation}
use Rattle.settings.specs.declared.Relation.TheVariants.{Above, AtOrAbove}
use Rattle.settings.specs.declared.Network.{Network}
use Rattle.settings.specs.Good.{InRange}
use Rattle.settings.proofs.Good.{controllers_counted, some_controller}
use Rattle.steps.specs.declared.Step.{Step}
use Rattle.steps.specs.declared.Move.{Move}
use Rattle.steps.specs.Steps.{is_full_step}
use Rattle.handing.specs.Handing.{own_record}
use Rattle.handing.proofs.Laws.{length_move, move_own, recovery_own, reset_own}
use Rattle.network.specs.declared.Hit.{Hit}
use Rattle.network.specs.declared.State.{State}
use Rattle.network.specs.State.{blank_answers}
use Rattle.network.specs.Rules.{is_long, delay_of, move_of}
use Rattle.network.specs.Moving.{after_move, tick_records}
use Rattle.network.specs.BusOff.{hit_records, made_anew, after_hit}
use Rattle.network_theorems.specs.Kept.{is_full_mode, Kept}
use Rattle.network_theorems.specs.Delays.{least_long}

-- ---- records handed out
-- R16, K11: a tick hands out at most c + 2 records for a network of c controllers
pub tick_few : (n : Network) (s : State) → InRange n → length (tick_records n s) ≤ n.count + 2
unfolding tick_records
tick_few n s g =
    omega (arith, controllers_counted n g, some_controller n g, length_move n s.step s.told (move_of n s))

-- every record of a tick names the network's own controllers, transceiver or handle
pub tick_own : (n : Network) (s : State) → every (own_record n) (tick_records n s) ≡ true
unfolding tick_records
tick_own n s = move_own n s.step s.told (move_of n s)

-- and so does every record of a bus-off or a stall
pub hit_own : (n : Network) (hit : Option Hit) → every (own_record n) (hit_records n hit) ≡ true
unfolding hit_records every Rattle.lists.specs.Lists.any
hit_own n (Some Hit.Recover) = recovery_own n
hit_own n (Some Hit.Restart) = refl
hit_own n (Some Hit.Reset) = reset_own n
hit_own n None = refl

-- ---- told and wanted
-- N5: a network that is said to be full is in step 4 or 5
pub told_full_means_checked_or_full : (n : Network) (s : State) → Kept n s → s.told ≡ Mode.Full → is_full_step s.step ≡ true
told_full_means_checked_or_full n s k e = sym k.told ∙ ap is_full_mode e

full_mode : (m : Mode) → is_full_mode m ≡ true → m ≡ Mode.Full
full_mode Mode.No e = absurd cc
full_mode Mode.Silent e = absurd cc
full_mode Mode.Full e = refl

-- N5: and a network in step 4 or 5 is said to be full
pub checked_or_full_means_told_full : (n : Network) (s : State) → Kept n s → is_full_step s.step ≡ true → s.told ≡ Mode.Full
checked_or_full_means_told_full n s k e = full_mode s.told (k.told ∙ e)

-- ---- the delay
-- S27: by either relation the long delay comes from one count on
pub long_from : (r : Relation) (threshold count : ℕ) → is_long r threshold count ≡ leb (least_long r threshold) count
long_from Above threshold count = refl
long_from AtOrAbove threshold count = refl

-- T13: the delay is the long one from that count on, and the short one below it, whichever the network's relation is
pub delay_long : (n : Network) (count : ℕ) → least_long n.relation n.threshold ≤ count → delay_of n count ≡ n.long
unfolding delay_of
delay_long n count h = rw (long_from n.relation n.threshold count, le-leb (least_long n.relation n.threshold) count h) refl

pub delay_short : (n : Network) (count : ℕ) → count < least_long n.relation n.threshold → delay_of n count ≡ n.short
unfolding delay_of
delay_short n count h = rw (long_from n.relation n.threshold count, lt-leb (least_long n.relation n.threshold) count h) refl

-- S27: the two relations part at the threshold, and nowhere else
pub relations_part : (threshold count : ℕ) → is_long AtOrAbove threshold count ≡ is_long Above threshold count || eqb threshold count
relations_part threshold count = by_test (ltb threshold count) refl
  where
    at : (b : Bool) → eqb threshold count ≡ b → ltb threshold count ≡ false → leb threshold count ≡ b
    at true e l = le-leb threshold count (omega (arith, eqb-true threshold count e))
    at false e l = lt-leb threshold count (omega (arith, eqb-false threshold count e, ltb-false threshold count l))

    by_test : (b : Bool) → ltb threshold count ≡ b → leb threshold count ≡ b || eqb threshold count
    by_test true l = le-leb threshold count (omega (arith, ltb-true threshold count l))
    by_test false l = at (eqb threshold count) refl l

-- ---- answers
-- N11: a step that is entered in order to ask has asked, and all answers are blank
pub entering_forgets : (n : Network) (s : State) (next : Step) →
    ((after_move n s (Move.Enter next)).answers ≡ blank_answers) × ((after_move n s (Move.Enter next)).asked ≡ true)
unfolding after_move
entering_forgets n s next = (refl, refl)

-- N12: asking again keeps them
pub asking_again_keeps : (n : Network) (s : State) →
    ((after_move n s Move.AskAgain).answers ≡ s.answers) × ((after_move n s Move.AskAgain).asked ≡ true)
unfolding after_move
asking_again_keeps n s = (refl, refl)

-- B4, B5: after a bus-off that is taken they are blank, and the step has not asked
pub recovery_forgets : (s : State) → ((after_hit s Hit.Recover).answers ≡ blank_answers) × ((after_hit s Hit.Recover).asked ≡ false)
unfolding after_hit made_anew
recovery_forgets s = (refl, refl)

pub restart_forgets : (s : State) → ((after_hit s Hit.Restart).answers ≡ blank_answers) × ((after_hit s Hit.Restart).asked ≡ false)
unfolding after_hit made_anew
restart_forgets s = (refl, refl)

-- X3, X4: after a stall that is taken they are blank, and the step has not asked; the count and the wanted mode stay
pub reset_forgets : (s : State) → ((after_hit s Hit.Reset).answers ≡ blank_answers) × ((after_hit s Hit.Reset).asked ≡ false)
unfolding after_hit made_anew
reset_forgets s = (refl, refl)

pub reset_keeps : (s : State) → ((after_hit s Hit.Reset).count ≡ s.count) × ((after_hit s Hit.Reset).wanted ≡ s.wanted)
unfolding after_hit made_anew
reset_keeps s = (refl, refl)
