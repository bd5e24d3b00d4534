-- What a move hands out: how many records at most, and that each names only the network's own ids.
use Rattle.lists.proofs.Basics.{ℕ, ◌+◌, ◌≤◌, max, arith, eq-eqb, ◌≡◌, refl, ◌∙◌, List, [], ◌∷◌, ◌++◌, map, true, or-true, eqb, length, length-map}
use Rattle.lists.proofs.Basics.{length-append}
use Rattle.lists.specs.Lists.{any, every}
use Rattle.lists.proofs.Tests.{split}
use Rattle.lists.proofs.Any.{every_cons, every_append, every_weaken, every_map}
use Rattle.records.specs.declared.Record.{Record}
use Rattle.records.specs.declared.PduMode.{PduMode}
use Rattle.records.specs.declared.Mode.{Mode}
use Rattle.records.specs.declared.Notice.{Notice}
use Rattle.std.specs.Prelude.{Option, None, Some}
use Rattle.settings.specs.declared.Network.{Network}
use Rattle.settings.specs.Settings.{handles_of, controllers_of, transceivers_of, listed, member}
use Rattle.steps.specs.declared.Step.{Step}
use Rattle.steps.specs.declared.Ask.{Ask}
use Rattle.steps.specs.declared.Move.{Move}
use Rattle.steps.specs.declared.Move.TheVariants.{Stay, AskAgain, Count, EnterFull, EnterSilent, Pass, Wait, GoDown, EnterNoCommunication, Enter}
use Rattle.steps.specs.Steps.{asks_for, is_online_step}
use Rattle.steps.specs.After.{first_down}
use Rattle.handing.specs.declared.Round.{Round}
use Rattle.handing.specs.declared.Errand.{Errand}
use Rattle.handing.specs.Handing.{round_record, errand_record, requests, entering, entering_full, entering_silent, down_notices, going_down}
use Rattle.handing.specs.Handing.{move_records, recovery, reset, online, online_in, targets_of, own_record}

-- ---- how many
length_errand : (errand : Errand) (t : Option ℕ) → length (map (errand_record errand) (listed t)) ≤ 1
length_errand errand None = omega arith
length_errand errand (Some x) = omega arith

-- what asks a transceiver is one record, and what asks the controllers is one for each
length_requests : (ask : Ask) (n : Network) → length (requests ask n) ≤ max 1 (length (controllers_of n))
unfolding requests
length_requests Ask.Nothing n = omega arith
length_requests (Ask.Controllers mode) n = omega (arith, length-map (controllers_of n) (round_record (Round.Request mode)))
length_requests (Ask.Transceiver mode) n = omega (arith, length_errand (Errand.Mode mode) n.transceiver)
length_requests Ask.ClearWake n = omega (arith, length_errand Errand.Clear n.transceiver)
length_requests Ask.CheckWake n = omega (arith, length_errand Errand.Check n.transceiver)

length_entering : (n : Network) (pdu : PduMode) (mode : Mode) (notice : Notice) → length (entering n pdu mode notice) ≡ length (controllers_of n) + 2
unfolding entering
length_entering n pdu mode notice = simp (length-append, length-map)

length_notices : (handle : ℕ) (told : Mode) → length (down_notices handle told) ≤ 2
unfolding down_notices
length_notices handle Mode.No = omega arith
length_notices handle Mode.Silent = omega arith
length_notices handle Mode.Full = omega arith

-- a move hands out at most c + 2 records for a network of c controllers; one without any, which no sheet gives, counts as one that has one
pub length_move : (n : Network) (step : Step) (told : Mode) (m : Move) → length (move_records n step told m) ≤ max 1 (length (controllers_of n)) + 2
unfolding move_records entering_full entering_silent going_down
length_move n step told Stay = omega arith
length_move n step told AskAgain = omega (arith, length_requests (asks_for step) n)
length_move n step told (Count next) = omega arith
length_move n step told EnterFull = omega (arith, length_entering n PduMode.Online Mode.Full Notice.Full)
length_move n step told EnterSilent = omega (arith, length_entering n PduMode.TxOffline Mode.Silent Notice.Silent)
length_move n step told Pass = omega arith
length_move n step told Wait = omega (arith, length-map (controllers_of n) (round_record (Round.Pdu PduMode.TxOffline)))
length_move n step told GoDown =
    let ask = asks_for (first_down n.partial) in
    omega (arith, length-append (down_notices n.handle told) (requests ask n), length_notices n.handle told, length_requests ask n)
length_move n step told EnterNoCommunication = omega arith
length_move n step told (Enter next) = omega (arith, length_requests (asks_for next) n)

-- ---- whose ids
every_member : (l : List ℕ) → every (λ (x : ℕ). member x l) l ≡ true
unfolding every any
every_member [] = refl
every_member (x ∷ l) =
    let more : (y : ℕ) → member y l ≡ true → member y (x ∷ l) ≡ true = λ y e. rw e (or-true (eqb x y)) in
    let later = every_weaken (λ (y : ℕ). member y l) (λ (y : ℕ). member y (x ∷ l)) more l (every_member l) in
    every_cons (λ (y : ℕ). member y (x ∷ l)) x l ∙ rw (eq-eqb x x refl, later) refl

module _ (n : Network) where
  -- a record for each id of a list, whose own ids these are
  ids_own : (f : ℕ → Record) (l : List ℕ) → ((x : ℕ) → own_record n (f x) ≡ member x l) → every (own_record n) (map f l) ≡ true
  ids_own f l h =
      every_map (own_record n) f l
      ∙ every_weaken (λ (x : ℕ). member x l) (λ (x : ℕ). own_record n (f x)) (λ (x : ℕ) (e : member x l ≡ true). h x ∙ e) l (every_member l)

  round_names : (round : Round) (x : ℕ) → own_record n (round_record round x) ≡ member x (controllers_of n)
  unfolding own_record targets_of any
  round_names (Round.Request mode) x = refl
  round_names (Round.Pdu mode) x = refl

  round_own : (round : Round) → every (own_record n) (map (round_record round) (controllers_of n)) ≡ true
  round_own round = ids_own (round_record round) (controllers_of n) (round_names round)

  errand_names : (errand : Errand) (x : ℕ) → own_record n (errand_record errand x) ≡ member x (transceivers_of n)
  unfolding own_record targets_of any
  errand_names (Errand.Mode mode) x = refl
  errand_names Errand.Clear x = refl
  errand_names Errand.Check x = refl

  errand_own : (errand : Errand) → every (own_record n) (map (errand_record errand) (transceivers_of n)) ≡ true
  errand_own errand = ids_own (errand_record errand) (transceivers_of n) (errand_names errand)

  none_own : every (own_record n) [] ≡ true
  unfolding every any
  none_own = refl

  -- a record that names the handle, before others
  handle_own : (r : Record) (l : List Record) →
      own_record n r ≡ member n.handle (handles_of n) → every (own_record n) l ≡ true → every (own_record n) (r ∷ l) ≡ true
  unfolding any
  handle_own r l h e = every_cons (own_record n) r l ∙ rw (h, eq-eqb n.handle n.handle refl, e) refl

  both_own : (l m : List Record) → every (own_record n) l ≡ true → every (own_record n) m ≡ true → every (own_record n) (l ++ m) ≡ true
  both_own l m e f = every_append (own_record n) l m ∙ rw (e, f) refl

  requests_own : (ask : Ask) → every (own_record n) (requests ask n) ≡ true
  unfolding requests
  requests_own Ask.Nothing = none_own
  requests_own (Ask.Controllers mode) = round_own (Round.Request mode)
  requests_own (Ask.Transceiver mode) = errand_own (Errand.Mode mode)
  requests_own Ask.ClearWake = errand_own Errand.Clear
  requests_own Ask.CheckWake = errand_own Errand.Check

  entering_own : (pdu : PduMode) (mode : Mode) (notice : Notice) → every (own_record n) (entering n pdu mode notice) ≡ true
  unfolding entering own_record targets_of any
  entering_own pdu mode notice = both_own _ _ (round_own (Round.Pdu pdu)) (handle_own _ _ refl (handle_own _ _ refl none_own))

  notices_own : (told : Mode) → every (own_record n) (down_notices n.handle told) ≡ true
  unfolding down_notices own_record targets_of any
  notices_own Mode.No = handle_own _ _ refl none_own
  notices_own Mode.Silent = handle_own _ _ refl none_own
  notices_own Mode.Full = handle_own _ _ refl (handle_own _ _ refl none_own)

  -- every record of a move names the network's own ids
  pub move_own : (step : Step) (told : Mode) (m : Move) → every (own_record n) (move_records n step told m) ≡ true
  unfolding move_records entering_full entering_silent going_down own_record targets_of any
  move_own step told Stay = none_own
  move_own step told AskAgain = requests_own (asks_for step)
  move_own step told (Count next) = none_own
  move_own step told EnterFull = entering_own PduMode.Online Mode.Full Notice.Full
  move_own step told EnterSilent = entering_own PduMode.TxOffline Mode.Silent Notice.Silent
  move_own step told Pass = handle_own _ _ refl none_own
  move_own step told Wait = round_own (Round.Pdu PduMode.TxOffline)
  move_own step told GoDown = both_own _ _ (notices_own told) (requests_own (asks_for (first_down n.partial)))
  move_own step told EnterNoCommunication = handle_own _ _ refl none_own
  move_own step told (Enter next) = requests_own (asks_for next)

  -- and so does every record of a recovery that begins
  pub recovery_own : every (own_record n) (recovery n.handle) ≡ true
  unfolding recovery own_record targets_of any
  recovery_own = handle_own _ _ refl (handle_own _ _ refl (handle_own _ _ refl none_own))

  -- and the one of a reset
  pub reset_own : every (own_record n) (reset n.handle) ≡ true
  unfolding reset own_record targets_of any
  reset_own = handle_own _ _ refl none_own

-- ---- listening
module _ (n : Network) (step : Step) where
  -- each record of it names the network's own ids
  pub online_own : every (own_record n) (online_in n step) ≡ true
  unfolding online_in
  online_own = split (λ (rs : List Record). every (own_record n) rs ≡ true) (is_online_step step) (λ _. round_own n (Round.Pdu online)) (λ _. none_own n)
