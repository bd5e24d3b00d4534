-- What a move hands out, once for every test of records: by what the test says of requests, of PDU modes and of records with the handle. So read the
-- words of demand 3 and of the promises the records of a tick.
use Rattle.lists.proofs.Basics.{ℕ, ◌<◌, arith, eqb-true, eqb-false, eq-eqb, ne_eqb, ◌≡◌, refl, sym, ap, ◌∙◌, List, [], ◌∷◌, ◌++◌, map, Bool, true}
use Rattle.lists.proofs.Basics.{false, not, ◌&&◌, ◌||◌, cond, or-false, and-false, eqb, length}
use mathlib.Core.Bool.{and-true}
use Rattle.lists.specs.Lists.{any}
use Rattle.lists.proofs.Any.{any_append}
use Rattle.records.specs.declared.Record.{Record}
use Rattle.records.specs.declared.ControllerMode.{ControllerMode}
use Rattle.records.specs.declared.TransceiverMode.{TransceiverMode}
use Rattle.records.specs.declared.PduMode.{PduMode}
use Rattle.records.specs.declared.Mode.{Mode}
use Rattle.records.specs.declared.Notice.{Notice}
use Rattle.records.specs.declared.EventStatus.{EventStatus}
use Rattle.records.specs.Records.{pdu_number, mode_number, notice_number, controller_mode, transceiver_mode, pdu_mode, clear_wake, check_wake, tells}
use Rattle.records.specs.Records.{notes, reports}
use Rattle.settings.specs.declared.Network.{Network}
use Rattle.settings.specs.Settings.{controllers_of, listed, member}
use Rattle.steps.specs.declared.Step.{Step}
use Rattle.steps.specs.declared.Ask.{Ask}
use Rattle.steps.specs.declared.Move.{Move}
use Rattle.steps.specs.declared.Move.TheVariants.{Stay, AskAgain, Count, EnterFull, EnterSilent, Pass, Wait, GoDown, EnterNoCommunication, Enter}
use Rattle.steps.specs.Steps.{asks_for}
use Rattle.steps.specs.Decision.{by_mode}
use Rattle.steps.specs.After.{first_down}
use Rattle.handing.specs.declared.Round.{Round}
use Rattle.handing.specs.declared.Errand.{Errand}
use Rattle.handing.specs.Handing.{round_record, errand_record, requests, entering, entering_full, entering_silent, down_notices, going_down, move_records}
use Rattle.network.specs.Moving.{told_after}
use Rattle.network_demands.specs.Words.{is, told_by}

-- ---- numbers
pub eqb_same : (a : ℕ) → eqb a a ≡ true
eqb_same a = eq-eqb a a refl

pub eqb_swap : (a b : ℕ) → eqb a b ≡ eqb b a
eqb_swap a b = by_test (eqb a b) refl
  where
    by_test : (t : Bool) → eqb a b ≡ t → t ≡ eqb b a
    by_test true e = sym (eq-eqb b a (sym (eqb-true a b e)))
    by_test false e = sym (ne_eqb b a (λ f. eqb-false a b e (sym f)))

-- ---- records for each of some ids
-- where no such record passes the test, none of them does
pub none_of_each : (p : Record → Bool) (f : ℕ → Record) → ((x : ℕ) → p (f x) ≡ false) → (l : List ℕ) → any p (map f l) ≡ false
unfolding any
none_of_each p f h [] = refl
none_of_each p f h (x ∷ l) = rw (h x) (none_of_each p f h l)

-- where each is tested alike and there is one, some passes the test exactly if each does
pub each_alike : (p : Record → Bool) (f : ℕ → Record) (b : Bool) → ((x : ℕ) → p (f x) ≡ b) → (l : List ℕ) → 0 < length l → any p (map f l) ≡ b
unfolding any
each_alike p f true h [] some = absurd (omega arith)
each_alike p f true h (x ∷ l) some = rw (h x) refl
each_alike p f false h l some = none_of_each p f h l

-- where no such record is of kind 6, they tell nothing
each_tells_nothing : (n : Network) (f : ℕ → Record) →
    ((x : ℕ) → eqb 6 (f x).kind ≡ false) → (l : List ℕ) (mode : ℕ) → told_by n (map f l) mode ≡ mode
unfolding told_by
each_tells_nothing n f h [] mode = refl
each_tells_nothing n f h (x ∷ l) mode =
    ap (λ (b : Bool). told_by n (map f l) (cond (b && eqb n.handle (f x).target) (f x).argument mode)) (h x) ∙ each_tells_nothing n f h l mode

pub tells_append : (n : Network) (l m : List Record) (mode : ℕ) → told_by n (l ++ m) mode ≡ told_by n m (told_by n l mode)
unfolding told_by
tells_append n [] m mode = refl
tells_append n (r ∷ l) m mode = tells_append n l m _

-- a test of the target is passed where one of the ids is it
pub names_each : (p : Record → Bool) (f : ℕ → Record) (b : Bool) (c : ℕ) → ((x : ℕ) → p (f x) ≡ b && eqb c x) →
    (l : List ℕ) → any p (map f l) ≡ b && member c l
unfolding any
names_each p f b c e [] = sym (and-false b)
names_each p f b c e (x ∷ l) = rw (e x, names_each p f b c e l) (by_test b (eqb_swap c x))
  where
    by_test : (b : Bool) → eqb c x ≡ eqb x c → (b && eqb c x) || (b && member c l) ≡ b && (eqb x c || member c l)
    by_test true q = rw q refl
    by_test false q = refl

-- ---- what a test says
-- what a test says of the records of a move: of the requests of an ask, of a PDU mode for each, and of 6, 7 and 8 with the handle
pub record Verdict : Type 0 where
  pub asks : Ask → Bool
  pub pdus : PduMode → Bool
  pub tells : Mode → Bool
  pub notes : Notice → Bool
  pub passed : Bool

-- so some record of a move passes the test
abbrev pub given : Verdict → Bool → Step → Mode → Move → Bool
given x partial step told Stay = false
given x partial step told AskAgain = x.asks (asks_for step)
given x partial step told (Count next) = false
given x partial step told EnterFull = x.pdus PduMode.Online || (x.tells Mode.Full || x.notes Notice.Full)
given x partial step told EnterSilent = x.pdus PduMode.TxOffline || (x.tells Mode.Silent || x.notes Notice.Silent)
given x partial step told Pass = x.passed
given x partial step told Wait = x.pdus PduMode.TxOffline
given x partial step told GoDown = (x.notes Notice.No || by_mode told false false (x.tells Mode.Silent)) || x.asks (asks_for (first_down partial))
given x partial step told EnterNoCommunication = x.tells Mode.No
given x partial step told (Enter next) = x.asks (asks_for next)

module _ (n : Network) (p : Record → Bool) where
  -- that is what the test says
  pub record Fair (x : Verdict) : Type 0 where
    pub asks : (ask : Ask) → any p (requests ask n) ≡ x.asks ask
    pub pdus : (pdu : PduMode) → any p (map (round_record (Round.Pdu pdu)) (controllers_of n)) ≡ x.pdus pdu
    pub tells : (mode : Mode) → p (tells n.handle mode) ≡ x.tells mode
    pub notes : (notice : Notice) → p (notes n.handle notice) ≡ x.notes notice
    pub passed : p (reports n.handle EventStatus.Passed) ≡ x.passed

  module _ (x : Verdict) (f : Fair x) where
    entering_given : (pdu : PduMode) (mode : Mode) (notice : Notice) →
        any p (entering n pdu mode notice) ≡ x.pdus pdu || (x.tells mode || x.notes notice)
    unfolding entering any
    entering_given pdu mode notice =
        any_append p (map (round_record (Round.Pdu pdu)) (controllers_of n)) _
        ∙ rw (f.pdus pdu, f.tells mode, f.notes notice) (ap (λ (b : Bool). x.pdus pdu || (x.tells mode || b)) (or-false _))

    notices_given : (told : Mode) → any p (down_notices n.handle told) ≡ x.notes Notice.No || by_mode told false false (x.tells Mode.Silent)
    unfolding down_notices any
    notices_given Mode.No = rw (f.notes Notice.No) refl
    notices_given Mode.Silent = rw (f.notes Notice.No) refl
    notices_given Mode.Full =
        rw (f.notes Notice.No, f.tells Mode.Silent) (ap (λ (b : Bool). x.notes Notice.No || b) (or-false _))

    pub move_given : (step : Step) (told : Mode) (m : Move) → any p (move_records n step told m) ≡ given x n.partial step told m
    unfolding move_records entering_full entering_silent going_down any
    move_given step told Stay = refl
    move_given step told AskAgain = f.asks (asks_for step)
    move_given step told (Count next) = refl
    move_given step told EnterFull = entering_given PduMode.Online Mode.Full Notice.Full
    move_given step told EnterSilent = entering_given PduMode.TxOffline Mode.Silent Notice.Silent
    move_given step told Pass = or-false _ ∙ f.passed
    move_given step told Wait = f.pdus PduMode.TxOffline
    move_given step told GoDown =
        any_append p (down_notices n.handle told) _ ∙ rw (notices_given told, f.asks (asks_for (first_down n.partial))) refl
    move_given step told EnterNoCommunication = or-false _ ∙ f.tells Mode.No
    move_given step told (Enter next) = f.asks (asks_for next)

-- a test that no request passes, by their kinds
pub requests_none : (n : Network) (p : Record → Bool) → ((id : ℕ) (mode : ControllerMode) → p (controller_mode id mode) ≡ false) →
    ((id : ℕ) (mode : TransceiverMode) → p (transceiver_mode id mode) ≡ false) → ((id : ℕ) → p (clear_wake id) ≡ false) →
    ((id : ℕ) → p (check_wake id) ≡ false) → (ask : Ask) → any p (requests ask n) ≡ false
unfolding requests any
requests_none n p a b c d Ask.Nothing = refl
requests_none n p a b c d (Ask.Controllers mode) = none_of_each p (round_record (Round.Request mode)) (λ id. a id mode) (controllers_of n)
requests_none n p a b c d (Ask.Transceiver mode) = none_of_each p (errand_record (Errand.Mode mode)) (λ id. b id mode) (listed n.transceiver)
requests_none n p a b c d Ask.ClearWake = none_of_each p (errand_record Errand.Clear) c (listed n.transceiver)
requests_none n p a b c d Ask.CheckWake = none_of_each p (errand_record Errand.Check) d (listed n.transceiver)

-- what is false in any case
pub nothing_lowered : (told : Mode) → by_mode told false false false ≡ false
nothing_lowered Mode.No = refl
nothing_lowered Mode.Silent = refl
nothing_lowered Mode.Full = refl

-- ---- tests that no request passes
abbrev pub of_notices : (PduMode → Bool) → (Mode → Bool) → (Notice → Bool) → Bool → Verdict
of_notices pdus tells notes passed = record { asks = λ ask. false; pdus = pdus; tells = tells; notes = notes; passed = passed }

-- by what passes where full is entered, where silent is entered, with the all-clear, where the wait begins, where the network goes down and where it
-- enters no communication; of all other moves nothing does
abbrev pub hands_by : Bool → Bool → Bool → Bool → Bool → Bool → Move → Bool
hands_by full silent passed waits down ended Stay = false
hands_by full silent passed waits down ended AskAgain = false
hands_by full silent passed waits down ended (Count next) = false
hands_by full silent passed waits down ended EnterFull = full
hands_by full silent passed waits down ended EnterSilent = silent
hands_by full silent passed waits down ended Pass = passed
hands_by full silent passed waits down ended Wait = waits
hands_by full silent passed waits down ended GoDown = down
hands_by full silent passed waits down ended EnterNoCommunication = ended
hands_by full silent passed waits down ended (Enter next) = false

-- each of these six moves by itself
abbrev pub is_enter_full : Move → Bool
is_enter_full = hands_by true false false false false false

abbrev pub is_enter_silent : Move → Bool
is_enter_silent = hands_by false true false false false false

abbrev pub is_pass : Move → Bool
is_pass = hands_by false false true false false false

abbrev pub is_wait : Move → Bool
is_wait = hands_by false false false true false false

abbrev pub is_go_down : Move → Bool
is_go_down = hands_by false false false false true false

abbrev pub is_end : Move → Bool
is_end = hands_by false false false false false true

-- two such tables, taken together move by move
pub both_by : (op : Bool → Bool → Bool) → op false false ≡ false → (a b c d e f a' b' c' d' e' f' : Bool) (m : Move)
    → op (hands_by a b c d e f m) (hands_by a' b' c' d' e' f' m) ≡ hands_by (op a a') (op b b') (op c c') (op d d') (op e e') (op f f') m
both_by op z a b c d e f a' b' c' d' e' f' Stay = z
both_by op z a b c d e f a' b' c' d' e' f' AskAgain = z
both_by op z a b c d e f a' b' c' d' e' f' (Count next) = z
both_by op z a b c d e f a' b' c' d' e' f' EnterFull = refl
both_by op z a b c d e f a' b' c' d' e' f' EnterSilent = refl
both_by op z a b c d e f a' b' c' d' e' f' Pass = refl
both_by op z a b c d e f a' b' c' d' e' f' Wait = refl
both_by op z a b c d e f a' b' c' d' e' f' GoDown = refl
both_by op z a b c d e f a' b' c' d' e' f' EnterNoCommunication = refl
both_by op z a b c d e f a' b' c' d' e' f' (Enter next) = z

pub none_by : (m : Move) → hands_by false false false false false false m ≡ false
none_by m = sym (both_by (λ a b. false) refl false false false false false false false false false false false false m)

notices_by : (pdus : PduMode → Bool) (tells : Mode → Bool) (notes : Notice → Bool) (passed partial : Bool) (step : Step) (told : Mode) (m : Move)
    → given (of_notices pdus tells notes passed) partial step told m
    ≡ hands_by (pdus PduMode.Online || (tells Mode.Full || notes Notice.Full)) (pdus PduMode.TxOffline || (tells Mode.Silent || notes Notice.Silent))
    passed (pdus PduMode.TxOffline) (notes Notice.No || by_mode told false false (tells Mode.Silent)) (tells Mode.No) m
notices_by pdus tells notes passed partial step told Stay = refl
notices_by pdus tells notes passed partial step told AskAgain = refl
notices_by pdus tells notes passed partial step told (Count next) = refl
notices_by pdus tells notes passed partial step told EnterFull = refl
notices_by pdus tells notes passed partial step told EnterSilent = refl
notices_by pdus tells notes passed partial step told Pass = refl
notices_by pdus tells notes passed partial step told Wait = refl
notices_by pdus tells notes passed partial step told GoDown = or-false _
notices_by pdus tells notes passed partial step told EnterNoCommunication = refl
notices_by pdus tells notes passed partial step told (Enter next) = refl

module _ (n : Network) where
  -- ---- what is told
  requests_tell_nothing : (ask : Ask) (mode : ℕ) → told_by n (requests ask n) mode ≡ mode
  unfolding requests told_by
  requests_tell_nothing Ask.Nothing mode = refl
  requests_tell_nothing (Ask.Controllers asked) mode = each_tells_nothing n (round_record (Round.Request asked)) (λ x. refl) (controllers_of n) mode
  requests_tell_nothing (Ask.Transceiver asked) mode =
      each_tells_nothing n (errand_record (Errand.Mode asked)) (λ x. refl) (listed n.transceiver) mode
  requests_tell_nothing Ask.ClearWake mode = each_tells_nothing n (errand_record Errand.Clear) (λ x. refl) (listed n.transceiver) mode
  requests_tell_nothing Ask.CheckWake mode = each_tells_nothing n (errand_record Errand.Check) (λ x. refl) (listed n.transceiver) mode

  entering_tells : (pdu : PduMode) (mode : Mode) (notice : Notice) (before : ℕ) → told_by n (entering n pdu mode notice) before ≡ mode_number mode
  unfolding entering told_by
  entering_tells pdu mode notice before =
      tells_append n (map (round_record (Round.Pdu pdu)) (controllers_of n)) _ before ∙ rw (eqb_same n.handle) refl

  notices_tell : (told : Mode) → told_by n (down_notices n.handle told) (mode_number told) ≡ mode_number (told_after GoDown told)
  unfolding down_notices told_by
  notices_tell Mode.No = refl
  notices_tell Mode.Silent = refl
  notices_tell Mode.Full = rw (eqb_same n.handle) refl

  -- the mode last told by the records of a move is the one that the network's record has after it
  pub move_tells : (step : Step) (told : Mode) (m : Move) → told_by n (move_records n step told m) (mode_number told) ≡ mode_number (told_after m told)
  unfolding move_records entering_full entering_silent going_down told_by
  move_tells step told Stay = refl
  move_tells step told AskAgain = requests_tell_nothing (asks_for step) (mode_number told)
  move_tells step told (Count next) = refl
  move_tells step told EnterFull = entering_tells PduMode.Online Mode.Full Notice.Full (mode_number told)
  move_tells step told EnterSilent = entering_tells PduMode.TxOffline Mode.Silent Notice.Silent (mode_number told)
  move_tells step told Pass = refl
  move_tells step told Wait = each_tells_nothing n (round_record (Round.Pdu PduMode.TxOffline)) (λ x. refl) (controllers_of n) (mode_number told)
  move_tells step told GoDown =
      tells_append n (down_notices n.handle told) _ (mode_number told)
      ∙ requests_tell_nothing (asks_for (first_down n.partial)) (told_by n (down_notices n.handle told) (mode_number told)) ∙ notices_tell told
  move_tells step told EnterNoCommunication = rw (eqb_same n.handle) refl
  move_tells step told (Enter next) = requests_tell_nothing (asks_for next) (mode_number told)

  -- ---- kind 3
  -- a test that only records of kind 3 with an argument pass
  pdus_by : (p : Record → Bool) (argument : ℕ) → ((ask : Ask) → any p (requests ask n) ≡ false)
      → ((pdu : PduMode) → any p (map (round_record (Round.Pdu pdu)) (controllers_of n)) ≡ eqb argument (pdu_number pdu))
      → ((mode : Mode) → p (tells n.handle mode) ≡ false) → ((notice : Notice) → p (notes n.handle notice) ≡ false)
      → p (reports n.handle EventStatus.Passed) ≡ false → (step : Step) (told : Mode) (m : Move)
      → any p (move_records n step told m) ≡ hands_by (eqb argument 0) (eqb argument 1) false (eqb argument 1) false false m
  pdus_by p argument asks pdus tells notes passed step told m =
      let says : PduMode → Bool = λ pdu. eqb argument (pdu_number pdu) in
      move_given n p (of_notices says (λ mode. false) (λ notice. false) false)
      (record { asks = asks; pdus = pdus; tells = tells; notes = notes; passed = passed }) step told m
      ∙ notices_by says (λ mode. false) (λ notice. false) false n.partial step told m
      ∙ rw (nothing_lowered told, or-false (eqb argument 0), or-false (eqb argument 1)) refl

  -- for a controller of the network
  pub move_pdus : (c argument : ℕ) → member c (controllers_of n) ≡ true → (step : Step) (told : Mode) (m : Move)
      → any (is 3 c argument) (move_records n step told m)
      ≡ hands_by (eqb argument 0) (eqb argument 1) false (eqb argument 1) false false m
  move_pdus c argument own =
      pdus_by (is 3 c argument) argument (requests_none n (is 3 c argument) (λ id mode. refl) (λ id mode. refl) (λ id. refl) (λ id. refl))
      (λ pdu. names_each (is 3 c argument) (round_record (Round.Pdu pdu)) (eqb argument (pdu_number pdu)) c (λ x. refl) (controllers_of n)
      ∙ rw own (and-true _)) (λ mode. refl) (λ notice. refl) refl

  -- online goes to it exactly where full is entered
  pub move_goes_online : (c : ℕ) → member c (controllers_of n) ≡ true → (step : Step) (told : Mode) (m : Move)
      → any (is 3 c 0) (move_records n step told m) ≡ is_enter_full m
  move_goes_online c own = move_pdus c 0 own

  -- all of the kind, whatever they say
  abbrev pub pdu_says : Verdict
  pdu_says = of_notices (λ (pdu : PduMode). any (λ (r : Record). eqb 3 r.kind) (map (round_record (Round.Pdu pdu)) (controllers_of n)))
      (λ mode. false) (λ notice. false) false

  pub pdu_given : (step : Step) (told : Mode) (m : Move) →
      any (λ (r : Record). eqb 3 r.kind) (move_records n step told m) ≡ given pdu_says n.partial step told m
  pdu_given = move_given n (λ (r : Record). eqb 3 r.kind) pdu_says (record {
    asks = requests_none n (λ (r : Record). eqb 3 r.kind) (λ id mode. refl) (λ id mode. refl) (λ id. refl) (λ id. refl);
    pdus = λ pdu. refl;
    tells = λ mode. refl;
    notes = λ notice. refl;
    passed = refl;
  })

  -- the moves that hand out TX offline
  offline_moves : (m : Move) → hands_by false true false true false false m ≡ is_enter_silent m || is_wait m
  offline_moves m = sym (both_by ◌||◌ refl false true false false false false false false false true false false m)

  -- TX offline where silent is entered and where the wait begins
  pub move_goes_offline : (c : ℕ) → member c (controllers_of n) ≡ true → (step : Step) (told : Mode) (m : Move)
      → any (is 3 c 1) (move_records n step told m) ≡ is_enter_silent m || is_wait m
  move_goes_offline c own step told m = move_pdus c 1 own step told m ∙ offline_moves m

  -- so some controller does, where the network has one
  pub move_quiets : 0 < length (controllers_of n) → (step : Step) (told : Mode) (m : Move)
      → any (λ (r : Record). eqb 3 r.kind && eqb 1 r.argument) (move_records n step told m) ≡ is_enter_silent m || is_wait m
  move_quiets some step told m =
      let p : Record → Bool = λ r. eqb 3 r.kind && eqb 1 r.argument in
      pdus_by p 1 (requests_none n p (λ id mode. refl) (λ id mode. refl) (λ id. refl) (λ id. refl))
      (λ pdu. each_alike p (round_record (Round.Pdu pdu)) (eqb 1 (pdu_number pdu)) (λ x. refl) (controllers_of n) some)
      (λ mode. refl) (λ notice. refl) refl step told m ∙ offline_moves m

  -- ---- kinds 6 to 8, with the handle
  module _ (kind argument : ℕ) (h : 5 < kind) where
    not_kind : (k : ℕ) → k < 6 → eqb kind k ≡ false
    not_kind k g = ne_eqb kind k (λ e. omega arith)

    abbrev tells_so : Mode → Bool
    tells_so mode = eqb kind 6 && eqb argument (mode_number mode)

    abbrev notes_so : Notice → Bool
    notes_so notice = eqb kind 7 && eqb argument (notice_number notice)

    move_hands : (step : Step) (told : Mode) (m : Move) → any (is kind n.handle argument) (move_records n step told m)
        ≡ hands_by (tells_so Mode.Full || notes_so Notice.Full) (tells_so Mode.Silent || notes_so Notice.Silent) (eqb kind 8 && eqb argument 0) false
        (notes_so Notice.No || by_mode told false false (tells_so Mode.Silent)) (tells_so Mode.No) m
    move_hands step told m =
        let p : Record → Bool = is kind n.handle argument in
        move_given n p (of_notices (λ pdu. false) tells_so notes_so (eqb kind 8 && eqb argument 0)) (record {
          asks = requests_none n p (λ id mode. rw (not_kind 1 (omega arith)) refl) (λ id mode. rw (not_kind 2 (omega arith)) refl)
              (λ id. rw (not_kind 4 (omega arith)) refl) (λ id. rw (not_kind 5 (omega arith)) refl);
          pdus = λ pdu. none_of_each p (round_record (Round.Pdu pdu)) (λ id. rw (not_kind 3 (omega arith)) refl) (controllers_of n);
          tells = λ mode. rw (eqb_same n.handle, and-true (eqb argument (mode_number mode))) refl;
          notes = λ notice. rw (eqb_same n.handle, and-true (eqb argument (notice_number notice))) refl;
          passed = rw (eqb_same n.handle, and-true (eqb argument 0)) refl;
        }) step told m ∙ notices_by (λ pdu. false) tells_so notes_so _ n.partial step told m

  -- 7 no is handed out by the move that goes down, and by no other
  pub move_shuts : (step : Step) (told : Mode) (m : Move) → any (is 7 n.handle 0) (move_records n step told m) ≡ is_go_down m
  move_shuts = move_hands 7 0 (omega arith)

  -- 8 passed is handed out by the move at the ensure time, and by no other
  pub move_clears : (step : Step) (told : Mode) (m : Move) → any (is 8 n.handle 0) (move_records n step told m) ≡ is_pass m
  move_clears step told m = move_hands 8 0 (omega arith) step told m ∙ rw (nothing_lowered told) refl

  -- 6 full is handed out by the move that enters full, and by no other
  pub move_says_full : (step : Step) (told : Mode) (m : Move) → any (is 6 n.handle 2) (move_records n step told m) ≡ is_enter_full m
  move_says_full step told m = move_hands 6 2 (omega arith) step told m ∙ rw (nothing_lowered told) refl

  -- 6 no is handed out by the move that enters no communication, and by no other
  pub move_says_no : (step : Step) (told : Mode) (m : Move) → any (is 6 n.handle 0) (move_records n step told m) ≡ is_end m
  move_says_no step told m = move_hands 6 0 (omega arith) step told m ∙ rw (nothing_lowered told) refl

  -- 7 full is handed out by the move that enters full, 7 silent by the one that enters silent; 7 bus-off and 8 prefailed by none
  pub move_notes_full : (step : Step) (told : Mode) (m : Move) → any (is 7 n.handle 2) (move_records n step told m) ≡ is_enter_full m
  move_notes_full step told m = move_hands 7 2 (omega arith) step told m ∙ rw (nothing_lowered told) refl

  pub move_notes_silent : (step : Step) (told : Mode) (m : Move) → any (is 7 n.handle 1) (move_records n step told m) ≡ is_enter_silent m
  move_notes_silent step told m = move_hands 7 1 (omega arith) step told m ∙ rw (nothing_lowered told) refl

  pub move_notes_no_bus_off : (step : Step) (told : Mode) (m : Move) → any (is 7 n.handle 3) (move_records n step told m) ≡ false
  move_notes_no_bus_off step told m = move_hands 7 3 (omega arith) step told m ∙ rw (nothing_lowered told) (none_by m)

  pub move_prefails_not : (step : Step) (told : Mode) (m : Move) → any (is 8 n.handle 1) (move_records n step told m) ≡ false
  move_prefails_not step told m = move_hands 8 1 (omega arith) step told m ∙ rw (nothing_lowered told) (none_by m)

  -- 6 silent is handed out without 7 no by the move that enters silent
  pub move_silent_alone : (step : Step) (told : Mode) (m : Move)
      → any (is 6 n.handle 1) (move_records n step told m) && not (any (is 7 n.handle 0) (move_records n step told m)) ≡ is_enter_silent m
  move_silent_alone step told m =
      let lowered = by_mode told false false true in
      rw (move_hands 6 1 (omega arith) step told m, move_shuts step told m)
      (both_by (λ a b. a && not b) refl false true false false lowered false false false false false true false m ∙ rw (and-false lowered) refl)

  -- ---- all kinds
  -- a test that no record of any kind passes
  pub move_hands_none : (p : Record → Bool) → ((id : ℕ) (mode : ControllerMode) → p (controller_mode id mode) ≡ false)
      → ((id : ℕ) (mode : TransceiverMode) → p (transceiver_mode id mode) ≡ false) → ((id : ℕ) (pdu : PduMode) → p (pdu_mode id pdu) ≡ false)
      → ((id : ℕ) → p (clear_wake id) ≡ false) → ((id : ℕ) → p (check_wake id) ≡ false) → ((mode : Mode) → p (tells n.handle mode) ≡ false)
      → ((notice : Notice) → p (notes n.handle notice) ≡ false) → p (reports n.handle EventStatus.Passed) ≡ false
      → (step : Step) (told : Mode) (m : Move) → any p (move_records n step told m) ≡ false
  move_hands_none p controllers transceivers pdus clears checks modes notices passed step told m =
      move_given n p (of_notices (λ pdu. false) (λ mode. false) (λ notice. false) false) (record {
        asks = requests_none n p controllers transceivers clears checks;
        pdus = λ pdu. none_of_each p (round_record (Round.Pdu pdu)) (λ id. pdus id pdu) (controllers_of n);
        tells = modes;
        notes = notices;
        passed = passed;
      }) step told m ∙ notices_by (λ pdu. false) (λ mode. false) (λ notice. false) false n.partial step told m
      ∙ rw (nothing_lowered told) (none_by m)
