-- Which requests a move hands out: those of the step that asks, by what answers them.
use Rattle.lists.proofs.Basics.{ℕ, ◌≡◌, refl, ◌∙◌, map, Bool, true, false, ◌&&◌, or-false, eqb}
use mathlib.Core.Bool.{and-true}
use Rattle.lists.specs.Lists.{any}
use Rattle.records.specs.declared.Record.{Record}
use Rattle.records.specs.declared.ControllerMode.{ControllerMode}
use Rattle.records.specs.declared.Mode.{Mode}
use Rattle.records.specs.Records.{controller_number, transceiver_number}
use Rattle.std.specs.Prelude.{Some}
use Rattle.settings.specs.declared.Network.{Network}
use Rattle.settings.specs.Settings.{controllers_of, listed, member}
use Rattle.steps.specs.declared.Step.{Step}
use Rattle.steps.specs.declared.Ask.{Ask}
use Rattle.steps.specs.declared.Move.{Move}
use Rattle.steps.specs.Steps.{asks_to_start}
use Rattle.handing.specs.declared.Round.{Round}
use Rattle.handing.specs.declared.Errand.{Errand}
use Rattle.handing.specs.Handing.{round_record, errand_record, requests, move_records}
use Rattle.network.specs.declared.Report.{Report}
use Rattle.network.specs.Answers.{awaits}
use Rattle.network_demands.specs.Words.{is}
use Rattle.network_demands.proofs.Handed.{eqb_same, eqb_swap, none_of_each, names_each, Verdict, given, move_given}

-- a test that only requests pass
abbrev pub of_requests : (Ask → Bool) → Verdict
of_requests asks = record { asks = asks; pdus = λ pdu. false; tells = λ mode. false; notes = λ notice. false; passed = false }

-- an ask that awaits started asks to start
pub awaits_started : (ask : Ask) → awaits ask (Report.Controller 1) ≡ asks_to_start ask
awaits_started Ask.Nothing = refl
awaits_started (Ask.Controllers ControllerMode.Stopped) = refl
awaits_started (Ask.Controllers ControllerMode.Started) = refl
awaits_started (Ask.Controllers ControllerMode.Sleep) = refl
awaits_started (Ask.Transceiver mode) = refl
awaits_started Ask.ClearWake = refl
awaits_started Ask.CheckWake = refl

module _ (n : Network) where
  -- a request is of none of the kinds 3, 6, 7 and 8
  request_given : (kind target argument : ℕ) (asks : Ask → Bool) → ((ask : Ask) → any (is kind target argument) (requests ask n) ≡ asks ask)
      → eqb kind 3 ≡ false → eqb kind 6 ≡ false → eqb kind 7 ≡ false → eqb kind 8 ≡ false → (step : Step) (told : Mode) (m : Move)
      → any (is kind target argument) (move_records n step told m) ≡ given (of_requests asks) n.partial step told m
  request_given kind target argument asks same three six seven eight = move_given n (is kind target argument) (of_requests asks) (record {
    asks = same;
    pdus = λ pdu. none_of_each (is kind target argument) (round_record (Round.Pdu pdu)) (λ id. rw three refl) (controllers_of n);
    tells = λ mode. rw six refl;
    notes = λ notice. rw seven refl;
    passed = rw eight refl;
  })

  -- ---- kind 1: a controller is asked for a mode by just the requests for this mode
  module _ (c mode : ℕ) where
    abbrev pub controller_says : Verdict
    controller_says = of_requests (λ (ask : Ask). awaits ask (Report.Controller mode) && member c (controllers_of n))

    controller_asks : (ask : Ask) → any (is 1 c mode) (requests ask n) ≡ awaits ask (Report.Controller mode) && member c (controllers_of n)
    unfolding requests any
    controller_asks Ask.Nothing = refl
    controller_asks (Ask.Controllers asked) =
        names_each (is 1 c mode) (round_record (Round.Request asked)) (eqb (controller_number asked) mode) c
        (λ x. rw (eqb_swap mode (controller_number asked)) refl) (controllers_of n)
    controller_asks (Ask.Transceiver asked) = none_of_each (is 1 c mode) (errand_record (Errand.Mode asked)) (λ id. refl) (listed n.transceiver)
    controller_asks Ask.ClearWake = none_of_each (is 1 c mode) (errand_record Errand.Clear) (λ id. refl) (listed n.transceiver)
    controller_asks Ask.CheckWake = none_of_each (is 1 c mode) (errand_record Errand.Check) (λ id. refl) (listed n.transceiver)

    pub controller_given : (step : Step) (told : Mode) (m : Move) →
        any (is 1 c mode) (move_records n step told m) ≡ given controller_says n.partial step told m
    controller_given = request_given 1 c mode _ controller_asks refl refl refl refl

  -- asked to start are the network's controllers, by just the requests to start
  pub start_asks : (c : ℕ) (ask : Ask) → any (is 1 c 1) (requests ask n) ≡ asks_to_start ask && member c (controllers_of n)
  start_asks c ask = controller_asks c 1 ask ∙ rw (awaits_started ask) refl

  pub start_given : (c : ℕ) → member c (controllers_of n) ≡ true → (step : Step) (told : Mode) (m : Move) →
      any (is 1 c 1) (move_records n step told m) ≡ given (of_requests asks_to_start) n.partial step told m
  start_given c own =
      request_given 1 c 1 asks_to_start (λ ask. start_asks c ask ∙ rw own (and-true _)) refl refl refl refl

  -- ---- kinds 2, 4 and 5: the transceiver is asked by just the requests for what is to be reported
  module _ (t : ℕ) (present : n.transceiver ≡ Some t) where
    -- a request to the transceiver, by the test of its kind and argument
    errand_asks : (p : Record → Bool) (errand : Errand) (b : Bool) → p (errand_record errand t) ≡ b && eqb t t
        → any p (map (errand_record errand) (listed n.transceiver)) ≡ b
    unfolding any
    errand_asks p errand b e = rw present (or-false _ ∙ e ∙ rw (eqb_same t) (and-true b))

    no_round : (kind argument : ℕ) → eqb kind 1 ≡ false → (mode : ControllerMode) →
        any (is kind t argument) (map (round_record (Round.Request mode)) (controllers_of n)) ≡ false
    no_round kind argument e mode = none_of_each (is kind t argument) (round_record (Round.Request mode)) (λ id. rw e refl) (controllers_of n)

    transceiver_asks : (mode : ℕ) (ask : Ask) → any (is 2 t mode) (requests ask n) ≡ awaits ask (Report.Transceiver mode)
    unfolding requests any
    transceiver_asks mode Ask.Nothing = refl
    transceiver_asks mode (Ask.Controllers asked) = no_round 2 mode refl asked
    transceiver_asks mode (Ask.Transceiver asked) =
        errand_asks (is 2 t mode) (Errand.Mode asked) (eqb (transceiver_number asked) mode) (rw (eqb_swap mode (transceiver_number asked)) refl)
    transceiver_asks mode Ask.ClearWake = none_of_each (is 2 t mode) (errand_record Errand.Clear) (λ id. refl) (listed n.transceiver)
    transceiver_asks mode Ask.CheckWake = none_of_each (is 2 t mode) (errand_record Errand.Check) (λ id. refl) (listed n.transceiver)

    clear_asks : (ask : Ask) → any (is 4 t 0) (requests ask n) ≡ awaits ask Report.Cleared
    unfolding requests any
    clear_asks Ask.Nothing = refl
    clear_asks (Ask.Controllers asked) = no_round 4 0 refl asked
    clear_asks (Ask.Transceiver asked) = none_of_each (is 4 t 0) (errand_record (Errand.Mode asked)) (λ id. refl) (listed n.transceiver)
    clear_asks Ask.ClearWake = errand_asks (is 4 t 0) Errand.Clear true refl
    clear_asks Ask.CheckWake = none_of_each (is 4 t 0) (errand_record Errand.Check) (λ id. refl) (listed n.transceiver)

    check_asks : (ask : Ask) → any (is 5 t 0) (requests ask n) ≡ awaits ask Report.Checked
    unfolding requests any
    check_asks Ask.Nothing = refl
    check_asks (Ask.Controllers asked) = no_round 5 0 refl asked
    check_asks (Ask.Transceiver asked) = none_of_each (is 5 t 0) (errand_record (Errand.Mode asked)) (λ id. refl) (listed n.transceiver)
    check_asks Ask.ClearWake = none_of_each (is 5 t 0) (errand_record Errand.Clear) (λ id. refl) (listed n.transceiver)
    check_asks Ask.CheckWake = errand_asks (is 5 t 0) Errand.Check true refl

  -- a request is handed out by just the moves that ask for what it asks; of the four kinds only what answers it differs
  abbrev pub Requested : ℕ → ℕ → ℕ → Report → Type 0
  Requested kind target argument report = (step : Step) (told : Mode) (m : Move) → any (is kind target argument) (move_records n step told m)
      ≡ given (of_requests (λ (ask : Ask). awaits ask report)) n.partial step told m

  pub controller_requested : (c mode : ℕ) → member c (controllers_of n) ≡ true → Requested 1 c mode (Report.Controller mode)
  controller_requested c mode own =
      request_given 1 c mode (λ ask. awaits ask (Report.Controller mode)) (λ ask. controller_asks c mode ask ∙ rw own (and-true _)) refl refl refl refl

  pub transceiver_requested : (t mode : ℕ) → n.transceiver ≡ Some t → Requested 2 t mode (Report.Transceiver mode)
  transceiver_requested t mode present = request_given 2 t mode _ (transceiver_asks t present mode) refl refl refl refl

  pub clear_requested : (t : ℕ) → n.transceiver ≡ Some t → Requested 4 t 0 Report.Cleared
  clear_requested t present = request_given 4 t 0 _ (clear_asks t present) refl refl refl refl

  pub check_requested : (t : ℕ) → n.transceiver ≡ Some t → Requested 5 t 0 Report.Checked
  check_requested t present = request_given 5 t 0 _ (check_asks t present) refl refl refl refl

  -- all of kind 1
  abbrev pub round_says : Verdict
  round_says = of_requests (λ (ask : Ask). any (λ (r : Record). eqb 1 r.kind) (requests ask n))

  pub round_given : (step : Step) (told : Mode) (m : Move) →
      any (λ (r : Record). eqb 1 r.kind) (move_records n step told m) ≡ given round_says n.partial step told m
  round_given = move_given n (λ (r : Record). eqb 1 r.kind) round_says (record {
    asks = λ ask. refl;
    pdus = λ pdu. none_of_each (λ (r : Record). eqb 1 r.kind) (round_record (Round.Pdu pdu)) (λ id. refl) (controllers_of n);
    tells = λ mode. refl;
    notes = λ notice. refl;
    passed = refl;
  })
