-- The promises on ticks, for one network: what a tick hands out, when, and that else only a bus-off and a stall hand out anything.
use Rattle.lists.proofs.Basics.{ℕ, ◌+◌, ◌≤◌, arith, eq-eqb, ◌≡◌, refl, sym, ap, ◌∙◌, [], ◌∷◌, ◌++◌, Bool, true, false, ◌&&◌, cond, false≢true}
use Rattle.lists.proofs.Basics.{true≢false, eqb, leb, ltb, length}
use Rattle.lists.specs.Lists.{any}
use Rattle.records.specs.declared.ControllerMode.{ControllerMode}
use Rattle.records.specs.declared.TransceiverMode.{TransceiverMode}
use Rattle.records.specs.declared.PduMode.{PduMode}
use Rattle.records.specs.declared.Mode.{Mode}
use Rattle.records.specs.declared.Notice.{Notice}
use Rattle.records.specs.declared.Record.{Record}
use Rattle.records.specs.Records.{controller_number, transceiver_number, pdu_number, mode_number, notice_number, handed}
use Rattle.settings.specs.declared.Network.{Network}
use Rattle.settings.specs.Settings.{controllers_of}
use Rattle.settings.specs.Good.{Distinct, InRange}
use Rattle.settings.proofs.Good.{controllers_counted, some_controller}
use Rattle.steps.specs.declared.Move.{Move}
use Rattle.steps.specs.declared.Move.TheVariants.{Stay, AskAgain, Count, EnterFull, EnterSilent, Pass, Wait, GoDown, EnterNoCommunication, Enter}
use Rattle.steps.specs.Steps.{asks_for, is_full_step}
use Rattle.steps.specs.After.{first_down, step_after}
use Rattle.handing.specs.Handing.{requests, down_notices, going_down, move_records, recovery, reset}
use Rattle.handing.proofs.Laws.{length_move}
use Rattle.network.specs.declared.State.{State}
use Rattle.network.specs.Moving.{after_move}
use Rattle.network.specs.Parts.{Sight, a_tick, a_bus_off, a_stall, an_answer}
use Rattle.network_theorems.specs.Kept.{Kept}
use Rattle.network_demands.specs.Words.{Seen, OwnHistory, is, hands, ticked, is_tick, fell, is_bus_off, is_stall, shut, cleared, told, up}
use Rattle.network_demands.specs.Words.{fell_up}
use Rattle.network_demands.specs.Own.{decides, tick_after, tick_hands, state_of, Ran}
use Rattle.network_demands.specs.Promises.{Shutdown, highest, Ticks}
use Rattle.network_demands.proofs.Views.{seen, by_part}
use Rattle.network_demands.proofs.Handed.{eqb_same, requests_none, is_go_down, move_goes_online, move_goes_offline, move_shuts, move_clears}
use Rattle.network_demands.proofs.Handed.{move_says_full, move_notes_full, move_notes_silent, move_notes_no_bus_off, move_prefails_not}
use Rattle.network_demands.proofs.Handed.{move_silent_alone, move_says_no, move_hands_none}
use Rattle.network_demands.proofs.Up.{up_means}
use Rattle.network_demands.proofs.Follows.{state_kept, Follows, follows}
use Rattle.network_demands.proofs.Told.{full_mode_number, told_in_full}
use Rattle.network_demands.proofs.Standing.{StandsIn, stands}
use Rattle.network_demands.proofs.Counted.{silence_settled}
use Rattle.network_demands.proofs.Turns.{full_stays, full_begins, silence_wanted, ends, goes_down_lem, begins, sinks, full_rests}
use Rattle.network_demands.proofs.Checked.{since_full, since_full_tick, checked_tick, checked}
use Rattle.network_demands.proofs.Readied.{done_prepared}
use Rattle.network_demands.proofs.Stops.{in_step_15, done_stopped}
use Rattle.network_demands.proofs.Waits.{wait_begins_lem}

-- ---- what is no tick
-- it hands out nothing but what a bus-off while up or a stall does: a test that none of these three passes is passed by no record of it
apart_ticks : (n : Network) (e : Seen) (h : OwnHistory) → ticked e ≡ false
    → ((p : Record → Bool) → p (handed 8 n.handle 1) ≡ false → p (handed 6 n.handle 1) ≡ false → p (handed 7 n.handle 3) ≡ false
    → any p e.records ≡ false) → hands 7 n.handle 3 e ≡ fell_up n e h → hands 8 n.handle 1 e ≡ fell_up n e h
    → (fell e ≡ false → is_stall e.sight ≡ false → e.records ≡ []) → Ticks n e h
apart_ticks n e h t none notes prefails nothing =
    let full : hands 6 n.handle 2 e ≡ false = none (is 6 n.handle 2) refl refl refl in
    let silent : hands 7 n.handle 1 e ≡ false = none (is 7 n.handle 1) refl refl refl in
    let down : shut n e ≡ false = none (is 7 n.handle 0) refl refl refl in
    let clear : cleared n e ≡ false = none (is 8 n.handle 0) refl refl refl in
    record {
      stays_full = λ z. absurd (false≢true (sym t ∙ z));
      says_full = λ z. absurd (false≢true (sym full ∙ z));
      says_no = λ z. absurd (false≢true (sym (none (is 6 n.handle 0) refl refl refl) ∙ z));
      shuts = rw (down, t) refl;
      shuts_first = λ z. absurd (false≢true (sym down ∙ z));
      passes = rw (clear, t) refl;
      online = λ c m. none (is 3 c 0) refl refl refl ∙ sym full;
      notes_full = none (is 7 n.handle 2) refl refl refl ∙ sym full;
      notes_silent = rw (silent, t) refl;
      enters_silent = λ z. absurd (false≢true (sym silent ∙ z));
      offline = λ c m. none (is 3 c 1) refl refl refl ∙ rw (silent, t) refl;
      notes_bus_off = notes;
      prefails = prefails;
      stays_down = λ z. record {
        not_started = λ c. none (is 1 c 1) refl refl refl;
        no_traffic = none (λ (r : Record). eqb 3 r.kind) refl refl refl;
        not_full = full;
      };
      full_asks_nothing = λ z. none (λ (r : Record). eqb 1 r.kind) refl refl refl;
      starts = λ c z. absurd (false≢true (sym (none (is 1 c 1) refl refl refl) ∙ z));
      known = none (λ (r : Record). ltb (highest r.kind) r.argument) refl refl refl;
      few = λ z. absurd (false≢true (sym t ∙ z));
      none = λ _. nothing;
    }

-- nothing at all
quiet_ticks : (n : Network) (sight : Sight) (number : ℕ) (h : OwnHistory) → is_tick sight ≡ false → is_bus_off sight && up n h ≡ false
    → Ticks n (seen sight number []) h
unfolding any
quiet_ticks n sight number h t f = apart_ticks n (seen sight number []) h t (λ p a b c. refl) (sym f) (sym f) (λ _ _. refl)

-- a bus-off while up
fall_ticks : (n : Network) (h : OwnHistory) → up n h ≡ true → Ticks n (seen a_bus_off 0 (recovery n.handle)) h
unfolding any recovery
fall_ticks n h u =
    apart_ticks n (seen a_bus_off 0 (recovery n.handle)) h refl (λ p a b c. rw (a, b, c) refl)
    (rw (eqb_same n.handle) (sym u)) (rw (eqb_same n.handle) (sym u)) (λ z _. absurd (true≢false z))

-- a stall that is taken
reset_ticks : (n : Network) (h : OwnHistory) → Ticks n (seen a_stall 0 (reset n.handle)) h
unfolding any reset
reset_ticks n h =
    apart_ticks n (seen a_stall 0 (reset n.handle)) h refl (λ p a b c. rw b refl) refl refl (λ _ z. absurd (true≢false z))

-- ---- a tick
module _ (n : Network) (g : InRange n) (f : Distinct (controllers_of n)) (h : OwnHistory) (r : Ran n h) where
  abbrev s : State
  s = state_of n h

  abbrev m : Move
  m = decides n s

  abbrev e : Seen
  e = seen a_tick 0 (tick_hands n s)

  kept : Kept n s
  kept = state_kept n g h r

  standing : StandsIn n s.step h
  standing = stands n g h r

  follow : Follows n s h
  follow = follows n h r

  was_full : eqb 2 (told n h) ≡ is_full_step s.step
  was_full = told_in_full n g h r

  -- the notices of a shutdown, by the mode last told
  shutdown : (move : Move) → is_go_down move ≡ true → Shutdown n (seen a_tick 0 (move_records n s.step s.told move)) h
  unfolding move_records going_down down_notices
  shutdown Stay f = absurd (false≢true f)
  shutdown AskAgain f = absurd (false≢true f)
  shutdown (Count next) f = absurd (false≢true f)
  shutdown EnterFull f = absurd (false≢true f)
  shutdown EnterSilent f = absurd (false≢true f)
  shutdown Pass f = absurd (false≢true f)
  shutdown Wait f = absurd (false≢true f)
  shutdown GoDown f =
      let rest = requests (asks_for (first_down n.partial)) n in
      record {
        rest = rest;
        records = rw (← follow.told) (by_mode_lem s.told);
        no_more = requests_none n (λ (x : Record). leb 6 x.kind) (λ id mode. refl) (λ id mode. refl) (λ id. refl) (λ id. refl)
            (asks_for (first_down n.partial));
      }
    where
      by_mode_lem : (mode : Mode) → going_down n mode ≡ handed 7 n.handle 0
          ∷ (cond (eqb 2 (mode_number mode)) (handed 6 n.handle 1 ∷ []) [] ++ requests (asks_for (first_down n.partial)) n)
      by_mode_lem Mode.No = refl
      by_mode_lem Mode.Silent = refl
      by_mode_lem Mode.Full = refl
  shutdown EnterNoCommunication f = absurd (false≢true f)
  shutdown (Enter next) f = absurd (false≢true f)

  -- a tick hands out at most two records more than the network has controllers
  few_records : length (tick_hands n s) ≤ n.count + 2
  few_records =
      omega (arith, controllers_counted n g, some_controller n g, length_move n s.step s.told m)

  -- each has an argument of its kind
  known_records : any (λ (x : Record). ltb (highest x.kind) x.argument) (tick_hands n s) ≡ false
  known_records = move_hands_none n (λ (x : Record). ltb (highest x.kind) x.argument) (λ id. controllers) (λ id. transceivers) (λ id. pdus)
      (λ id. refl) (λ id. refl) modes notices refl s.step s.told m
    where
      controllers : (mode : ControllerMode) → ltb 2 (controller_number mode) ≡ false
      controllers ControllerMode.Stopped = refl
      controllers ControllerMode.Started = refl
      controllers ControllerMode.Sleep = refl

      transceivers : (mode : TransceiverMode) → ltb 1 (transceiver_number mode) ≡ false
      transceivers TransceiverMode.Normal = refl
      transceivers TransceiverMode.Standby = refl

      pdus : (pdu : PduMode) → ltb 1 (pdu_number pdu) ≡ false
      pdus PduMode.Online = refl
      pdus PduMode.TxOffline = refl

      modes : (mode : Mode) → ltb 2 (mode_number mode) ≡ false
      modes Mode.No = refl
      modes Mode.Silent = refl
      modes Mode.Full = refl

      notices : (notice : Notice) → ltb 3 (notice_number notice) ≡ false
      notices Notice.No = refl
      notices Notice.Silent = refl
      notices Notice.Full = refl
      notices Notice.BusOff = refl

  -- the record after the tick tells full in just the full steps
  module _ (now : Ran n (e ∷ h)) (now_full : eqb 2 (told n (e ∷ h)) ≡ is_full_step (step_after m s.step n.partial)) where
    tick_ticks : Ticks n e h
    tick_ticks = record {
      stays_full = λ _ t.
          now_full ∙ full_stays n s standing.suited kept (sym was_full ∙ eq-eqb 2 (told n h) (sym t)) ∙ rw follow.wanted refl;
      says_full = λ f.
          let x = full_begins n s standing.suited kept (sym (move_says_full n s.step s.told m) ∙ f) in
          record { tick = refl; news = was_full ∙ x.0; called = sym follow.wanted ∙ x.1 };
      says_no = λ f. standing.rested ∙ ends n s standing.suited kept (sym (move_says_no n s.step s.told m) ∙ f);
      shuts = move_shuts n s.step s.told m ∙ goes_down_lem n s standing.suited kept ∙ rw (follow.wanted, ← standing.on) refl;
      shuts_first = λ f. shutdown m (sym (move_shuts n s.step s.told m) ∙ f);
      passes = move_clears n s.step s.told m ∙ (checked_tick n s (since_full n h) g kept standing.suited (checked n g h r)).1
          ∙ rw (now_full, since_full_tick n h e refl, move_says_full n s.step s.told m) refl;
      online = λ c own. move_goes_online n c own s.step s.told m ∙ sym (move_says_full n s.step s.told m);
      notes_full = move_notes_full n s.step s.told m ∙ sym (move_says_full n s.step s.told m);
      notes_silent = move_notes_silent n s.step s.told m ∙ sym (move_silent_alone n s.step s.told m);
      enters_silent = λ z.
          let silent = sym (move_notes_silent n s.step s.told m) ∙ z in
          record {
            called = sym follow.wanted ∙ silence_wanted n s standing.suited kept silent;
            settled = silence_settled n g h r silent;
          };
      offline = λ c own. move_goes_offline n c own s.step s.told m
          ∙ rw (move_notes_silent n s.step s.told m, ← wait_begins_lem n g h r f now) refl;
      notes_bus_off = move_notes_no_bus_off n s.step s.told m;
      prefails = move_prefails_not n s.step s.told m;
      stays_down = λ f. sinks n s standing.suited kept (sym standing.rested ∙ f);
      full_asks_nothing = λ f. full_rests n s standing.suited kept (sym now_full ∙ eq-eqb 2 (told n (e ∷ h)) (sym f));
      starts = λ c z.
          let x = begins n s standing.suited kept c z in
          record {
            tick = refl;
            while_on = standing.on ∙ x.while_on;
            called = ap (eqb 0) (sym follow.wanted) ∙ x.called;
            prepared = λ a.
                let first = x.first (sym (standing.begun c x.own) ∙ a) in
                done_prepared n g h r first.0 first.1;
            stopped = λ stall a.
                let step = in_step_15 n g f h r stall c x.own a in
                done_stopped n g f h r step (x.again step);
          };
      known = known_records;
      few = λ _. few_records;
      none = λ t f _. absurd (true≢false t);
    }

-- ---- the promise
pub ticks : (n : Network) → InRange n → Distinct (controllers_of n) → (e : Seen) (h : OwnHistory) → Ran n (e ∷ h) → Ticks n e h
unfolding Ran state_of after_move
ticks n g f e h r =
    let stands = up_means n h r.1 in
    by_part n (state_of n h) (λ e t. Kept n t → mode_number t.told ≡ told n (e ∷ h) → Ran n (e ∷ h) → Ticks n e h) (record {
      plain = λ sight number mode reported p _ _ _. quiet_ticks n sight number h p.tick (rw p.bus_off refl);
      hears = λ c mode ok m l t _ _ _. quiet_ticks n (an_answer c mode ok) 0 h refl refl;
      recovers = λ u _ _ _. fall_ticks n h (stands ∙ u);
      restarts = λ u a _ _ _. quiet_ticks n a_bus_off 0 h refl (stands ∙ u);
      not_taken = λ u a _ _ _. quiet_ticks n a_bus_off 0x22 h refl (stands ∙ u);
      resets = λ u _ _ _. reset_ticks n h;
      ticks = λ k t now. tick_ticks n g f h r.1 now (ap (eqb 2) (sym t) ∙ full_mode_number (tick_after n (state_of n h)).told ∙ k.told);
    }) e r.0 (state_kept n g (e ∷ h) r) (follows n (e ∷ h) r).told r
