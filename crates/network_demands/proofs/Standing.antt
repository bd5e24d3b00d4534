-- Where a network stands, by its history: what was told, handed out and wanted says in which group of steps it is, and what it waits for.
use Rattle.lists.proofs.Basics.{ℕ, ◌≡◌, refl, sym, ap, ◌∙◌, List, [], ◌∷◌, Bool, true, false, cond, ◌&&◌, ◌||◌, or-true, eqb}
use Rattle.lists.specs.Lists.{any}
use Rattle.lists.proofs.Any.{and_both}
use Rattle.records.specs.declared.Mode.{Mode}
use Rattle.records.specs.declared.Record.{Record}
use Rattle.records.specs.Records.{mode_number}
use Rattle.std.specs.Prelude.{Option, None, Some}
use Rattle.settings.specs.declared.Network.{Network}
use Rattle.settings.specs.Settings.{controllers_of, member}
use Rattle.settings.specs.Good.{InRange}
use Rattle.steps.specs.declared.Step.{Step}
use Rattle.steps.specs.declared.Ask.{Ask}
use Rattle.steps.specs.declared.Outfit.{Outfit}
use Rattle.steps.specs.declared.Move.{Move}
use Rattle.steps.specs.Steps.{phase_of, asks_for, is_on, is_up, asks_to_start}
use Rattle.steps.specs.After.{first_down, step_after}
use Rattle.handing.specs.Handing.{move_records, recovery, reset}
use Rattle.network.specs.declared.Report.{Report}
use Rattle.network.specs.declared.State.{State}
use Rattle.network.specs.State.{started}
use Rattle.network.specs.Rules.{outfit_of}
use Rattle.network.specs.Moving.{asks_after, after_move}
use Rattle.network.specs.Answers.{awaits, takes_report}
use Rattle.network.specs.BusOff.{made_anew, after_hit}
use Rattle.network.specs.Parts.{Sight, a_tick, a_bus_off, a_stall}
use Rattle.network_theorems.specs.Kept.{Kept}
use Rattle.network_theorems.proofs.Moves.{full_quiet}
use Rattle.network_demands.specs.Words.{hands, Seen, OwnHistory, since, is_tick, shut, wanted, rested, called_up, on, awaited, asked_to_start}
use Rattle.network_demands.specs.Own.{finished, decides, reaches, played, state_of, Fits, Ran}
use Rattle.network_demands.proofs.Views.{either_way, seen, by_part}
use Rattle.network_demands.proofs.Handed.{is_go_down, is_end, move_shuts, move_says_no, given, nothing_lowered}
use Rattle.network_demands.proofs.Up.{any_since}
use Rattle.network_demands.proofs.Follows.{state_kept, wanted_follows}
use Rattle.network_demands.proofs.Arrows.{suits, own_outfit, rested_phase, has_rested, has_begun, up_on, up_rested, first_down_lem, ByArrow}
use Rattle.network_demands.proofs.Arrows.{by_tick_arrow}
use Rattle.network_demands.proofs.Given.{of_requests, Requested, start_given}

-- ---- where it stands
pub record StandsIn (n : Network) (step : Step) (h : OwnHistory) : Type 0 where
  pub rested : rested n h ≡ has_rested step
  pub on : on n h ≡ is_on step
  pub begun : (c : ℕ) → member c (controllers_of n) ≡ true → asked_to_start c (since (shut n) h) ≡ has_begun step
  pub suited : suits (own_outfit n) step ≡ true

-- ---- the first down step
-- with partial networking the outfit has all that is asked
first_suits : (n : Network) → InRange n → suits (own_outfit n) (first_down n.partial) ≡ true
first_suits n g = by_fit_lem n.transceiver n.partial g.partial
  where
    by_fit_lem : (t : Option ℕ) (partial : Bool) → (partial ≡ true → t ≡ None → ⊥)
        → suits (outfit_of t partial) (first_down partial) ≡ true
    by_fit_lem None true f = absurd (f refl refl)
    by_fit_lem None false f = refl
    by_fit_lem (Some id) true f = refl
    by_fit_lem (Some id) false f = refl

-- it is in no group
down_groups : (b : Bool) → (has_rested (first_down b) ≡ false) × (is_on (first_down b) ≡ false) × (has_begun (first_down b) ≡ false)
down_groups b = let d = first_down_lem b in rw (d.falls, d.starts_not) (refl, refl, refl)

-- ---- ticks
-- what a move makes of the groups of steps, wanted being what is wanted
record Carries (n : Network) (step : Step) (wanted : Mode) (m : Move) : Type 0 where
  rested : cond (is_go_down m) false (is_end m || has_rested step) ≡ has_rested (step_after m step n.partial)
  on : cond (is_go_down m) false (cond (is_end m) false ((has_rested step && eqb 2 (mode_number wanted)) || is_on step))
      ≡ is_on (step_after m step n.partial)
  begun : (told : Mode) → cond (is_go_down m) false (given (of_requests asks_to_start) n.partial step told m || has_begun step)
      ≡ has_begun (step_after m step n.partial)
  suited : suits (own_outfit n) (step_after m step n.partial) ≡ true

-- what was so is so once more
once_more : (a b : Bool) → a || (b || a) ≡ b || a
once_more true b = sym (or-true b)
once_more false b = refl

own_part : (a b : Bool) → (a && b) || a ≡ a
own_part true b = or-true b
own_part false b = refl

carries : (n : Network) → InRange n → (done reached : Bool) → ByArrow done reached (own_outfit n) (Carries n)
carries n g done reached = record {
  rests = λ wanted w. record { rested = refl; on = rw w refl; begun = λ told. refl; suited = refl };
  called = λ u. record { rested = refl; on = refl; begun = λ told. refl; suited = u };
  called_bare = λ u. record { rested = refl; on = refl; begun = λ told. refl; suited = refl };
  climbs = λ d. record { rested = refl; on = refl; begun = λ told. refl; suited = refl };
  begins = λ d. record { rested = refl; on = refl; begun = λ told. refl; suited = refl };
  starts = λ d. record { rested = refl; on = refl; begun = λ told. refl; suited = refl };
  asks_again = λ step wanted a _. record {
    rested = refl;
    on = rw a.rested (own_part (is_on step) (eqb 2 (mode_number wanted)));
    begun = λ told. once_more (asks_to_start (asks_for step)) (is_up step);
    suited = a.suited;
  };
  checks = λ t r. record { rested = refl; on = refl; begun = λ told. refl; suited = refl };
  passes = λ t r. record { rested = refl; on = refl; begun = λ told. refl; suited = refl };
  stays_full = record { rested = refl; on = refl; begun = λ told. refl; suited = refl };
  stays_silent = record { rested = refl; on = refl; begun = λ told. refl; suited = refl };
  waits = λ wanted w d. record { rested = refl; on = or-true (eqb 2 (mode_number wanted)); begun = λ told. refl; suited = refl };
  waits_on = λ t wanted w r. record { rested = refl; on = or-true (eqb 2 (mode_number wanted)); begun = λ told. refl; suited = refl };
  resumes = λ wanted w d. record { rested = refl; on = or-true (eqb 2 (mode_number wanted)); begun = λ told. refl; suited = refl };
  fills = λ step q f. record {
    rested = up_rested (phase_of step) q;
    on = rw (up_rested (phase_of step) q) refl;
    begun = λ told. rw q refl;
    suited = refl;
  };
  silences = λ step q. record {
    rested = up_rested (phase_of step) q;
    on = rw (up_rested (phase_of step) q) (up_on (phase_of step) q);
    begun = λ told. rw q refl;
    suited = refl;
  };
  goes_down_lem = λ step o. let d = down_groups n.partial in
      record { rested = sym d.0; on = sym d.1; begun = λ told. sym d.2; suited = first_suits n g };
  sinks = λ step next wanted d e u. record {
    rested = ap rested_phase d.falls ∙ sym (ap rested_phase e.falls);
    on = rw (d.falls, e.falls) refl;
    begun = λ told. rw (d.falls, e.falls, d.starts_not, e.starts_not) refl;
    suited = u;
  };
  ends = λ step wanted d. record {
    rested = refl;
    on = refl;
    begun = λ told. rw (d.falls, d.starts_not) refl;
    suited = refl;
  };
}

-- the second of two that hold
and_right : (a b : Bool) → a && b ≡ true → b ≡ true
and_right a b e = (and_both a b e).1

-- ---- all that is seen
-- at rest and called up, after a move
both_on : (a b r w c : Bool) → cond a false (b || r) && cond b false (w || c) ≡ cond a false (cond b false ((r && w) || (r && c)))
both_on true b r w c = refl
both_on false true r w c = refl
both_on false false true w c = refl
both_on false false false w c = refl

module _ (n : Network) (h : OwnHistory) where
  -- what is no tick and hands out nothing
  stands_quiet : (step : Step) (sight : Sight) (number : ℕ) → is_tick sight ≡ false → StandsIn n step h
      → StandsIn n step (seen sight number [] ∷ h)
  unfolding since any called_up
  stands_quiet step sight number t i =
      record { rested = i.rested; on = rw t i.on; begun = i.begun; suited = i.suited }

  -- a bus-off while up, or a stall: the network is up before it and after it
  module _ (step next : Step) (sight : Sight) (records : List Record) where
    abbrev striking : Seen
    striking = seen sight 0 records

    stands_struck : is_tick sight ≡ false → hands 6 n.handle 0 striking ≡ false → shut n striking ≡ false
        → ((c : ℕ) → hands 1 c 1 striking ≡ false) → is_up step ≡ true → is_up next ≡ true → suits (own_outfit n) next ≡ true
        → StandsIn n step h → StandsIn n next (striking ∷ h)
    unfolding called_up
    stands_struck t silence down starts u v suited i =
        let rests : rested n (striking ∷ h) ≡ true =
        any_since (hands 6 n.handle 0) (shut n) striking h ∙ rw (silence, down) (i.rested ∙ up_rested (phase_of step) u) in
        let called : called_up n (striking ∷ h) ≡ true =
        rw (silence, t) (and_right (rested n h) (called_up n h) (i.on ∙ up_on (phase_of step) u)) in
        record {
          rested = rests ∙ sym (up_rested (phase_of next) v);
          on = rw (rests, called) (sym (up_on (phase_of next) v));
          begun = λ c m. any_since (hands 1 c 1) (shut n) striking h ∙ rw (starts c, down, i.begun c m, u, v) refl;
          suited = suited;
        }

  -- a tick
  module _ (step : Step) (mode told : Mode) (m : Move) where
    abbrev ticking : Seen
    ticking = seen a_tick 0 (move_records n step told m)

    called_move : called_up n (ticking ∷ h) ≡ cond (is_end m) false (eqb 2 (wanted h) || called_up n h)
    unfolding called_up
    called_move = rw (move_says_no n step told m) refl

    stands_move : mode_number mode ≡ wanted h → StandsIn n step h → Carries n step mode m
        → StandsIn n (step_after m step n.partial) (ticking ∷ h)
    stands_move w i k = record {
      rested = any_since (hands 6 n.handle 0) (shut n) ticking h
          ∙ rw (move_shuts n step told m, move_says_no n step told m, i.rested) k.rested;
      on = ap (λ (b : Bool). b && called_up n (ticking ∷ h)) (any_since (hands 6 n.handle 0) (shut n) ticking h)
          ∙ rw (move_shuts n step told m, move_says_no n step told m, called_move)
          (both_on (is_go_down m) (is_end m) (rested n h) (eqb 2 (wanted h)) (called_up n h)
          ∙ rw (i.on, i.rested, ← w) k.on);
      begun = λ c own. any_since (hands 1 c 1) (shut n) ticking h
          ∙ rw (move_shuts n step told m, start_given n c own step told m, i.begun c own) (k.begun told);
      suited = k.suited;
    }

  stands_call : InRange n → (s : State) → Kept n s → mode_number s.wanted ≡ wanted h → StandsIn n s.step h → (e : Seen) → Fits n s e
      → StandsIn n (played n s e.sight).state.step (e ∷ h)
  unfolding after_move after_hit made_anew any recovery reset
  stands_call g s k w i = by_part n s (λ e t. StandsIn n t.step (e ∷ h)) (record {
    plain = λ sight number mode reported p. stands_quiet s.step sight number p.tick i;
    hears = λ c mode ok m l e. stands_quiet s.step _ 0 refl i;
    recovers = λ u. stands_struck s.step _ a_bus_off (recovery n.handle) refl refl refl (λ c. refl) u refl refl i;
    restarts = λ u a. stands_quiet s.step a_bus_off 0 refl i;
    not_taken = λ u a. stands_quiet s.step a_bus_off 0x22 refl i;
    resets = λ f. stands_struck s.step _ a_stall (reset n.handle) refl refl refl (λ c. refl) (full_quiet s.step f).up refl refl i;
    ticks = stands_move s.step s.wanted _ (decides n s) w i
        (by_tick_arrow n s (Carries n) (carries n g (finished n s) (reaches n s)) i.suited k);
  })

-- from the start on, in a history that ran by the rules
pub stands : (n : Network) → InRange n → (h : OwnHistory) → Ran n h → StandsIn n (state_of n h).step h
unfolding state_of Ran started since any called_up
stands n g [] r =
    let d = down_groups n.partial in
    record { rested = sym d.0; on = sym d.1; begun = λ c m. sym d.2; suited = first_suits n g }
stands n g (e ∷ h) r =
    stands_call n h g (state_of n h) (state_kept n g h r.1) (wanted_follows n h r.1) (stands n g h r.1) e r.0

-- ---- what it waits for
-- a request that stands asked for, by the move: it is handed out exactly where the step after it asks for just that
abbrev AsksNow : Bool → Report → Step → Mode → Move → Type 0
AsksNow partial report step wanted m =
    (told : Mode) (asked : Bool) → given (of_requests (λ (ask : Ask). awaits ask report)) partial step told m
    ≡ cond (asks_after m asked) (awaits (asks_for (step_after m step partial)) report) false

asks_now : (partial done reached : Bool) (outfit : Outfit) (report : Report) → ByArrow done reached outfit (AsksNow partial report)
asks_now partial done reached outfit report = record {
  rests = λ wanted w told asked. either_way asked false;
  called = λ u told asked. refl;
  called_bare = λ u told asked. refl;
  climbs = λ d told asked. refl;
  begins = λ d told asked. refl;
  starts = λ d told asked. refl;
  asks_again = λ step wanted a g told asked. refl;
  checks = λ t r told asked. either_way asked false;
  passes = λ t r told asked. refl;
  stays_full = λ told asked. either_way asked false;
  stays_silent = λ told asked. either_way asked false;
  waits = λ wanted w d told asked. refl;
  waits_on = λ t wanted w r told asked. either_way asked false;
  resumes = λ wanted w d told asked. refl;
  fills = λ step q f told asked. refl;
  silences = λ step q told asked. refl;
  goes_down_lem = λ step o told asked. rw (nothing_lowered told) refl;
  sinks = λ step next wanted d e u told asked. refl;
  ends = λ step wanted d told asked. refl;
}

module _ (n : Network) (kind target argument : ℕ) (report : Report) (q : Requested n kind target argument report) where
  awaits_call : (h : OwnHistory) (s : State) → Kept n s → suits (own_outfit n) s.step ≡ true
      → awaited kind target argument h ≡ takes_report s report → (e : Seen) → Fits n s e
      → awaited kind target argument (e ∷ h) ≡ takes_report (played n s e.sight).state report
  unfolding awaited takes_report after_move after_hit made_anew any
  awaits_call h s k u i = by_part n s (λ e t. awaited kind target argument (e ∷ h) ≡ takes_report t report) (record {
    plain = λ sight number mode reported p. rw (p.tick, p.bus_off, p.stall) i;
    hears = λ c mode ok m l e. i;
    recovers = λ u. refl;
    restarts = λ u a. refl;
    not_taken = λ u a. i;
    resets = λ f. refl;
    ticks = q s.step s.told (decides n s)
        ∙ by_tick_arrow n s (AsksNow n.partial report) (asks_now n.partial (finished n s) (reaches n s) (own_outfit n) report) u k
        s.told s.asked;
  })

  -- it stands asked for exactly where the network takes what answers it
  pub awaited_takes : InRange n → (h : OwnHistory) → Ran n h → awaited kind target argument h ≡ takes_report (state_of n h) report
  unfolding awaited takes_report state_of Ran started
  awaited_takes g [] r = refl
  awaited_takes g (e ∷ h) r =
      awaits_call h (state_of n h) (state_kept n g h r.1) (stands n g h r.1).suited (awaited_takes g h r.1) e r.0
