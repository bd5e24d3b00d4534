-- The steps in which the controllers of a network were last handed online: that is so exactly where full is told or the network is held, and each
-- entry that leaves it so hands online out or finds it so.
use Rattle.lists.proofs.Basics.{ℕ, ◌≡◌, refl, sym, ap, ◌∙◌, List, [], ◌∷◌, ◌++◌, map, Bool, true, false, cond, ◌&&◌, ◌||◌, false≢true}
use Rattle.lists.proofs.Basics.{true≢false, eqb}
use mathlib.Core.Logic.{◌⊎◌, inl, inr}
use Rattle.lists.specs.Lists.{any}
use Rattle.records.specs.declared.Record.{Record}
use Rattle.records.specs.declared.Mode.{Mode}
use Rattle.records.specs.declared.Notice.{Notice}
use Rattle.records.specs.Records.{handed, tells, notes}
use Rattle.settings.specs.declared.Network.{Network}
use Rattle.settings.specs.Settings.{controllers_of, member}
use Rattle.settings.specs.Good.{InRange}
use Rattle.steps.specs.declared.Step.{Step}
use Rattle.steps.specs.declared.Phase.{Phase}
use Rattle.steps.specs.declared.Outfit.{Outfit}
use Rattle.steps.specs.declared.Move.{Move}
use Rattle.steps.specs.declared.Move.TheVariants.{Stay, AskAgain, Count, EnterFull, EnterSilent, Pass, Wait, GoDown, EnterNoCommunication, Enter}
use Rattle.steps.specs.Steps.{phase_of, full_phase, online_phase, is_online_step}
use Rattle.steps.specs.After.{first_down, step_after}
use Rattle.handing.specs.declared.Round.{Round}
use Rattle.handing.specs.Handing.{round_record, online, entering, entering_full, move_records, recovery, reset}
use Rattle.network.specs.declared.State.{State}
use Rattle.network.specs.State.{started}
use Rattle.network.specs.Moving.{after_move}
use Rattle.network.specs.BusOff.{made_anew, after_hit}
use Rattle.network.specs.Parts.{a_tick}
use Rattle.network_theorems.specs.Kept.{Kept}
use Rattle.network_demands.specs.Words.{Seen, OwnHistory, since, stalled}
use Rattle.network_demands.specs.Own.{finished, reaches, decides, tick_hands, played, state_of, Fits, Ran}
use Rattle.network_demands.specs.Promises.{hands_kind}
use Rattle.network_demands.specs.Listening.{released, held, sending, pdu_by}
use Rattle.network_demands.proofs.Views.{seen, by_part}
use Rattle.network_demands.proofs.Handed.{eqb_same, eqb_swap, is_enter_full, is_enter_silent, is_go_down, pdu_given, move_shuts, move_says_full, move_notes_silent}
use Rattle.network_demands.proofs.Handed.{move_notes_no_bus_off}
use Rattle.network_demands.proofs.Follows.{state_kept}
use Rattle.network_demands.proofs.Arrows.{suits, own_outfit, ByArrow, by_tick_arrow}
use Rattle.network_demands.proofs.Standing.{stands}
use Rattle.network_demands.proofs.Told.{told_in_full}

-- ---- phases
-- the phase of steps 15 and 16
abbrev resetting_phase : Phase → Bool
resetting_phase Phase.Off = false
resetting_phase Phase.Rising = false
resetting_phase Phase.Checking = false
resetting_phase Phase.Full = false
resetting_phase Phase.Recovering = false
resetting_phase Phase.Silent = false
resetting_phase Phase.Falling = false
resetting_phase Phase.Resetting = true

abbrev is_resetting : Step → Bool
is_resetting step = resetting_phase (phase_of step)

-- steps 4 and 5, or 15 and 16
two_groups : (phase : Phase) → full_phase phase || resetting_phase phase ≡ online_phase phase
two_groups Phase.Off = refl
two_groups Phase.Rising = refl
two_groups Phase.Checking = refl
two_groups Phase.Full = refl
two_groups Phase.Recovering = refl
two_groups Phase.Silent = refl
two_groups Phase.Falling = refl
two_groups Phase.Resetting = refl

full_online : (phase : Phase) → full_phase phase ≡ true → online_phase phase ≡ true
full_online phase e = sym (two_groups phase) ∙ ap (λ (b : Bool). b || resetting_phase phase) e

first_down_quiet : (partial : Bool) → false ≡ is_resetting (first_down partial)
first_down_quiet true = refl
first_down_quiet false = refl

first_down_offline : (partial : Bool) → is_online_step (first_down partial) ≡ false
first_down_offline true = refl
first_down_offline false = refl

-- ---- held
-- a move that lets go, by what it hands out
abbrev lets_go : Move → Bool
lets_go m = is_enter_full m || (is_enter_silent m || (false || is_go_down m))

abbrev Holds : Bool → Step → Mode → Move → Type 0
Holds partial step wanted m = cond (lets_go m) false (is_resetting step) ≡ is_resetting (step_after m step partial)

holds : (partial done reached : Bool) (outfit : Outfit) → ByArrow done reached outfit (Holds partial)
holds partial done reached outfit = record {
  rests = λ wanted w. refl;
  called = λ u. refl;
  called_bare = λ o. refl;
  climbs = λ d. refl;
  begins = λ d. refl;
  starts = λ d. refl;
  asks_again = λ step wanted a _. refl;
  checks = λ t r. refl;
  passes = λ t r. refl;
  stays_full = refl;
  stays_silent = refl;
  waits = λ wanted w d. refl;
  waits_on = λ t wanted w r. refl;
  resumes = λ wanted w d. refl;
  fills = λ step q f. refl;
  silences = λ step q. refl;
  goes_down_lem = λ step q. first_down_quiet partial;
  sinks = λ step next wanted d e u. ap resetting_phase d.falls ∙ sym (ap resetting_phase e.falls);
  ends = λ step wanted d. ap resetting_phase d.falls;
}

-- held with one entry more, by whether it lets go
held_by : (n : Network) (e : Seen) (h : OwnHistory) (go : Bool) → released n e ≡ go → held n (e ∷ h) ≡ cond go false (stalled e || held n h)
unfolding since any
held_by n e h true p = rw p refl
held_by n e h false p = rw p refl

module _ (n : Network) (h : OwnHistory) (s : State) (fit : suits (own_outfit n) s.step ≡ true) (kept : Kept n s)
    (k : held n h ≡ is_resetting s.step) where
  lets_go_lem : released n (seen a_tick 0 (tick_hands n s)) ≡ lets_go (decides n s)
  lets_go_lem =
      let m = decides n s in
      rw (
        move_says_full n s.step s.told m,
        move_notes_silent n s.step s.told m,
        move_notes_no_bus_off n s.step s.told m,
        move_shuts n s.step s.told m,
      ) refl

  abbrev StillHeld : Seen → State → Type 0
  StillHeld e t = held n (e ∷ h) ≡ is_resetting t.step

  held_call : (e : Seen) → Fits n s e → StillHeld e (played n s e.sight).state
  unfolding since any recovery reset after_hit made_anew after_move
  held_call = by_part n s StillHeld (record {
    plain = λ sight number mode reported p. rw p.stall k;
    hears = λ c mode ok m l e. k;
    recovers = λ u. rw (eqb_same n.handle) refl;
    restarts = λ u a. k;
    not_taken = λ u a. k;
    resets = λ f. refl;
    ticks = held_by n (seen a_tick 0 (tick_hands n s)) h (lets_go (decides n s)) lets_go_lem
        ∙ ap (cond (lets_go (decides n s)) false) k
        ∙ by_tick_arrow n s (Holds n.partial) (holds n.partial (finished n s) (reaches n s) (own_outfit n)) fit kept;
  })

pub held_means : (n : Network) → InRange n → (h : OwnHistory) → Ran n h → held n h ≡ is_resetting (state_of n h).step
unfolding state_of Ran started since any
held_means n g [] r = first_down_quiet n.partial
held_means n g (e ∷ h) r =
    held_call n h (state_of n h) (stands n g h r.1).suited (state_kept n g h r.1) (held_means n g h r.1) e r.0

-- L6: full is told or the network is held exactly in steps 4, 5, 15 and 16
pub sending_means : (n : Network) → InRange n → (h : OwnHistory) → Ran n h → sending n h ≡ is_online_step (state_of n h).step
sending_means n g h r = rw (told_in_full n g h r, held_means n g h r) (two_groups (phase_of (state_of n h).step))

-- ---- what each entry hands out
-- records without kind 3 leave the last one as it was
pub pdu_same : (c : ℕ) (rs : List Record) (before : ℕ) → any (λ (r : Record). eqb 3 r.kind) rs ≡ false → pdu_by c rs before ≡ before
unfolding pdu_by any
pdu_same c [] before e = refl
pdu_same c (r ∷ rs) before e = by_test (eqb 3 r.kind) e (pdu_same c rs before)
  where
    by_test : (b : Bool) → b || any (λ (x : Record). eqb 3 x.kind) rs ≡ false
        → (any (λ (x : Record). eqb 3 x.kind) rs ≡ false → pdu_by c rs before ≡ before)
        → pdu_by c rs (cond (b && eqb c r.target) r.argument before) ≡ before
    by_test true f later = absurd (true≢false f)
    by_test false f later = later f

pdu_append : (c : ℕ) (l m : List Record) (before : ℕ) → pdu_by c (l ++ m) before ≡ pdu_by c m (pdu_by c l before)
unfolding pdu_by
pdu_append c [] m before = refl
pdu_append c (r ∷ l) m before = pdu_append c l m _

-- kind 3 with one argument for each of some ids
pub pdu_each : (c argument : ℕ) (ids : List ℕ) (before : ℕ)
    → pdu_by c (map (λ (x : ℕ). handed 3 x argument) ids) before ≡ cond (member c ids) argument before
unfolding pdu_by any
pdu_each c argument [] before = refl
pdu_each c argument (x ∷ ids) before = pdu_each c argument ids (cond (eqb c x) argument before) ∙ by_test (eqb c x) (member c ids) (eqb_swap c x)
  where
    by_test : (first later : Bool) → eqb c x ≡ eqb x c → cond later argument (cond (eqb c x) argument before) ≡ cond (eqb x c || later) argument before
    by_test first later q = by_both (eqb x c) later q
      where
        by_both : (b later : Bool) → eqb c x ≡ b → cond later argument (cond (eqb c x) argument before) ≡ cond (b || later) argument before
        by_both true true e = refl
        by_both true false e = rw e refl
        by_both false true e = refl
        by_both false false e = rw e refl

-- an entry that leaves the network in such a step hands online out to each of its controllers, or finds it in one and hands out no kind 3
pub data StaysOnline (n : Network) (s : State) (e : Seen) : Type 0 where
  hands_online : ((c : ℕ) → member c (controllers_of n) ≡ true → (before : ℕ) → pdu_by c e.records before ≡ 0) → StaysOnline n s e
  finds_online : is_online_step s.step ≡ true → hands_kind 3 e ≡ false → StaysOnline n s e

-- entering full hands it out
entering_online : (n : Network) (c : ℕ) → member c (controllers_of n) ≡ true → (before : ℕ) → pdu_by c (entering_full n) before ≡ 0
unfolding entering_full entering pdu_by
entering_online n c own before =
    pdu_append c (map (round_record (Round.Pdu online)) (controllers_of n)) (tells n.handle Mode.Full ∷ notes n.handle Notice.Full ∷ []) before
    ∙ pdu_each c 0 (controllers_of n) before ∙ rw own refl

-- the move of a tick that leaves a network in such a step
module _ (n : Network) (told : Mode) where
  abbrev Leaves : Step → Mode → Move → Type 0
  Leaves step wanted m = is_online_step (step_after m step n.partial) ≡ true
      → (is_enter_full m ≡ true) ⊎ ((is_online_step step ≡ true) × (any (λ (r : Record). eqb 3 r.kind) (move_records n step told m) ≡ false))

  leaves : (done reached : Bool) (outfit : Outfit) → ByArrow done reached outfit Leaves
  leaves done reached outfit = record {
    rests = λ wanted w z. absurd (false≢true z);
    called = λ u z. absurd (false≢true z);
    called_bare = λ o z. absurd (false≢true z);
    climbs = λ d z. absurd (false≢true z);
    begins = λ d z. absurd (false≢true z);
    starts = λ d z. inl refl;
    asks_again = λ step wanted a _ z. inr (z, pdu_given n step told AskAgain);
    checks = λ t r z. inr (refl, pdu_given n _ told _);
    passes = λ t r z. inr (refl, pdu_given n _ told Pass);
    stays_full = λ z. inr (refl, pdu_given n _ told Stay);
    stays_silent = λ z. absurd (false≢true z);
    waits = λ wanted w d z. absurd (false≢true z);
    waits_on = λ t wanted w r z. absurd (false≢true z);
    resumes = λ wanted w d z. inr (refl, pdu_given n _ told _);
    fills = λ step q f z. inl refl;
    silences = λ step q z. absurd (false≢true z);
    goes_down_lem = λ step q z. absurd (false≢true (sym (first_down_offline n.partial) ∙ z));
    sinks = λ step next wanted d e u z. absurd (false≢true (sym (ap online_phase e.falls) ∙ z));
    ends = λ step wanted d z. absurd (false≢true z);
  }

module _ (n : Network) (s : State) (fit : suits (own_outfit n) s.step ≡ true) (kept : Kept n s) where
  by_move : (m : Move) → (is_enter_full m ≡ true) ⊎ ((is_online_step s.step ≡ true) × (any (λ (r : Record). eqb 3 r.kind)
      (move_records n s.step s.told m) ≡ false)) → StaysOnline n s (seen a_tick 0 (move_records n s.step s.told m))
  unfolding move_records
  by_move Stay (inl z) = absurd (false≢true z)
  by_move AskAgain (inl z) = absurd (false≢true z)
  by_move (Count next) (inl z) = absurd (false≢true z)
  by_move EnterFull (inl z) = hands_online (entering_online n)
  by_move EnterSilent (inl z) = absurd (false≢true z)
  by_move Pass (inl z) = absurd (false≢true z)
  by_move Wait (inl z) = absurd (false≢true z)
  by_move GoDown (inl z) = absurd (false≢true z)
  by_move EnterNoCommunication (inl z) = absurd (false≢true z)
  by_move (Enter next) (inl z) = absurd (false≢true z)
  by_move m (inr z) = finds_online z.0 z.1

  pub stays_online : (e : Seen) → Fits n s e → is_online_step (played n s e.sight).state.step ≡ true → StaysOnline n s e
  unfolding any recovery reset after_hit made_anew after_move
  stays_online = by_part n s (λ e t. is_online_step t.step ≡ true → StaysOnline n s e) (record {
    plain = λ sight number mode reported p z. finds_online z refl;
    hears = λ c mode ok m l e z. finds_online z refl;
    recovers = λ u z. absurd (false≢true z);
    restarts = λ u a z. finds_online z refl;
    not_taken = λ u a z. finds_online z refl;
    resets = λ f z. finds_online (full_online (phase_of s.step) f) refl;
    ticks = λ z. by_move (decides n s)
        (by_tick_arrow n s (Leaves n s.told) (leaves n s.told (finished n s) (reaches n s) (own_outfit n)) fit kept z);
  })
