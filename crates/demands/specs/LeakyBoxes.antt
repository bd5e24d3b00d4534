-- Nothing leaks across, by computation. First pairs of histories of the product that are the same to a network, though the calls of its neighbour, the
-- lengths of lent buffers or the sheets differ. Then wrong boxes: for each two histories that it has, and the sentence that is false of them. The
-- sheet has two networks whose ids cross: one with handle 7 and controller 3, and one with handle 3 and controller 7. A history has the latest call
-- first.
use Rattle.std.specs.Prelude.{ℕ, ◌≡◌, refl, List, [], ◌∷◌, ◌++◌, Bool, true, false, cond, ◌&&◌, eqb, ltb, length, drop, replicate, None}
use Rattle.std.proofs.Common.{arith, ap, sym, ◌∙◌}
use Rattle.records.specs.declared.Record.{Record}
use Rattle.records.specs.Records.{handed}
use Rattle.settings.specs.declared.Network.{Network}
use Rattle.settings.specs.declared.Relation.{Relation}
use Rattle.settings.specs.Settings.{blank_network}
use Rattle.steps.specs.declared.Step.{Step}
use Rattle.steps.specs.Steps.{step_number}
use Rattle.network.specs.declared.State.{State}
use Rattle.network.specs.State.{started}
use Rattle.network.specs.Moving.{tick_state}
use Rattle.sheet.specs.Bench.{bench_sheet}
use Rattle.slots.specs.declared.Stage.{Stage}
use Rattle.slots.specs.declared.Manager.{Manager}
use Rattle.slots.specs.declared.Outcome.{Outcome}
use Rattle.slots.specs.Manager.{answer_number, blank_state, state_at, with_state, with_listening}
use Rattle.slots.specs.Calls.{Call, read, start, request, poll, bus_off, stall, answer, tick, listen, slot_outcome, all_ticked, outcome, handed_out}
use Rattle.calls.specs.Histories.{Entry, entry_of, History, Address, to, to_all, to_nobody, address_of}
use Rattle.demands.specs.BenchCases.{down, up}
use Rattle.demands.specs.Histories.{computed_history, started_by, lived, crossed_sheet}
use Rattle.demands.specs.WrongBoxes.{network_named, network}
use Rattle.demands.specs.Across.{names, Asked, itself, ticks, listens, asked, SameTo, Given, given, Elsewhere, BySheet}

-- ---- the networks of the sheet, and the calls
abbrev seven : Network
seven = network

abbrev three : Network
three = network_named 3 1 (7 ∷ 0 ∷ 0 ∷ 0 ∷ []) None false 0 Relation.Above

-- a manager that has them, just started
abbrev began : Manager
began =
    record {
      stage = Stage.Started;
      listening = false;
      settings = record { networks = seven ∷ three ∷ replicate 6 blank_network; count = 2 };
      states = started seven ∷ started three ∷ replicate 6 blank_state;
    }

-- which is what the sheet gives
pub began_so : started_by crossed_sheet ≡ began
unfolding computed_history
began_so = refl

-- a tick here needs 3 x (2 + 2 x 2) = 18 bytes, and a call to listen 6
abbrev a_tick : Call
a_tick = tick 18

-- controllers 3 and 7 answer ok to the request for a mode
abbrev both : ℕ → List Call
both mode = answer 3 mode 1 ∷ answer 7 mode 1 ∷ []

-- network 7 goes down and comes up to full; network 3 with it, or not
abbrev seven_up : List Call
seven_up =
    a_tick ∷ answer 3 0 1 ∷ a_tick ∷ answer 3 2 1 ∷ a_tick ∷ request 7 2 ∷ a_tick ∷ answer 3 0 1 ∷ a_tick ∷ answer 3 1 1 ∷ a_tick ∷ []

abbrev both_up : List Call
both_up =
    (a_tick ∷ both 0) ++ (a_tick ∷ both 2) ++ (a_tick ∷ request 7 2 ∷ request 3 2 ∷ a_tick ∷ both 0) ++ (a_tick ∷ both 1) ++ (a_tick ∷ [])

-- a bus-off of network 7, and on to the tick before the one that tells full again
abbrev recovers : List Call
recovers = bus_off 3 9 ∷ a_tick ∷ answer 3 1 1 ∷ a_tick ∷ a_tick ∷ []

-- ---- the product
-- beside a network that comes up, falls and is polled, ids that nobody has, refused ticks and calls that name nobody, and with none of that
abbrev noisy : List Call
noisy =
    both_up ++ (bus_off 7 9 ∷ bus_off 9 9 ∷ tick 17 ∷ stall 3 3 ∷ poll 3 ∷ listen 1 5 ∷ read [] ∷ start ∷ recovers) ++ (bus_off 7 9 ∷ a_tick ∷ poll 7 ∷ [])

abbrev calm : List Call
calm = seven_up ++ recovers ++ (a_tick ∷ poll 7 ∷ [])

-- what reaches network 7 in either, the latest first
abbrev reached : List Asked
reached =
    itself (poll 7) ∷ ticks ∷ ticks ∷ ticks ∷ itself (answer 3 1 1) ∷ ticks ∷ itself (bus_off 3 9) ∷ ticks ∷ itself (answer 3 1 1) ∷ ticks
    ∷ itself (answer 3 0 1) ∷ ticks ∷ itself (request 7 2) ∷ ticks ∷ itself (answer 3 2 1) ∷ ticks ∷ itself (answer 3 0 1) ∷ ticks ∷ []

reached_in_noise : asked seven (lived crossed_sheet noisy) ≡ reached
unfolding computed_history asked
reached_in_noise = refl

reached_in_calm : asked seven (lived crossed_sheet calm) ≡ reached
unfolding computed_history asked
reached_in_calm = refl

pub same_beside_noise : SameTo seven (lived crossed_sheet noisy) (lived crossed_sheet calm)
same_beside_noise = reached_in_noise ∙ sym reached_in_calm

-- to the other network they are not the same
abbrev lengths : List Asked → List Asked → List ℕ
lengths l l' = length l ∷ length l' ∷ []

pub not_same_to_the_other : lengths (asked three (lived crossed_sheet noisy)) (asked three (lived crossed_sheet calm)) ≡ 19 ∷ 10 ∷ []
unfolding computed_history asked
not_same_to_the_other = refl

-- network 7 alone on its sheet, where a tick needs 9 bytes
-- what reaches it in either, the latest first
abbrev reached_to_listening : List Asked
reached_to_listening =
    listens true ∷ ticks ∷ itself (answer 3 1 1) ∷ ticks ∷ itself (answer 3 0 1) ∷ ticks ∷ itself (request 7 2) ∷ ticks ∷ itself (answer 3 2 1) ∷ ticks
    ∷ itself (answer 3 0 1) ∷ ticks ∷ []

reached_beside : asked seven (lived crossed_sheet (both_up ++ (listen 1 6 ∷ []))) ≡ reached_to_listening
unfolding computed_history asked
reached_beside = refl

reached_alone : asked seven (lived bench_sheet (down ++ up ++ (listen 1 3 ∷ []))) ≡ reached_to_listening
unfolding computed_history asked
reached_alone = refl

pub same_on_its_own : SameTo seven (lived crossed_sheet (both_up ++ (listen 1 6 ∷ []))) (lived bench_sheet (down ++ up ++ (listen 1 3 ∷ [])))
same_on_its_own = reached_beside ∙ sym reached_alone

-- of the six records with which both are told full three are its own: each goes by its kind, and controller 7 is not handle 7
abbrev last_records : List Given → List Record
last_records [] = []
last_records (g ∷ l) = g.records

pub own_by_kind : last_records (given seven (lived crossed_sheet both_up)) ≡ handed 3 3 0 ∷ handed 6 7 2 ∷ handed 7 7 2 ∷ []
unfolding computed_history asked given
own_by_kind = refl

-- ---- wrong boxes
-- the manager that a call leaves, and what it adds to the history
pub record Box : Type 0 where
  pub after : Manager → Call → Manager
  pub adds : Manager → Call → Entry

-- the history of a list of calls on it, the first call first
unfoldable pub history_on : Box → Manager → List Call → History → History
history_on x m [] h = h
history_on x m (c ∷ cs) h = history_on x (x.after m c) cs (x.adds m c ∷ h)

-- two histories that are the same to a network give it the same
abbrev GivenAlike : Network → History → History → Type 0
GivenAlike n h h' = SameTo n h h' → given n h ≡ given n h'

-- of what the network was given last the number of the answer, how many records, and the argument of the first of them
abbrev first_argument : List Record → ℕ
first_argument [] = 0
first_argument (r ∷ rs) = r.argument

abbrev lastly : (Given → ℕ) → List Given → ℕ
lastly f [] = 0
lastly f (g ∷ l) = f g

abbrev last_number : List Given → ℕ
last_number = lastly (λ g. g.number)

abbrev last_count : List Given → ℕ
last_count = lastly (λ g. length g.records)

abbrev last_argument : List Given → ℕ
last_argument = lastly (λ g. first_argument g.records)

-- a box that gives what ours gives, and keeps another manager
abbrev keeping : (Manager → Call → Manager) → Box
keeping after = record { after = after; adds = entry_of }

abbrev ours : Manager → Call → Manager
ours m c = (outcome m c).manager

-- whether all networks are concerned
abbrev is_to_all : Address → Bool
is_to_all (to id sight) = false
is_to_all to_all = true
is_to_all to_nobody = false

-- ---- a neighbour's bus-off resets the timer: a call that names network 3 and hands something out begins the wait of network 7 anew
abbrev rewound : State → State
rewound s =
    record {
      step = cond (eqb 7 (step_number s.step)) (Step.Waiting 0) s.step;
      wanted = s.wanted;
      told = s.told;
      count = s.count;
      asked = s.asked;
      answers = s.answers;
      reported = s.reported;
    }

abbrev resetting : Box
resetting =
    keeping (λ m c. cond (names three c && ltb 0 (length (entry_of m c).records)) (with_state (ours m c) 0 (rewound (state_at m 0))) (ours m c))

pub timer_reset : GivenAlike seven (history_on resetting began (both_up ++ recovers ++ (bus_off 7 9 ∷ a_tick ∷ [])) [])
    (history_on resetting began (seven_up ++ recovers ++ (a_tick ∷ [])) []) → ⊥
unfolding computed_history history_on asked given
timer_reset s = let z : ◌≡◌ {A = ℕ} 0 3 = ap last_count (s refl) in omega (arith, z)

-- ---- the tick of the later network depends on the record of the earlier: network 3 does not move while network 7 is in step 6
abbrev waiting : Box
waiting =
    keeping (λ m c. cond (is_to_all (address_of (entry_of m c).number c) && eqb 6 (step_number (state_at m 0).step))
    (with_state (ours m c) 1 (state_at m 1)) (ours m c))

-- it was asked to start again, and the answer of its controller is refused
abbrev three_falls : List Call
three_falls = bus_off 7 9 ∷ a_tick ∷ answer 7 1 1 ∷ []

pub later_waits : GivenAlike three (history_on waiting began (both_up ++ (bus_off 3 9 ∷ three_falls)) [])
    (history_on waiting began (both_up ++ three_falls) []) → ⊥
unfolding computed_history history_on asked given
later_waits s = let z : ◌≡◌ {A = ℕ} 0x22 0 = ap last_number (s refl) in omega (arith, z)

-- ---- an id is found in the wrong network: by its number, of whatever kind, so that handle 3 is taken for controller 3 of network 7
abbrev found_by_number : Manager → Call → Address → Outcome
found_by_number m c (to id sight) = slot_outcome m 0 sight
found_by_number m c to_all = outcome m c
found_by_number m c to_nobody = outcome m c

abbrev by_number : Manager → Call → Outcome
by_number m c = found_by_number m c (address_of 0 c)

abbrev confusing : Box
confusing =
    record {
      after = λ m c. (by_number m c).manager;
      adds = λ m c. record { call = c; number = answer_number (by_number m c).answer; mode = (by_number m c).mode; records = handed_out m c };
    }

-- both go down; then full is wanted of network 3, and network 7 comes up
abbrev seven_down : List Call
seven_down = a_tick ∷ answer 3 0 1 ∷ a_tick ∷ answer 3 2 1 ∷ a_tick ∷ []

pub found_in_the_wrong_network : GivenAlike seven (history_on confusing began (seven_down ++ (request 3 2 ∷ a_tick ∷ [])) [])
    (history_on confusing began (seven_down ++ (a_tick ∷ [])) []) → ⊥
unfolding computed_history history_on asked given
found_in_the_wrong_network s = let z : ◌≡◌ {A = ℕ} 1 0 = ap last_count (s refl) in omega (arith, z)

-- ---- a refused tick passes: lent too few bytes it hands out nothing, and time goes on
abbrev hasty : Box
hasty = keeping (λ m c. cond (eqb 0x20 (entry_of m c).number) (all_ticked m).manager (ours m c))

pub refused_tick_passes : GivenAlike seven (history_on hasty began (seven_up ++ recovers ++ (tick 17 ∷ a_tick ∷ [])) [])
    (history_on hasty began (seven_up ++ recovers ++ (a_tick ∷ [])) []) → ⊥
unfolding computed_history history_on asked given
refused_tick_passes s = let z : ◌≡◌ {A = ℕ} 0 3 = ap last_count (s refl) in omega (arith, z)

-- ---- a call for a neighbour ends listening: network 7 comes up and sends, under people's hands
abbrev forgetful : Box
forgetful = keeping (λ m c. cond (names three c) (with_listening (ours m c) false) (ours m c))

pub listening_ended : GivenAlike seven (history_on forgetful began (listen 1 6 ∷ both_up) []) (history_on forgetful began (listen 1 6 ∷ seven_up) []) → ⊥
unfolding computed_history history_on asked given
listening_ended s = let z : ◌≡◌ {A = ℕ} 0 2 = ap last_argument (s refl) in omega (arith, z)

-- ---- the later network goes by the settings of the earlier: its record moves as network 7's would. On one sheet nothing shows that; beside a box in
-- which network 3 is alone it has the short delay, where its own threshold brings the long one
abbrev three_alone : List ℕ
three_alone = drop (length bench_sheet) crossed_sheet

abbrev borrowing : Box
borrowing =
    keeping (λ m c. cond (is_to_all (address_of (entry_of m c).number c)) (with_state (ours m c) 1 (tick_state seven (state_at m 1))) (ours m c))

abbrev three_up_and_fallen : List Call
three_up_and_fallen =
    (a_tick ∷ answer 7 0 1 ∷ a_tick ∷ answer 7 2 1 ∷ a_tick ∷ request 3 2 ∷ a_tick ∷ answer 7 0 1 ∷ a_tick ∷ answer 7 1 1 ∷ a_tick ∷ [])
    ++ (bus_off 7 9 ∷ a_tick ∷ answer 7 1 1 ∷ a_tick ∷ a_tick ∷ a_tick ∷ a_tick ∷ a_tick ∷ a_tick ∷ [])

pub settings_borrowed : GivenAlike three (history_on borrowing began three_up_and_fallen [])
    (history_on borrowing (started_by three_alone) three_up_and_fallen []) → ⊥
unfolding computed_history history_on asked given
settings_borrowed s = let z : ◌≡◌ {A = ℕ} 1 3 = ap last_count (s refl) in omega (arith, z)

-- ---- a neighbour's bus-off tells silent of network 7 too
abbrev entry : Call → ℕ → List Record → Entry
entry call number records = record { call = call; number = number; mode = 0; records = records }

pub told_of_another : Elsewhere seven (entry (bus_off 7 9) 0 (handed 8 3 1 ∷ handed 6 3 1 ∷ handed 7 3 3 ∷ handed 6 7 1 ∷ [])) → ⊥
unfolding computed_history
told_of_another s = let z : ◌≡◌ {A = ℕ} 1 0 = ap length (s refl) in omega (arith, z)

-- ---- a tick is put off while a neighbour recovers
pub tick_put_off : BySheet (entry a_tick 0x20 []) (entry a_tick 0 []) → ⊥
tick_put_off s = let z : ◌≡◌ {A = ℕ} 0x20 0 = s refl refl in omega (arith, z)
