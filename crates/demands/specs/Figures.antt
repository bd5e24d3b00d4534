-- The figures F3, F4 and F6 to F8 of docs/RULES.md on histories of the product, by computation: in each all premises hold. From rest and from the
-- start full is told on just that tick, after just so many records, of every outfit; and from anywhere there is a history of each outfit, and one of
-- each delay, that needs every tick of the bound. Histories and what is seen have the latest first.
use Rattle.std.specs.Prelude.{ℕ, ◌≡◌, List, [], ◌∷◌, ◌++◌, Bool, true, false, length, take, None, Some}
use Rattle.std.proofs.Math.Path.{refl}
use Rattle.lists.specs.Lists.{any}
use Rattle.settings.specs.declared.Relation.{Relation}
use Rattle.settings.specs.declared.Network.{Network}
use Rattle.network.specs.declared.Report.{Report}
use Rattle.network.specs.Parts.{Sight, a_tick, a_bus_off, an_answer, a_request, a_report}
use Rattle.network_demands.specs.Words.{OwnHistory, tally, ticked, struck, full_from, granted_at_ticks}
use Rattle.network_demands.specs.ComesUp.{most_ticks, is_at_rest, record_count}
use Rattle.demands.specs.WrongBoxes.{network_with, network}
use Rattle.demands.specs.PromiseBreakers.{lives, computed_life, ok, both, rest, full, fitted, clearing, checking}

-- ---- what is computed

-- of s after h: whether the network is at rest after h, the three parts of good ticks, the ticks and the records of s, and the mode last told
pub record Figure : Type 0 where
  pub at_rest : Bool
  pub wanted : Bool
  pub granted : Bool
  pub struck : Bool
  pub ticks : ℕ
  pub records : ℕ
  pub told : ℕ

-- the product's history of what is seen: `later` after `earlier`; full need be wanted from the tick with this number on
abbrev figure_of : ℕ → Network → List Sight → List Sight → Figure
figure_of number n later earlier =
    let h = lives n earlier in
    let s = take (length later) (lives n (later ++ earlier)) in
    record {
      at_rest = is_at_rest n h;
      wanted = full_from number s h;
      granted = granted_at_ticks s;
      struck = any Rattle.network_demands.specs.Words.struck s;
      ticks = tally ticked s;
      records = record_count s;
      told = Rattle.network_demands.specs.Words.told n (s ++ h);
    }

-- good ticks
abbrev good : Bool → ℕ → ℕ → ℕ → Figure
good at_rest ticks records told =
    record { at_rest = at_rest; wanted = true; granted = true; struck = false; ticks = ticks; records = records; told = told }

-- with all open that it takes
unfoldable pub computed_figure : Network → List Sight → OwnHistory
unfolding computed_life record_count
computed_figure n l = lives n l

-- ---- networks

-- two controllers and a transceiver, without partial networking
abbrev plain : Network
plain = network_with 2 (3 ∷ 4 ∷ 0 ∷ 0 ∷ []) (Some 5) false 1 Relation.Above

-- the bench network with other delays and another threshold
abbrev delayed : ℕ → ℕ → ℕ → Network
delayed short long threshold =
    record {
      handle = 7;
      count = 1;
      controllers = 3 ∷ 0 ∷ 0 ∷ 0 ∷ [];
      transceiver = None;
      short = short;
      long = long;
      ensure = 3;
      threshold = threshold;
      partial = false;
      relation = Relation.Above;
    }

-- ---- what is seen

-- the transceiver reports a mode, and the flag
abbrev pub reports : ℕ → Sight
reports mode = a_report (Report.Transceiver mode)

abbrev pub cleared : Sight
cleared = a_report Report.Cleared

abbrev pub checked : Sight
checked = a_report Report.Checked

-- from rest, on request: without a transceiver, up to the last tick; and with one
abbrev bare_up : List Sight
bare_up = ok 1 ∷ a_tick ∷ ok 0 ∷ a_tick ∷ a_request 2 ∷ []

abbrev fitted_up : List Sight
fitted_up = both 1 (a_tick ∷ both 0 (a_tick ∷ reports 0 ∷ a_tick ∷ a_request 2 ∷ []))

-- from the first down step, which is asked anew, to rest: without partial networking, and with it
abbrev plain_down : List Sight
plain_down = a_tick ∷ reports 1 ∷ a_tick ∷ both 2 (a_tick ∷ both 0 (a_tick ∷ []))

abbrev partial_down : List Sight
partial_down = a_tick ∷ checked ∷ checking

-- ---- from rest
module _ where
  -- one controller, no transceiver: on the third tick, with 3 x 1 + 2 records; and not on the second
  pub third_tick : figure_of 1 network (a_tick ∷ bare_up) rest ≡ good true 3 5 2
  unfolding computed_figure
  third_tick = refl

  pub not_on_the_second : figure_of 1 network bare_up rest ≡ good true 2 2 0
  unfolding computed_figure
  not_on_the_second = refl

  -- two controllers, a transceiver: on the fourth, with 3 x 2 + 3; and not on the third
  pub fourth_tick : figure_of 1 plain (a_tick ∷ fitted_up) plain_down ≡ good true 4 9 2
  unfolding computed_figure
  fourth_tick = refl

  pub not_on_the_third : figure_of 1 plain fitted_up plain_down ≡ good true 3 5 0
  unfolding computed_figure
  not_on_the_third = refl

  -- with partial networking: the same
  pub fourth_tick_with_partial_networking : figure_of 1 fitted (a_tick ∷ fitted_up) partial_down ≡ good true 4 9 2
  unfolding computed_figure
  fourth_tick_with_partial_networking = refl

  -- the neighbours are not at their best: a not ok before each ok, an ok that nobody asked for, a bus-off that is refused, full wanted twice
  pub third_tick_in_spite : figure_of 1 network
      (a_tick ∷ ok 1 ∷ an_answer 3 1 0 ∷ a_tick ∷ ok 0 ∷ an_answer 3 0 0 ∷ ok 1 ∷ a_bus_off ∷ a_request 2 ∷ a_tick ∷ ok 1 ∷ a_bus_off ∷ a_request 2 ∷ []) rest
      ≡ good true 3 5 2
  unfolding computed_figure
  third_tick_in_spite = refl

-- ---- from the start, where full is wanted when the network has come to rest
module _ where
  -- one controller, no transceiver: on the sixth tick, with 5 x 1 + 3 records; and not on the fifth
  pub sixth_tick : figure_of 4 network (a_tick ∷ (bare_up ++ rest)) [] ≡ good false 6 8 2
  unfolding computed_figure
  sixth_tick = refl

  pub not_on_the_fifth : figure_of 4 network (bare_up ++ rest) [] ≡ good false 5 5 0
  unfolding computed_figure
  not_on_the_fifth = refl

  -- two controllers, a transceiver: on the eighth, with 5 x 2 + 5
  pub eighth_tick : figure_of 5 plain (a_tick ∷ (fitted_up ++ plain_down)) [] ≡ good false 8 15 2
  unfolding computed_figure
  eighth_tick = refl

  -- with partial networking: on the tenth, with 5 x 2 + 7
  pub tenth_tick : figure_of 7 fitted (a_tick ∷ (fitted_up ++ partial_down)) [] ≡ good false 10 17 2
  unfolding computed_figure
  tenth_tick = refl

-- ---- from anywhere: histories that need every tick of the bound
-- the figure of the most ticks less one, that with the last, and the bound
abbrev Needs : Network → List Sight → List Sight → ℕ → ℕ → ℕ → ℕ → Type 0
Needs n later earlier ticks few told all =
    (figure_of 1 n later earlier ≡ good false ticks few told) × (figure_of 1 n (a_tick ∷ later) earlier ≡ good false (most_ticks n) all 2)

module _ where
  -- no transceiver, short delays: the controller was asked to stop and has not answered
  pub six_ticks : Needs (delayed 2 4 1) (bare_up ++ (a_tick ∷ ok 2 ∷ a_tick ∷ ok 0 ∷ a_tick ∷ a_request 2 ∷ [])) (a_tick ∷ []) 5 5 0 8
  unfolding computed_figure
  six_ticks = (refl, refl)

  -- a transceiver: the same
  pub eight_ticks : Needs plain (fitted_up ++ (plain_down ++ (a_request 2 ∷ []))) (a_tick ∷ []) 7 11 0 15
  unfolding computed_figure
  eight_ticks = (refl, refl)

  -- partial networking: sleep was refused, so that the network goes down a second time
  pub eleven_ticks : Needs fitted (fitted_up ++ (a_tick ∷ checked ∷ a_tick ∷ both 2 (a_tick ∷ reports 1 ∷ a_tick
      ∷ both 0 (a_tick ∷ cleared ∷ a_tick ∷ checked ∷ a_tick ∷ a_request 2 ∷ []))))
      (an_answer 3 2 0 ∷ a_tick ∷ reports 1 ∷ a_tick ∷ both 0 clearing) 10 14 0 18
  unfolding computed_figure
  eleven_ticks = (refl, refl)

  -- the long delay: a second bus-off, in step 7
  pub long_and_two : Needs network
      (a_tick ∷ a_tick ∷ a_tick ∷ a_tick ∷ a_tick ∷ ok 1 ∷ a_tick ∷ []) (a_bus_off ∷ a_tick ∷ ok 1 ∷ a_tick ∷ a_bus_off ∷ full) 6 2 1 5
  unfolding computed_figure
  long_and_two = (refl, refl)

  -- the short delay, where it is the longer one
  pub short_and_two : Needs (delayed 9 1 1)
      (a_tick ∷ a_tick ∷ a_tick ∷ a_tick ∷ a_tick ∷ a_tick ∷ a_tick ∷ a_tick ∷ a_tick ∷ ok 1 ∷ a_tick ∷ []) (a_bus_off ∷ full) 10 2 1 5
  unfolding computed_figure
  short_and_two = (refl, refl)

  -- with the threshold 0 the short delay never comes, and does not count
  pub no_short_delay : most_ticks (delayed 9 1 0) ≡ 6
  no_short_delay = refl
