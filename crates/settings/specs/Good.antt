-- Settings that a sheet can say: every range of the table of fields, and no id twice. The rules S4 to S11 and S22 of docs/RULES.md. Unused slots are
-- blank, so that settings have one form.
use Rattle.std.specs.Prelude.{ℕ, ◌<◌, ◌≤◌, ◌≡◌, List, [], ◌∷◌, ◌++◌, true, false, None}
use Rattle.lists.specs.Lists.{padded}
use Rattle.settings.specs.declared.Network.{Network}
use Rattle.settings.specs.declared.Settings.{Settings}
use Rattle.settings.specs.Settings.{most_networks, most_controllers, controller_ids, transceiver_ids, thresholds, blank_network, networks_of}
use Rattle.settings.specs.Settings.{handles_of, controllers_of, transceivers_of, member}

-- each of a list is below a limit
unfoldable pub Below : ℕ → List ℕ → Type 0
Below limit [] = Unit
Below limit (x ∷ l) = (x < limit) × Below limit l

-- each of a list is none of those before it, of which some stand in an earlier list
unfoldable pub Fresh : List ℕ → List ℕ → Type 0
Fresh earlier [] = Unit
Fresh earlier (x ∷ l) = (member x earlier ≡ false) × Fresh (earlier ++ (x ∷ [])) l

-- S10: the numbers of a list are pairwise different
abbrev pub Distinct : List ℕ → Type 0
Distinct l = Fresh [] l

-- the ids of one kind over all networks, in the order of the sheet
unfoldable pub all : (Network → List ℕ) → List Network → List ℕ
all ids [] = []
all ids (n ∷ ns) = ids n ++ all ids ns

-- S4 to S9, S11: one network is in the ranges of the table; neither delay is held against the other
pub record InRange (n : Network) : Type 0 where
  pub handle : n.handle < 256
  pub some_controller : 0 < n.count
  pub few_controllers : n.count ≤ most_controllers
  pub blank_slots : n.controllers ≡ padded most_controllers 0 (controllers_of n)
  pub controllers : Below controller_ids (controllers_of n)
  pub transceiver : Below transceiver_ids (transceivers_of n)
  pub short : (0 < n.short) × (n.short < 65536)
  pub long : (0 < n.long) × (n.long < 65536)
  pub ensure : (0 < n.ensure) × (n.ensure < 65536)
  pub threshold : n.threshold < thresholds
  -- S9: partial networking needs a transceiver
  pub partial : n.partial ≡ true → n.transceiver ≡ None → ⊥

-- every network of a list is in range
unfoldable pub EachInRange : List Network → Type 0
EachInRange [] = Unit
EachInRange (n ∷ ns) = InRange n × EachInRange ns

-- S10, S22: settings that a sheet can say: one to eight networks, each in its ranges, and no id twice among those of its kind
pub record Good (s : Settings) : Type 0 where
  pub some_network : 0 < s.count
  pub few_networks : s.count ≤ most_networks
  pub blank_slots : s.networks ≡ padded most_networks blank_network (networks_of s)
  pub in_range : EachInRange (networks_of s)
  pub handles : Distinct (all handles_of (networks_of s))
  pub controllers : Distinct (all controllers_of (networks_of s))
  pub transceivers : Distinct (all transceivers_of (networks_of s))
