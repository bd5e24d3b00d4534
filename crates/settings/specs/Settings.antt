-- What the settings say: how many and how large ids may be, which ids a network has, and who has an id. The rules S4 to S6, S8, S10, S14, S21, S22
-- and S27 of docs/RULES.md.
-- What an array holds past its count is blank and means nothing: all meaning is through `controllers_of` and `networks_of`.
use Rattle.std.specs.Prelude.{ℕ, Option, Some, None, List, [], ◌∷◌, Bool, false, cond, eqb, take, replicate}
use Rattle.lists.specs.Lists.{any, first}
use Rattle.settings.specs.declared.Relation.TheVariants.{Above}
use Rattle.settings.specs.declared.Network.{Network}
use Rattle.settings.specs.declared.Settings.{Settings}
use Rattle.settings.specs.declared.Id.{Id}
use Rattle.settings.specs.declared.Id.TheVariants.{OfNetwork, OfController, OfTransceiver}

-- S22: a sheet has eight networks at most
abbrev pub most_networks : ℕ
most_networks = 8

-- S5, S22: a network has four controllers at most
abbrev pub most_controllers : ℕ
most_controllers = 4

-- S5: 32 is the first number that is no controller id
abbrev pub controller_ids : ℕ
controller_ids = 32

-- S6: 8 is the first number that is no transceiver id
abbrev pub transceiver_ids : ℕ
transceiver_ids = 8

-- S8: 255 is no threshold, so that a count of bus-offs, which goes up to 255, can be above every threshold
abbrev pub thresholds : ℕ
thresholds = 255

-- an unused slot: no controller and every time 0, which no sheet can say; S27: no field 07, so the older relation
unfoldable pub blank_network : Network
blank_network =
    record {
      handle = 0;
      controllers = replicate most_controllers 0;
      count = 0;
      transceiver = None;
      short = 0;
      long = 0;
      ensure = 0;
      threshold = 0;
      partial = false;
      relation = Above;
    }

-- no network: what reading begins with, and what stands beside a refusal
unfoldable pub blank_settings : Settings
blank_settings = record { networks = replicate most_networks blank_network; count = 0 }

-- the networks, in the order of the sheet
abbrev pub networks_of : Settings → List Network
networks_of s = take s.count s.networks

-- S4: the handle of a network, as a list, so that all three kinds of ids are treated alike
abbrev pub handles_of : Network → List ℕ
handles_of n = n.handle ∷ []

-- S5, S14: the ids of the controllers without the unused slots, in the order of the sheet, which is that of requests
abbrev pub controllers_of : Network → List ℕ
controllers_of n = take n.count n.controllers

-- S6: a transceiver may be missing, so there is no id, or one
abbrev pub listed : Option ℕ → List ℕ
listed None = []
listed (Some x) = x ∷ []

-- S6: the id of a network's transceiver, as a list of none or one
abbrev pub transceivers_of : Network → List ℕ
transceivers_of n = listed n.transceiver

-- a number is one of a list
abbrev pub member : ℕ → List ℕ → Bool
member x l = any (λ (y : ℕ). eqb y x) l

-- a network without transceiver has no transceiver id, not even 0
abbrev pub has_transceiver : Option ℕ → ℕ → Bool
has_transceiver None x = false
has_transceiver (Some y) x = eqb y x

-- S10: a network has an id; each of the three kinds is compared with its own
abbrev pub has : Id → Network → Bool
has (OfNetwork x) n = eqb n.handle x
has (OfController x) n = member x (controllers_of n)
has (OfTransceiver x) n = has_transceiver n.transceiver x

-- S10, S21: some network has an id, so that it was used before by this kind
unfoldable pub used : Id → List Network → Bool
used id ns = any (has id) ns

-- the first network that has an id, or nobody
unfoldable pub holder_of : Id → List Network → Option ℕ
holder_of id ns = cond (any (has id) ns) (Some (first (has id) ns)) None
