-- What an entry does to the settings: the tests at a field that need the settings so far, and what is stored of it. The rules S19 to S23, with the
-- ranges of S4 to S9 and S27, and S26 of docs/RULES.md. Each definition makes its tests in the order of their rules.
use Rattle.std.specs.Prelude.{ℕ, ◌+◌, List, Bool, true, false, cond, eqb, leb, replicate, set, Option, None, Some, Result, Ok, Err}
use Rattle.lists.specs.Lists.{lastly}
use Rattle.settings.specs.declared.Relation.{Relation}
use Rattle.settings.specs.declared.Relation.TheVariants.{Above, AtOrAbove}
use Rattle.settings.specs.declared.Network.{Network}
use Rattle.settings.specs.declared.Settings.{Settings}
use Rattle.settings.specs.declared.Id.TheVariants.{OfNetwork, OfController, OfTransceiver}
use Rattle.settings.specs.Settings.{most_networks, most_controllers, controller_ids, transceiver_ids, thresholds, networks_of, has, used}
use Rattle.entries.specs.declared.Fault.{Fault}
use Rattle.entries.specs.declared.Fault.TheVariants.{Cut, OutOfOrder, OutOfRange, UsedBefore, TooMany, NoTransceiver}
use Rattle.entries.specs.declared.Entry.{Entry}
use Rattle.entries.specs.declared.Entry.TheVariants.{End, Bad}
use Rattle.entries.specs.declared.Progress.{Progress}
use Rattle.entries.specs.declared.Progress.TheVariants.{Named, Listed, Fitted, Timed, Limited}
use Rattle.entries.specs.declared.Opening.{Opening}
use Rattle.entries.specs.declared.Opening.TheVariants.{Closes, Begins, Amends}
use Rattle.entries.specs.declared.Filled.{Filled}

-- ---- where a network may begin: field 01, field 07 of the network before, or the end

-- S4, S21, S22: a handle, which any byte can be, is refused where it was used before, and then where its network is the ninth
unfoldable pub opens_with : Settings → ℕ → Result Opening Fault
opens_with s handle =
    cond (used (OfNetwork handle) (networks_of s)) (Err UsedBefore)
    (cond (leb most_networks s.count) (Err TooMany)
    (Ok (Begins handle)))

-- S27: a network that has no field 07 follows the older relation
abbrev pub is_above : Relation → Bool
is_above Above = true
is_above AtOrAbove = false

-- S19: field 07 comes after 06, and once at most: there is a network before, and it has no such field yet
unfoldable pub takes_relation : List Network → Bool
takes_relation ns = lastly (λ (n : Network). is_above n.relation) ns

-- S19, S20, S27: field 07 is tested for its place, and for its one value; there is no value that says the older relation
unfoldable pub on_relation : Settings → ℕ → Result Opening Fault
on_relation s x = cond (takes_relation (networks_of s)) (cond (eqb x 1) (Ok Amends) (Err OutOfRange)) (Err OutOfOrder)

-- S27: field 07 is stored: from as many bus-offs as the threshold on the delay is the long one
unfoldable pub add_relation : Network → Network
add_relation n = record n { relation = AtOrAbove }

-- S19: at the start only field 01 may stand, or the end; after field 06 field 07 too, and after 07 again field 01 or the end
unfoldable pub opens : Settings → Entry → Result Opening Fault
opens s End = Ok Closes
opens s (Bad fault) = Err fault
opens s (Entry.Handle handle) = opens_with s handle
opens s (Entry.Controller id) = Err OutOfOrder
opens s (Entry.Transceiver id) = Err OutOfOrder
opens s (Entry.Times short long ensure) = Err OutOfOrder
opens s (Entry.Threshold x) = Err OutOfOrder
opens s (Entry.Partial x) = Err OutOfOrder
opens s (Entry.Relation x) = on_relation s x

-- a network that has its handle
unfoldable pub begun : ℕ → Network
begun handle =
    record {
      handle = handle;
      controllers = replicate most_controllers 0;
      count = 0;
      transceiver = None;
      short = 0;
      long = 0;
      ensure = 0;
      threshold = 0;
      partial = false;
      relation = Above;
    }

-- ---- the order of fields: 01, then one to four 02, then 03 or none, then 04, 05 and 06

-- S19: field 02 comes after 01 or another 02; a fifth one is no fault of the order
abbrev pub takes_controller : Progress → Bool
takes_controller Named = true
takes_controller Listed = true
takes_controller Fitted = false
takes_controller Timed = false
takes_controller Limited = false

-- S19: field 03 comes after a 02, and once at most
abbrev pub takes_transceiver : Progress → Bool
takes_transceiver Named = false
takes_transceiver Listed = true
takes_transceiver Fitted = false
takes_transceiver Timed = false
takes_transceiver Limited = false

-- S19: field 04 comes after a 02 or, with a transceiver, after 03
abbrev pub takes_times : Progress → Bool
takes_times Named = false
takes_times Listed = true
takes_times Fitted = true
takes_times Timed = false
takes_times Limited = false

-- S19: field 05 comes after 04 only
abbrev pub takes_threshold : Progress → Bool
takes_threshold Named = false
takes_threshold Listed = false
takes_threshold Fitted = false
takes_threshold Timed = true
takes_threshold Limited = false

-- S19: field 06 comes after 05 only, and its network is whole; field 07 may follow
abbrev pub takes_partial : Progress → Bool
takes_partial Named = false
takes_partial Listed = false
takes_partial Fitted = false
takes_partial Timed = false
takes_partial Limited = true

-- ---- each field in a network

-- the field is taken and the network is not yet whole; the progress says which field was the last
abbrev pub more : Progress → Network → Result Filled Fault
more progress n = Ok (record { network = n; progress = Some progress })

-- the network has all the fields that it has to have; next comes its field 07, a further network or the end
abbrev pub whole : Network → Result Filled Fault
whole n = Ok (record { network = n; progress = None })

-- S14: the id goes into the first unused slot, so that the slots have the order of the sheet
unfoldable pub add_controller : Network → ℕ → Network
add_controller n id = record n { controllers = set n.controllers n.count id; count = n.count + 1 }

-- S5, S19 to S22: a controller's id is tested for its place, its range, an earlier use in any network, and being the network's fifth
unfoldable pub on_controller : Settings → Network → Progress → ℕ → Result Filled Fault
on_controller s n progress id =
    cond (takes_controller progress)
    (cond (leb controller_ids id) (Err OutOfRange)
    (cond (used (OfController id) (networks_of s)) (Err UsedBefore)
    (cond (has (OfController id) n) (Err UsedBefore)
    (cond (leb most_controllers n.count) (Err TooMany)
    (more Listed (add_controller n id))))))
    (Err OutOfOrder)

-- S6: field 03 is stored; from here on the network has a transceiver
unfoldable pub add_transceiver : Network → ℕ → Network
add_transceiver n id = record n { transceiver = Some id }

-- S6, S19 to S21: a transceiver's id is tested for its place, its range and an earlier use
unfoldable pub on_transceiver : Settings → Network → Progress → ℕ → Result Filled Fault
on_transceiver s n progress id =
    cond (takes_transceiver progress)
    (cond (leb transceiver_ids id) (Err OutOfRange)
    (cond (used (OfTransceiver id) (networks_of s)) (Err UsedBefore)
    (more Fitted (add_transceiver n id))))
    (Err OutOfOrder)

-- S7: field 04 is stored, in ticks
unfoldable pub add_times : Network → ℕ → ℕ → ℕ → Network
add_times n short long ensure = record n { short = short; long = long; ensure = ensure }

-- S7, S11, S19, S20: the three times are tested for their place, and each for being 0; the long delay is not held against the short one
unfoldable pub on_times : Network → Progress → ℕ → ℕ → ℕ → Result Filled Fault
on_times n progress short long ensure =
    cond (takes_times progress)
    (cond (eqb short 0) (Err OutOfRange)
    (cond (eqb long 0) (Err OutOfRange)
    (cond (eqb ensure 0) (Err OutOfRange)
    (more Timed (add_times n short long ensure)))))
    (Err OutOfOrder)

-- S8: field 05 is stored
unfoldable pub add_threshold : Network → ℕ → Network
add_threshold n threshold = record n { threshold = threshold }

-- S8, S19, S20: the threshold is tested for its place and its range
unfoldable pub on_threshold : Network → Progress → ℕ → Result Filled Fault
on_threshold n progress threshold =
    cond (takes_threshold progress)
    (cond (leb thresholds threshold) (Err OutOfRange)
    (more Limited (add_threshold n threshold)))
    (Err OutOfOrder)

-- S9: field 06 is stored; with partial networking the network goes down by steps 9 to 14
unfoldable pub add_partial : Network → Bool → Network
add_partial n partial = record n { partial = partial }

-- S23: field 03 has come; without it partial networking is refused
abbrev pub present : Option ℕ → Bool
present None = false
present (Some id) = true

-- S9, S19, S20, S23: partial networking is 0 or 1 in its place, and where it is 1 there has to be a transceiver
unfoldable pub on_partial : Network → Progress → ℕ → Result Filled Fault
on_partial n progress x =
    cond (takes_partial progress)
    (cond (eqb x 0) (whole (add_partial n false))
    (cond (eqb x 1)
    (cond (present n.transceiver) (whole (add_partial n true)) (Err NoTransceiver))
    (Err OutOfRange)))
    (Err OutOfOrder)

-- S19, S26: what an entry does to an unfinished network: neither a further handle nor field 07 nor the end may come in it
unfoldable pub fills : Settings → Network → Progress → Entry → Result Filled Fault
fills s n progress End = Err Cut
fills s n progress (Bad fault) = Err fault
fills s n progress (Entry.Handle handle) = Err OutOfOrder
fills s n progress (Entry.Controller id) = on_controller s n progress id
fills s n progress (Entry.Transceiver id) = on_transceiver s n progress id
fills s n progress (Entry.Times short long ensure) = on_times n progress short long ensure
fills s n progress (Entry.Threshold threshold) = on_threshold n progress threshold
fills s n progress (Entry.Partial x) = on_partial n progress x
fills s n progress (Entry.Relation x) = Err OutOfOrder
