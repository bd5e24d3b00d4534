-- R16, R24: a tick needs three bytes for each controller of all networks and six for each network, a call to listen the three alone: never more than
-- 144 and 96.
use Rattle.lists.proofs.Basics.{◌+◌, ◌*◌, ◌≤◌, arith, ◌≡◌, refl, List, [], ◌∷◌, length, length-take}
use Rattle.lists.proofs.Parts.{padded_length}
use Rattle.settings.specs.declared.Network.{Network}
use Rattle.settings.specs.Settings.{controllers_of}
use Rattle.settings.specs.Good.{InRange, EachInRange}
use Rattle.slots.specs.declared.Manager.{Manager}
use Rattle.slots.specs.Manager.{networks_of, summed, share, tick_needs, controller_count, listen_needs}
use Rattle.manager_theorems.specs.Careful.{Sound, all_controllers}

-- a network in range has a controller
some_controller : (n : Network) → InRange n → 1 ≤ length (controllers_of n)
some_controller n g =
    let full = padded_length 4 0 n.controllers n.count g.few_controllers g.blank_slots in
    omega (arith, length-take n.count n.controllers, full, g.some_controller)

shares_paper : (ns : List Network) → EachInRange ns → summed share ns ≡ all_controllers ns + 2 * length ns
unfolding EachInRange summed
shares_paper [] g = refl
shares_paper (n ∷ ns) g = omega (arith, some_controller n g.0, shares_paper ns g.1)

-- of every manager that `new` and calls lead to
pub tick_needs_paper : (m : Manager) → Sound m → tick_needs m ≡ 3 * (all_controllers (networks_of m) + 2 * length (networks_of m))
unfolding tick_needs
tick_needs_paper m s = rw (shares_paper (networks_of m) s.in_range) refl

-- ---- the most that a tick needs
-- a network in range has at most four controllers
few_controllers : (n : Network) → InRange n → length (controllers_of n) ≤ 4
few_controllers n g = omega (arith, length-take n.count n.controllers, g.few_controllers)

shares_most : (ns : List Network) → EachInRange ns → summed share ns ≤ 6 * length ns
unfolding EachInRange summed
shares_most [] g = omega arith
shares_most (n ∷ ns) g = omega (arith, few_controllers n g.0, shares_most ns g.1)

-- eight networks of four controllers: 48 records
pub tick_needs_most : (m : Manager) → Sound m → tick_needs m ≤ 144
unfolding tick_needs
tick_needs_most m s = omega (arith, shares_most (networks_of m) s.in_range, length-take m.settings.count m.settings.networks, s.networks)

controllers_most : (ns : List Network) → EachInRange ns → summed controller_count ns ≤ 4 * length ns
unfolding EachInRange summed
controllers_most [] g = omega arith
controllers_most (n ∷ ns) g = omega (arith, few_controllers n g.0, controllers_most ns g.1)

-- and 32 controllers
pub listen_needs_most : (m : Manager) → Sound m → listen_needs m ≤ 96
unfolding listen_needs
listen_needs_most m s = omega (arith, controllers_most (networks_of m) s.in_range, length-take m.settings.count m.settings.networks, s.networks)
