-- `reading_parts::amend_network` meets its contract: the last network is the one before the first slot that is not in use.
use Rattle.lists.proofs.Basics.{ℕ, ◌-◌, ◌<◌, arith, ◌≡◌, refl, ap, ◌∙◌, length, get_or, length-take, rules}
use Rattle.lists.proofs.Parts.{get_d_any}
use Rattle.settings.specs.Settings.{blank_network}
use Rattle.entries.specs.Grammar.{add_relation}
use Rattle.sheet.specs.Reading.{last_place, amended}
use Rattle.reading_parts.proofs.amend_network.Goals as goal

pub returns : goal.returns
unfolding amended
returns c =
    let s = c.args.settings in
    let e : length s.networks ≡ 8 = search rules in
    let last : ℕ = length c.in_use.result.now - 1 in
    let place : last ≡ last_place s = rw c.in_use.ensures refl in
    let within : last < length s.networks = omega (arith, length-take s.count s.networks, e, place) in
    let stored : c.add_relation.result ≡ add_relation (get_or s.networks last blank_network) =
    c.add_relation.ensures ∙ ap add_relation (get_d_any s.networks last _ blank_network within) in
    rw (← place, stored) refl
