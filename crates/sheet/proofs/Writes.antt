-- Laws of a sheet as bytes: its parts come one after the other, their lengths, and what writing them into a buffer gives.
use Rattle.lists.proofs.Basics.{ℕ, ◌+◌, ◌*◌, ◌≤◌, ◌<◌, arith, le-leb, ◌≡◌, refl, sym, ap, ◌∙◌, List, [], ◌∷◌, ◌++◌, append_assoc, length, drop, sets}
use Rattle.lists.proofs.Basics.{sets-eq, lt-leb}
use Rattle.lists.proofs.Parts.{padded_count}
use Rattle.std.specs.Prelude.{Option, None, Some, Ok, Err}
use Rattle.settings.specs.declared.Relation.{Relation}
use Rattle.settings.specs.declared.Relation.TheVariants.{Above, AtOrAbove}
use Rattle.settings.specs.declared.Network.{Network}
use Rattle.settings.specs.declared.Settings.{Settings}
use Rattle.settings.specs.Settings.{most_networks, most_controllers, blank_network, networks_of, controllers_of, listed, transceivers_of}
use Rattle.settings.specs.Good.{EachInRange, Good}
use Rattle.sheet.specs.Encode.{byte_field, times_field, encode_controllers, encode_transceiver, bit, encode_relation, encode_network, encode_networks}
use Rattle.sheet.specs.Encode.{encode}
use Rattle.sheet.specs.Writing.{written, buffer_after}

-- ---- a part before what follows it: its own bytes come first
pub controllers_before : (ids l : List ℕ) → encode_controllers ids l ≡ encode_controllers ids [] ++ l
unfolding encode_controllers
controllers_before [] l = refl
controllers_before (id ∷ ids) l = ap (byte_field 0x02 id) (controllers_before ids l)

pub transceiver_before : (t : Option ℕ) (l : List ℕ) → encode_transceiver t l ≡ encode_transceiver t [] ++ l
unfolding encode_transceiver
transceiver_before None l = refl
transceiver_before (Some id) l = refl

pub relation_before : (r : Relation) (l : List ℕ) → encode_relation r l ≡ encode_relation r [] ++ l
unfolding encode_relation
relation_before Above l = refl
relation_before AtOrAbove l = refl

-- a network field by field, before what follows it
abbrev pub fields_of : Network → ℕ → List ℕ → List ℕ
fields_of n partial l =
    byte_field 0x01 n.handle
    (encode_controllers (controllers_of n) []
    ++ (encode_transceiver n.transceiver []
    ++ times_field n.short n.long n.ensure
    (byte_field 0x05 n.threshold
    (byte_field 0x06 partial (encode_relation n.relation l)))))

-- the fields are the network, where field 06 says its partial networking
pub network_fields : (n : Network) (partial : ℕ) (l : List ℕ) → partial ≡ bit n.partial → fields_of n partial l ≡ encode_network n l
unfolding encode_network
network_fields n partial l e =
    rw (e, ← transceiver_before n.transceiver, ← controllers_before (controllers_of n)) refl

pub network_before : (n : Network) (l : List ℕ) → encode_network n l ≡ encode_network n [] ++ l
network_before n l =
    let e : fields_of n (bit n.partial) l ≡ fields_of n (bit n.partial) [] ++ l = rw (relation_before n.relation l) (simp append_assoc) in
    sym (network_fields n (bit n.partial) l refl) ∙ e ∙ ap (λ (k : List ℕ). k ++ l) (network_fields n (bit n.partial) [] refl)

pub networks_before : (ns : List Network) (l : List ℕ) → encode_networks ns l ≡ encode_networks ns [] ++ l
unfolding encode_networks
networks_before [] l = refl
networks_before (n ∷ ns) l =
    ap (encode_network n) (networks_before ns l)
    ∙ network_before n (encode_networks ns [] ++ l)
    ∙ sym (append_assoc (encode_network n []) (encode_networks ns []) l)
    ∙ ap (λ (k : List ℕ). k ++ l) (sym (network_before n (encode_networks ns [])))

-- ---- two lists: the one is written before the other
pub controllers_onto : (ids more l : List ℕ) → encode_controllers (ids ++ more) l ≡ encode_controllers ids (encode_controllers more l)
unfolding encode_controllers
controllers_onto [] more l = refl
controllers_onto (id ∷ ids) more l = ap (byte_field 0x02 id) (controllers_onto ids more l)

pub controllers_append : (ids more : List ℕ) → encode_controllers (ids ++ more) [] ≡ encode_controllers ids [] ++ encode_controllers more []
controllers_append ids more = controllers_onto ids more [] ∙ controllers_before ids (encode_controllers more [])

pub networks_onto : (ns more : List Network) (l : List ℕ) → encode_networks (ns ++ more) l ≡ encode_networks ns (encode_networks more l)
unfolding encode_networks
networks_onto [] more l = refl
networks_onto (n ∷ ns) more l = ap (encode_network n) (networks_onto ns more l)

pub networks_append : (ns more : List Network) → encode_networks (ns ++ more) [] ≡ encode_networks ns [] ++ encode_networks more []
networks_append ns more = networks_onto ns more [] ∙ networks_before ns (encode_networks more [])

-- ---- lengths
pub length_controllers : (ids l : List ℕ) → length (encode_controllers ids l) ≡ 4 * length ids + length l
unfolding encode_controllers
length_controllers [] l = omega arith
length_controllers (id ∷ ids) l = let e = length_controllers ids l in omega arith

pub length_transceiver : (t : Option ℕ) (l : List ℕ) → length (encode_transceiver t l) ≡ length (listed t) * 4 + length l
unfolding encode_transceiver
length_transceiver None l = omega arith
length_transceiver (Some id) l = omega arith

pub length_relation : (r : Relation) (l : List ℕ) → length (encode_relation r l) ≡ length (encode_relation r []) + length l
unfolding encode_relation
length_relation Above l = omega arith
length_relation AtOrAbove l = omega arith

pub length_network : (n : Network) (l : List ℕ) → length (encode_network n l)
    ≡ 21 + 4 * length (controllers_of n) + length (transceivers_of n) * 4 + length (encode_relation n.relation []) + length l
unfolding encode_network
length_network n l =
    let r : List ℕ = encode_relation n.relation l in
    let t : List ℕ = times_field n.short n.long n.ensure (byte_field 0x05 n.threshold (byte_field 0x06 (bit n.partial) r)) in
    let e = length_relation n.relation l in
    omega (arith, length_controllers (controllers_of n) (encode_transceiver n.transceiver t), length_transceiver n.transceiver t)

-- the same, by the parts whose lengths vary
pub length_parts : (n : Network) → length (encode_network n [])
    ≡ 21 + length (encode_controllers (controllers_of n) []) + length (encode_transceiver n.transceiver []) + length (encode_relation n.relation [])
length_parts n = omega (arith, length_network n [], length_controllers (controllers_of n) [], length_transceiver n.transceiver [])

pub listed_few : (t : Option ℕ) → length (listed t) ≤ 1
listed_few None = omega arith
listed_few (Some id) = omega arith

pub relation_few : (r : Relation) → length (encode_relation r []) ≤ 4
unfolding encode_relation
relation_few Above = omega arith
relation_few AtOrAbove = omega arith

-- a network has 25 to 45 bytes: one to four controllers, and perhaps a transceiver and field 07
pub length_networks : (ns : List Network) →
    EachInRange ns → (25 * length ns ≤ length (encode_networks ns [])) × (length (encode_networks ns []) ≤ 45 * length ns)
unfolding encode_networks EachInRange
length_networks [] r = (omega arith, omega arith)
length_networks (n ∷ ns) r =
    let e = length_networks ns r.1 in
    let k : length (controllers_of n) ≡ n.count =
    padded_count most_controllers 0 n.controllers n.count r.0.few_controllers r.0.blank_slots in
    let h = r.0.some_controller in
    let m = r.0.few_controllers in
    let l = length_network n (encode_networks ns []) in
    (omega arith, omega (arith, listed_few n.transceiver, relation_few n.relation))

-- S12: the sheet of good settings has 25 to 360 bytes
pub encode_length : (s : Settings) → Good s → (25 ≤ length (encode s)) × (length (encode s) ≤ 360)
unfolding encode
encode_length s g =
    let e = length_networks (networks_of s) g.in_range in
    let k : length (networks_of s) ≡ s.count = padded_count most_networks blank_network s.networks s.count g.few_networks g.blank_slots in
    let h = g.some_network in
    let m = g.few_networks in
    (omega arith, omega arith)

-- ---- written and buffer_after
module _ (s : Settings) (b : List ℕ) where
  -- a buffer that is too short is refused and stays as it is
  pub refused_untouched : length b < length (encode s) → (Err (record {}) ≡ written s b) × (b ≡ buffer_after s b)
  unfolding written buffer_after
  refused_untouched h = let t = lt-leb (length (encode s)) (length b) h in (rw t refl, rw t refl)

  -- a buffer into which the sheet was stored from the front on is as it should be
  pub written_from_front : (n : ℕ) (after : List ℕ) →
      n ≡ length (encode s) → n ≤ length b → after ≡ sets b 0 (encode s) → (Ok n ≡ written s b) × (after ≡ buffer_after s b)
  unfolding written buffer_after
  written_from_front n after e h p =
      let t = le-leb (length (encode s)) (length b) (omega arith) in
      let z : 0 + length (encode s) ≡ length (encode s) = omega arith in
      (rw t (ap Ok e), rw t (p ∙ sets-eq (encode s) b 0 (omega arith) ∙ ap (λ (k : ℕ). encode s ++ drop k b) z))
