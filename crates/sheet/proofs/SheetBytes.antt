-- The sheet of good settings is bytes.
use Rattle.lists.proofs.Basics.{ℕ, ◌/◌, ◌%◌, ◌<◌, arith, List, [], ◌∷◌, Bool, true, false}
use Rattle.lists.specs.Lists.{Bytes}
use Rattle.std.specs.Prelude.{Option, None, Some}
use Rattle.settings.specs.declared.Relation.{Relation}
use Rattle.settings.specs.declared.Relation.TheVariants.{Above, AtOrAbove}
use Rattle.settings.specs.declared.Network.{Network}
use Rattle.settings.specs.declared.Settings.{Settings}
use Rattle.settings.specs.Settings.{networks_of, controllers_of, listed}
use Rattle.settings.specs.Good.{Below, InRange, EachInRange, Good}
use Rattle.sheet.specs.Encode.{byte_field, times_field, encode_controllers, encode_transceiver, bit, encode_relation, encode_network, encode_networks}
use Rattle.sheet.specs.Encode.{encode}

byte_field_lem : (tag x : ℕ) (l : List ℕ) → tag < 256 → x < 256 → Bytes l → Bytes (byte_field tag x l)
unfolding Bytes
byte_field_lem tag x l h k b = (h, (omega arith, (omega arith, (k, b))))

-- the two bytes of a number
halves : (x : ℕ) → x < 65536 → (x / 256 < 256) × (x % 256 < 256)
halves x h = (omega arith, omega arith)

times_field_lem : (x y z : ℕ) (l : List ℕ) → x < 65536 → y < 65536 → z < 65536 → Bytes l → Bytes (times_field x y z l)
unfolding Bytes
times_field_lem x y z l hx hy hz b =
    let p = halves x hx in
    let q = halves y hy in
    let r = halves z hz in
    (omega arith, (omega arith, (omega arith, (p.0, (p.1, (q.0, (q.1, (r.0, (r.1, b)))))))))

controllers : (cs l : List ℕ) → Below 32 cs → Bytes l → Bytes (encode_controllers cs l)
unfolding encode_controllers Below
controllers [] l h b = b
controllers (c ∷ cs) l h b = byte_field_lem 2 c (encode_controllers cs l) (omega arith) (omega (arith, h.0)) (controllers cs l h.1 b)

transceiver : (t : Option ℕ) (l : List ℕ) → Below 8 (listed t) → Bytes l → Bytes (encode_transceiver t l)
unfolding encode_transceiver Below
transceiver None l h b = b
transceiver (Some x) l h b = byte_field_lem 3 x l (omega arith) (omega (arith, h.0)) b

bit_byte : (b : Bool) → bit b < 256
bit_byte false = omega arith
bit_byte true = omega arith

relation : (r : Relation) (l : List ℕ) → Bytes l → Bytes (encode_relation r l)
unfolding encode_relation
relation Above l b = b
relation AtOrAbove l b = byte_field_lem 7 1 l (omega arith) (omega arith) b

network : (n : Network) (l : List ℕ) → InRange n → Bytes l → Bytes (encode_network n l)
unfolding encode_network
network n l g b =
    byte_field_lem 1 n.handle _ (omega arith) g.handle
    (controllers (controllers_of n) _ g.controllers
    (transceiver n.transceiver _ g.transceiver
    (times_field_lem n.short n.long n.ensure _ g.short.1 g.long.1 g.ensure.1
    (byte_field_lem 5 n.threshold _ (omega arith) (omega (arith, g.threshold))
    (byte_field_lem 6 (bit n.partial) _ (omega arith) (bit_byte n.partial)
    (relation n.relation l b))))))

networks : (ns : List Network) (l : List ℕ) → EachInRange ns → Bytes l → Bytes (encode_networks ns l)
unfolding encode_networks EachInRange
networks [] l g b = b
networks (n ∷ ns) l g b = network n (encode_networks ns l) g.0 (networks ns l g.1 b)

pub sheet_bytes : (s : Settings) → Good s → Bytes (encode s)
unfolding encode Bytes
sheet_bytes s g = networks (networks_of s) [] g.in_range tt
