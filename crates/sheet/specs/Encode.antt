-- The sheet that settings have: the rules S1 to S9, S12 and S27 of docs/RULES.md. Each part is written before what follows it.
use Rattle.std.specs.Prelude.{ℕ, ◌/◌, ◌%◌, List, [], ◌∷◌, Bool, true, false, Option, None, Some}
use Rattle.fields.specs.Fields.{field_bytes}
use Rattle.settings.specs.declared.Relation.{Relation}
use Rattle.settings.specs.declared.Relation.TheVariants.{Above, AtOrAbove}
use Rattle.settings.specs.declared.Network.{Network}
use Rattle.settings.specs.declared.Settings.{Settings}
use Rattle.settings.specs.Settings.{networks_of, controllers_of}

-- S1: a field whose value is one byte
abbrev pub byte_field : ℕ → ℕ → List ℕ → List ℕ
byte_field tag x l = field_bytes tag (x ∷ []) l

-- S7: field 04, with three numbers of two bytes, the high byte first
abbrev pub times_field : ℕ → ℕ → ℕ → List ℕ → List ℕ
times_field short long ensure l =
    field_bytes 0x04 (short / 256 ∷ short % 256 ∷ long / 256 ∷ long % 256 ∷ ensure / 256 ∷ ensure % 256 ∷ []) l

-- S5: a field 02 for each controller
unfoldable pub encode_controllers : List ℕ → List ℕ → List ℕ
encode_controllers [] l = l
encode_controllers (id ∷ ids) l = byte_field 0x02 id (encode_controllers ids l)

-- S6: field 03, which may be missing
unfoldable pub encode_transceiver : Option ℕ → List ℕ → List ℕ
encode_transceiver None l = l
encode_transceiver (Some id) l = byte_field 0x03 id l

-- S9: the value of field 06
abbrev pub bit : Bool → ℕ
bit false = 0
bit true = 1

-- S27: field 07, which a network has exactly where it follows the newer relation
unfoldable pub encode_relation : Relation → List ℕ → List ℕ
encode_relation Above l = l
encode_relation AtOrAbove l = byte_field 0x07 1 l

-- S3 to S9, S27: the fields of a network, in the order of the table
unfoldable pub encode_network : Network → List ℕ → List ℕ
encode_network n l =
    byte_field 0x01 n.handle
    (encode_controllers (controllers_of n)
    (encode_transceiver n.transceiver
    (times_field n.short n.long n.ensure
    (byte_field 0x05 n.threshold
    (byte_field 0x06 (bit n.partial)
    (encode_relation n.relation l))))))

-- S2: network after network, in the order of the sheet, then what follows them
unfoldable pub encode_networks : List Network → List ℕ → List ℕ
encode_networks [] l = l
encode_networks (n ∷ ns) l = encode_network n (encode_networks ns l)

-- S2, S12: the sheet of settings; that of good ones has 25 to 360 bytes, which is proved as `encode_length`
unfoldable pub encode : Settings → List ℕ
encode s = encode_networks (networks_of s) []
