-- What one round trip asks of a reader, and wrong readers that it rules out, by computation. The rules S19, S20 and S27 of docs/RULES.md.
use Rattle.std.specs.Prelude.{ℕ, refl, take, drop, Ok}
use native.Mathlib.Omega.{arith}
use Rattle.std.proofs.Math.Path.{◌≡◌, ap}
use mathlib.Core.List.{List, [], ◌∷◌, ◌++◌}
use Rattle.std.proofs.Math.ListN.{length, get_or}
use Rattle.sheet.specs.declared.Reading.{Reading}
use Rattle.sheet.specs.Reading.{decode}
use Rattle.sheet.specs.Encode.{encode_controllers, encode_transceiver, encode_relation, encode_network, encode_networks, encode}
use Rattle.sheet.specs.Bench.{bench_sheet, newer_sheet, computed_reading}

-- the settings of an accepted reading, written, are the very bytes that were read: so no two sheets say the same
abbrev pub WrittenAsRead : List ℕ → Reading → Type 0
WrittenAsRead b d = d.answer ≡ Ok tt → encode d.settings ≡ b

-- field 07 by itself, with this value
abbrev relation_field : ℕ → List ℕ
relation_field value = 0x07 ∷ 0 ∷ 1 ∷ value ∷ []

-- each with the bytes that such a reader is handed, and what it gives for them
module _ where
  -- it takes the value 0 as if the field were absent
  pub relation_0_as_absent : WrittenAsRead (bench_sheet ++ relation_field 0) (decode bench_sheet) → ⊥
  unfolding computed_reading encode_controllers encode_transceiver encode_relation encode_network encode_networks encode
  relation_0_as_absent back = let z : ◌≡◌ {A = ℕ} 25 29 = ap length (back refl) in omega arith

  -- it takes field 07 before field 06
  pub relation_before_partial : WrittenAsRead (take 21 bench_sheet ++ (relation_field 1 ++ drop 21 bench_sheet)) (decode newer_sheet) → ⊥
  unfolding computed_reading encode_controllers encode_transceiver encode_relation encode_network encode_networks encode
  relation_before_partial back = let z : ◌≡◌ {A = ℕ} 6 7 = ap (λ (l : List ℕ). get_or l 21 0) (back refl) in omega arith

  -- it passes over a second field 07
  pub second_relation_passed_over : WrittenAsRead (newer_sheet ++ relation_field 1) (decode newer_sheet) → ⊥
  unfolding computed_reading encode_controllers encode_transceiver encode_relation encode_network encode_networks encode
  second_relation_passed_over back = let z : ◌≡◌ {A = ℕ} 29 33 = ap length (back refl) in omega arith

  -- it passes over field 07 altogether, as if the network followed the older relation
  pub relation_forgotten : WrittenAsRead newer_sheet (decode bench_sheet) → ⊥
  unfolding computed_reading encode_controllers encode_transceiver encode_relation encode_network encode_networks encode
  relation_forgotten back = let z : ◌≡◌ {A = ℕ} 25 29 = ap length (back refl) in omega arith
