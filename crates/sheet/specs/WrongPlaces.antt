-- Answers of wrong readers for damaged bench sheets, each with the right refusal at a wrong place, that `Points` rules out, by computation. The rules
-- S24, S28 and S29 of docs/RULES.md.
use Rattle.std.specs.Prelude.{ℕ, ◌+◌, ◌-◌, ◌*◌, ◌≤◌, ◌<◌, ◌≡◌, refl, List, get_or, set}
use Rattle.std.proofs.Common.{arith, subst}
use Rattle.fields.specs.Fields.{FieldStarts, at_first, behind}
use Rattle.entries.specs.declared.Fault.TheVariants.{WrongLength, OutOfRange}
use Rattle.entries.specs.Entries.{wide}
use Rattle.sheet.specs.Bench.{bench_sheet}
use Rattle.sheet.specs.Pointing.{controller_id, transceiver_id, short_delay, long_delay, ensure_time, threshold, partial_networking, relation}
use Rattle.sheet.specs.Pointing.{BadNumber, NumberHere, Points}

-- ---- no number that is out of its range stands at a place, by the bytes before it
module _ (b : List ℕ) (place : ℕ) where
  -- the tag of a number that stands so far behind it
  tag_before : (at tag k : ℕ) → get_or b at 0 ≡ tag → place ≡ at + k → get_or b (place - k) 0 ≡ tag
  tag_before at tag k t e = let same : at ≡ place - k = omega arith in subst (λ (i : ℕ). get_or b i 0 ≡ tag) same t

  -- no tag with a number stands three bytes before it, field 04 does not begin five before it nor, with a short delay other than 0, seven
  nowhere : get_or b (place - 3) 0 < 2 → (get_or b (place - 5) 0 ≡ 4 → ⊥) → (get_or b (place - 7) 0 ≡ 4 → wide b (place - 4) ≡ 0) → NumberHere b place → ⊥
  nowhere none no-long no-ensure h = by_number_lem h.at h.number
    where
      by_number_lem : (at : ℕ) → BadNumber b at place → ⊥
      by_number_lem at (controller_id t e n) = let k = tag_before at _ _ t e in omega arith
      by_number_lem at (transceiver_id t e n) = let k = tag_before at _ _ t e in omega arith
      by_number_lem at (short_delay t e n) = let k = tag_before at _ _ t e in omega arith
      by_number_lem at (long_delay t e m n) = no-long (tag_before at _ _ t e)
      by_number_lem at (ensure_time t e l m n) =
          let same : place - 4 ≡ at + 3 = omega arith in l (subst (λ (i : ℕ). wide b i ≡ 0) same (no-ensure (tag_before at _ _ t e)))
      by_number_lem at (threshold t e n) = let k = tag_before at _ _ t e in omega arith
      by_number_lem at (partial_networking t e n) = let k = tag_before at _ _ t e in omega arith
      by_number_lem at (relation t e n) = let k = tag_before at _ _ t e in omega arith

-- ---- each with the bytes that such a reader is handed, and the place that it gives
module _ where
  -- S29: a short delay of 0 is told at the tag, as it was before the rule
  pub number_at_the_tag : Points OutOfRange (set bench_sheet 12 0) 8 → ⊥
  number_at_the_tag = nowhere (set bench_sheet 12 0) 8 (omega arith) (λ e. omega (arith, e)) (λ e. absurd (omega (arith, e)))

  -- S29: it is told at the low byte
  pub number_at_its_low_byte : Points OutOfRange (set bench_sheet 12 0) 12 → ⊥
  number_at_its_low_byte = nowhere (set bench_sheet 12 0) 12 (omega arith) (λ e. omega (arith, e)) (λ e. absurd (omega (arith, e)))

  -- S29: the short delay and the ensure time are 0, and the last of them is told
  pub last_zero : Points OutOfRange (set (set bench_sheet 12 0) 16 0) 15 → ⊥
  last_zero = nowhere (set (set bench_sheet 12 0) 16 0) 15 (omega arith) (λ e. omega (arith, e)) (λ e. refl)

  -- S28: a length of 5 in field 04 is told at its second byte
  pub length_at_its_second_byte : Points WrongLength (set bench_sheet 10 5) 10 → ⊥
  length_at_its_second_byte h =
      let same : h.at ≡ 9 = let e = h.here in omega arith in
      let known = subst (λ (i : ℕ). 1 ≤ get_or (set bench_sheet 10 5) i 0) same h.known.0 in
      omega (arith, known)

-- ---- a number in the middle of a value
-- the bench sheet with the times 0200, 01ff and 3: its bytes from place 11 on look like a controller with the id 255
abbrev look_alike : List ℕ
look_alike = set (set (set (set bench_sheet 11 2) 12 0) 13 1) 14 255

-- its fields begin at these six places
six_places : (P : ℕ → Type 0) → P 0 → P 4 → P 8 → P 17 → P 21 → P 25 → (at : ℕ) → FieldStarts look_alike at → P at
six_places P a b c d e f at at_first = a
six_places P a b c d e f at (behind from n starts l within) =
    six_places (λ (k : ℕ). (n : ℕ) → n ≡ get_or look_alike (k + 1) 0 * 256 + get_or look_alike (k + 2) 0 → k + 3 + n ≤ 25 → P (k + 3 + n))
    (λ n l h. subst P (let z : 4 ≡ 0 + 3 + n = omega (arith, l) in z) b)
    (λ n l h. subst P (let z : 8 ≡ 4 + 3 + n = omega (arith, l) in z) c)
    (λ n l h. subst P (let z : 17 ≡ 8 + 3 + n = omega (arith, l) in z) d)
    (λ n l h. subst P (let z : 21 ≡ 17 + 3 + n = omega (arith, l) in z) e)
    (λ n l h. subst P (let z : 25 ≡ 21 + 3 + n = omega (arith, l) in z) f)
    (λ n l h. absurd (omega (arith, h))) from starts n l within

-- a number is three, five or seven bytes behind its tag, and place 14 is not so far behind this one
abbrev Off : ℕ → Type 0
Off at = (14 ≡ at + 3 → ⊥) × (14 ≡ at + 5 → ⊥) × (14 ≡ at + 7 → ⊥)

off : (at : ℕ) → Off at → BadNumber look_alike at 14 → ⊥
off at o (controller_id t e n) = o.0 e
off at o (transceiver_id t e n) = o.0 e
off at o (short_delay t e n) = o.0 e
off at o (long_delay t e m n) = o.1 e
off at o (ensure_time t e l m n) = o.2 e
off at o (threshold t e n) = o.0 e
off at o (partial_networking t e n) = o.0 e
off at o (relation t e n) = o.0 e

-- S29: a reader that looks for a field where none begins tells that id
pub number_in_a_value : Points OutOfRange look_alike 14 → ⊥
number_in_a_value h =
    let away : Off h.at = six_places Off (λ e. omega (arith, e), λ e. omega (arith, e), λ e. omega (arith, e))
    (λ e. omega (arith, e), λ e. omega (arith, e), λ e. omega (arith, e)) (λ e. omega (arith, e), λ e. omega (arith, e), λ e. omega (arith, e))
    (λ e. omega (arith, e), λ e. omega (arith, e), λ e. omega (arith, e)) (λ e. omega (arith, e), λ e. omega (arith, e), λ e. omega (arith, e))
    (λ e. omega (arith, e), λ e. omega (arith, e), λ e. omega (arith, e)) h.at h.whole.starts in
    off h.at away h.number
