-- Laws that the proofs cite: what `io::decimal` writes is the decimal text, how long texts are, and records in a buffer.
use Rattle.lists.proofs.Basics.{ℕ, zero, suc, ◌-◌, ◌*◌, ◌/◌, ◌%◌, ◌≤◌, ◌<◌, arith, lt-ltb, le-ltb, ◌≡◌, refl, sym, ap, ◌∙◌, List, [], ◌∷◌, ◌++◌}
use Rattle.lists.proofs.Basics.{append_assoc, Bool, true, false, cond, ltb, length, get_or, drop, take, length-append, length-take, get_or-take, ◌^◌}
use native.Mathlib.Nat.{one-le-pow}
use Rattle.std.specs.Simd.{first_chunks}
use Rattle.io.specs.Digits.{last_digits, hex_digit_ascii, IsDigitCount}
use Rattle.records.specs.declared.Record.{Record}
use Rattle.records.specs.Records.{handed, records_at}
use Rattle.text.specs.Text.{digit, digits_up_to, decimal, record_text, records_text, blank}

-- ---- digits
glyph_digit : (d : ℕ) → d < 10 → hex_digit_ascii d ≡ digit d
glyph_digit d h = rw (lt-ltb d 10 h) refl

-- the fewest digits that hold a number are its decimal text
fewest_digits : (most k n : ℕ) → suc k ≤ most → n < 10 ^ suc k → (0 < k → 10 ^ k ≤ n) → last_digits 10 (suc k) n ≡ digits_up_to most n
unfolding digits_up_to
fewest_digits zero k n h b l = absurd (omega arith)
fewest_digits (suc most) zero n h b l =
    let below : n < 10 = omega (arith, b) in
    let same : n % 10 ≡ n = omega arith in
    rw (lt-ltb n 10 below, same, glyph_digit n below) refl
fewest_digits (suc most) (suc k) n h b l =
    let reach : 10 ^ suc k ≤ n = l (omega arith) in
    let some : 1 ≤ 10 ^ k = one-le-pow k 10 (omega arith) in
    let tens : 10 ≤ n = omega (arith, reach, some) in
    let front : last_digits 10 (suc k) (n / 10) ≡ digits_up_to most (n / 10) =
    fewest_digits most k (n / 10) (omega arith) (omega (arith, b)) (λ z. omega (arith, reach)) in
    rw (le-ltb n 10 tens, glyph_digit (n % 10) (omega arith)) (ap (λ (t : List ℕ). t ++ (digit (n % 10) ∷ [])) front)

below_power : (k : ℕ) → k < 10 ^ k
below_power zero = omega arith
below_power (suc k) = omega (arith, below_power k)

pub decimal_digits : (n k : ℕ) → IsDigitCount 10 1 n k → last_digits 10 k n ≡ decimal n
unfolding decimal
decimal_digits n zero f = absurd (omega (arith, f.0))
decimal_digits n (suc zero) f = fewest_digits (suc n) zero n (omega arith) f.1 (λ z. absurd (omega arith))
decimal_digits n (suc (suc k)) f =
    let e : suc (suc k) - 1 ≡ suc k = omega arith in
    let reach : 10 ^ suc k ≤ n = (rw e at f).2 (omega arith) in
    fewest_digits (suc n) (suc k) n (omega (arith, below_power (suc k), reach)) f.1 (λ z. reach)

-- ---- lengths
-- a number below 10, below 100 and so on has no more digits than that
digits_few : (most k n : ℕ) → n < 10 ^ suc k → length (digits_up_to most n) ≤ suc k
unfolding digits_up_to
digits_few zero k n b = omega arith
digits_few (suc most) zero n b = rw (lt-ltb n 10 (omega (arith, b))) (omega arith)
digits_few (suc most) (suc k) n b = by_test (ltb n 10) (digits_few most k (n / 10) (omega (arith, b))) where
  by_test : (c : Bool) →
      length (digits_up_to most (n / 10)) ≤ suc k → length (cond c (digit n ∷ []) (digits_up_to most (n / 10) ++ (digit (n % 10) ∷ []))) ≤ suc (suc k)
  by_test true h = omega arith
  by_test false h = omega (arith, length-append (digits_up_to most (n / 10)) (digit (n % 10) ∷ []), h)

pub decimal_small : (n : ℕ) → n < 256 → length (decimal n) ≤ 3
unfolding decimal
decimal_small n h = digits_few (suc n) 2 n (omega arith)

pub decimal_wide : (n : ℕ) → n < 2 ^ 64 → length (decimal n) ≤ 20
unfolding decimal
decimal_wide n h = digits_few (suc n) 19 n (omega arith)

-- ---- records
pub text_append : (rs ss : List Record) → records_text (rs ++ ss) ≡ records_text rs ++ records_text ss
unfolding records_text
text_append [] ss = refl
text_append (r ∷ rs) ss =
    ap (λ (t : List ℕ). (blank ∷ record_text r) ++ t) (text_append rs ss)
    ∙ sym (append_assoc (blank ∷ record_text r) (records_text rs) (records_text ss))

pub records_length : (n : ℕ) (b : List ℕ) → length (records_at n b) ≡ n
unfolding records_at
records_length zero b = refl
records_length (suc n) b = ap suc (records_length n (drop 3 b))

-- the record that a chunk of bytes is
abbrev by_chunk : List ℕ → Record
by_chunk x = handed (get_or x 0 0) (get_or x 1 0) (get_or x 2 0)

chunk_in : (n i k : ℕ) (b : List ℕ) (d : Record) → i < n → n ≤ k → get_or (records_at n b) i d ≡ by_chunk (get_or (take n (first_chunks 3 k b)) i [])
unfolding records_at
chunk_in zero i k b d h m = absurd (omega arith)
chunk_in (suc n) i zero b d h m = absurd (omega arith)
chunk_in (suc n) zero (suc k) b d h m =
    rw (get_or-take 3 b 0 0 (omega arith), get_or-take 3 b 1 0 (omega arith), get_or-take 3 b 2 0 (omega arith)) refl
chunk_in (suc n) (suc i) (suc k) b d h m = chunk_in n i k (drop 3 b) d (omega arith) (omega arith)

-- a buffer cut into chunks of three bytes: there are as many of them as whole records, and each is a record
module _ (b : List ℕ) (chunks : List (List ℕ)) (n : ℕ) (h : 3 * n ≤ length b) where
  pub chunks_length : length chunks ≡ length b / 3 → length (take n chunks) ≡ n
  chunks_length e = omega (arith, length-take n chunks)

  pub chunk_at_lem : chunks ≡ first_chunks 3 (length b / 3) b → (i : ℕ) (d : Record) → i < n → get_or (records_at n b) i d ≡ by_chunk (get_or (take n chunks) i [])
  chunk_at_lem e i d k = rw e (chunk_in n i (length b / 3) b d k (omega arith))
