-- What a row of fields says of the bytes that it was read from, at each of its places.
use Rattle.lists.proofs.Basics.{ℕ, zero, suc, ◌+◌, ◌*◌, ◌≤◌, ◌<◌, arith, leb-true, leb-false, ◌≡◌, refl, sym, subst, List, leb}
use Rattle.lists.proofs.Basics.{length, get_or, take, drop, length-drop, length-take-le}
use lib.ListN.{drop_of_length-le}
use Rattle.lists.proofs.Tests.{split}
use Rattle.fields.specs.declared.Field.TheVariants.{End}
use Rattle.fields.specs.Fields.{front, Row, stop, stub, overrun, field, row_at, FieldStarts, at_first, behind}
use Rattle.fields.proofs.Laws.{front_short, front_overrun, front_fits, row_from_lem, row_further}

-- a field begins here, with this tag and this length as written
pub record Headed (s : List ℕ) (at tag n : ℕ) : Type 0 where
  pub starts : FieldStarts s at
  pub head : at + 3 ≤ length s
  pub tag_is : tag ≡ get_or s at 0
  pub length_is : n ≡ get_or s (at + 1) 0 * 256 + get_or s (at + 2) 0

-- a whole field, with its value
pub record Valued (s : List ℕ) (at tag : ℕ) (v : List ℕ) : Type 0 where
  pub headed : Headed s at tag (length v)
  pub within : at + 3 + length v ≤ length s
  pub value : v ≡ take (length v) (drop (at + 3) s)

abbrev pub LaidOut : List ℕ → Row → Type 0
LaidOut s (stop at) = FieldStarts s at × (at ≡ length s)
LaidOut s (stub at tag) = FieldStarts s at × (at < length s) × (length s < at + 3)
LaidOut s (overrun at tag n) = Headed s at tag n × (length s < at + 3 + n)
LaidOut s (field at tag v rest) = Valued s at tag v × LaidOut s rest

-- one number is at most another, or above it
by_order : {P : Type 0} (x y : ℕ) → (x ≤ y → P) → (y < x → P) → P
by_order {P} x y within past = split {A = Unit} (λ (_ : Unit). P) (leb x y) {x = tt} {y = tt} (λ e. within (leb-true x y e)) (λ e. past (leb-false x y e))

module _ (s : List ℕ) where
  -- at the end
  ended : (at : ℕ) → FieldStarts s at → at ≡ length s → LaidOut s (row_at s at)
  unfolding front
  ended at b e =
      rw (row_from_lem s at End (rw (drop_of_length-le s (let h : length s ≤ at = omega arith in h)) refl)) (b, e)

  module _ (at : ℕ) (b : FieldStarts s at) (head : at + 3 ≤ length s) where
    abbrev n : ℕ
    n = get_or s (at + 1) 0 * 256 + get_or s (at + 2) 0

    headed : Headed s at (get_or s at 0) n
    headed = record { starts = b; head = head; tag_is = refl; length_is = refl }

    overran : length s < at + 3 + n → LaidOut s (row_at s at)
    overran h = rw (row_from_lem s at _ (front_overrun s at n refl head h)) (headed, h)

    went_on : at + 3 + n ≤ length s → LaidOut s (row_at s (at + 3 + n)) → LaidOut s (row_at s at)
    went_on h rest =
        let m : length (take n (drop (at + 3) s)) ≡ n = length-take-le n (drop (at + 3) s) (simp length-drop (omega arith)) in
        rw (row_further s at (get_or s at 0) n (at + 3 + n) (front_fits s at n refl h)).0 (
          record { headed = subst (Headed s at (get_or s at 0)) (sym m) headed; within = omega (arith, m); value = rw m refl },
          rest,
        )

  -- from a place on at which a field begins
  laid_from : (k at : ℕ) → length s ≤ at + k → at ≤ length s → FieldStarts s at → LaidOut s (row_at s at)
  laid_from zero at few within b = ended at b (omega arith)
  laid_from (suc k) at few within b =
      by_order (length s) at (λ h. ended at b (omega arith)) (λ more. by_order (at + 3) (length s)
      (λ head. by_order (at + 3 + n at b head) (length s)
      (λ h. went_on at b head h (laid_from k (at + 3 + n at b head) (omega arith) h (behind at (n at b head) b refl h)))
      (λ h. overran at b head h))
      (λ h. rw (row_from_lem s at _ (front_short s at more h)) (b, more, h)))

  -- the row of all the bytes
  pub laid_out : LaidOut s (row_at s 0)
  laid_out = laid_from (length s) 0 (omega arith) (omega arith) at_first
