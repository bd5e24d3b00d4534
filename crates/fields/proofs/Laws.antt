-- Laws of fields: a field lies within the bytes, the rest is shorter, and a row that ends well gives back the bytes it was read from.
use Rattle.lists.proofs.Basics.{ℕ, zero, suc, ◌+◌, ◌-◌, ◌*◌, ◌/◌, ◌%◌, ◌≤◌, ◌<◌, arith, ◌≡◌, sym, ap, subst, ◌∙◌, List, [], ◌∷◌, ◌++◌, Bool, true}
use Rattle.lists.proofs.Basics.{false, cond, length, get_or, take, drop, length-drop, length-append, take-append-drop, drop-drop, length-take-le}
use Rattle.lists.proofs.Basics.{take-append_seam, drop-append_seam, refl, div-add-mod'}
use Rattle.lists.specs.Lists.{Bytes}
use Rattle.lists.proofs.Parts.{drop_more, drop_bytes, take_bytes}
use Rattle.fields.specs.declared.Field.{Field}
use Rattle.fields.specs.declared.Field.TheVariants.{End, Stub, Overrun, Whole}
use Rattle.fields.specs.Fields.{holds, measured, front, Row, stop, stub, overrun, field, onto, past, rows, row_at, field_bytes, next_of, ReadAt}

-- ---- holds
pub holds_enough : (n : ℕ) (l : List ℕ) → n ≤ length l → holds n l ≡ true
unfolding holds
holds_enough zero l h = refl
holds_enough (suc n) [] h = absurd (omega arith)
holds_enough (suc n) (b ∷ l) h = holds_enough n l (omega arith)

pub holds_few : (n : ℕ) (l : List ℕ) → length l < n → holds n l ≡ false
unfolding holds
holds_few zero l h = absurd (omega arith)
holds_few (suc n) [] h = refl
holds_few (suc n) (b ∷ l) h = holds_few n l (omega arith)

pub holds_true : (n : ℕ) (l : List ℕ) → holds n l ≡ true → n ≤ length l
unfolding holds
holds_true zero l e = omega arith
holds_true (suc n) [] e = absurd cc
holds_true (suc n) (b ∷ l) e = let h = holds_true n l e in omega arith

-- ---- front, in terms of the bytes at their places
pub front_short : (s : List ℕ) (at : ℕ) → at < length s → length s < at + 3 → front at (drop at s) ≡ Stub (get_or s at 0)
unfolding front
front_short s at h k =
    rw (drop_more s at (at + 1) 0 h refl) (few (get_or s at 0) (drop (at + 1) s) (simp length-drop (omega arith)))
  where
    few : (t : ℕ) (l : List ℕ) → length l < 2 → front at (t ∷ l) ≡ Stub t
    few t [] q = refl
    few t (b ∷ []) q = refl
    few t (b ∷ d ∷ l) q = absurd (omega arith)

pub front_long : (s : List ℕ) (at : ℕ) → at + 3 ≤ length s
    → front at (drop at s) ≡ measured at (get_or s at 0) (get_or s (at + 1) 0 * 256 + get_or s (at + 2) 0) (drop (at + 3) s)
unfolding front
front_long s at h =
    let e = drop_more s at (at + 1) 0 (omega arith) refl in
    rw (e, drop_more s (at + 1) (at + 2) 0 (omega arith) (omega arith), drop_more s (at + 2) (at + 3) 0 (omega arith) (omega arith)) refl

-- with the length n as the code has it
module _ (s : List ℕ) (at n : ℕ) (e : n ≡ get_or s (at + 1) 0 * 256 + get_or s (at + 2) 0) where
  pub front_overrun : at + 3 ≤ length s → length s < at + 3 + n → front at (drop at s) ≡ Overrun (get_or s at 0) n
  unfolding measured
  front_overrun h k =
      front_long s at h ∙ rw (← e, holds_few n (drop (at + 3) s) (simp length-drop (omega arith))) refl

  pub front_fits : at + 3 + n ≤ length s → front at (drop at s) ≡ Whole (get_or s at 0) n (at + 3 + n)
  unfolding measured
  front_fits h =
      front_long s at (omega arith) ∙ rw (← e, holds_enough n (drop (at + 3) s) (simp length-drop (omega arith))) refl

-- ---- rows
-- the bytes that lie in a field that was read are passed over
pub rows_skip : (k at : ℕ) (l : List ℕ) → k ≤ length l → rows k at l ≡ rows 0 (at + k) (drop k l)
unfolding rows
rows_skip zero at l h = ap (λ (n : ℕ). rows 0 n l) (omega arith)
rows_skip (suc k) at [] h = absurd (omega arith)
rows_skip (suc k) at (b ∷ l) h = rows_skip k (at + 1) l (omega arith) ∙ ap (λ (n : ℕ). rows 0 n (drop k l)) (omega arith)

-- what a field that was read says of the bytes: where it ends, and that it lies within them
abbrev pub Lies : ℕ → List ℕ → Field → Type 0
Lies at l End = l ≡ []
Lies at l (Stub tag) = 0 < length l
Lies at l (Overrun tag n) = 3 ≤ length l
Lies at l (Whole tag n next) = (next ≡ at + 3 + n) × (3 + n ≤ length l) × (Bytes l → l ≡ field_bytes tag (take n (drop 3 l)) (drop n (drop 3 l)))

pub two_bytes : (a b : ℕ) → b < 256 → ((a * 256 + b) / 256 ≡ a) × ((a * 256 + b) % 256 ≡ b)
two_bytes a b h = (omega arith, omega arith)

-- the bytes of a whole field, from those of its tag and length
field_whole : (tag high low n : ℕ) (v : List ℕ) → n ≡ high * 256 + low → n ≤ length v → low < 256
    → tag ∷ high ∷ low ∷ v ≡ field_bytes tag (take n v) (drop n v)
field_whole tag high low n v e h k =
    let t = two_bytes high low k in
    let m : length (take n v) ≡ high * 256 + low = length-take-le n v h ∙ e in
    rw (m, t.0, t.1, take-append-drop n v) refl

measured_lies : (at tag high low : ℕ) (v : List ℕ) → Lies at (tag ∷ high ∷ low ∷ v) (measured at tag (high * 256 + low) v)
unfolding measured Bytes
measured_lies at tag high low v = by_test (holds (high * 256 + low) v) refl
  where
    by_test : (b : Bool) → holds (high * 256 + low) v ≡ b →
        Lies at (tag ∷ high ∷ low ∷ v) (cond b (Whole tag (high * 256 + low) (at + 3 + (high * 256 + low))) (Overrun tag (high * 256 + low)))
    by_test true e = let h = holds_true (high * 256 + low) v e in
        (refl, omega arith, λ b. field_whole tag high low (high * 256 + low) v refl h b.1.1.0)
    by_test false e = omega arith

pub front_lies : (at : ℕ) (l : List ℕ) → Lies at l (front at l)
unfolding front
front_lies at [] = refl
front_lies at (tag ∷ []) = omega arith
front_lies at (tag ∷ high ∷ []) = omega arith
front_lies at (tag ∷ high ∷ low ∷ v) = measured_lies at tag high low v

-- the row from a place on, by the field that stands there
row_at_lem : (at : ℕ) (l : List ℕ) (f : Field) → front at l ≡ f → 0 < length l → rows 0 at l ≡ onto at f (drop 3 l) (rows (past f) (at + 1) (drop 1 l))
unfolding rows
row_at_lem at [] f e h = absurd (omega arith)
row_at_lem at (b ∷ l) f e h = ap (λ (g : Field). onto at g (drop 2 l) (rows (past g) (at + 1) l)) e

module _ (at : ℕ) (l : List ℕ) where
  lies : (f : Field) → front at l ≡ f → Lies at l f
  lies f e = subst (Lies at l) e (front_lies at l)

  pub row_end : front at l ≡ End → rows 0 at l ≡ stop at
  unfolding rows
  row_end e = rw (lies End e) refl

  pub row_stub : (tag : ℕ) → front at l ≡ Stub tag → rows 0 at l ≡ stub at tag
  unfolding onto
  row_stub tag e = row_at_lem at l (Stub tag) e (lies (Stub tag) e)

  pub row_overrun : (tag n : ℕ) → front at l ≡ Overrun tag n → rows 0 at l ≡ overrun at tag n
  unfolding onto
  row_overrun tag n e = row_at_lem at l (Overrun tag n) e (let h = lies (Overrun tag n) e in omega arith)

  pub row_whole : (tag n next : ℕ) → front at l ≡ Whole tag n next → rows 0 at l ≡ field at tag (take n (drop 3 l)) (rows 0 next (drop n (drop 3 l)))
  unfolding onto past
  row_whole tag n next e =
      let h = lies (Whole tag n next) e in
      let k : 2 + n ≤ length (drop 1 l) = simp length-drop (omega arith) in
      let p : at + 1 + (2 + n) ≡ next = omega arith in
      let r : 1 + (2 + n) ≡ 3 + n = omega arith in
      let q : drop (2 + n) (drop 1 l) ≡ drop n (drop 3 l) = drop-drop (2 + n) 1 l ∙ (λ i. drop (r i) l) ∙ sym (drop-drop n 3 l) in
      row_at_lem at l (Whole tag n next) e (omega arith)
      ∙ ap (field at tag (take n (drop 3 l))) (rows_skip (2 + n) (at + 1) (drop 1 l) k ∙ (λ i. rows 0 (p i) (q i)))

-- the same at a place of the bytes: the next place is further on, and within them
pub row_further : (s : List ℕ) (at tag n next : ℕ) → front at (drop at s) ≡ Whole tag n next
    → (row_at s at ≡ field at tag (take n (drop (at + 3) s)) (row_at s next)) × (next ≡ at + 3 + n) × (next ≤ length s)
row_further s at tag n next e =
    let r = lies at (drop at s) (Whole tag n next) e in
    let h : 3 + n ≤ length s - at = simp length-drop at r.1 in
    let d : drop 3 (drop at s) ≡ drop (at + 3) s = drop-drop 3 at s in
    let f : drop n (drop (at + 3) s) ≡ drop next s = drop-drop n (at + 3) s ∙ (λ i. drop (sym r.0 i) s) in (
      row_whole at (drop at s) tag n next e
          ∙ (λ i. field at tag (take n (d i)) (rows 0 next (drop n (d i)))) ∙ (λ i. field at tag (take n (drop (at + 3) s)) (rows 0 next (f i))),
      r.0,
      omega arith,
    )

-- the row at a place, by the field that stands there
abbrev pub row_from : List ℕ → ℕ → Field → Row
row_from s at End = stop at
row_from s at (Stub tag) = stub at tag
row_from s at (Overrun tag n) = overrun at tag n
row_from s at (Whole tag n next) = field at tag (take n (drop (at + 3) s)) (row_at s next)

pub row_from_lem : (s : List ℕ) (at : ℕ) (f : Field) → front at (drop at s) ≡ f → row_at s at ≡ row_from s at f
row_from_lem s at End e = row_end at (drop at s) e
row_from_lem s at (Stub tag) e = row_stub at (drop at s) tag e
row_from_lem s at (Overrun tag n) e = row_overrun at (drop at s) tag n e
row_from_lem s at (Whole tag n next) e = (row_further s at tag n next e).0

-- a reader of one field, by what it gives for the field that stands there
pub read_at : {A : Type 0} {make : Row → A} {s : List ℕ} {at : ℕ} {made : A} {next : ℕ} (f : Field) → front at (drop at s) ≡ f →
    made ≡ make (row_from s at f) → next ≡ next_of f at → ReadAt make s at made next
read_at {A} {make} {s} {at} f e p q = record { what = p ∙ ap make (sym (row_from_lem s at f e)); where_next = rw e q }

-- ---- the row of a field that was written
front_field : (at tag : ℕ) (v l : List ℕ) → front at (field_bytes tag v l) ≡ Whole tag (length v) (at + 3 + length v)
unfolding front measured
front_field at tag v l =
    let k : length v ≤ length (v ++ l) = simp length-append (omega arith) in
    rw (div-add-mod' (length v) 256, holds_enough (length v) (v ++ l) k) refl

pub rows_field : (at tag : ℕ) (v l : List ℕ) → rows 0 at (field_bytes tag v l) ≡ field at tag v (rows 0 (at + 3 + length v) l)
rows_field at tag v l =
    row_whole at (field_bytes tag v l) tag (length v) (at + 3 + length v) (front_field at tag v l)
    ∙ rw (take-append_seam v l, drop-append_seam v l) refl

-- ---- bytes_of
-- the bytes that a row was read from
unfoldable pub bytes_of : Row → List ℕ
bytes_of (stop at) = []
bytes_of (stub at tag) = []
bytes_of (overrun at tag n) = []
bytes_of (field at tag v rest) = field_bytes tag v (bytes_of rest)

-- the row ends at the end of the bytes
abbrev pub Ends : Row → Type 0
Ends (stop at) = Unit
Ends (stub at tag) = ⊥
Ends (overrun at tag n) = ⊥
Ends (field at tag v rest) = Ends rest

-- each value of the row is bytes
abbrev pub ByteRow : Row → Type 0
ByteRow (stop at) = Unit
ByteRow (stub at tag) = Unit
ByteRow (overrun at tag n) = Unit
ByteRow (field at tag v rest) = Bytes v × ByteRow rest

-- what holds of the row of bytes: its values are bytes, and if it ends at the end of the bytes it gives them back
abbrev Back : List ℕ → Row → Type 0
Back l row = ByteRow row × (Ends row → bytes_of row ≡ l)

abbrev BackUpTo : ℕ → Type 0
BackUpTo k = (at : ℕ) (l : List ℕ) → length l ≤ k → Bytes l → Back l (rows 0 at l)

by_field : (k at : ℕ) (l : List ℕ) (f : Field) → front at l ≡ f → length l ≤ suc k → Bytes l → BackUpTo k → Back l (rows 0 at l)
unfolding bytes_of
by_field k at l End e h b ih = rw (row_end at l e) (tt, λ n. sym (lies at l End e))
by_field k at l (Stub tag) e h b ih = rw (row_stub at l tag e) (tt, λ n. absurd n)
by_field k at l (Overrun tag m) e h b ih = rw (row_overrun at l tag m e) (tt, λ n. absurd n)
by_field k at l (Whole tag m next) e h b ih =
    let r = lies at l (Whole tag m next) e in
    let v : Bytes (drop 3 l) = drop_bytes 3 l b in
    let i = ih next (drop m (drop 3 l)) (simp length-drop (omega arith)) (drop_bytes m (drop 3 l) v) in
    rw (row_whole at l tag m next e) ((take_bytes m (drop 3 l) v, i.0), λ n. ap (field_bytes tag (take m (drop 3 l))) (i.1 n) ∙ sym (r.2 b))

-- by recursion on a bound of the length
back_by : (k : ℕ) → BackUpTo k
unfolding rows bytes_of
back_by zero at [] h b = (tt, λ n. refl)
back_by zero at (x ∷ l) h b = absurd (omega arith)
back_by (suc k) at l h b = by_field k at l (front at l) refl h b (back_by k)

-- a row that ends at the end of the bytes gives them back
pub bytes_back : (at : ℕ) (l : List ℕ) → Bytes l → Ends (rows 0 at l) → bytes_of (rows 0 at l) ≡ l
bytes_back at l b n = (back_by (length l) at l (omega arith) b).1 n

-- the values of a row of bytes are bytes
pub bytes_row : (at : ℕ) (l : List ℕ) → Bytes l → ByteRow (rows 0 at l)
bytes_row at l b = (back_by (length l) at l (omega arith) b).0
