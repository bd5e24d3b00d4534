-- Bytes as a row of fields: the rules S1 and S13 of docs/RULES.md. The row serves the sheet, the events and every other input of this layout. Which
-- tags there are, and how long their values have to be, is left to those who read the row.
use Rattle.std.specs.Prelude.{ℕ, zero, suc, ◌+◌, ◌*◌, ◌/◌, ◌%◌, ◌≤◌, ◌≡◌, List, [], ◌∷◌, ◌++◌, Bool, true, false, cond, length, get_or, take, drop}
use Rattle.fields.specs.declared.Field.{Field}
use Rattle.fields.specs.declared.Field.TheVariants.{End, Stub, Overrun, Whole}

-- there are at least n bytes
unfoldable pub holds : ℕ → List ℕ → Bool
holds zero l = true
holds (suc n) [] = false
holds (suc n) (b ∷ l) = holds n l

-- S1: a field by its tag, the length as written, and the bytes that follow the length: whole where these are enough for its value
unfoldable pub measured : ℕ → ℕ → ℕ → List ℕ → Field
measured at tag n v = cond (holds n v) (Whole tag n (at + 3 + n)) (Overrun tag n)

-- S1: the field at the front of the unread bytes, which begin at a place: a byte of tag, two of length with the high one first, and the value
unfoldable pub front : ℕ → List ℕ → Field
front at [] = End
front at (tag ∷ []) = Stub tag
front at (tag ∷ high ∷ []) = Stub tag
front at (tag ∷ high ∷ low ∷ v) = measured at tag (high * 256 + low) v

-- S1: fields in a row, each with its place, its tag and its value; the row ends at the end of the bytes, at one or two bytes that are left, or at a
-- field whose value runs past the end
-- (stop: the place; stub: place and tag; overrun: place, tag and the length as written; field: place, tag, value and the rest of the row)
pub data Row : Type 0 where
  stop : ℕ → Row
  stub : ℕ → ℕ → Row
  overrun : ℕ → ℕ → ℕ → Row
  field : ℕ → ℕ → List ℕ → Row → Row

-- a field at a place, given the bytes after its length, before the rest of its row
unfoldable pub onto : ℕ → Field → List ℕ → Row → Row
onto at End v rest = stop at
onto at (Stub tag) v rest = stub at tag
onto at (Overrun tag n) v rest = overrun at tag n
onto at (Whole tag n next) v rest = field at tag (take n v) rest

-- how many bytes of a field follow its tag
unfoldable pub past : Field → ℕ
past End = 0
past (Stub tag) = 0
past (Overrun tag n) = 0
past (Whole tag n next) = 2 + n

-- the row of the bytes after the first k, which lie in a field that was read; by recursion on the bytes
unfoldable pub rows : ℕ → ℕ → List ℕ → Row
rows k at [] = stop at
rows (suc k) at (b ∷ l) = rows k (at + 1) l
rows zero at (b ∷ l) = onto at (front at (b ∷ l)) (drop 2 l) (rows (past (front at (b ∷ l))) (at + 1) l)

-- S13: the fields that are not read yet, which are the row of the bytes from a place on
abbrev pub row_at : List ℕ → ℕ → Row
row_at s at = rows 0 at (drop at s)

-- the place after a field
abbrev pub next_of : Field → ℕ → ℕ
next_of End at = at
next_of (Stub tag) at = at
next_of (Overrun tag n) at = at
next_of (Whole tag n next) at = next

-- S13: what a reader of one field gives: what it makes of the row that begins at a place, and the place after the field
pub record ReadAt {A : Type 0} (make : Row → A) (s : List ℕ) (at : ℕ) (made : A) (next : ℕ) : Type 0 where
  pub what : made ≡ make (row_at s at)
  pub where_next : next ≡ next_of (front at (drop at s)) at

-- S1: a field as bytes: its tag, the length of its value in two bytes with the high one first, its value; then what follows it
abbrev pub field_bytes : ℕ → List ℕ → List ℕ → List ℕ
field_bytes tag v rest = tag ∷ length v / 256 ∷ length v % 256 ∷ (v ++ rest)

-- S1: the places of the bytes at which a field begins: the first one, and the one behind a field that is whole, which is as long as it says
pub data FieldStarts (b : List ℕ) : ℕ → Type 0 where
  at_first : FieldStarts b 0
  behind : (at n : ℕ) → FieldStarts b at → n ≡ get_or b (at + 1) 0 * 256 + get_or b (at + 2) 0 → at + 3 + n ≤ length b → FieldStarts b (at + 3 + n)
