-- What stands where a refusal points, by the bytes alone: the rules S15 to S29 of docs/RULES.md but those on what was read before. No definition of
-- reading is cited here: the tags, lengths and ranges of the table are written out once more.
use Rattle.std.specs.Prelude.{ℕ, ◌+◌, ◌≤◌, ◌<◌, ◌≡◌, List, [], cond, eqb, length, get_or}
use Rattle.fields.specs.Fields.{FieldStarts}
use Rattle.entries.specs.declared.Fault.{Fault}
use Rattle.entries.specs.declared.Fault.TheVariants.{Cut, UnknownTag, WrongLength, OutOfOrder, OutOfRange, UsedBefore, TooMany, NoTransceiver}
use Rattle.entries.specs.declared.Fault.TheVariants.{Empty}
use Rattle.entries.specs.Entries.{wide}

-- S16: a tag of the table
abbrev pub KnownTag : ℕ → Type 0
KnownTag tag = (0x01 ≤ tag) × (tag ≤ 0x07)

-- S17: the length that a field with this tag has
abbrev pub right_length : ℕ → ℕ
right_length tag = cond (eqb tag 0x04) 6 1

-- S24: the tag of a whole field stands here, with the length that it has
pub record WholeField (b : List ℕ) (at : ℕ) : Type 0 where
  pub starts : FieldStarts b at
  pub known : KnownTag (get_or b at 0)
  pub right : wide b (at + 1) ≡ right_length (get_or b at 0)
  pub within : at + 3 + right_length (get_or b at 0) ≤ length b

-- S15, S18, S26: a field would begin here, and the bytes that are left are too few for it; if they have its tag and length, these are right
pub record CutField (b : List ℕ) (at : ℕ) : Type 0 where
  pub starts : FieldStarts b at
  pub within : at ≤ length b
  pub too_few : length b < at + 3 + wide b (at + 1)
  pub right : at + 3 ≤ length b → KnownTag (get_or b at 0) × (wide b (at + 1) ≡ right_length (get_or b at 0))

-- S16: an unknown tag stands here
pub record UnknownField (b : List ℕ) (at : ℕ) : Type 0 where
  pub starts : FieldStarts b at
  pub head : at + 3 ≤ length b
  pub unknown : KnownTag (get_or b at 0) → ⊥

-- S17, S28: the two bytes here are the length of a field, behind its tag, and not the length that the tag has
pub record LengthHere (b : List ℕ) (place : ℕ) : Type 0 where
  pub at : ℕ
  pub starts : FieldStarts b at
  pub here : place ≡ at + 1
  pub head : at + 3 ≤ length b
  pub known : KnownTag (get_or b at 0)
  pub wrong : wide b place ≡ right_length (get_or b at 0) → ⊥

-- S5 to S9, S20, S27, S29: the numbers that can be out of their range, by the tag of their field: where each stands, and which values it has then; of
-- the three times the ones before it are not 0
pub data BadNumber (b : List ℕ) (at place : ℕ) : Type 0 where
  controller_id : get_or b at 0 ≡ 0x02 → place ≡ at + 3 → 32 ≤ get_or b place 0 → BadNumber b at place
  transceiver_id : get_or b at 0 ≡ 0x03 → place ≡ at + 3 → 8 ≤ get_or b place 0 → BadNumber b at place
  short_delay : get_or b at 0 ≡ 0x04 → place ≡ at + 3 → wide b place ≡ 0 → BadNumber b at place
  long_delay : get_or b at 0 ≡ 0x04 → place ≡ at + 5 → (wide b (at + 3) ≡ 0 → ⊥) → wide b place ≡ 0 → BadNumber b at place
  ensure_time : get_or b at 0 ≡ 0x04 → place ≡ at + 7 → (wide b (at + 3) ≡ 0 → ⊥) → (wide b (at + 5) ≡ 0 → ⊥) → wide b place ≡ 0
      → BadNumber b at place
  threshold : get_or b at 0 ≡ 0x05 → place ≡ at + 3 → 255 ≤ get_or b place 0 → BadNumber b at place
  partial_networking : get_or b at 0 ≡ 0x06 → place ≡ at + 3 → 2 ≤ get_or b place 0 → BadNumber b at place
  relation : get_or b at 0 ≡ 0x07 → place ≡ at + 3 → (get_or b place 0 ≡ 1 → ⊥) → BadNumber b at place

-- S20, S29: the byte or the two bytes here are a number of a whole field that is out of its range
pub record NumberHere (b : List ℕ) (place : ℕ) : Type 0 where
  pub at : ℕ
  pub whole : WholeField b at
  pub number : BadNumber b at place

-- S24 to S26, S28, S29: what stands where a refusal points
abbrev pub Points : Fault → List ℕ → ℕ → Type 0
Points Cut b place = CutField b place
Points UnknownTag b place = UnknownField b place
Points WrongLength b place = LengthHere b place
Points OutOfOrder b place = WholeField b place
Points OutOfRange b place = NumberHere b place
Points UsedBefore b place = WholeField b place × (get_or b place 0 ≤ 0x03)
Points TooMany b place = WholeField b place × (get_or b place 0 ≤ 0x02)
Points NoTransceiver b place = WholeField b place × (get_or b place 0 ≡ 0x06) × (get_or b (place + 3) 0 ≡ 1)
Points Empty b place = (b ≡ []) × (place ≡ 0)

-- S24 to S26: how far a place can lie: at a byte; for 30 also at the end; for 38 at 0, and there is no byte
abbrev pub Within : Fault → List ℕ → ℕ → Type 0
Within Cut b place = place ≤ length b
Within UnknownTag b place = place < length b
Within WrongLength b place = place < length b
Within OutOfOrder b place = place < length b
Within OutOfRange b place = place < length b
Within UsedBefore b place = place < length b
Within TooMany b place = place < length b
Within NoTransceiver b place = place < length b
Within Empty b place = (length b ≡ 0) × (place ≡ 0)
