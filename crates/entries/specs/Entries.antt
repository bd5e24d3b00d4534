-- The fields of a settings sheet: what a field says, the tests at it that need no settings, and the number of each refusal of a sheet. The rules
-- S4 to S9, S15 to S18 and S27 of docs/RULES.md.
use Rattle.std.specs.Prelude.{ℕ, ◌+◌, ◌*◌, List, cond, eqb, ltb, length, get_or, Result, Ok, Err}
use Rattle.fields.specs.Fields.{Row, stop, stub, overrun, field}
use Rattle.entries.specs.declared.Fault.{Fault}
use Rattle.entries.specs.declared.Fault.TheVariants.{Cut, UnknownTag, WrongLength, OutOfOrder, OutOfRange, UsedBefore, TooMany, NoTransceiver}
use Rattle.entries.specs.declared.Fault.TheVariants.{Empty}
use Rattle.entries.specs.declared.Entry.{Entry}
use Rattle.entries.specs.declared.Entry.TheVariants.{End, Bad}
use Rattle.entries.specs.declared.Layout.{Layout}
use Rattle.entries.specs.declared.Layout.TheVariants.{Byte}

-- the number of each refusal of a sheet
abbrev pub fault_number : Fault → ℕ
-- S15, S18, S26: the bytes end too early
fault_number Cut = 0x30
-- S16: the tag is none of the table
fault_number UnknownTag = 0x31
-- S17: the length is not the tag's
fault_number WrongLength = 0x32
-- S19: the tag may not stand here
fault_number OutOfOrder = 0x33
-- S20: the value is out of its range
fault_number OutOfRange = 0x34
-- S21: the id was used before
fault_number UsedBefore = 0x35
-- S22: a network or a controller too many
fault_number TooMany = 0x36
-- S23: partial networking without a transceiver
fault_number NoTransceiver = 0x37
-- S25: there is no network
fault_number Empty = 0x38

-- S4 to S9, S16, S17, S27: the tags are 01 to 07; field 04 has 6 bytes, the others have 1
unfoldable pub layout_of : ℕ → ℕ → Result Layout Fault
layout_of tag n =
    cond (eqb tag 0x04) (cond (eqb n 6) (Ok Layout.Times) (Err WrongLength))
    (cond (ltb tag 0x01) (Err UnknownTag) (cond (ltb 0x07 tag) (Err UnknownTag) (cond (eqb n 1) (Ok Byte) (Err WrongLength))))

-- S4 to S6, S8, S9, S27: what a field says whose value is the byte x, by its tag
unfoldable pub byte_entry : ℕ → ℕ → Entry
byte_entry tag x =
    cond (eqb tag 0x01) (Entry.Handle x)
    (cond (eqb tag 0x02) (Entry.Controller x)
    (cond (eqb tag 0x03) (Entry.Transceiver x)
    (cond (eqb tag 0x05) (Entry.Threshold x)
    (cond (eqb tag 0x06) (Entry.Partial x)
    (Entry.Relation x)))))

-- the number of two bytes, from place i of a value on
abbrev pub wide : List ℕ → ℕ → ℕ
wide v i = get_or v i 0 * 256 + get_or v (i + 1) 0

-- S7: the short delay, the long delay and the ensure time, each in two bytes
unfoldable pub times_entry : List ℕ → Entry
times_entry v = Entry.Times (wide v 0) (wide v 2) (wide v 4)

-- S16, S17: what a whole field says, by its layout
unfoldable pub whole_entry : Result Layout Fault → ℕ → List ℕ → Entry
whole_entry (Ok Byte) tag v = byte_entry tag (get_or v 0 0)
whole_entry (Ok Layout.Times) tag v = times_entry v
whole_entry (Err fault) tag v = Bad fault

-- S16, S17: what a whole field says, by its tag and its value, whose length is held against the tag
unfoldable pub field_entry : ℕ → List ℕ → Entry
field_entry tag v = whole_entry (layout_of tag (length v)) tag v

-- S16 to S18: why a field is refused whose value runs past the end; its tag and its length are looked at first
abbrev pub overrun_fault : Result Layout Fault → Fault
overrun_fault (Ok layout) = Cut
overrun_fault (Err fault) = fault

-- S15 to S18: what stands at the front of a row: the end, one or two bytes that are left, a field that runs past the end, or a whole field
unfoldable pub entry_at : Row → Entry
entry_at (stop at) = End
entry_at (stub at tag) = Bad Cut
entry_at (overrun at tag n) = Bad (overrun_fault (layout_of tag n))
entry_at (field at tag v rest) = field_entry tag v
