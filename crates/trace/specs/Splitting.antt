-- Where the sheet ends and the events begin: the rules C2 to C4 of docs/RULES.md. The tag of a field is looked at before the field is tested for a
-- cut.
use Rattle.std.specs.Prelude.{ℕ, List, cond, ltb, length}
use Rattle.fields.specs.Fields.{Row, stop, stub, overrun, field, row_at}

-- C3: the lowest tag of an event
abbrev pub first_event : ℕ
first_event = 0x10

-- C3, C4: the place of the first such tag in a row of fields of an input with so many bytes; where a field before it is cut, all is sheet
unfoldable pub events_in : ℕ → Row → ℕ
events_in total (stop at) = total
events_in total (stub at tag) = cond (ltb tag first_event) total at
events_in total (overrun at tag n) = cond (ltb tag first_event) total at
events_in total (field at tag v rest) = cond (ltb tag first_event) (events_in total rest) at

-- C2: where the events of an input begin, from a place on
unfoldable pub events_from : List ℕ → ℕ → ℕ
events_from s at = events_in (length s) (row_at s at)
