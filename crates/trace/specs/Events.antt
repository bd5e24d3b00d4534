-- The events of a recording, each a field with a tag of its own, and the call of the manager that each is: the rules C5 to C14, C21 and C22
-- of docs/RULES.md.
use Rattle.std.specs.Prelude.{ℕ, List, cond, eqb, length, get_or}
use Rattle.fields.specs.Fields.{Row, stop, stub, overrun, field}
use Rattle.slots.specs.Calls.{Call, request, poll, bus_off, stall, answer, transceiver_mode, clear_done, check_done, tick, listen}
use Rattle.trace.specs.declared.Event.{Event}
use Rattle.trace.specs.declared.Item.{Item}

-- C21: a field is the event of its tag if it has the length of that tag, and else a bad one
abbrev pub sized : ℕ → ℕ → Event → Item
sized n wanted event = cond (eqb n wanted) (Item.Known event) Item.Bad

-- C7 to C14, C22, C23: what a field with this tag, this length and these first bytes of its value is
unfoldable pub event_of : ℕ → ℕ → ℕ → ℕ → ℕ → Item
event_of tag n first second third =
    cond (eqb tag 0x10) (sized n 2 (Event.Request first second))
    (cond (eqb tag 0x11) (sized n 1 (Event.BusOff first))
    (cond (eqb tag 0x12) (sized n 3 (Event.Answer first second third))
    (cond (eqb tag 0x13) (sized n 2 (Event.TransceiverMode first second))
    (cond (eqb tag 0x14) (sized n 1 (Event.ClearDone first))
    (cond (eqb tag 0x15) (sized n 1 (Event.CheckDone first))
    (cond (eqb tag 0x16) (sized n 0 Event.Tick)
    (cond (eqb tag 0x17) (sized n 1 (Event.Poll first))
    (cond (eqb tag 0x18) (sized n 1 (Event.Stall first))
    (cond (eqb tag 0x19) (sized n 1 (Event.Listen first))
    Item.Bad)))))))))

-- a whole field by its tag and its value; a byte that the value has not is taken as 0, and no event looks at it
unfoldable pub item_of : ℕ → List ℕ → Item
item_of tag v = event_of tag (length v) (get_or v 0 0) (get_or v 1 0) (get_or v 2 0)

-- C21: what stands at the front of a row; a field that is cut is a bad one
unfoldable pub item_at : Row → Item
item_at (stop at) = Item.End
item_at (stub at tag) = Item.Bad
item_at (overrun at tag n) = Item.Bad
item_at (field at tag v rest) = item_of tag v

-- C5, C6: the call of the manager that an event is; a call that may hand something out is lent 144 bytes
abbrev pub call_of : Event → Call
call_of (Event.Request handle mode) = request handle mode
call_of (Event.BusOff controller) = bus_off controller 144
call_of (Event.Answer controller mode ok) = answer controller mode ok
call_of (Event.TransceiverMode transceiver mode) = transceiver_mode transceiver mode
call_of (Event.ClearDone transceiver) = clear_done transceiver
call_of (Event.CheckDone transceiver) = check_done transceiver
call_of Event.Tick = tick 144
call_of (Event.Poll handle) = poll handle
call_of (Event.Stall handle) = stall handle 144
call_of (Event.Listen value) = listen value 144
