-- Laws of lines: what an event hands out fits, and a line is appended piece by piece.
use Rattle.lists.proofs.Basics.{ℕ, ◌+◌, ◌≤◌, ◌<◌, arith, ◌≡◌, sym, ap, subst, ◌∙◌, List, [], ◌∷◌, ◌++◌, append_assoc, Bool, true}
use Rattle.lists.proofs.Basics.{false, cond, eqb, length, take, drop, refl}
use Rattle.lists.specs.Stores.{Stored}
use Rattle.fields.specs.declared.Field.{Field}
use Rattle.fields.specs.declared.Field.TheVariants.{Stub, Overrun, Whole}
use Rattle.fields.specs.Fields.{front, next_of, ReadAt}
use Rattle.fields.proofs.Laws.{row_further, row_from, row_from_lem}
use Rattle.records.specs.Records.{records_at}
use Rattle.entries.specs.declared.Fault.{Fault}
use Rattle.entries.specs.Entries.{fault_number}
use Rattle.network.specs.declared.Refusal.{Refusal}
use Rattle.network.specs.Replies.{refusal_number}
use Rattle.slots.specs.declared.CallRefusal.{CallRefusal}
use Rattle.slots.specs.declared.Manager.{Manager}
use Rattle.slots.specs.declared.Outcome.{Outcome}
use Rattle.slots.specs.Manager.{call_refusal_number, answer_number}
use Rattle.slots.specs.Calls.{read, start, new_manager, outcome, Gives}
use Rattle.calls.specs.Histories.{room_of, counts_records}
use Rattle.calls.proofs.Counts.{counted, handed_back}
use Rattle.text.specs.declared.Line.{Line}
use Rattle.text.specs.Line.{Appended}
use Rattle.text.specs.Text.{blank, newline, decimal}
use Rattle.text.proofs.Appending.{appended_then}
use Rattle.trace.specs.declared.Event.{Event}
use Rattle.trace.specs.declared.Item.{Item}
use Rattle.trace.specs.declared.Point.{Point}
use Rattle.trace.specs.Events.{item_of, item_at, call_of}
use Rattle.trace.specs.Splitting.{events_from}
use Rattle.trace.specs.Lines.{config_line, polls, said_of, entry_line, event_line}
use Rattle.trace.specs.Trace.{Tells, moved, item_manager, item_next, line_of, point_past, TellsItem, next_at, line_at, point_after, TellsAt, reading_of}
use Rattle.trace.specs.Trace.{first_line, first_manager, first_next, first_point, TellsFirst}

-- ---- what an event hands out
-- the count of its call is that of records
event_counts : (event : Event) → counts_records (call_of event) ≡ true
event_counts (Event.Request handle mode) = refl
event_counts (Event.BusOff controller) = refl
event_counts (Event.Answer controller mode ok) = refl
event_counts (Event.TransceiverMode transceiver mode) = refl
event_counts (Event.ClearDone transceiver) = refl
event_counts (Event.CheckDone transceiver) = refl
event_counts Event.Tick = refl
event_counts (Event.Poll handle) = refl
event_counts (Event.Stall handle) = refl
event_counts (Event.Listen value) = refl

-- it is lent at most 144 bytes
event_room : (event : Event) → room_of (call_of event) ≤ 144
event_room (Event.Request handle mode) = omega arith
event_room (Event.BusOff controller) = omega arith
event_room (Event.Answer controller mode ok) = omega arith
event_room (Event.TransceiverMode transceiver mode) = omega arith
event_room (Event.ClearDone transceiver) = omega arith
event_room (Event.CheckDone transceiver) = omega arith
event_room Event.Tick = omega arith
event_room (Event.Poll handle) = omega arith
event_room (Event.Stall handle) = omega arith
event_room (Event.Listen value) = omega arith

-- there are at most 48 records
pub event_fits : (m : Manager) (event : Event) (o : Outcome) {lent buffer : List ℕ} → Gives m (call_of event) lent o buffer → o.count ≤ 48
event_fits m event o g =
    let k = counted m (call_of event) in
    rw (g.result, k.count (event_counts event)) (omega (arith, k.room, event_room event))

-- ---- a line
pub event_appended : (number : ℕ) (m : Manager) (event : Event) (o : Outcome) (buffer : List ℕ) (answer : ℕ) (polled : Bool)
    {lent : List ℕ} {a b c d : Line} → Gives m (call_of event) lent o buffer
    → answer ≡ answer_number o.answer → polled ≡ polls (call_of event)
    → Appended a (decimal number ++ (blank ∷ decimal answer)) b → Appended b (said_of polled o.mode (records_at o.count buffer)) c
    → Appended c (newline ∷ []) d → Appended a (event_line number m event) d
unfolding event_line entry_line
event_appended number m event o buffer answer polled {lent} {a} {d = d} g r t s s₁ s₂ =
    let said = said_of polled o.mode (records_at o.count buffer) ++ (newline ∷ []) in
    let back = handed_back m (call_of event) lent o buffer (event_counts event) g in
    let e : (decimal number ++ (blank ∷ decimal answer)) ++ said ≡ event_line number m event =
    append_assoc (decimal number) (blank ∷ decimal answer) said ∙ rw (r, t, back, g.result) refl in
    let whole : Appended a ((decimal number ++ (blank ∷ decimal answer)) ++ said) d = appended_then s (appended_then s₁ s₂) in
    rw e at whole

-- ---- what a line leaves
pub tells_item : (p : Point) (item : Item) (next : ℕ) {m : Manager} {k : ℕ} {r : Point} {before after : List ℕ} → r ≡ moved p m next k
    → m ≡ item_manager p.manager item → Stored before p.length (line_of p item) k after → k ≤ p.length + 601
    → TellsItem p item next r before after
tells_item p item next {m} {k} {r} {before} {after} e manager line h =
    let same : moved p m next k ≡ point_past p item next = λ i. moved p (manager i) next (line.place i) in
    subst (λ (q : Point). TellsItem p item next q before after) (sym e) (record { point = same; line = line; room = h })

-- in the block that a line held, once the line is over
pub told_in : {q r : Point} {text : List ℕ} {at : ℕ} {before last after : List ℕ} → Tells q text at r before last → after ≡ last → Tells q text at r before after
told_in t e = record { point = t.point; line = rw e t.line; room = t.room }

-- by what was found at the point's place
pub tells_at : (s : List ℕ) (p : Point) {found : Item} {n : ℕ} (item : Item) {r : Point} {before after : List ℕ} → ReadAt item_at s p.next found n
    → found ≡ item → TellsItem p item (item_next (length s) n item) r before after → TellsAt s p r before after
unfolding line_at point_after next_at
tells_at s p {found} {n} item {r} {before} {after} f e t =
    let placed = subst (λ (k : ℕ). TellsItem p item (item_next (length s) k item) r before after) f.where_next t in
    subst (λ (x : Item). TellsItem p x (item_next (length s) (next_of (front p.next (drop p.next s)) p.next) x) r before after)
    (sym e ∙ f.what) placed

-- ---- the first line
-- no refusal has the number of an accepted call
pub refusal_numbered : (refusal : CallRefusal) → eqb (call_refusal_number refusal) 0 ≡ false
refusal_numbered CallRefusal.NotReady = refl
refusal_numbered CallRefusal.Running = refl
refusal_numbered CallRefusal.TooShort = refl
refusal_numbered CallRefusal.NoHandle = refl
refusal_numbered CallRefusal.NoController = refl
refusal_numbered CallRefusal.NoTransceiver = refl
refusal_numbered CallRefusal.OutOfRange = refl
refusal_numbered (CallRefusal.Network refusal) = by_refusal refusal
  where
    by_refusal : (r : Refusal) → eqb (refusal_number r) 0 ≡ false
    by_refusal Refusal.OutOfRange = refl
    by_refusal Refusal.Asleep = refl
    by_refusal Refusal.ComingUp = refl
    by_refusal Refusal.GoingDown = refl
    by_refusal Refusal.NotTaken = refl
refusal_numbered (CallRefusal.Sheet fault) = by_fault fault
  where
    by_fault : (f : Fault) → eqb (fault_number f) 0 ≡ false
    by_fault Fault.Cut = refl
    by_fault Fault.UnknownTag = refl
    by_fault Fault.WrongLength = refl
    by_fault Fault.OutOfOrder = refl
    by_fault Fault.OutOfRange = refl
    by_fault Fault.UsedBefore = refl
    by_fault Fault.TooMany = refl
    by_fault Fault.NoTransceiver = refl
    by_fault Fault.Empty = refl

module _ (s : List ℕ) {at : ℕ} {m : Manager} {o begun : Outcome} {number : ℕ} (p : at ≡ events_from s 0) (q : m ≡ new_manager)
    (r : o ≡ outcome m (read (take at s))) (n : number ≡ answer_number o.answer) (t : begun ≡ outcome o.manager start) where
  reading : o ≡ reading_of s
  unfolding reading_of
  reading = r ∙ rw (p, q) refl

  answer : answer_number (reading_of s).answer ≡ number
  answer = ap (λ (x : Outcome). answer_number x.answer) (sym reading) ∙ sym n

  -- by whether the sheet was accepted
  pub first_told : (accepted : Bool) → eqb number 0 ≡ accepted → {shown next k : ℕ} {before after : List ℕ}
      → shown ≡ cond accepted o.count o.place → next ≡ cond accepted at (length s) → Stored before 0 (config_line number shown) k after → k ≤ 601
      → TellsFirst s (record { manager = begun.manager; next = next; number = 1; length = k }) before after
  unfolding first_point first_manager first_next first_line
  first_told accepted e {shown} {next} {k} {before} {after} f h l room =
      let line : Stored before 0 (first_line s) k after = rw (answer, e, ← reading, ← f) l in
      let started : begun.manager ≡ first_manager s = rw (t, reading) refl in
      let place : next ≡ first_next s = h ∙ rw (answer, e, p) refl in
      let size : k ≡ length (first_line s) = omega (arith, line.place) in
      record { point = λ i. record { manager = started i; next = place i; number = 1; length = size i }; line = line; room = room }

-- ---- the loop: the next line's event stands further on
module _ (s : List ℕ) (at : ℕ) (h : at < length s) where
  further_field : (f : Field) → front at (drop at s) ≡ f → at < item_next (length s) (next_of f at) (item_at (row_from s at f))
  unfolding item_at
  further_field Field.End e = h
  further_field (Stub tag) e = h
  further_field (Overrun tag n) e = h
  further_field (Whole tag n next) e = by_item (item_of tag (take n (drop (at + 3) s))) where
    by_item : (item : Item) → at < item_next (length s) next item
    by_item Item.End = h
    by_item Item.Bad = h
    by_item (Item.Known event) = omega (arith, (row_further s at tag n next e).1)

  pub next_further : at < next_at s at
  unfolding next_at
  next_further = rw (row_from_lem s at (front at (drop at s)) refl) (further_field (front at (drop at s)) refl)
