-- The lines of a recording, where its events are known, are those of one history.
use Rattle.lists.proofs.Basics.{ℕ, ◌+◌, arith, ◌≡◌, refl, sym, ap, subst, ◌∙◌, List, [], ◌∷◌, ◌++◌, Bool, true, false, true≢false, false≢true}
use Rattle.lists.proofs.Basics.{length, length-append, map, take, drop}
use mathlib.Core.List.{flatten}
use Rattle.lists.specs.Lists.{any}
use lib.Seq.{take_at}
use Rattle.records.specs.declared.Record.{Record}
use Rattle.records.specs.Records.{turned}
use Rattle.settings.specs.declared.Id.{Id}
use Rattle.network.specs.Parts.{Sight}
use Rattle.fields.specs.Fields.{Row, stop, stub, overrun, field, row_at}
use Rattle.slots.specs.declared.Manager.{Manager}
use Rattle.slots.specs.declared.Outcome.{Outcome}
use Rattle.slots.specs.Calls.{Call, read, write, start, request, poll, bus_off, stall, answer, transceiver_mode, clear_done, check_done, tick}
use Rattle.slots.specs.Calls.{listen, all_ticked, listened, outcome, by_rules, handed_out}
use Rattle.calls.specs.Histories.{Entry, entry_of, History, Since, begun, goes, to, address_of}
use Rattle.calls.proofs.ByCall.{by_call}
use Rattle.text.specs.Text.{blank, newline, decimal, records_text}
use Rattle.text.proofs.ReadBack.{decimal_then, line_end, decimal_records, decimal_decimal, Ends, plain_word, plain_ends, newline_ends, decimal_plain}
use Rattle.text.proofs.ReadBack.{records_plain, Lines, lines_append, lines_one}
use Rattle.trace.specs.declared.Event.{Event}
use Rattle.trace.specs.declared.Item.{Item}
use Rattle.trace.specs.Events.{item_of, call_of}
use Rattle.trace.specs.Lines.{config_word, stop_word, config_line, stop_line, polls, said_of, entry_line}
use Rattle.trace.specs.Splitting.{events_from}
use Rattle.trace.specs.Trace.{first_line, first_manager, ending, ending_item, output_of}
use Rattle.trace_demands.specs.Recorded.{history_lines, history_after, events_of, Recorded, SameShown}

-- ---- a line
-- what is shown, by whether it is a poll
abbrev Shown : Bool → ℕ → ℕ → List Record → List Record → Type 0
Shown true p q rs ss = p ≡ q
Shown false p q rs ss = rs ≡ ss

shown_by : (polled : Bool) (a b p q : ℕ) (rs ss : List Record) → decimal a ++ (said_of polled p rs ++ (newline ∷ []))
    ≡ decimal b ++ (said_of polled q ss ++ (newline ∷ [])) → (a ≡ b) × Shown polled p q rs ss
unfolding said_of line_end
shown_by true a b p q rs ss e = decimal_decimal a b p q e
shown_by false a b p q rs ss e = decimal_records a b rs ss e

-- the line of an entry shows its number, the answer, and the mode or the records
pub line_shows : (k l : ℕ) (e f : Entry) → e.call ≡ f.call → entry_line k e ≡ entry_line l f → (k ≡ l) × SameShown e f
unfolding entry_line
line_shows k l e f c h =
    let first = decimal_then k l blank blank _ _ (λ h k. omega arith) (λ h k. omega arith) h in
    let Rest : Bool → Type 0 = λ polled. decimal e.number ++ (said_of (polls e.call) e.mode e.records ++ (newline ∷ []))
    ≡ decimal f.number ++ (said_of polled f.mode f.records ++ (newline ∷ [])) in
    let rest = subst Rest (sym (ap polls c)) (ap (drop 1) first.1) in
    let said = shown_by (polls e.call) e.number f.number e.mode f.mode e.records f.records rest in
    let Shows : Bool → Type 0 = λ polled. Shown polled e.mode f.mode e.records f.records in
    (first.0, record { answer = said.0; mode = λ p. subst Shows p said.1; records = λ p. subst Shows p said.1 })

-- ---- what a line does not show is the same of every entry of the call
-- a call that names an id is no poll
named_no_poll : (c : Call) (id : Id) (sight : Sight) → address_of 0 c ≡ to id sight → polls c ≡ false
named_no_poll (read bytes) id sight e = refl
named_no_poll (write room) id sight e = refl
named_no_poll start id sight e = refl
named_no_poll (request handle mode) id sight e = refl
named_no_poll (poll handle) id sight e = absurd cc
named_no_poll (bus_off controller room) id sight e = refl
named_no_poll (stall handle room) id sight e = refl
named_no_poll (answer controller mode ok) id sight e = refl
named_no_poll (transceiver_mode transceiver mode) id sight e = refl
named_no_poll (clear_done transceiver) id sight e = refl
named_no_poll (check_done transceiver) id sight e = refl
named_no_poll (tick room) id sight e = refl
named_no_poll (listen value room) id sight e = refl

-- only a poll gives a mode, and it hands out nothing
record Silent (c : Call) (o : Outcome) (rs : List Record) : Type 0 where
  mode : polls c ≡ false → o.mode ≡ 0
  records : polls c ≡ true → rs ≡ []

rules_silent : (m : Manager) (c : Call) → Silent c (outcome m c) (by_rules m c)
unfolding all_ticked listened
rules_silent m = by_call m Silent (record {
  refuses = λ c a r f. record { mode = λ _. refl; records = λ _. refl };
  declines = λ c id sight i a e f d r. record { mode = λ _. refl; records = λ _. refl };
  takes = λ c id sight i e f t room. record { mode = λ _. refl; records = λ p. absurd (true≢false (sym p ∙ named_no_poll c id sight e)) };
  ticks = λ room s e. record { mode = λ _. refl; records = λ p. absurd (false≢true p) };
  listens = λ value room s e a. record { mode = λ _. refl; records = λ p. absurd (false≢true p) };
  polls = λ handle i f. record { mode = λ p. absurd (true≢false p); records = λ _. refl };
  reads = λ bytes f e. record { mode = λ _. refl; records = λ _. refl };
  misreads = λ bytes fault f. record { mode = λ _. refl; records = λ _. refl };
  writes = λ room f. record { mode = λ _. refl; records = λ _. refl };
  starts = λ e. record { mode = λ _. refl; records = λ _. refl };
})

silent : (m : Manager) (c : Call) → Silent c (outcome m c) (handed_out m c)
unfolding handed_out
silent m c =
    let made = rules_silent m c in
    record { mode = made.mode; records = λ p. ap (map (turned (outcome m c).manager.listening)) (made.records p) }

-- so the line of a call determines its entry
pub line_determines : (k l : ℕ) (m n : Manager) (c : Call) →
    entry_line k (entry_of m c) ≡ entry_line l (entry_of n c) → (k ≡ l) × (entry_of m c ≡ entry_of n c)
line_determines k l m n c h =
    let same = line_shows k l (entry_of m c) (entry_of n c) refl h in
    let shown = same.1 in
    let mode = by_test (polls c) refl shown.mode (λ p. (silent m c).mode p ∙ sym ((silent n c).mode p)) in
    let records = by_test (polls c) refl (λ p. (silent m c).records p ∙ sym ((silent n c).records p)) shown.records in
    (same.0, λ i. record { call = c; number = shown.answer i; mode = mode i; records = records i })
  where
    by_test : {A : Type 0} {x y : A} (b : Bool) → polls c ≡ b → (polls c ≡ true → x ≡ y) → (polls c ≡ false → x ≡ y) → x ≡ y
    by_test true e f g = f e
    by_test false e f g = g e

-- ---- a history
snoc_one : (l m : List (List ℕ)) (x y : List ℕ) → l ++ (x ∷ []) ≡ m ++ (y ∷ []) → (l ≡ m) × (x ≡ y)
snoc_one [] [] x y e = (refl, cc)
snoc_one [] (b ∷ m) x y e = absurd (omega (arith, ap length e, length-append m (y ∷ [])))
snoc_one (a ∷ l) [] x y e = absurd (omega (arith, ap length e, length-append l (x ∷ [])))
snoc_one (a ∷ l) (b ∷ m) x y e =
    let head : a ≡ b = cc in let tail : l ++ (x ∷ []) ≡ m ++ (y ∷ []) = cc in
    let rest = snoc_one l m x y tail in
    ((λ i. head i ∷ rest.0 i), rest.1)

-- the calls of a history
abbrev calls_of : History → List Call
calls_of h = map (λ (e : Entry). e.call) h

-- the lines of a history, where its calls are known, determine it
pub lines_determine : (m₀ m n₀ n : Manager) (h g : History) →
    Since m₀ m h → Since n₀ n g → calls_of h ≡ calls_of g → history_lines h ≡ history_lines g → h ≡ g
unfolding history_lines
lines_determine m₀ _ n₀ _ _ _ begun begun c e = refl
lines_determine m₀ _ n₀ _ _ _ begun (goes n g d s) c e = absurd (omega (arith, ap length c))
lines_determine m₀ _ n₀ _ _ _ (goes m h c s) begun d e = absurd (omega (arith, ap length d))
lines_determine m₀ _ n₀ _ _ _ (goes m h c r) (goes n g d s) e f =
    let call : c ≡ d = cc in let calls : calls_of h ≡ calls_of g = cc in
    let lines = snoc_one (history_lines h) (history_lines g) _ _ f in
    let rest = lines_determine m₀ m n₀ n h g r s calls lines.0 in
    let line = subst (λ (x : Call). entry_line (length h + 1) (entry_of m c) ≡ entry_line (length g + 1) (entry_of n x)) (sym call) lines.1 in
    let here = (line_determines (length h + 1) (length g + 1) m n c line).1 ∙ ap (entry_of n) call in
    λ i. here i ∷ rest i

-- ---- the output
blank_ends : (l : List ℕ) → Ends l → Ends (blank ∷ l)
unfolding any
blank_ends l e = plain_ends (blank ∷ []) l (plain_word (blank ∷ []) refl) e

decimal_ends : (n : ℕ) → Ends (decimal n ++ (newline ∷ []))
decimal_ends n = plain_ends (decimal n) (newline ∷ []) (decimal_plain n) newline_ends

said_ends : (polled : Bool) (mode : ℕ) (rs : List Record) → Ends (said_of polled mode rs ++ (newline ∷ []))
unfolding said_of
said_ends true mode rs = blank_ends _ (decimal_ends mode)
said_ends false mode rs = plain_ends (records_text rs) (newline ∷ []) (records_plain rs) newline_ends

entry_ends : (k : ℕ) (e : Entry) → Ends (entry_line k e)
unfolding entry_line
entry_ends k e =
    plain_ends (decimal k) _ (decimal_plain k) (blank_ends _ (plain_ends (decimal e.number) _ (decimal_plain e.number)
    (said_ends (polls e.call) e.mode e.records)))

history_ends : (h : History) → Lines (history_lines h)
unfolding history_lines Lines
history_ends [] = tt
history_ends (e ∷ h) = lines_append (history_lines h) (entry_line (length h + 1) e ∷ []) (history_ends h) (entry_ends (length h + 1) e, tt)

config_ends : (number shown : ℕ) → Ends (config_line number shown)
unfolding config_line any
config_ends number shown =
    plain_ends config_word _ (plain_word config_word refl) (plain_ends (decimal number) _ (decimal_plain number) (blank_ends _ (decimal_ends shown)))

stop_ends : (at : ℕ) → Ends (stop_line at)
unfolding stop_line any
stop_ends at = plain_ends stop_word _ (plain_word stop_word refl) (decimal_ends at)

ending_ends : (row : Row) → Lines (ending row)
unfolding ending Lines
ending_ends (stop at) = tt
ending_ends (stub at tag) = (stop_ends at, tt)
ending_ends (overrun at tag n) = (stop_ends at, tt)
ending_ends (field at tag v rest) = by_item (item_of tag v) (ending_ends rest)
  where
    by_item : (item : Item) → Lines (ending rest) → Lines (ending_item at item (ending rest))
    by_item Item.End l = tt
    by_item Item.Bad l = (stop_ends at, tt)
    by_item (Item.Known event) l = l

-- a history of events has their calls, and a line for each
history_calls : (es : List Event) (m n : Manager) (h g : History) →
    calls_of h ≡ calls_of g → calls_of (history_after m h es) ≡ calls_of (history_after n g es)
unfolding history_after
history_calls [] m n h g e = e
history_calls (x ∷ es) m n h g e = history_calls es _ _ _ _ (ap (λ (cs : List Call). call_of x ∷ cs) e)

lines_length : (h : History) → length (history_lines h) ≡ length (calls_of h)
unfolding history_lines
lines_length [] = refl
lines_length (e ∷ h) = omega (arith, length-append (history_lines h) (entry_line (length h + 1) e ∷ []), lines_length h)

-- two recordings with the same events and the same output have the same history: each answer, each mode and each record
module _ (s t : List ℕ) (r : Recorded s) (q : Recorded t) (events : events_of s ≡ events_of t) (same : output_of s ≡ output_of t) where
  abbrev h : History
  h = history_after (first_manager s) [] (events_of s)

  abbrev g : History
  g = history_after (first_manager t) [] (events_of t)

  calls : calls_of h ≡ calls_of g
  calls = history_calls (events_of s) (first_manager s) (first_manager t) [] [] refl
      ∙ ap (λ (es : List Event). calls_of (history_after (first_manager t) [] es)) events

  whole : (s : List ℕ) → (h : History) → Lines (first_line s ∷ (history_lines h ++ ending (row_at s (events_from s 0))))
  unfolding first_line Lines
  whole s h = (config_ends _ _, lines_append (history_lines h) _ (history_ends h) (ending_ends (row_at s (events_from s 0))))

  traces : first_line s ∷ (history_lines h ++ ending (row_at s (events_from s 0))) ≡ first_line t ∷ (history_lines g ++ ending (row_at t (events_from t 0)))
  unfolding output_of
  traces = lines_one _ _ (whole s h) (whole t g) (ap flatten (sym r.output) ∙ same ∙ ap flatten q.output)

  pub output_determines : h ≡ g
  output_determines =
      let tails : history_lines h ++ ending (row_at s (events_from s 0)) ≡ history_lines g ++ ending (row_at t (events_from t 0)) = ap (drop 1) traces in
      let size : length (history_lines h) ≡ length (history_lines g) = lines_length h ∙ ap length calls ∙ sym (lines_length g) in
      let lines : history_lines h ≡ history_lines g = sym (take_at (history_lines h) _ (length (history_lines h)) refl)
      ∙ ap (take (length (history_lines h))) tails ∙ take_at (history_lines g) _ (length (history_lines h)) (sym size) in
      lines_determine (first_manager s) _ (first_manager t) _ h g (r.since (events_of s)) (q.since (events_of t)) calls lines
