-- The lines that go into blocks are those of the definitions: the sheet split off and read, the events decoded and run one after the other.
use Rattle.lists.proofs.Basics.{ℕ, ◌+◌, ◌≤◌, ◌<◌, arith, lt-ltb, le-ltb, ◌≡◌, refl, sym, ap, subst, ◌∙◌, List, [], ◌∷◌, ◌++◌, Bool, true, false}
use Rattle.lists.proofs.Basics.{cond, eqb, length, take, drop, length-drop}
use Rattle.fields.specs.declared.Field.{Field}
use Rattle.fields.specs.declared.Field.TheVariants.{Stub, Overrun, Whole}
use Rattle.fields.specs.Fields.{front, rows, row_at, next_of}
use Rattle.fields.proofs.Laws.{Lies, front_lies, row_further, row_from_lem}
use Rattle.slots.specs.declared.Manager.{Manager}
use Rattle.slots.specs.Manager.{answer_number}
use Rattle.trace.specs.declared.Event.{Event}
use Rattle.trace.specs.declared.Item.{Item}
use Rattle.trace.specs.declared.Point.{Point}
use Rattle.trace.specs.Splitting.{events_from}
use Rattle.trace.specs.Events.{sized, event_of, item_of, item_at}
use Rattle.trace.specs.Lines.{stop_line, too_long}
use Rattle.trace.specs.Trace.{item_line, item_manager, item_next, line_at, next_at, point_after, reading_of, first_line, first_manager, first_next}
use Rattle.trace.specs.Trace.{first_point, decoded, decoded_item, ending, ending_item, run_lines, event_lines, lines_after, trace_of, left}
use Rattle.trace.specs.Trace.{Fills, over, full, more}

-- ---- a whole field is an event or bad
pub data Decided : Item → Type 0 where
  is_bad : Decided Item.Bad
  is_known : (event : Event) → Decided (Item.Known event)

either : (c : Bool) (x y : Item) → Decided x → Decided y → Decided (cond c x y)
either true x y p q = p
either false x y p q = q

by_size : (n wanted : ℕ) (event : Event) → Decided (sized n wanted event)
by_size n wanted event = either (eqb n wanted) (Item.Known event) Item.Bad (is_known event) is_bad

item_decided : (tag : ℕ) (v : List ℕ) → Decided (item_of tag v)
unfolding item_of event_of
item_decided tag v =
    either (eqb tag 0x10) _ _ (by_size (length v) 2 _)
    (either (eqb tag 0x11) _ _ (by_size (length v) 1 _)
    (either (eqb tag 0x12) _ _ (by_size (length v) 3 _)
    (either (eqb tag 0x13) _ _ (by_size (length v) 2 _)
    (either (eqb tag 0x14) _ _ (by_size (length v) 1 _)
    (either (eqb tag 0x15) _ _ (by_size (length v) 1 _)
    (either (eqb tag 0x16) _ _ (by_size (length v) 0 _)
    (either (eqb tag 0x17) _ _ (by_size (length v) 1 _)
    (either (eqb tag 0x18) _ _ (by_size (length v) 1 _)
    (either (eqb tag 0x19) _ _ (by_size (length v) 1 _) is_bad)))))))))

-- ---- the lines that are left
-- at the end of the input there are none
none_after : (s : List ℕ) (number : ℕ) (m : Manager) (at : ℕ) → length s ≤ at → event_lines number m (row_at s at) ≡ []
unfolding event_lines run_lines decoded ending rows
none_after s number m at h = ended (drop at s) (omega (arith, length-drop at s))
  where
    ended : (l : List ℕ) → length l ≤ 0 → event_lines number m (rows 0 at l) ≡ []
    ended [] k = refl
    ended (x ∷ l) k = absurd (omega arith)

pub over_left : (s : List ℕ) (p : Point) → length s ≤ p.next → left s p ≡ []
unfolding left
over_left s p h = none_after s p.number p.manager p.next h

module _ (s : List ℕ) (number : ℕ) (m : Manager) (at : ℕ) (h : at < length s) where
  -- the lines from a place on are the line of what stands there and those from the next place on
  abbrev Then : List (List ℕ) → Item → ℕ → Type 0
  Then lines item next =
      lines ≡ item_line number m at item ∷ event_lines (number + 1) (item_manager m item) (row_at s (item_next (length s) next item))

  -- a bad field is the last line
  stops : (next : ℕ) → Then (stop_line at ∷ []) Item.Bad next
  stops next = ap (λ (l : List (List ℕ)). stop_line at ∷ l) (sym (none_after s (number + 1) m (length s) (omega arith)))

  whole_then : (next : ℕ) (item : Item) → Decided item →
      Then (run_lines number m (decoded_item item (decoded (row_at s next))) ++ ending_item at item (ending (row_at s next))) item next
  unfolding event_lines run_lines
  whole_then next _ is_bad = stops next
  whole_then next _ (is_known event) = refl

  field_then : (f : Field) → front at (drop at s) ≡ f → Then (event_lines number m (row_at s at)) (item_at (row_at s at)) (next_of f at)
  unfolding event_lines decoded ending run_lines item_at
  field_then Field.End e = let l = subst (Lies at (drop at s)) e (front_lies at (drop at s)) in absurd (omega (arith, length-drop at s, ap length l))
  field_then (Stub tag) e = rw (row_from_lem s at (Stub tag) e) (stops at)
  field_then (Overrun tag n) e = rw (row_from_lem s at (Overrun tag n) e) (stops at)
  field_then (Whole tag n next) e =
      let v = take n (drop (at + 3) s) in
      rw (row_further s at tag n next e).0 (whole_then next (item_of tag v) (item_decided tag v))

-- the lines that are left are the next line and those that are left after it
pub next_left : (s : List ℕ) (p : Point) → p.next < length s → left s p ≡ line_at s p ∷ left s (point_after s p)
unfolding left line_at point_after next_at
next_left s p h = field_then s p.number p.manager p.next h (front p.next (drop p.next s)) refl

-- ---- a block
-- what a block takes and what is left after it are what was left before it
pub fills_left : (s : List ℕ) (room : ℕ) (p : Point) (lines : List (List ℕ)) (q : Point) → Fills s room p lines q → left s p ≡ lines ++ left s q
fills_left s room p _ _ (over _ h) = refl
fills_left s room p _ _ (full _ h k) = refl
fills_left s room p _ q (more _ lines _ h k f) = next_left s p h ∙ ap (λ (l : List (List ℕ)). line_at s p ∷ l) (fills_left s room _ lines q f)

-- it takes just these lines, and ends at just this point
pub fills_one : (s : List ℕ) (room : ℕ) (p : Point) (lines lines' : List (List ℕ)) (q q' : Point) →
    Fills s room p lines q → Fills s room p lines' q' → (lines ≡ lines') × (q ≡ q')
fills_one s room p _ _ _ _ (over _ h) (over _ h') = (refl, refl)
fills_one s room p _ _ _ _ (over _ h) (full _ h' k') = (refl, refl)
fills_one s room p _ _ _ _ (over _ h) (more _ _ _ h' k' f') = absurd (omega arith)
fills_one s room p _ _ _ _ (full _ h k) (over _ h') = (refl, refl)
fills_one s room p _ _ _ _ (full _ h k) (full _ h' k') = (refl, refl)
fills_one s room p _ _ _ _ (full _ h k) (more _ _ _ h' k' f') = absurd (omega arith)
fills_one s room p _ _ _ _ (more _ _ _ h k f) (over _ h') = absurd (omega arith)
fills_one s room p _ _ _ _ (more _ _ _ h k f) (full _ h' k') = absurd (omega arith)
fills_one s room p _ _ q q' (more _ lines _ h k f) (more _ lines' _ h' k' f') =
    let same = fills_one s room _ lines lines' q q' f f' in
    (ap (λ (l : List (List ℕ)). line_at s p ∷ l) same.0, same.1)

-- ---- the whole output
module _ (s : List ℕ) where
  by_reading_lem : (accepted : Bool) → (number : ℕ) (m : Manager) →
      cond accepted (event_lines number m (row_at s (events_from s 0))) [] ≡ event_lines number m (row_at s (cond accepted (events_from s 0) (length s)))
  by_reading_lem true number m = refl
  by_reading_lem false number m = sym (none_after s number m (length s) (omega arith))

  -- after the first line just the lines of the events are left, run one after the other on the started manager
  pub first_left : lines_after s ≡ left s (first_point s)
  unfolding lines_after left first_point first_next
  first_left = by_reading_lem (eqb (answer_number (reading_of s).answer) 0) 1 (first_manager s)

  -- C1: too long an input has one line
  pub trace_too_long : 65536 < length s → trace_of s ≡ too_long ∷ []
  unfolding trace_of
  trace_too_long h = rw (lt-ltb 65536 (length s) h) refl

  pub trace_lines : length s ≤ 65536 → trace_of s ≡ first_line s ∷ left s (first_point s)
  unfolding trace_of
  trace_lines h = rw (le-ltb 65536 (length s) h) (ap (λ (l : List (List ℕ)). first_line s ∷ l) first_left)
