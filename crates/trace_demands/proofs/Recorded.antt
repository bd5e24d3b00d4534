-- The lines of `cantrace` are those of a history since the start, and the demands hold of it.
use Rattle.lists.proofs.Basics.{ℕ, suc, ◌+◌, ◌<◌, arith, ◌≡◌, refl, sym, ap, subst, ◌∙◌, List, [], ◌∷◌, ◌++◌, append-nil, append_assoc, true, false}
use Rattle.lists.proofs.Basics.{true≢false, eqb, ltb, length, take}
use Rattle.std.specs.Prelude.{Result, Ok, Err}
use Rattle.slots.specs.declared.CallRefusal.{CallRefusal}
use Rattle.lists.specs.Lists.{Bytes, any}
use Rattle.lists.proofs.Parts.{take_bytes}
use Rattle.fields.specs.Fields.{row_at}
use Rattle.entries.specs.declared.Fault.{Fault}
use Rattle.sheet.specs.declared.Reading.{Reading}
use Rattle.sheet.specs.Reading.{decode}
use Rattle.slots.specs.declared.Manager.{Manager}
use Rattle.slots.specs.Manager.{answer_number, networks_of, network_at}
use Rattle.slots.specs.Calls.{read, start, new_manager, after_reading, read_into, outcome}
use Rattle.calls.specs.Histories.{entry_of, History, Since, begun, goes, at_new, after}
use Rattle.manager_theorems.proofs.Counts.{tick_needs_paper, tick_needs_most}
use Rattle.trace.specs.declared.Event.{Event}
use Rattle.trace.specs.Events.{call_of}
use Rattle.trace.specs.Lines.{entry_line, event_line}
use Rattle.trace.specs.Splitting.{events_from}
use Rattle.trace.proofs.Telling.{refusal_numbered}
use Rattle.trace.specs.Trace.{reading_of, first_line, first_manager, ending, run_lines, event_lines, lines_after, trace_of}
use Rattle.demands.specs.Demands.{Begun, Demand3}
use Rattle.demands.specs.ComesUp.{ComesUp}
use Rattle.demands.specs.Listening.{Listening, ListensIn}
use Rattle.demands.specs.Across.{NothingLeaks}
use Rattle.demands.proofs.Follow.{follow}
use Rattle.demands.proofs.DemandThree.{demand_3}
use Rattle.demands.proofs.ComesUp.{comes_up}
use Rattle.demands.proofs.Listening.{listening_since, listens_in}
use Rattle.demands.proofs.Across.{nothing_leaks}
use Rattle.trace_demands.specs.Recorded.{history_lines, history_after, manager_after, events_of, Recorded, HasRoom}
use Rattle.trace_demands.proofs.Room.{events_not_short, events_then_tick}

-- the lines of events that follow a history are its next lines
pub lines_after_lem : (m : Manager) (h : History) (es : List Event) → history_lines (history_after m h es) ≡ history_lines h ++ run_lines (length h + 1) m es
unfolding history_after run_lines history_lines event_line
lines_after_lem m h [] = sym (append-nil (history_lines h))
lines_after_lem m h (e ∷ es) =
    let line : List ℕ = entry_line (length h + 1) (entry_of m (call_of e)) in
    lines_after_lem (outcome m (call_of e)).manager (entry_of m (call_of e) ∷ h) es
    ∙ append_assoc (history_lines h) (line ∷ []) (run_lines (suc (length h) + 1) (outcome m (call_of e)).manager es)
    ∙ ap (λ (k : ℕ). history_lines h ++ (line ∷ run_lines k (outcome m (call_of e)).manager es)) (omega arith)

-- events are a history since the manager that they start on
pub events_since : (m₀ m : Manager) (h : History) (es : List Event) → Since m₀ m h → Since m₀ (manager_after m es) (history_after m h es)
unfolding history_after manager_after
events_since m₀ m h [] p = p
events_since m₀ m h (e ∷ es) p = events_since m₀ (outcome m (call_of e)).manager (entry_of m (call_of e) ∷ h) es (goes m h (call_of e) p)

-- ---- a recording whose sheet is taken
-- after an accepted reading a start is accepted
read_then_start : (r : Reading) (a : Result Unit Fault) → eqb (answer_number (after_reading new_manager r a).answer) 0 ≡ true
    → (outcome (after_reading new_manager r a).manager start).answer ≡ Ok tt
unfolding outcome
read_then_start r (Ok done) e = refl
read_then_start r (Err fault) e = absurd (true≢false (sym e ∙ refusal_numbered (CallRefusal.Sheet fault)))

read_same : {b b' : List ℕ} → read b ≡ read b' → b ≡ b'
read_same e = cc

module _ (s : List ℕ) (bytes : Bytes s) (taken : eqb (answer_number (reading_of s).answer) 0 ≡ true) where
  -- its reading was accepted, so that a start is too
  start_accepted : (outcome (reading_of s).manager start).answer ≡ Ok tt
  unfolding reading_of outcome read_into
  start_accepted = read_then_start (decode (take (events_from s 0) s)) (decode (take (events_from s 0) s)).answer taken

  first_begun : Begun (first_manager s)
  unfolding first_manager reading_of
  first_begun = record {
    before = (outcome new_manager (read (take (events_from s 0) s))).manager;
    reached = after new_manager (read (take (events_from s 0) s)) (λ b e _. subst Bytes (read_same e) (take_bytes (events_from s 0) s bytes)) at_new;
    accepted = start_accepted;
    same = refl;
  }

  -- what `cantrace` writes for it is a history since the start
  pub recorded : ltb 65536 (length s) ≡ false → Recorded s
  unfolding trace_of lines_after event_lines history_lines
  recorded short = record {
    begun = first_begun;
    since = λ es. events_since (first_manager s) (first_manager s) [] es begun;
    output =
        rw (short, taken) (ap
        (λ (ls : List (List ℕ)). first_line s ∷ (ls ++ ending (row_at s (events_from s 0)))) (sym (lines_after_lem (first_manager s) [] (events_of s))));
  }

  -- demand 3 holds of every network of it, over that history and every other since the start
  pub recorded_demand_3 : (i : ℕ) → i < length (networks_of (first_manager s)) → Demand3 (first_manager s) (network_at (first_manager s) i)
  recorded_demand_3 i h = demand_3 (first_manager s) first_begun i h

  -- and so do the figures
  pub recorded_comes_up : (i : ℕ) → i < length (networks_of (first_manager s)) → ComesUp (first_manager s) (network_at (first_manager s) i)
  recorded_comes_up i h = comes_up (first_manager s) first_begun i h

  -- and so does what is said of listening
  pub recorded_listening : Listening (first_manager s)
  recorded_listening = listening_since (first_manager s) first_begun

  pub recorded_listens_in : (i : ℕ) → i < length (networks_of (first_manager s)) → ListensIn (first_manager s) i
  recorded_listens_in i h = listens_in (first_manager s) first_begun i h

  -- and that nothing leaks across
  pub recorded_nothing_leaks : (i : ℕ) → i < length (networks_of (first_manager s)) → NothingLeaks (first_manager s) i
  recorded_nothing_leaks i h = nothing_leaks (first_manager s) first_begun i h

  -- what its calls are lent is room for any of them
  pub recorded_has_room : HasRoom s
  unfolding any
  recorded_has_room = record {
    needs =
        let sound = (follow (first_manager s) (first_manager s) [] first_begun begun).sound in
        omega (arith, tick_needs_paper (first_manager s) sound, tick_needs_most (first_manager s) sound);
    not_short = λ es. events_not_short (first_manager s) first_begun (first_manager s) [] es begun refl;
    ticks = λ es. events_then_tick (first_manager s) first_begun (manager_after (first_manager s) es) _
        (events_since (first_manager s) (first_manager s) [] es begun);
  }
