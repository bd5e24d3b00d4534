-- Demand 2: each call gives exactly what the rules give, and a sheet and its settings say the same, there and back.
use Rattle.lists.proofs.Basics.{ℕ, ◌≤◌, le-leb, leb-true, ◌≡◌, refl, sym, ap, subst, ◌∙◌, List, ◌∷◌, ◌++◌, Bool, true, false, leb, length}
use Rattle.lists.proofs.Basics.{take, take-append_seam}
use Rattle.std.specs.Prelude.{Result, Ok, Err}
use Rattle.slots.specs.declared.CallRefusal.{CallRefusal}
use Rattle.entries.specs.declared.Fault.{Fault}
use Rattle.settings.specs.declared.Settings.{Settings}
use Rattle.sheet.specs.declared.Reading.{Reading}
use Rattle.sheet.specs.Reading.{decode}
use Rattle.sheet.specs.Encode.{encode}
use Rattle.sheet.specs.Writing.{buffer_after}
use Rattle.sheet.proofs.Theorems.{write_then_read, read_then_write, one_sheet}
use Rattle.slots.specs.declared.Stage.{Stage}
use Rattle.slots.specs.declared.Manager.{Manager}
use Rattle.slots.specs.declared.Outcome.{Outcome}
use Rattle.slots.specs.Manager.{answer_number, settings_of, refused, accepted}
use Rattle.slots.specs.Calls.{Call, read, write, by_stage, loaded, after_reading, read_into, writing_of, all_ticked, listened, outcome, written_into}
use Rattle.calls.specs.Histories.{Entry, entry_of, History, Since, begun, goes}
use Rattle.calls.proofs.ByCall.{by_call}
use Rattle.calling.specs.Returned.{New}
use Rattle.calling.specs.Lived.{Lived}
use Rattle.calling.proofs.Lived.{noted_entry, lived_since, lived_reached, cut, number_accepted}
use Rattle.manager_theorems.proofs.Sound.{reached_sound}
use Rattle.demands.specs.DemandsOneAndTwo.{calls_of, HasRead, NoneRead, GivesBack, TakesOver, Demand2}

-- ---- the same calls
-- the same calls on the same manager: the same managers after them, the same answers, and the same records handed out
pub same_calls_same_history : (m₀ m m' : Manager) (h h' : History) → Since m₀ m h → Since m₀ m' h' → calls_of h ≡ calls_of h' → (m ≡ m') × (h ≡ h')
same_calls_same_history m₀ _ _ _ _ begun begun e = (refl, refl)
same_calls_same_history m₀ _ _ _ _ begun (goes m' h' c' p') e = absurd cc
same_calls_same_history m₀ _ _ _ _ (goes m h c p) begun e = absurd cc
same_calls_same_history m₀ _ _ _ _ (goes m h c p) (goes m' h' c' p') e =
    let r = same_calls_same_history m₀ m m' h h' p p' (cc) in
    let c-same : c ≡ c' = cc in
    ((λ i. (outcome (r.0 i) (c-same i)).manager), (λ i. entry_of (r.0 i) (c-same i) ∷ r.1 i))

-- ---- a sheet that a manager has
-- a manager that has a sheet, and the settings of it
record Has (s : Settings) (m : Manager) : Type 0 where
  loaded : m.stage ≡ Stage.Empty → ⊥
  settings : settings_of m ≡ s

-- an accepted reading gives the manager the settings that the bytes say
record Reads (m : Manager) (bytes : List ℕ) (o : Outcome) : Type 0 where
  accepted : (decode bytes).answer ≡ Ok tt
  manager : o.manager ≡ loaded m (decode bytes).settings

module _ (m : Manager) (bytes : List ℕ) where
  by_verdict : (d : Reading) (v : Result Unit Fault) → d.answer ≡ v → (after_reading m d v).answer ≡ Ok tt
      → (d.answer ≡ Ok tt) × ((after_reading m d v).manager ≡ loaded m d.settings)
  by_verdict d (Ok done) e a = (e, refl)
  by_verdict d (Err fault) e a = absurd cc

  into : (read_into m bytes).answer ≡ Ok tt → Reads m bytes (read_into m bytes)
  unfolding read_into
  into a = let v = by_verdict (decode bytes) (decode bytes).answer refl a in record { accepted = v.0; manager = v.1 }

  by_stage_lem : (g : Stage) → (by_stage g (read_into m bytes) (read_into m bytes) (refused m CallRefusal.Running)).answer ≡ Ok tt
      → Reads m bytes (by_stage g (read_into m bytes) (read_into m bytes) (refused m CallRefusal.Running))
  by_stage_lem Stage.Empty a = into a
  by_stage_lem Stage.Loaded a = into a
  by_stage_lem Stage.Started a = absurd cc

  accepted_reads : (outcome m (read bytes)).answer ≡ Ok tt → Reads m bytes (outcome m (read bytes))
  unfolding outcome
  accepted_reads a = by_stage_lem m.stage a

-- a call that is no accepted reading leaves the sheet as it is
call_keeps : (s : Settings) (m : Manager) → Has s m → (c : Call)
    → ((bytes : List ℕ) → c ≡ read bytes → answer_number (outcome m c).answer ≡ 0 → ⊥) → Has s (outcome m c).manager
unfolding all_ticked listened
call_keeps s m has =
    by_call m (λ c o rs. ((bytes : List ℕ) → c ≡ read bytes → answer_number o.answer ≡ 0 → ⊥) → Has s o.manager) (record {
      refuses = λ c a r f none. has;
      declines = λ c id sight i a e f d r none. has;
      takes = λ c id sight i e f t k none. record { loaded = has.loaded; settings = has.settings };
      ticks = λ room e k none. record { loaded = λ f. absurd cc; settings = has.settings };
      listens = λ value room e k a none. record { loaded = has.loaded; settings = has.settings };
      polls = λ handle i f none. has;
      reads = λ bytes f a none. absurd (none bytes refl refl);
      misreads = λ bytes fault f none. has;
      writes = λ room f none. has;
      starts = λ e none. record { loaded = λ f. absurd cc; settings = has.settings };
    })

-- and so do any such calls
since_keeps : (s : Settings) (m₁ m : Manager) (h : History) → Has s m₁ → Since m₁ m h → NoneRead h → Has s m
unfolding NoneRead
since_keeps s m₁ _ _ has begun none = has
since_keeps s m₁ _ _ has (goes m h c p) none =
    call_keeps s m (since_keeps s m₁ m h has p none.1) c (λ bytes e a. none.0 bytes (record { call = e; accepted = a }))

-- ---- writing it
-- a stage after the first, and one before the last
past_empty : {A : Type 0} (a b : A) (g : Stage) → (g ≡ Stage.Empty → ⊥) → by_stage g a b b ≡ b
past_empty a b Stage.Empty f = absurd (f refl)
past_empty a b Stage.Loaded f = refl
past_empty a b Stage.Started f = refl

before_started : {A : Type 0} (a b : A) (g : Stage) → (g ≡ Stage.Started → ⊥) → by_stage g a a b ≡ a
before_started a b Stage.Empty f = refl
before_started a b Stage.Loaded f = refl
before_started a b Stage.Started f = absurd (f refl)

-- with room for it, the sheet of the manager's settings stands from the front of the buffer
writes_sheet : (m : Manager) → (m.stage ≡ Stage.Empty → ⊥) → (before : List ℕ) (r : Outcome) (after : List ℕ) → r ≡ outcome m (write (length before))
    → after ≡ written_into m before → length (encode (settings_of m)) ≤ length before → GivesBack (encode (settings_of m)) before r after
unfolding outcome written_into writing_of buffer_after
writes_sheet m loaded before r after result buffer fits =
    let roomy = le-leb (length (encode (settings_of m))) (length before) fits in
    let o : r ≡ accepted m (length (encode (settings_of m))) = result ∙ past_empty _ _ m.stage loaded ∙ rw roomy refl in
    record {
      accepted = ap (λ (x : Outcome). x.answer) o;
      count = ap (λ (x : Outcome). x.count) o;
      buffer = buffer ∙ past_empty _ _ m.stage loaded ∙ rw roomy refl;
    }

-- a writing that is accepted has a sheet, and the room for it
record Writable (m : Manager) (room : ℕ) : Type 0 where
  loaded : m.stage ≡ Stage.Empty → ⊥
  fits : length (encode (settings_of m)) ≤ room

accepted_writes : (m : Manager) (room : ℕ) → (outcome m (write room)).answer ≡ Ok tt → Writable m room
unfolding outcome writing_of
accepted_writes m room a = of_stage m.stage refl a
  where
    of_room : (b : Bool) → leb (length (encode (settings_of m))) room ≡ b → (writing_of m room).answer ≡ Ok tt
        → length (encode (settings_of m)) ≤ room
    of_room true e a = leb-true (length (encode (settings_of m))) room e
    of_room false e a = absurd (let f = rw e at a in cc)

    of_stage : (g : Stage) → m.stage ≡ g
        → (by_stage g (refused m CallRefusal.NotReady) (writing_of m room) (writing_of m room)).answer ≡ Ok tt → Writable m room
    of_stage Stage.Empty e a = absurd cc
    of_stage Stage.Loaded e a = record { loaded = λ f. cc; fits = of_room _ refl a }
    of_stage Stage.Started e a = record { loaded = λ f. cc; fits = of_room _ refl a }

-- ---- from what code noted
-- after an accepted reading and any calls up to the next one, the manager has a sheet, and it is the bytes that were read
record StillHas (m : Manager) (bytes : List ℕ) : Type 0 where
  loaded : m.stage ≡ Stage.Empty → ⊥
  sheet : encode (settings_of m) ≡ bytes

lived_keeps : (m₀ m : Manager) (s : History) (e : Entry) (h : History) (bytes : List ℕ) → Lived m₀ m (s ++ (e ∷ h)) → HasRead e bytes → NoneRead s
    → StillHas m bytes
lived_keeps m₀ m s e h bytes l read-them none =
    let c = cut m₀ m (s ++ (e ∷ h)) l s e h refl in
    let result : c.result ≡ outcome c.on (read bytes) = c.given ∙ ap (outcome c.on) read-them.call in
    let accepted = ap (λ (o : Outcome). o.answer) (sym result) ∙ number_accepted c.result.answer (c.number ∙ read-them.accepted) in
    let reads = accepted_reads c.on bytes accepted in
    let new : c.result.manager ≡ loaded c.on (decode bytes).settings = ap (λ (o : Outcome). o.manager) result ∙ reads.manager in
    let had : Has (decode bytes).settings c.result.manager =
    subst (Has (decode bytes).settings) (sym new) (record { loaded = λ f. absurd cc; settings = refl }) in
    let has = since_keeps (decode bytes).settings c.result.manager m s had (lived_since c.result.manager m s c.since) none in
    record {
      loaded = has.loaded;
      sheet = ap encode has.settings ∙ read_then_write bytes (c.reads bytes read-them.call) reads.accepted;
    }

-- what reading the manager's own sheet gives
abbrev own_reading : Manager → Reading
own_reading m = record { answer = Ok tt; place = length (encode (settings_of m)); settings = settings_of m }

-- what a manager that code had from `new` on has written is read as its settings
written_reads : (m₀ m : Manager) (h : History) → New m₀ → Lived m₀ m h → (before : List ℕ) (w : Outcome) (after : List ℕ)
    → w ≡ outcome m (write (length before)) → after ≡ written_into m before → w.answer ≡ Ok tt
    → decode (take w.count after) ≡ own_reading m
written_reads m₀ m h new l before w after result buffer a =
    let can = accepted_writes m (length before) (subst (λ (o : Outcome). o.answer ≡ Ok tt) result a) in
    let wrote = writes_sheet m can.loaded before w after result buffer can.fits in
    let sheet : take w.count after ≡ encode (settings_of m) = rw (wrote.count, wrote.buffer) (take-append_seam (encode (settings_of m)) _) in
    ap decode sheet ∙ write_then_read (settings_of m) ((reached_sound m (lived_reached m₀ m h new l)).good can.loaded)

-- a manager that is not started takes over what it reads
takes_over : (m n : Manager) (sheet : List ℕ) (r : Outcome) → decode sheet ≡ own_reading m → (n.stage ≡ Stage.Started → ⊥)
    → r ≡ outcome n (read sheet) → TakesOver m r
unfolding outcome read_into
takes_over m n sheet r said waits result =
    let o = result ∙ before_started _ _ n.stage waits ∙ ap (λ (d : Reading). after_reading n d d.answer) said in
    record { accepted = ap (λ (x : Outcome). x.answer) o; settings = ap (λ (x : Outcome). settings_of x.manager) o }

-- two that are the same third are equal
one : {A : Type 0} {x : A} (r r' : A) → r ≡ x → r' ≡ x → r ≡ r'
one r r' p q = p ∙ sym q

-- ---- demand 2
pub demand_2 : Demand2
demand_2 = record {
  by_the_rules = λ m task bytes before r after g. (g.result, noted_entry m task bytes before r after g);
  one_new = λ m m'. one m m';
  one_outcome = λ m task bytes before r r' after after' g g'. (one r r' g.result g'.result, one after after' g.buffer g'.buffer);
  one_history = λ m₀ m m' h h' l l'. same_calls_same_history m₀ m m' h h' (lived_since m₀ m h l) (lived_since m₀ m' h' l');
  write_then_read = write_then_read;
  read_then_write = read_then_write;
  one_sheet = one_sheet;
  reading_written = λ m₀ m s e h bytes l read-them none unread before r after g fits.
      let kept = lived_keeps m₀ m s e h bytes l read-them none in
      subst (λ (b : List ℕ). GivesBack b before r after) kept.sheet (writes_sheet m kept.loaded before r after g.result g.buffer
      (subst (λ (b : List ℕ). length b ≤ length before) (sym kept.sheet) fits));
  writing_read = λ m₀ m h new l unread before w after g a n waits unlent left r f.
      takes_over m n (take w.count after) r (written_reads m₀ m h new l before w after g.result g.buffer a) waits f.result;
}
