-- What users of the sheet rely on, each theorem with its sentence. docs/PROOFS.md lists them.
use Rattle.lists.proofs.Basics.{ℕ, ◌≤◌, le-leb, ◌≡◌, refl, sym, ap, subst, ◌∙◌, List, length, take, drop, take-append_seam}
use Rattle.lists.specs.Lists.{Bytes}
use Rattle.settings.specs.declared.Settings.{Settings}
use Rattle.entries.specs.declared.Fault.{Fault}
use Rattle.settings.specs.Good.{Good}
use Rattle.std.specs.Prelude.{Result, Ok, Err}
use Rattle.sheet.specs.declared.Reading.{Reading}
use Rattle.sheet.specs.declared.TooShort.{TooShort}
use Rattle.sheet.specs.Writing.{written, buffer_after}
use Rattle.sheet.specs.Reading.{decode}
use Rattle.sheet.specs.Encode.{encode}
use Rattle.sheet.specs.Outcomes.{ReadOutcome, WriteOutcome}
use Rattle.sheet.specs.RoundTrip.{WrittenAsRead}
use Rattle.sheet.specs.Pointing.{Points, Within}
use Rattle.sheet.proofs.WriteThenRead as Forth
use Rattle.sheet.proofs.ReadThenWrite as Back
use Rattle.sheet.proofs.SheetBytes as All
use Rattle.sheet.proofs.Pointing as Place
use Rattle.sheet.proofs.Writes.{encode_length}

-- ---- 1. there and back
-- what is read from a written sheet is the settings that were written, with the sheet's length as place
pub write_then_read : (s : Settings) →
    Good s → decode (encode s) ≡ (let r : Reading = record { answer = Ok tt; place = length (encode s); settings = s } in r)
write_then_read = Forth.write_then_read

-- the same through a lent buffer that is long enough: the first bytes of it, as many as the writer answers, read as the settings
pub buffer_then_read : (s : Settings) (before : List ℕ) → Good s → length (encode s) ≤ length before →
    (written s before ≡ Ok (length (encode s))) × ((decode (take (length (encode s)) (buffer_after s before))).settings ≡ s)
    × ((decode (take (length (encode s)) (buffer_after s before))).answer ≡ Ok tt)
unfolding written buffer_after
buffer_then_read s before g h =
    let r = write_then_read s g in
    rw (le-leb (length (encode s)) (length before) h, take-append_seam (encode s) (drop (length (encode s)) before))
    (refl, ap (λ (d : Reading). d.settings) r, ap (λ (d : Reading). d.answer) r)

-- ---- 2. back and there
-- an accepted reading's settings, written, give the very bytes read
pub read_then_write : (b : List ℕ) → Bytes b → WrittenAsRead b (decode b)
read_then_write = Back.read_then_write

-- one set of settings has one sheet: whatever bytes are accepted as these settings are their sheet
pub one_sheet : (s : Settings) (b : List ℕ) → Bytes b → (decode b).answer ≡ Ok tt → (decode b).settings ≡ s → b ≡ encode s
one_sheet s b w e f = sym (read_then_write b w e) ∙ ap encode f

-- two accepted sheets with the same settings are the same bytes
pub same_settings_same_bytes : (a b : List ℕ) →
    Bytes a → Bytes b → (decode a).answer ≡ Ok tt → (decode b).answer ≡ Ok tt → (decode a).settings ≡ (decode b).settings → a ≡ b
same_settings_same_bytes a b v w e f g = one_sheet (decode b).settings a v e g ∙ read_then_write b w f

-- two good settings with the same sheet are the same settings
pub same_sheet_same_settings : (s t : Settings) → Good s → Good t → encode s ≡ encode t → s ≡ t
same_sheet_same_settings s t g h e = ap (λ (r : Reading). r.settings) (sym (write_then_read s g) ∙ ap decode e ∙ write_then_read t h)

-- ---- 3. an accepted sheet
-- its settings are good
pub accepted_good : (b : List ℕ) → Bytes b → (decode b).answer ≡ Ok tt → Good (decode b).settings
accepted_good = Back.accepted_good

-- R5: its place is its length
pub accepted_place : (b : List ℕ) → Bytes b → (decode b).answer ≡ Ok tt → (decode b).place ≡ length b
accepted_place b w e =
    let s = read_then_write b w e in
    ap (λ (l : List ℕ). (decode l).place) (sym s)
    ∙ ap (λ (r : Reading). r.place) (write_then_read (decode b).settings (accepted_good b w e)) ∙ ap length s

-- S12: it has 25 to 360 bytes
pub accepted_length : (b : List ℕ) → Bytes b → (decode b).answer ≡ Ok tt → (25 ≤ length b) × (length b ≤ 360)
accepted_length b w e =
    subst (λ (l : List ℕ). (25 ≤ length l) × (length l ≤ 360)) (read_then_write b w e) (encode_length (decode b).settings (accepted_good b w e))

-- the sheet of good settings is bytes
pub sheet_bytes : (s : Settings) → Good s → Bytes (encode s)
sheet_bytes = All.sheet_bytes

-- ---- 4. a refused sheet
-- S24 to S29: what stands at its place is what the refusal says: for 32 a length that is wrong, for 34 a number that is out of its range
pub refused_points : (b : List ℕ) (fault : Fault) → (decode b).answer ≡ Err fault → Points fault b (decode b).place
refused_points = Place.refused_points

-- its place is one of its bytes; for 30 it may be the end, and for 38, which is for no bytes at all, it is 0
pub refused_within : (b : List ℕ) (fault : Fault) → (decode b).answer ≡ Err fault → Within fault b (decode b).place
refused_within b fault e = Place.points_within fault b (decode b).place (refused_points b fault e)

-- ---- 5. the outcome of a public call is one
pub read_outcome_one : (bytes : List ℕ) (r r' : Reading) → ReadOutcome bytes r → ReadOutcome bytes r' → r ≡ r'
read_outcome_one bytes r r' p q = p ∙ sym q

pub write_outcome_one : (s : Settings) (before : List ℕ) (r r' : Result ℕ TooShort) (after after' : List ℕ) →
    WriteOutcome s before r after → WriteOutcome s before r' after' → (r ≡ r') × (after ≡ after')
write_outcome_one s before r r' after after' p q = (p.0 ∙ sym q.0, p.1 ∙ sym q.1)
