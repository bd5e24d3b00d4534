-- Laws of records in a lent buffer: what is written one after the other, room for it, and what is read back and turned.
use Rattle.lists.proofs.Basics.{ℕ, zero, suc, ◌+◌, ◌*◌, ◌≤◌, ◌<◌, ◌≡◌, refl, sym, ◌∙◌, ap, subst, List, [], ◌∷◌, ◌++◌, arith, add-one, length, get_or, take, drop, set}
use Rattle.lists.proofs.Basics.{length-append, sets, length-sets, sets-eq, map, map-append, length-map, Bool, true, false, get_or-drop}
use Rattle.lists.proofs.Basics.{drop-append_seam}
use lib.Seq.{get_or-append-add}
use Rattle.lists.proofs.Stores.{sets_append, run_more, length_within}
use Rattle.records.specs.declared.Record.{Record}
use Rattle.records.specs.Records.{handed, bytes, record_at, records_at, turned}
use Rattle.records.specs.Wrote.{stored, Wrote, Room, heeded}

pub bytes_append : (xs ys : List Record) → bytes (xs ++ ys) ≡ bytes xs ++ bytes ys
unfolding bytes
bytes_append [] ys = refl
bytes_append (x ∷ xs) ys = rw (bytes_append xs ys)

pub length_bytes : (xs : List Record) → length (bytes xs) ≡ 3 * length xs
unfolding bytes
length_bytes [] = refl
length_bytes (x ∷ xs) = omega (arith, length_bytes xs)

pub stored_none : (l : List ℕ) (k : ℕ) → stored l k [] ≡ l
unfolding stored bytes
stored_none l k = refl

-- what is stored in two goes is stored in one
pub stored_append : (l : List ℕ) (k : ℕ) (xs ys : List Record) → stored (stored l k xs) (k + length xs) ys ≡ stored l k (xs ++ ys)
unfolding stored
stored_append l k xs ys =
    let e : 3 * k + length (bytes xs) ≡ 3 * (k + length xs) = omega (arith, length_bytes xs) in
    sym (ap (λ (b : List ℕ). sets l (3 * k) b) (bytes_append xs ys) ∙ sym (sets_append l (3 * k) (bytes xs) (bytes ys))
    ∙ ap (λ (i : ℕ). sets (sets l (3 * k) (bytes xs)) i (bytes ys)) e)

pub length_stored : (l : List ℕ) (k : ℕ) (xs : List Record) → length (stored l k xs) ≡ length l
unfolding stored
length_stored l k xs = length-sets l (3 * k) (bytes xs)

-- from the front: the records' bytes, and then what stood behind them
pub stored_front : (l : List ℕ) (xs : List Record) → 3 * length xs ≤ length l → stored l 0 xs ≡ bytes xs ++ drop (3 * length xs) l
unfolding stored
stored_front l xs h =
    let e = length_bytes xs in
    let g : 0 + length (bytes xs) ≤ length l = omega (arith, e) in
    let f : 0 + length (bytes xs) ≡ 3 * length xs = omega (arith, e) in
    sets-eq (bytes xs) l 0 g ∙ ap (λ (i : ℕ). bytes xs ++ drop i l) f

-- the three stores of one record
pub stored_one : (l : List ℕ) (k : ℕ) (r : Record) →
    set (set (set l (3 * k) r.kind) (3 * k + 1) r.target) (3 * k + 2) r.argument ≡ stored l k (r ∷ [])
unfolding stored bytes
stored_one l k r =
    let e : 3 * k + 1 ≡ suc (3 * k) = omega arith in
    let f : 3 * k + 2 ≡ suc (suc (3 * k)) = omega arith in
    rw (e, f)

pub wrote_none : (l : List ℕ) (k : ℕ) → Wrote l l k k []
wrote_none l k = record { count = omega arith; buffer = sym (stored_none l k) }

-- one write after the other
pub wrote_then : {l l' l'' : List ℕ} {k r s : ℕ} {xs ys : List Record} → Wrote l l' k r xs → Wrote l' l'' r s ys → Wrote l l'' k s (xs ++ ys)
wrote_then {l} {l'} {l''} {k} {r} {s} {xs} {ys} p q =
    record {
      count = omega (arith, p.count, q.count, length-append xs ys);
      buffer = q.buffer
          ∙ ap (λ (b : List ℕ). stored b r ys) p.buffer ∙ ap (λ (i : ℕ). stored (stored l k xs) i ys) p.count ∙ stored_append l k xs ys;
    }

pub wrote_length : {l l' : List ℕ} {k r : ℕ} {xs : List Record} → Wrote l l' k r xs → length l' ≡ length l
wrote_length {l} {l'} {k} {r} {xs} p = ap length p.buffer ∙ length_stored l k xs

-- room for all is room for the first part, and after that is stored, for the rest
pub room_first : {l : List ℕ} {k : ℕ} (xs ys : List Record) → Room l k (xs ++ ys) → Room l k xs
room_first xs ys h = record { fits = omega (arith, h.fits, length-append xs ys) }

pub room_next : {l l' : List ℕ} {k r : ℕ} {xs : List Record} (ys : List Record) → Room l k (xs ++ ys) → Wrote l l' k r xs → Room l' r ys
room_next {xs = xs} ys h p = record { fits = omega (arith, h.fits, length-append xs ys, p.count, wrote_length p) }

-- ---- the records of each element of a list, one after the other
module _ {A : Type 0}
    (run : List A → List Record) (run-append : (l m : List A) → run (l ++ m) ≡ run l ++ run m) (l : List A) (i : ℕ) (d : A) (h : i < length l) where
  module _ {b b₁ : List ℕ} {k r : ℕ} (w : Wrote b b₁ k r (run (take i l))) where
    pub wrote_more : {b₂ : List ℕ} {s : ℕ} → Wrote b₁ b₂ r s (run (get_or l i d ∷ [])) → Wrote b b₂ k s (run (take (i + 1) l))
    wrote_more v = rw (run_more run run-append l i d h) (wrote_then w v)

    -- where there is room for the records of the first n elements there is room for those of one more
    pub room_more : (n : ℕ) → i < n → Room b k (run (take n l)) → Room b₁ r (run (get_or l i d ∷ []))
    room_more n g room = record { fits = omega (arith, room.fits, w.count, wrote_length w, length_within run run-append l i d h n g) }

-- ---- records that are read back
-- those that were written from the front of a buffer
pub records_back : (rs : List Record) (rest : List ℕ) → records_at (length rs) (bytes rs ++ rest) ≡ rs
unfolding records_at bytes
records_back [] rest = refl
records_back (r ∷ rs) rest = ap (λ (l : List Record). r ∷ l) (records_back rs rest)

length_records : (k : ℕ) (b : List ℕ) → length (records_at k b) ≡ k
unfolding records_at
length_records zero b = refl
length_records (suc k) b = ap suc (length_records k (drop 3 b))

records_suc : (k : ℕ) (b : List ℕ) → records_at (suc k) b ≡ records_at k b ++ (record_at k b ∷ [])
unfolding records_at
records_suc zero b = refl
records_suc (suc k) b =
    let at : (j : ℕ) → get_or (drop 3 b) (3 * k + j) 0 ≡ get_or b (3 * suc k + j) 0 = λ j. get_or-drop 3 b (3 * k + j) 0 ∙ ap (λ (i : ℕ). get_or b i 0)
    (omega arith) in
    let first : get_or (drop 3 b) (3 * k) 0 ≡ get_or b (3 * suc k) 0 = get_or-drop 3 b (3 * k) 0 ∙ ap (λ (i : ℕ). get_or b i 0) (omega arith) in
    ap (λ (l : List Record). handed (get_or b 0 0) (get_or b 1 0) (get_or b 2 0) ∷ l) (records_suc k (drop 3 b) ∙ rw (first, at 1, at 2) refl)

-- ---- records that are turned where the manager listens
-- where it does not listen none is turned
pub turned_none : (rs : List Record) → map (turned false) rs ≡ rs
unfolding turned
turned_none [] = refl
turned_none (r ∷ rs) = ap (λ (l : List Record). r ∷ l) (turned_none rs)

-- what stands behind the records that were written is still what stood there
behind : (b : List ℕ) (rs : List Record) (j : ℕ) → 3 * length rs ≤ length b → get_or (stored b 0 rs) (3 * length rs + j) 0 ≡ get_or b (3 * length rs + j) 0
behind b rs j h =
    ap (λ (l : List ℕ). get_or l (3 * length rs + j) 0) (stored_front b rs h)
    ∙ ap (λ (i : ℕ). get_or (bytes rs ++ drop (3 * length rs) b) (i + j) 0) (sym (length_bytes rs))
    ∙ get_or-append-add (bytes rs) (drop (3 * length rs) b) j 0 ∙ get_or-drop (3 * length rs) b j 0

-- before the loop
pub heed_begins : (b : List ℕ) → Wrote b b 0 0 (map (turned true) (records_at 0 b))
unfolding records_at
heed_begins b = wrote_none b 0

-- one turn of the loop that reads record number k, and writes it back as it goes out
pub heed_more : {b b₁ b₂ : List ℕ} {k n : ℕ} (r : Record) → 3 * (k + 1) ≤ length b → Wrote b b₁ 0 k (map (turned true) (records_at k b))
    → r ≡ turned true (record_at k b₁) → Wrote b₁ b₂ k n (r ∷ []) → Wrote b b₂ 0 (k + 1) (map (turned true) (records_at (k + 1) b))
heed_more {b} {b₁} {b₂} {k} {n} r room w e v =
    let rs = map (turned true) (records_at k b) in
    let long : length rs ≡ k = length-map (records_at k b) (turned true) ∙ length_records k b in
    let read : (j : ℕ) → get_or b₁ (3 * k + j) 0 ≡ get_or b (3 * k + j) 0 = λ j. ap (λ (l : List ℕ). get_or l (3 * k + j) 0) w.buffer
    ∙ ap (λ (i : ℕ). get_or (stored b 0 rs) (3 * i + j) 0) (sym long) ∙ behind b rs j (omega (arith, room, long))
    ∙ ap (λ (i : ℕ). get_or b (3 * i + j) 0) long in
    let first : get_or b₁ (3 * k) 0 ≡ get_or b (3 * k) 0 = rw (let z : 3 * k + 0 ≡ 3 * k = omega arith in z) at (read 0) in
    let same : record_at k b₁ ≡ record_at k b = rw (first, read 1, read 2) refl in
    let more : map (turned true) (records_at k b ++ (record_at k b ∷ [])) ≡ rs ++ (r ∷ []) =
    map-append (turned true) (records_at k b) (record_at k b ∷ []) ∙ ap (λ (x : Record). rs ++ (x ∷ [])) (sym (e ∙ ap (turned true) same)) in
    let wrote : Wrote b b₂ 0 n (map (turned true) (records_at (suc k) b)) = rw (records_suc k b, more) (wrote_then w v) in
    subst (λ (i : ℕ). Wrote b b₂ 0 i (map (turned true) (records_at (k + 1) b))) v.count (rw add-one wrote)

-- the loop is over, or there was none
pub heed_done : {b b₁ : List ℕ} {k : ℕ} → Wrote b b₁ 0 k (map (turned true) (records_at k b)) → b₁ ≡ heeded b k true
unfolding heeded
heed_done w = w.buffer

-- the records that stand at the front of a buffer, and what follows them
there : (k : ℕ) (b : List ℕ) → 3 * k ≤ length b → bytes (records_at k b) ++ drop (3 * k) b ≡ b
unfolding records_at bytes
there zero b h = refl
there (suc k) [] h = absurd (omega arith)
there (suc k) (x ∷ []) h = absurd (omega arith)
there (suc k) (x ∷ y ∷ []) h = absurd (omega arith)
there (suc k) (x ∷ y ∷ z ∷ b) h =
    let e : 3 * suc k ≡ suc (suc (suc (3 * k))) = omega arith in
    rw e (ap (λ (l : List ℕ). x ∷ y ∷ z ∷ l) (there k b (omega arith)))

pub heed_none : (b : List ℕ) (k : ℕ) → 3 * k ≤ length b → b ≡ heeded b k false
unfolding heeded
heed_none b k h =
    let long = length_records k b in
    let front = stored_front b (records_at k b) (omega (arith, h, long)) in
    sym (ap (stored b 0) (turned_none (records_at k b)) ∙ front ∙ ap (λ (i : ℕ). bytes (records_at k b) ++ drop (3 * i) b) long ∙ there k b h)

-- records that were written from the front of a buffer, as they go out
pub heeded_front : (b : List ℕ) (rs : List Record) (listening : Bool) → 3 * length rs ≤ length b
    → heeded (bytes rs ++ drop (3 * length rs) b) (length rs) listening
    ≡ bytes (map (turned listening) rs) ++ drop (3 * length (map (turned listening) rs)) b
unfolding heeded
heeded_front b rs listening h =
    let rest = drop (3 * length rs) b in
    let out = map (turned listening) rs in
    let long : length out ≡ length rs = length-map rs (turned listening) in
    let all : length (bytes rs ++ rest) ≡ 3 * length rs + length rest = length-append (bytes rs) rest ∙ rw (length_bytes rs) refl in
    ap (λ (l : List Record). stored (bytes rs ++ rest) 0 (map (turned listening) l)) (records_back rs rest)
    ∙ stored_front (bytes rs ++ rest) out (omega (arith, long, all))
    ∙ ap (λ (l : List ℕ). bytes out ++ l) (ap (λ (i : ℕ). drop (3 * i) (bytes rs ++ rest)) long
    ∙ ap (λ (i : ℕ). drop i (bytes rs ++ rest)) (sym (length_bytes rs)) ∙ drop-append_seam (bytes rs) rest ∙ ap (λ (i : ℕ). drop (3 * i) b) (sym long))
