-- Text read back: a number in decimal that something other than a digit follows is one number, and the text of records is that of these records.
use Rattle.lists.proofs.Basics.{ℕ, zero, suc, ◌+◌, ◌-◌, ◌*◌, ◌/◌, ◌%◌, ◌≤◌, ◌<◌, arith, ltb-true, ltb-false, ◌≡◌, refl, sym, ap, ◌∙◌, List, []}
use Rattle.lists.proofs.Basics.{◌∷◌, ◌++◌, append_assoc, Bool, true, false, cond, true≢false, ◌||◌, ltb, eqb, eqb-false, length}
use Rattle.lists.specs.Lists.{any}
use mathlib.Core.List.{flatten}
use mathlib.Core.Logic.{◌⊎◌, inl, inr}
use Rattle.records.specs.declared.Record.{Record}
use Rattle.text.specs.Text.{blank, colon, newline, digit, digits_up_to, decimal, record_text, records_text}

-- ---- a number in decimal
-- the number that digits are, after those that were read
unfoldable value : ℕ → List ℕ → ℕ
value read [] = read
value read (x ∷ l) = value (read * 10 + (x - 48)) l

value_append : (read : ℕ) (l m : List ℕ) → value read (l ++ m) ≡ value (value read l) m
unfolding value
value_append read [] m = refl
value_append read (x ∷ l) m = value_append (read * 10 + (x - 48)) l m

value_digits : (most n : ℕ) → n < most → value 0 (digits_up_to most n) ≡ n
unfolding value digits_up_to
value_digits zero n h = absurd (omega arith)
value_digits (suc most) n h = by_test (ltb n 10) refl (λ k. value_digits most (n / 10) k)
  where
    by_test : (c : Bool) → ltb n 10 ≡ c → (n / 10 < most → value 0 (digits_up_to most (n / 10)) ≡ n / 10)
        → value 0 (cond c (digit n ∷ []) (digits_up_to most (n / 10) ++ (digit (n % 10) ∷ []))) ≡ n
    by_test true e before = omega arith
    by_test false e before =
        let front = before (omega (arith, ltb-false n 10 e)) in
        value_append 0 (digits_up_to most (n / 10)) (digit (n % 10) ∷ []) ∙ omega (arith, front)

value_decimal : (n : ℕ) → value 0 (decimal n) ≡ n
unfolding decimal
value_decimal n = value_digits (suc n) n (omega arith)

-- each byte is the code of a digit
unfoldable Digits : List ℕ → Type 0
Digits [] = Unit
Digits (x ∷ l) = (48 ≤ x) × (x < 58) × Digits l

digits_append : (l m : List ℕ) → Digits l → Digits m → Digits (l ++ m)
unfolding Digits
digits_append [] m d e = e
digits_append (x ∷ l) m d e = (d.0, d.1, digits_append l m d.2 e)

digits_up_to_lem : (most n : ℕ) → Digits (digits_up_to most n)
unfolding digits_up_to Digits
digits_up_to_lem zero n = tt
digits_up_to_lem (suc most) n = by_test (ltb n 10) refl (digits_up_to_lem most (n / 10))
  where
    by_test : (c : Bool) → ltb n 10 ≡ c → Digits (digits_up_to most (n / 10))
        → Digits (cond c (digit n ∷ []) (digits_up_to most (n / 10) ++ (digit (n % 10) ∷ [])))
    by_test true e before = (omega arith, omega (arith, ltb-true n 10 e), tt)
    by_test false e before = digits_append (digits_up_to most (n / 10)) (digit (n % 10) ∷ []) before (omega arith, omega arith, tt)

decimal_only : (n : ℕ) → Digits (decimal n)
unfolding decimal
decimal_only n = digits_up_to_lem (suc n) n

-- a byte that is no digit
abbrev pub NoDigit : ℕ → Type 0
NoDigit x = 48 ≤ x → x < 58 → ⊥

cons_one : {x y : ℕ} {l m : List ℕ} → x ∷ l ≡ y ∷ m → (x ≡ y) × (l ≡ m)
cons_one e = (cc, cc)

-- digits up to the first byte that is none
digits_then : (l m : List ℕ) (x y : ℕ) (r q : List ℕ) → Digits l → Digits m → NoDigit x → NoDigit y
    → l ++ (x ∷ r) ≡ m ++ (y ∷ q) → (l ≡ m) × (x ∷ r ≡ y ∷ q)
unfolding Digits
digits_then [] [] x y r q d e f g h = (refl, h)
digits_then [] (b ∷ m) x y r q d e f g h = let same = (cons_one h).0 in absurd (f (omega (arith, same, e.0)) (omega (arith, same, e.1)))
digits_then (a ∷ l) [] x y r q d e f g h = let same = (cons_one h).0 in absurd (g (omega (arith, same, d.0)) (omega (arith, same, d.1)))
digits_then (a ∷ l) (b ∷ m) x y r q d e f g h =
    let same = cons_one h in
    let rest = digits_then l m x y r q d.2 e.2 f g same.1 in
    ((λ i. same.0 i ∷ rest.0 i), rest.1)

-- a number, and what follows it where that does not begin with a digit
pub decimal_then : (m n x y : ℕ) (r q : List ℕ) → NoDigit x → NoDigit y → decimal m ++ (x ∷ r) ≡ decimal n ++ (y ∷ q) → (m ≡ n) × (x ∷ r ≡ y ∷ q)
decimal_then m n x y r q f g h =
    let same = digits_then (decimal m) (decimal n) x y r q (decimal_only m) (decimal_only n) f g h in
    (sym (value_decimal m) ∙ ap (value 0) same.0 ∙ value_decimal n, same.1)

-- ---- records
-- the text of a record and what follows it, number by number
record_parts : (r : Record) (l : List ℕ) →
    record_text r ++ l ≡ decimal r.kind ++ (colon ∷ (decimal r.target ++ (colon ∷ (decimal r.argument ++ l))))
unfolding record_text
record_parts r l =
    append_assoc (decimal r.kind) (colon ∷ (decimal r.target ++ (colon ∷ decimal r.argument))) l
    ∙ ap (λ (m : List ℕ). decimal r.kind ++ (colon ∷ m)) (append_assoc (decimal r.target) (colon ∷ decimal r.argument) l)

no_colon : NoDigit colon
no_colon h k = omega arith

record_then : (r s : Record) (x y : ℕ) (l m : List ℕ) → NoDigit x → NoDigit y
    → record_text r ++ (x ∷ l) ≡ record_text s ++ (y ∷ m) → (r ≡ s) × (x ∷ l ≡ y ∷ m)
record_then r s x y l m f g h =
    let kind = decimal_then _ _ colon colon _ _ no_colon no_colon (sym (record_parts r (x ∷ l)) ∙ h ∙ record_parts s (y ∷ m)) in
    let target = decimal_then _ _ colon colon _ _ no_colon no_colon (cons_one kind.1).1 in
    let argument = decimal_then _ _ x y l m f g (cons_one target.1).1 in
    ((λ i. record { kind = kind.0 i; target = target.0 i; argument = argument.0 i }), argument.1)

-- records, each after a blank, to the end of the line: the first byte is no digit
unfoldable pub line_end : List Record → List ℕ
line_end rs = records_text rs ++ (newline ∷ [])

abbrev end_head : List Record → ℕ
end_head [] = newline
end_head (r ∷ rs) = blank

abbrev end_rest : List Record → List ℕ
end_rest [] = []
end_rest (r ∷ rs) = record_text r ++ line_end rs

end_parts : (rs : List Record) → line_end rs ≡ end_head rs ∷ end_rest rs
unfolding line_end records_text
end_parts [] = refl
end_parts (r ∷ rs) = append_assoc (blank ∷ record_text r) (records_text rs) (newline ∷ [])

end_no_digit : (rs : List Record) → NoDigit (end_head rs)
end_no_digit [] h k = omega arith
end_no_digit (r ∷ rs) h k = omega arith

pub records_one : (rs ss : List Record) → line_end rs ≡ line_end ss → rs ≡ ss
records_one [] [] e = refl
records_one [] (s ∷ ss) e = let h = cons_one (sym (end_parts []) ∙ e ∙ end_parts (s ∷ ss)) in absurd (omega (arith, h.0))
records_one (r ∷ rs) [] e = let h = cons_one (sym (end_parts (r ∷ rs)) ∙ e ∙ end_parts []) in absurd (omega (arith, h.0))
records_one (r ∷ rs) (s ∷ ss) e =
    let h = cons_one (sym (end_parts (r ∷ rs)) ∙ e ∙ end_parts (s ∷ ss)) in
    let both = ap (λ (l : List ℕ). record_text r ++ l) (sym (end_parts rs)) ∙ h.1 ∙ ap (λ (l : List ℕ). record_text s ++ l) (end_parts ss) in
    let same = record_then r s (end_head rs) (end_head ss) (end_rest rs) (end_rest ss) (end_no_digit rs) (end_no_digit ss) both in
    let rest = records_one rs ss (end_parts rs ∙ same.1 ∙ sym (end_parts ss)) in
    λ i. same.0 i ∷ rest i

-- ---- a number and then records
pub decimal_records : (m n : ℕ) (rs ss : List Record) → decimal m ++ line_end rs ≡ decimal n ++ line_end ss → (m ≡ n) × (rs ≡ ss)
decimal_records m n rs ss e =
    let both = ap (λ (l : List ℕ). decimal m ++ l) (sym (end_parts rs)) ∙ e ∙ ap (λ (l : List ℕ). decimal n ++ l) (end_parts ss) in
    let same = decimal_then m n (end_head rs) (end_head ss) (end_rest rs) (end_rest ss) (end_no_digit rs) (end_no_digit ss) both in
    (same.0, records_one rs ss (end_parts rs ∙ same.1 ∙ sym (end_parts ss)))

-- a number and then another
pub decimal_decimal : (m n p q : ℕ) → decimal m ++ (blank ∷ (decimal p ++ (newline ∷ []))) ≡ decimal n ++ (blank ∷ (decimal q ++ (newline ∷ [])))
    → (m ≡ n) × (p ≡ q)
decimal_decimal m n p q e =
    let same = decimal_then m n blank blank _ _ (λ h k. omega arith) (λ h k. omega arith) e in
    (same.0, (decimal_then p q newline newline [] [] (λ h k. omega arith) (λ h k. omega arith) (cons_one same.1).1).0)

-- ---- lines
-- no byte is a newline
unfoldable pub Plain : List ℕ → Type 0
Plain [] = Unit
Plain (x ∷ l) = (x ≡ newline → ⊥) × Plain l

-- the last byte, and no other, is a newline
unfoldable pub Ends : List ℕ → Type 0
Ends [] = ⊥
Ends (x ∷ l) = ((x ≡ newline) × (l ≡ [])) ⊎ ((x ≡ newline → ⊥) × Ends l)

-- by a test, as of a word that is written out
pub plain_word : (l : List ℕ) → any (λ (x : ℕ). eqb x newline) l ≡ false → Plain l
unfolding any Plain
plain_word [] e = tt
plain_word (x ∷ l) e = by_test (eqb x newline) refl e (λ f. plain_word l f)
  where
    by_test : (b : Bool) → eqb x newline ≡ b → b || any (λ (x : ℕ). eqb x newline) l ≡ false
        → (any (λ (x : ℕ). eqb x newline) l ≡ false → Plain l) → (x ≡ newline → ⊥) × Plain l
    by_test true p f rest = absurd (true≢false f)
    by_test false p f rest = (eqb-false x newline p, rest f)

plain_append : (l m : List ℕ) → Plain l → Plain m → Plain (l ++ m)
unfolding Plain
plain_append [] m p q = q
plain_append (x ∷ l) m p q = (p.0, plain_append l m p.1 q)

pub plain_ends : (l m : List ℕ) → Plain l → Ends m → Ends (l ++ m)
unfolding Plain Ends
plain_ends [] m p e = e
plain_ends (x ∷ l) m p e = inr (p.0, plain_ends l m p.1 e)

pub newline_ends : Ends (newline ∷ [])
unfolding Ends
newline_ends = inl (refl, refl)

digits_plain : (l : List ℕ) → Digits l → Plain l
unfolding Digits Plain
digits_plain [] d = tt
digits_plain (x ∷ l) d = ((λ e. omega (arith, d.0, e)), digits_plain l d.2)

pub decimal_plain : (n : ℕ) → Plain (decimal n)
decimal_plain n = digits_plain (decimal n) (decimal_only n)

record_plain : (r : Record) → Plain (record_text r)
unfolding record_text Plain
record_plain r =
    plain_append (decimal r.kind) _ (decimal_plain r.kind)
    ((λ e. omega (arith, e)), plain_append (decimal r.target) _ (decimal_plain r.target) ((λ e. omega (arith, e)), decimal_plain r.argument))

pub records_plain : (rs : List Record) → Plain (records_text rs)
unfolding records_text Plain
records_plain [] = tt
records_plain (r ∷ rs) = plain_append (blank ∷ record_text r) (records_text rs) ((λ e. omega (arith, e)), record_plain r) (records_plain rs)

-- a line and what follows it
line_then : (l m r q : List ℕ) → Ends l → Ends m → l ++ r ≡ m ++ q → (l ≡ m) × (r ≡ q)
unfolding Ends
line_then [] m r q d e h = absurd d
line_then (x ∷ l) [] r q d e h = absurd e
line_then (x ∷ l) (y ∷ m) r q d e h = by_cases d e (cons_one h) (λ f g k. line_then l m r q f g k)
  where
    by_cases : ((x ≡ newline) × (l ≡ [])) ⊎ ((x ≡ newline → ⊥) × Ends l) → ((y ≡ newline) × (m ≡ [])) ⊎ ((y ≡ newline → ⊥) × Ends m)
        → (x ≡ y) × (l ++ r ≡ m ++ q) → (Ends l → Ends m → l ++ r ≡ m ++ q → (l ≡ m) × (r ≡ q)) → (x ∷ l ≡ y ∷ m) × (r ≡ q)
    by_cases (inl f) (inl g) s later =
        let both : l ≡ m = f.1 ∙ sym g.1 in
        ((λ i. s.0 i ∷ both i), ap (λ (k : List ℕ). k ++ r) (sym f.1) ∙ s.1 ∙ ap (λ (k : List ℕ). k ++ q) g.1)
    by_cases (inl f) (inr g) s later = absurd (g.0 (sym s.0 ∙ f.0))
    by_cases (inr f) (inl g) s later = absurd (f.0 (s.0 ∙ g.0))
    by_cases (inr f) (inr g) s later = let rest = later f.1 g.1 s.1 in ((λ i. s.0 i ∷ rest.0 i), rest.1)

-- each of them is a line
unfoldable pub Lines : List (List ℕ) → Type 0
Lines [] = Unit
Lines (l ∷ ls) = Ends l × Lines ls

pub lines_append : (ls ms : List (List ℕ)) → Lines ls → Lines ms → Lines (ls ++ ms)
unfolding Lines
lines_append [] ms p q = q
lines_append (l ∷ ls) ms p q = (p.0, lines_append ls ms p.1 q)

-- the bytes of lines are those of these lines
pub lines_one : (ls ms : List (List ℕ)) → Lines ls → Lines ms → flatten ls ≡ flatten ms → ls ≡ ms
unfolding Lines flatten Ends
lines_one [] [] p q e = refl
lines_one [] ([] ∷ ms) p q e = absurd q.0
lines_one [] ((x ∷ m) ∷ ms) p q e = absurd (omega (arith, ap length e))
lines_one ([] ∷ ls) [] p q e = absurd p.0
lines_one ((x ∷ l) ∷ ls) [] p q e = absurd (omega (arith, ap length e))
lines_one (l ∷ ls) (m ∷ ms) p q e =
    let same = line_then l m (flatten ls) (flatten ms) p.0 q.0 e in
    let rest = lines_one ls ms p.1 q.1 same.1 in
    λ i. same.0 i ∷ rest i
