-- Numbers and records as text, as the lines of `cantrace` have them: the rules C18 and C20 of docs/RULES.md. The codes are ASCII.
use Rattle.std.specs.Prelude.{ℕ, zero, suc, ◌+◌, ◌/◌, ◌%◌, List, [], ◌∷◌, ◌++◌, cond, ltb}
use Rattle.records.specs.declared.Record.{Record}

-- it stands between the parts of a line
abbrev pub blank : ℕ
blank = 32

-- it stands between kind, target and argument
abbrev pub colon : ℕ
colon = 58

-- it ends every line, the last one too
abbrev pub newline : ℕ
newline = 10

-- the code of a decimal digit; the code of 0 is 48
abbrev pub digit : ℕ → ℕ
digit d = 48 + d

-- a number in decimal digits, without zeros in front, as far as so many digits go
unfoldable pub digits_up_to : ℕ → ℕ → List ℕ
digits_up_to zero n = []
digits_up_to (suc most) n = cond (ltb n 10) (digit n ∷ []) (digits_up_to most (n / 10) ++ (digit (n % 10) ∷ []))

-- C20: a number in decimal digits; there are no more of them than it counts, and one
unfoldable pub decimal : ℕ → List ℕ
decimal n = digits_up_to (suc n) n

-- C18: a record is its kind, its target and its argument, with colons between them
unfoldable pub record_text : Record → List ℕ
record_text r = decimal r.kind ++ (colon ∷ (decimal r.target ++ (colon ∷ decimal r.argument)))

-- C18: the records of a line, each after a blank
unfoldable pub records_text : List Record → List ℕ
records_text [] = []
records_text (r ∷ rs) = (blank ∷ record_text r) ++ records_text rs
