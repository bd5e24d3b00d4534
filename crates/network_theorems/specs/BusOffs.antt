-- What a network makes of a bus-off, by the number of its step alone: nothing here knows of phases, or of what a step is for. The rules B2, B5 and B6
-- of docs/RULES.md.
use Rattle.std.specs.Prelude.{ℕ, ◌+◌, [], ◌∷◌, Bool, true, false, cond, ltb, get_or}

-- B5, B6: the answer in each step, from 0 on: accepted in 3 to 8, 15 and 16, and else refused with 22
abbrev pub bus_off_number : ℕ → ℕ
bus_off_number step =
    get_or (0x22 ∷ 0x22 ∷ 0x22 ∷ 0 ∷ 0 ∷ 0 ∷ 0 ∷ 0 ∷ 0 ∷ 0x22 ∷ 0x22 ∷ 0x22 ∷ 0x22 ∷ 0x22 ∷ 0x22 ∷ 0 ∷ 0 ∷ []) step 0

-- B2, B5: whether it is counted there: in 4, 5, 7, 8, 15 and 16
abbrev pub is_counted : ℕ → Bool
is_counted step =
    get_or (false ∷ false ∷ false ∷ false ∷ true ∷ true ∷ false ∷ true ∷ true ∷ false ∷ false ∷ false ∷ false ∷ false ∷ false ∷ true ∷ true ∷ []) step false

-- B2: the count after it: one more where it is counted, up to 255
abbrev pub count_at : ℕ → ℕ → ℕ
count_at step count = cond (is_counted step) (cond (ltb count 255) (count + 1) count) count
