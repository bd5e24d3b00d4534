-- What a network answers to a request, by the number of its step alone: nothing here knows of phases, or of what a step is for. The rules R13, R14,
-- R22, R23 and N15 of docs/RULES.md.
use Rattle.std.specs.Prelude.{ℕ, [], ◌∷◌, cond, eqb, ltb, get_or}

-- R14, R22, R23: the answer to silent in each step, from 0 on: 08 in step 0, 24 in 1 to 3, 25 in 9 to 14; in 4 to 8, 15 and 16 it is accepted
abbrev pub silent_number : ℕ → ℕ
silent_number step =
    get_or (0x08 ∷ 0x24 ∷ 0x24 ∷ 0x24 ∷ 0 ∷ 0 ∷ 0 ∷ 0 ∷ 0 ∷ 0x25 ∷ 0x25 ∷ 0x25 ∷ 0x25 ∷ 0x25 ∷ 0x25 ∷ 0 ∷ 0 ∷ []) step 0

-- R13, N15: a mode above 2 is refused with 21; no and full are accepted in every step
abbrev pub request_number : ℕ → ℕ → ℕ
request_number step mode = cond (ltb 2 mode) 0x21 (cond (eqb 1 mode) (silent_number step) 0)
