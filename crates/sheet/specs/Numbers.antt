-- The number of each answer of reading and writing a sheet: the rules R1 and R9 of docs/RULES.md, and S15 to S26 through `fault_number`.
use Rattle.std.specs.Prelude.{ℕ, Result, Ok, Err}
use Rattle.entries.specs.declared.Fault.{Fault}
use Rattle.entries.specs.Entries.{fault_number}
use Rattle.sheet.specs.declared.TooShort.{TooShort}

-- R1: 0 for an accepted reading, else the number of its fault
abbrev pub verdict_number : Result (Unit {0}) Fault → ℕ
verdict_number (Ok accepted) = 0
verdict_number (Err fault) = fault_number fault

-- R1, R9: 0 with the length of a sheet that was written, 20 where too few bytes were lent for it
abbrev pub written_number : Result ℕ TooShort → ℕ
written_number (Err short) = 0x20
written_number (Ok n) = 0
