-- What writing a sheet into a lent buffer gives: the rules H4, R2, R9 and R18 of docs/RULES.md.
use Rattle.std.specs.Prelude.{ℕ, List, ◌++◌, cond, leb, length, drop, Result, Ok, Err}
use Rattle.settings.specs.declared.Settings.{Settings}
use Rattle.sheet.specs.declared.TooShort.{TooShort}
use Rattle.sheet.specs.Encode.{encode}

-- H4, R9, R18: the answer is the sheet's length, or a refusal where the buffer has fewer bytes than the sheet
unfoldable pub written : Settings → List ℕ → Result ℕ TooShort
written s buffer = cond (leb (length (encode s)) (length buffer)) (Ok (length (encode s))) (Err (record {}))

-- H4, R2: every byte of the buffer after it: the sheet from the front on and the bytes behind it as they were, or all as before a refusal
unfoldable pub buffer_after : Settings → List ℕ → List ℕ
buffer_after s buffer = cond (leb (length (encode s)) (length buffer)) (encode s ++ drop (length (encode s)) buffer) buffer
