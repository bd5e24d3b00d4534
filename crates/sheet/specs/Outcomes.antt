-- The outcome of each public call, as its contract states it: complete, refusals too.
use Rattle.std.specs.Prelude.{◌≡◌, List, ℕ, Result}
use Rattle.settings.specs.declared.Settings.{Settings}
use Rattle.sheet.specs.declared.Reading.{Reading}
use Rattle.sheet.specs.declared.TooShort.{TooShort}
use Rattle.sheet.specs.Reading.{decode}
use Rattle.sheet.specs.Writing.{written, buffer_after}

-- reading a sheet: the answer, the place and the settings
abbrev pub ReadOutcome : List ℕ → Reading → Type 0
ReadOutcome bytes r = r ≡ decode bytes

-- writing a sheet: the answer, and every byte of the lent buffer, which was `before` and is `after`
abbrev pub WriteOutcome : Settings → List ℕ → Result ℕ TooShort → List ℕ → Type 0
WriteOutcome settings before r after = (r ≡ written settings before) × (after ≡ buffer_after settings before)
