-- What reading a sheet gives, by recursion on the row of fields, as the bytes give it: the rules S2, S13, S24 to S29 and R3 to R5 of
-- docs/RULES.md.
use Rattle.std.specs.Prelude.{ℕ, ◌+◌, ◌-◌, List, cond, eqb, length, get_or, set, Option, Some, None, Result, Ok, Err}
use Rattle.fields.specs.Fields.{Row, stop, stub, overrun, field, row_at}
use Rattle.settings.specs.declared.Network.{Network}
use Rattle.settings.specs.declared.Settings.{Settings}
use Rattle.settings.specs.Settings.{blank_network, blank_settings, networks_of}
use Rattle.entries.specs.declared.Fault.{Fault}
use Rattle.entries.specs.declared.Fault.TheVariants.{Cut, UnknownTag, WrongLength, OutOfOrder, OutOfRange, UsedBefore, TooMany, NoTransceiver}
use Rattle.entries.specs.declared.Fault.TheVariants.{Empty}
use Rattle.entries.specs.declared.Entry.{Entry}
use Rattle.entries.specs.declared.Entry.TheVariants.{End, Bad}
use Rattle.entries.specs.declared.Progress.{Progress}
use Rattle.entries.specs.declared.Progress.TheVariants.{Named}
use Rattle.entries.specs.declared.Opening.{Opening}
use Rattle.entries.specs.declared.Opening.TheVariants.{Closes, Begins, Amends}
use Rattle.entries.specs.declared.Filled.{Filled}
use Rattle.sheet.specs.declared.Reading.{Reading}
use Rattle.entries.specs.Entries.{layout_of, overrun_fault, field_entry}
use Rattle.entries.specs.Grammar.{begun, add_relation, opens, fills}

-- the settings with one network more
unfoldable pub pushed : Settings → Network → Settings
pushed s n = record { networks = set s.networks s.count n; count = s.count + 1 }

-- where the last network stands among the slots
abbrev pub last_place : Settings → ℕ
last_place s = length (networks_of s) - 1

-- S27: the settings, of which the last network has field 07
unfoldable pub amended : Settings → Settings
amended s =
    record { networks = set s.networks (last_place s) (add_relation (get_or s.networks (last_place s) blank_network)); count = s.count }

-- S29: how far into the value the first of three times stands that is 0
unfoldable pub first_zero : ℕ → ℕ → ℕ → ℕ
first_zero short long ensure = cond (eqb short 0) 0 (cond (eqb long 0) 2 (cond (eqb ensure 0) 4 0))

-- S29: how far into its value the number stands for which an entry is out of range: an entry with one number has it first
abbrev pub number_in : Entry → ℕ
number_in End = 0
number_in (Bad fault) = 0
number_in (Entry.Handle handle) = 0
number_in (Entry.Controller id) = 0
number_in (Entry.Transceiver id) = 0
number_in (Entry.Times short long ensure) = first_zero short long ensure
number_in (Entry.Threshold x) = 0
number_in (Entry.Partial x) = 0
number_in (Entry.Relation x) = 0

-- S24, S28, S29: where a refused field is pointed at, by the place of its tag and by how far into its value the number stands: the tag; the first
-- length byte; the first byte of the number
abbrev pub pointed : Fault → ℕ → ℕ → ℕ
pointed Cut number at = at
pointed UnknownTag number at = at
pointed WrongLength number at = at + 1
pointed OutOfOrder number at = at
pointed OutOfRange number at = at + 3 + number
pointed UsedBefore number at = at
pointed TooMany number at = at
pointed NoTransceiver number at = at
pointed Empty number at = at

-- the same of an entry of the settings sheet
abbrev pub place_of : Fault → Entry → ℕ → ℕ
place_of fault entry at = pointed fault (number_in entry) at

-- R3, R4: a refusal has its place; beside it the settings are blank and count no network
unfoldable pub refused_at : Fault → ℕ → Reading
refused_at fault place = record { answer = Err fault; place = place; settings = blank_settings }

-- S25, R5: the bytes end where a network may begin: without a network this is refused at 0, else accepted with the networks and the end as place
unfoldable pub closed : Settings → ℕ → Reading
closed s at = cond (eqb s.count 0) (refused_at Empty 0) (record { answer = Ok tt; place = at; settings = s })

-- what follows where a network may begin: the end of the sheet, a network with a handle, field 07 of the network before, a refusal
unfoldable pub after_opening : Result Opening Fault → Settings → Entry → ℕ → (ℕ → Reading) → (Settings → Reading) → Reading
after_opening (Ok Closes) s entry at begins goes_on = closed s at
after_opening (Ok (Begins handle)) s entry at begins goes_on = begins handle
after_opening (Ok Amends) s entry at begins goes_on = goes_on (amended s)
after_opening (Err fault) s entry at begins goes_on = refused_at fault (place_of fault entry at)

-- what follows a field in a network: it goes on, or it is whole
abbrev pub after_field : Option Progress → Network → (Network → Progress → Reading) → (Network → Reading) → Reading
after_field (Some progress) n more whole = more n progress
after_field None n more whole = whole n

-- what follows in a network: the field is taken, or it is refused
unfoldable pub after_filling : Result Filled Fault → Entry → ℕ → (Network → Progress → Reading) → (Network → Reading) → Reading
after_filling (Ok filled) entry at more whole = after_field filled.progress filled.network more whole
after_filling (Err fault) entry at more whole = refused_at fault (place_of fault entry at)

-- S15 to S18, S24, S28: a field that is laid out wrongly is refused at its tag or, for its length, where that stands
abbrev pub bad_at : Fault → ℕ → Reading
bad_at fault at = refused_at fault (place_of fault (Bad fault) at)

-- S2: two definitions that call each other, one for where a network may begin and one for within a network; the row of unread fields gets shorter
unfoldable mutual
  -- S2: where a network may begin, field 07 of the one before may stand, or the sheet may end
  pub sheet : Row → Settings → Reading
  sheet (stop at) s = closed s at
  sheet (stub at tag) s = bad_at Cut at
  sheet (overrun at tag n) s = bad_at (overrun_fault (layout_of tag n)) at
  sheet (field at tag v rest) s =
      after_opening (opens s (field_entry tag v)) s (field_entry tag v) at
      (λ handle. network rest s (begun handle) Named) (λ more. sheet rest more)

  -- S26: within a network, where the bytes may not end
  pub network : Row → Settings → Network → Progress → Reading
  network (stop at) s n progress = refused_at Cut at
  network (stub at tag) s n progress = bad_at Cut at
  network (overrun at tag m) s n progress = bad_at (overrun_fault (layout_of tag m)) at
  network (field at tag v rest) s n progress =
      after_filling (fills s n progress (field_entry tag v)) (field_entry tag v) at
      (λ m next. network rest s m next) (λ m. sheet rest (pushed s m))

-- S13: what the bytes from a place on say
unfoldable pub read_from : List ℕ → ℕ → Reading
read_from l at = sheet (row_at l at) blank_settings

-- what a sheet says
abbrev pub decode : List ℕ → Reading
decode l = read_from l 0
