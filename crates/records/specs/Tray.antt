-- A lent buffer with the records at its front, and what handing out records does to it. The rules H2 and H3 of docs/RULES.md.
use Rattle.std.specs.Prelude.{◌≡◌, List, length}
use Rattle.records.specs.declared.Record.{Record}
use Rattle.records.specs.declared.Tray.{Tray}
use Rattle.records.specs.Wrote.{Room, Wrote}

-- there is room for the records after those at the front
abbrev pub HasRoom : Tray → List Record → Type 0
HasRoom tray rs = Room tray.out.now tray.count rs

-- H2: the records were written into the same buffer, after those at its front
pub record Handed (before : Tray) (rs : List Record) (after : Tray) : Type 0 where
  pub same : after.out.ghost_name ≡ before.out.ghost_name
  pub size : length after.out.now ≡ length before.out.now
  pub wrote : Wrote before.out.now after.out.now before.count after.count rs
