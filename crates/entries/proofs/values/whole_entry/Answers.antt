-- `entries::values::whole_entry` meets its contract.
use Rattle.lists.proofs.Basics.{◌+◌, arith, ◌≡◌, refl, sym, ap, ◌∙◌}
use Rattle.std.specs.Prelude.{Ok}
use Rattle.entries.specs.Entries.{whole_entry, byte_entry}
use Rattle.entries.proofs.Laws.{layout_byte, layout_times, entry_whole, value_byte}
use Rattle.entries.proofs.values.whole_entry.Goals as goal

pub bounds-bytes-at : goal.bounds-bytes-at
bounds-bytes-at c =
    let a = c.args in
    let e = layout_byte a.tag a.length (sym c.layout_of.ensures ∙ c.in-Ok-Byte.is ∙ ap Ok c.in-Ok-Byte.field-0-is) in
    omega arith

pub times_entry-requires : goal.times_entry-requires
times_entry-requires c =
    let a = c.args in
    let e = layout_times a.tag a.length (sym c.layout_of.ensures ∙ c.in-Ok-Times.is ∙ ap Ok c.in-Ok-Times.field-0-is) in
    omega arith

pub returns-in-Err : goal.returns-in-Err
unfolding whole_entry
returns-in-Err c =
    sym (entry_whole c.args.bytes.now
    c.args.at c.args.tag c.args.length _ c.requires (sym c.layout_of.ensures ∙ c.in-Err.is))

pub returns-in-Ok-Byte : goal.returns-in-Ok-Byte
unfolding whole_entry
returns-in-Ok-Byte c =
    let f = sym c.layout_of.ensures ∙ c.in-Ok-Byte.is ∙ ap Ok c.in-Ok-Byte.field-0-is in
    let e = layout_byte c.args.tag c.args.length f in
    let z : c.args.at + 0 ≡ c.args.at = omega arith in
    c.byte_entry.ensures
    ∙ sym (entry_whole c.args.bytes.now c.args.at c.args.tag c.args.length _ c.requires f
    ∙ ap (byte_entry c.args.tag) (rw (value_byte c.args.bytes.now c.args.at c.args.length 0 (omega arith), z) refl))

pub returns-in-Ok-Times : goal.returns-in-Ok-Times
unfolding whole_entry
returns-in-Ok-Times c =
    let f = sym c.layout_of.ensures ∙ c.in-Ok-Times.is ∙ ap Ok c.in-Ok-Times.field-0-is in
    let e = layout_times c.args.tag c.args.length f in
    c.times_entry.ensures
    ∙ sym (entry_whole c.args.bytes.now c.args.at c.args.tag c.args.length _ c.requires f ∙ rw e refl)
