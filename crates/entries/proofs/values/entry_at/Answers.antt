-- `entries::values::entry_at` meets its contract: each arm is a case of `read_at`.
use Rattle.lists.proofs.Basics.{arith, refl, sym, ap, ◌∙◌}
use Rattle.fields.proofs.Laws.{row_further, read_at}
use Rattle.entries.specs.declared.Entry.TheVariants.{Bad}
use Rattle.entries.specs.Entries.{entry_at}
use Rattle.entries.proofs.values.entry_at.Goals as goal

pub overflow_add-at : goal.overflow_add-at
overflow_add-at c =
    let a = c.args in
    let r = row_further a.bytes.now a.at _ _ _ (sym c.field_at.ensures ∙ c.in-Whole.is) in
    omega arith

pub whole_entry-requires : goal.whole_entry-requires
whole_entry-requires c =
    let a = c.args in
    let r = row_further a.bytes.now a.at _ _ _ (sym c.field_at.ensures ∙ c.in-Whole.is) in
    omega arith

pub returns-in-End : goal.returns-in-End
unfolding entry_at
returns-in-End c = read_at _ (sym c.field_at.ensures ∙ c.in-End.is) refl refl

pub returns-in-Stub : goal.returns-in-Stub
unfolding entry_at
returns-in-Stub c = read_at _ (sym c.field_at.ensures ∙ c.in-Stub.is) refl refl

pub returns-in-Overrun : goal.returns-in-Overrun
unfolding entry_at
returns-in-Overrun c =
    read_at _ (sym c.field_at.ensures ∙ c.in-Overrun.is) (ap Bad c.overrun_fault.ensures) refl

pub returns-in-Whole : goal.returns-in-Whole
unfolding entry_at
returns-in-Whole c =
    read_at _ (sym c.field_at.ensures ∙ c.in-Whole.is) c.whole_entry.ensures refl
