-- `entries::values::times_entry` meets its contract.
use Rattle.entries.proofs.Laws.{times_at}
use Rattle.entries.proofs.values.times_entry.Goals as goal

pub returns : goal.returns
returns c =
    let a = c.args in
    times_at a.bytes.now a.at _ _ _ c.number_at.ensures c.number_at-2.ensures c.number_at-3.ensures
