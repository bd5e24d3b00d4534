-- `setting_up::setting_up::write_sheet` meets its contract.
use Rattle.lists.proofs.Basics.{ap, ◌∙◌}
use Rattle.setting_up.proofs.Laws.{written_in_room}
use Rattle.slots.specs.Calls.{after_writing}
use Rattle.setting_up.proofs.setting_up.write_sheet.Goals as goal

pub returns : goal.returns
returns c =
    let w = c.write.ensures in
    let a = c.args in
    (c.after_writing.ensures ∙ ap (after_writing a.manager) w.0 ∙ written_in_room a.manager _, w.1)
