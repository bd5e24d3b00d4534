-- `network::parts::want_mode` meets its contract.
use Rattle.lists.proofs.Basics.{sym, ◌∙◌}
use Rattle.network.specs.Parts.{wanted_part}
use Rattle.network.proofs.parts.want_mode.Goals as goal

pub returns-in-Ok : goal.returns-in-Ok
unfolding wanted_part
returns-in-Ok c =
    simp (sym c.request_reply.ensures ∙ c.in-Ok.is, c.want.ensures, c.take.ensures)

pub returns-in-Err : goal.returns-in-Err
unfolding wanted_part
returns-in-Err c =
    simp (sym c.request_reply.ensures ∙ c.in-Err.is, c.decline.ensures)
