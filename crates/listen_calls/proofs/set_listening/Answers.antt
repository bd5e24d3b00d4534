-- `listen_calls::set_listening` meets its contract.
use Rattle.lists.proofs.Basics.{ap, ◌∙◌}
use Rattle.slots.specs.declared.Manager.{Manager}
use Rattle.slots.specs.Manager.{accepted}
use Rattle.listen_calls.proofs.Online.{all_fit, changed, listened_anew, listened_same}
use Rattle.listen_calls.proofs.set_listening.Goals as goal

pub heed-requires : goal.heed-requires
heed-requires c =
    all_fit c.args.manager c.requires c.put_all_online-count.ensures

pub returns-then-manager-listening : goal.returns-then-manager-listening
returns-then-manager-listening c =
    rw (c.accept.ensures, c.with_listening-next.ensures) (listened_anew c.args.manager c.args.listening _ (changed _ _)
    c.if-manager-listening.true c.requires c.put_all_online-count.ensures c.heed.ensures)

pub returns : goal.returns
returns c =
    listened_same c.args.manager c.args.listening _ _ _ (changed _ _) c.if-manager-listening.false
    (c.accept-2.ensures ∙ ap (λ (m : Manager). accepted m 0) c.with_listening-next.ensures)
