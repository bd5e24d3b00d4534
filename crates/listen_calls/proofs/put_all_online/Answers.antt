-- `listen_calls::put_all_online` meets its contract: after i networks the tray has what is handed out for them.
use Rattle.lists.proofs.Basics.{◌<◌, arith, ◌≡◌, refl, ap, ◌∙◌, length, length-take, take, take_all, rules}
use Rattle.slots.specs.Manager.{networks_of, controller_count, listen_needs}
use Rattle.lent_calls.proofs.Gathered.{gathered_none, gather_room, gather_handed}
use Rattle.listen_calls.proofs.Online.{online_of, online_fits, online_end, online_ended_in}
use Rattle.listen_calls.proofs.put_all_online.Goals as goal

pub loop-i-init : goal.loop-i-init
loop-i-init c = gathered_none online_of _ _

pub put_online-requires : goal.put_online-requires
unfolding listen_needs
put_online-requires c =
    let l = c.loop-i in
    let h : l.i < length c.in_use-network-items.result.now = omega arith in
    gather_room online_of controller_count (λ n s. online_fits n s.step) _ _ _ _ h refl l.invariant _ (online_fits _ _)
    (rw c.in_use-network-items.ensures c.requires)

pub loop-i-preserved : goal.loop-i-preserved
loop-i-preserved c =
    let m = c.args.manager in
    let l = c.loop-i in
    let eight : length m.settings.networks ≡ 8 = search rules in
    let eight' : length m.states ≡ 8 = search rules in
    let few = ap length c.in_use-network-items.ensures ∙ length-take m.settings.count m.settings.networks in
    let h : l.i < length c.in_use-network-items.result.now = omega arith in
    let k : l.i < length m.states = omega arith in
    gather_handed online_of _ _ _ _ _ h k l.invariant c.put_online.ensures

pub returns : goal.returns
returns c =
    let m = c.args.manager in
    let l = c.loop-i in
    let whole : take l.i c.in_use-network-items.result.now ≡ networks_of m = take_all _ _ (omega arith) ∙ c.in_use-network-items.ensures in
    let h = l.invariant in
    let ended = online_end m _ whole h.wrote in
    search (rules, online_ended_in)
