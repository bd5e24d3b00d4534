-- `setting_up::starting::start_networks` meets its contract: the records of the first `i` networks are at the start.
use Rattle.lists.proofs.Basics.{◌<◌, arith, rules, ◌≡◌, ap, ◌∙◌, length, length-set, length-take}
use Rattle.settings.specs.declared.Network.{Network}
use Rattle.network.specs.declared.State.{State}
use Rattle.network.specs.State.{started}
use Rattle.slots.specs.Manager.{blank_state}
use Rattle.slots.proofs.Each.{each_none, each_more}
use Rattle.setting_up.proofs.starting.start_networks.Goals as goal

pub loop-i-init : goal.loop-i-init
loop-i-init c = record { eight = search rules; records = each_none _ _ }

pub loop-i-preserved : goal.loop-i-preserved
loop-i-preserved c =
    let l = c.loop-i in
    let m = c.args.manager in
    let eight : length m.states ≡ 8 = search rules in
    let eight' : length m.settings.networks ≡ 8 = search rules in
    let few = ap length c.in_use-network-items.ensures ∙ length-take m.settings.count m.settings.networks in
    let h : l.i < length c.in_use-network-items.result.now = omega arith in
    let k : l.i < length m.states = omega arith in
    record {
      eight = simp length-set l.invariant.eight;
      records = each_more (λ (n : Network) (t : State). started n) _ _ _ _ _ blank_state h k l.invariant.records _ c.start.ensures;
    }
