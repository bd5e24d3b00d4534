-- `lent_calls::ticking::tick_networks` meets its contract: after i networks their records are those after a tick, and the tray has what they hand
-- out.
use Rattle.lists.proofs.Basics.{sym, ◌<◌, arith, ◌≡◌, refl, ap, ◌∙◌, length, length-take, take, take_all, rules}
use Rattle.settings.specs.Settings.{blank_network}
use Rattle.network.specs.Moving.{tick_state, tick_records}
use Rattle.slots.specs.Manager.{networks_of, tick_needs}
use Rattle.slots.proofs.Each.{each_none, each_more}
use Rattle.lent_calls.proofs.Ticks.{tick_room, tick_handed, rest_kept, rest_handed, ticks_end, ended_in}
use Rattle.lent_calls.proofs.Gathered.{gathered_none}
use Rattle.lent_calls.proofs.ticking.tick_networks.Goals as goal
use Rattle.lent_calls.proofs.ticking.tick_networks.Goals.{then-not-rests, else-not-rests}

pub loop-i-init : goal.loop-i-init
loop-i-init c = record { ticked = each_none _ _; handed = gathered_none tick_records _ _ }

pub tick-requires : goal.tick-requires
unfolding tick_needs
tick-requires c =
    let m = c.args.manager in
    let l = c.loop-i in
    let eight : length m.settings.networks ≡ 8 = search rules in
    let eight' : length m.states ≡ 8 = search rules in
    let few = ap length c.in_use-network-items.ensures ∙ length-take m.settings.count m.settings.networks in
    let h : l.i < length c.in_use-network-items.result.now = omega arith in
    let k : l.i < length m.states = omega arith in
    tick_room _ _ _ _ _ _ h k l.invariant.ticked l.invariant.handed refl (rw c.in_use-network-items.ensures c.requires)

pub loop-i-preserved : goal.loop-i-preserved
loop-i-preserved c =
    let m = c.args.manager in
    let l = c.loop-i in
    let i = l.invariant in
    let eight : length m.settings.networks ≡ 8 = search rules in
    let eight' : length m.states ≡ 8 = search rules in
    let few = ap length c.in_use-network-items.ensures ∙ length-take m.settings.count m.settings.networks in
    let h : l.i < length c.in_use-network-items.result.now = omega arith in
    let k : l.i < length m.states = omega arith in
    let r = c.rests.ensures in
    elim c.if-not-rests.branch [
      | then-not-rests w ↦ record {
        ticked = w.states-is ∙ each_more tick_state _ _ _ _ _ _ h k i.ticked _ w.tick.ensures.state;
        handed = rw w.tray-is (tick_handed _ _ _ _ _ _ h k i.ticked i.handed w.tick.ensures.records);
      }
      | else-not-rests w ↦ record {
        ticked = w.states-is ∙ rest_kept _ _ _ _ blank_network _ h k i.ticked i.handed (sym r ∙ w.if-not-rests.false);
        handed = rw w.tray-is (rest_handed _ _ _ _ blank_network _ h k i.ticked i.handed (sym r ∙ w.if-not-rests.false));
      }
    ]

pub returns : goal.returns
returns c =
    let m = c.args.manager in
    let l = c.loop-i in
    let whole : take l.i c.in_use-network-items.result.now ≡ networks_of m = take_all _ _ (omega arith) ∙ c.in_use-network-items.ensures in
    let h = rw whole at l.invariant.handed in
    let ended = ticks_end m _ c.requires (rw whole at l.invariant.ticked) h.wrote in
    rw c.accept.ensures (search (rules, ended_in))
