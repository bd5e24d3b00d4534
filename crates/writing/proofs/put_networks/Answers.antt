-- `writing::put_networks` meets its contract: the first networks are stored.
use Rattle.lists.proofs.Basics.{◌≤◌, arith, ap, ◌∙◌, List, [], length, take, take_all, sets}
use Rattle.lists.proofs.Stores.{room_more}
use Rattle.settings.specs.declared.Network.{Network}
use Rattle.sheet.specs.Encode.{encode_networks, encode}
use Rattle.sheet.proofs.Writes.{networks_append}
use Rattle.writing.proofs.Puts.{puts_none, puts_more}
use Rattle.writing.proofs.put_networks.Goals as goal

pub loop-network-init : goal.loop-network-init
unfolding encode_networks
loop-network-init c = puts_none _

pub put_network-requires : goal.put_network-requires
unfolding encode_networks encode
put_network-requires c =
    let l = c.loop-network in
    let ns = c.in_use-network-items.result.now in
    let room : length (encode_networks (take (length ns) ns) []) ≤ length c.args.buffer.now =
    rw (take_all (length ns) ns (omega arith), c.in_use-network-items.ensures) c.requires in
    room_more (λ (ns : List Network). encode_networks ns []) networks_append
    ns l.network-index _ c.loop-network-test.true l.invariant.stored (length ns) c.loop-network-test.true (omega (arith, room))

pub loop-network-preserved : goal.loop-network-preserved
unfolding encode_networks
loop-network-preserved c =
    let l = c.loop-network in
    puts_more (λ (ns : List Network). encode_networks ns []) networks_append
    c.in_use-network-items.result.now l.network-index _ c.loop-network-test.true l.invariant c.put_network.ensures

pub returns : goal.returns
unfolding encode
returns c =
    let l = c.loop-network in
    let ns = c.in_use-network-items.result.now in
    let e = l.invariant.stored.buffer ∙ ap (λ (ns : List Network). sets c.args.buffer.now 0 (encode_networks ns []))
    (take_all l.network-index ns (omega arith) ∙ c.in_use-network-items.ensures) in
    grind (arith, e)
