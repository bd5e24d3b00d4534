-- `writing::sheet_length` meets its contract: the total is the length of the first `i` networks, of at most 45 bytes each.
use Rattle.lists.proofs.Basics.{arith, refl, ap, ◌∙◌, List, [], length, take_all}
use Rattle.lists.proofs.Stores.{length_more}
use Rattle.settings.specs.declared.Network.{Network}
use Rattle.sheet.specs.Encode.{encode_networks, encode}
use Rattle.sheet.proofs.Writes.{networks_append}
use Rattle.writing.proofs.sheet_length.Goals as goal

pub loop-network-init : goal.loop-network-init
unfolding encode_networks
loop-network-init c = (refl, omega arith)

pub loop-network-preserved : goal.loop-network-preserved
unfolding encode_networks
loop-network-preserved c =
    let l = c.loop-network in (
      length_more (λ (ns : List Network). encode_networks ns []) networks_append c.in_use-network-items.result.now
          l.network-index _ c.loop-network-test.true l.total c.network_length-total.result l.invariant.0 c.network_length-total.ensures.0,
      omega arith,
    )

pub returns : goal.returns
unfolding encode
returns c =
    let l = c.loop-network in
    let ns = c.in_use-network-items.result.now in
    l.invariant.0 ∙ ap (λ (ns : List Network). length (encode_networks ns []))
    (take_all l.network-index ns (omega arith) ∙ c.in_use-network-items.ensures)
