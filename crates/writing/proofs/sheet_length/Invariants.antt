-- `writing::sheet_length` meets its contract: the total is the length of the first networks, of at most 45 bytes each.
use Rattle.lists.proofs.Basics.{◌*◌, ◌≤◌, ◌≡◌, [], length, take}
use Rattle.sheet.specs.Encode.{encode_networks}
use Rattle.writing.proofs.sheet_length.Given as goal

abbrev pub invariant-loop-network : goal.invariant-loop-network
invariant-loop-network l = (l.total ≡ length (encode_networks (take l.network-index l.network-items) [])) × (l.total ≤ 45 * l.network-index)
