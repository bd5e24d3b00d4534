-- `writing::put_networks` meets its contract: the first networks are stored.
use Rattle.lists.proofs.Basics.{[], take}
use Rattle.sheet.specs.Encode.{encode_networks}
use Rattle.writing.specs.Writer.{Puts}
use Rattle.writing.proofs.put_networks.Given as goal

abbrev pub invariant-loop-network : goal.invariant-loop-network
invariant-loop-network l = Puts l.initial.writer (encode_networks (take l.network-index l.network-items) []) l.writer
