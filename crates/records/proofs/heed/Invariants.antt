-- `records::heed` meets its contract: after k records the first k are as they go out.
use Rattle.lists.proofs.Basics.{map, true}
use Rattle.records.specs.Records.{records_at, turned}
use Rattle.records.specs.Wrote.{Wrote}
use Rattle.records.proofs.heed.Given as goal

abbrev pub invariant-loop-k : goal.invariant-loop-k
invariant-loop-k l = Wrote l.initial.out l.out 0 l.k (map (turned true) (records_at l.k l.initial.out))
