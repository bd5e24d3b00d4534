-- `writing::Writer::put_controllers` meets its contract: the fields of the first controllers are stored.
use Rattle.lists.proofs.Basics.{[], take}
use Rattle.sheet.specs.Encode.{encode_controllers}
use Rattle.writing.specs.Writer.{Puts}
use Rattle.writing.proofs.Writer.put_controllers.Given as goal

abbrev pub invariant-loop-id : goal.invariant-loop-id
invariant-loop-id l = Puts l.initial.self (encode_controllers (take l.id-index l.id-items) []) l.self
