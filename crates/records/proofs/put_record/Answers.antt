-- `records::put_record` meets its contract: its three stores are the bytes of one record.
use Rattle.lists.proofs.Basics.{rules}
use Rattle.records.proofs.Laws.{stored_one}
use Rattle.records.proofs.put_record.Goals as goal

pub returns : goal.returns
returns c = record { count = search rules; buffer = stored_one c.args.out.now c.args.k c.args.handed }
