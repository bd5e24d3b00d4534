-- `calling::make` meets its contract, by what each call of the manager promises and nothing else.
use Rattle.lists.proofs.Basics.{refl}
use Rattle.calling.proofs.Laws.{returned}
use Rattle.calling.proofs.make.Goals as goal

pub returns-in-Read : goal.returns-in-Read
returns-in-Read c =
    returned c.in-Read.is c.shared_slice_known-1.given c.read.ensures refl

pub returns-in-Write : goal.returns-in-Write
returns-in-Write c =
    returned c.in-Write.is c.shared_slice_known-1.given c.write.ensures.result
    c.write.ensures.buffer

pub returns-in-Start : goal.returns-in-Start
returns-in-Start c =
    returned c.in-Start.is c.shared_slice_known-1.given c.start.ensures refl

pub returns-in-Request : goal.returns-in-Request
returns-in-Request c =
    returned c.in-Request.is c.shared_slice_known-1.given c.request.ensures refl

pub returns-in-Poll : goal.returns-in-Poll
returns-in-Poll c =
    returned c.in-Poll.is c.shared_slice_known-1.given c.poll.ensures refl

pub returns-in-BusOff : goal.returns-in-BusOff
returns-in-BusOff c =
    returned c.in-BusOff.is c.shared_slice_known-1.given
    c.bus_off.ensures.result c.bus_off.ensures.buffer

pub returns-in-Stall : goal.returns-in-Stall
returns-in-Stall c =
    returned c.in-Stall.is c.shared_slice_known-1.given
    c.stall.ensures.result c.stall.ensures.buffer

pub returns-in-Answer : goal.returns-in-Answer
returns-in-Answer c =
    returned c.in-Answer.is c.shared_slice_known-1.given c.controller_answer.ensures refl

pub returns-in-TransceiverMode : goal.returns-in-TransceiverMode
returns-in-TransceiverMode c =
    returned c.in-TransceiverMode.is c.shared_slice_known-1.given c.transceiver_mode.ensures refl

pub returns-in-ClearDone : goal.returns-in-ClearDone
returns-in-ClearDone c =
    returned c.in-ClearDone.is c.shared_slice_known-1.given c.clear_done.ensures refl

pub returns-in-CheckDone : goal.returns-in-CheckDone
returns-in-CheckDone c =
    returned c.in-CheckDone.is c.shared_slice_known-1.given c.check_done.ensures refl

pub returns-in-Tick : goal.returns-in-Tick
returns-in-Tick c =
    returned c.in-Tick.is c.shared_slice_known-1.given c.tick.ensures.result
    c.tick.ensures.buffer

pub returns-in-Listen : goal.returns-in-Listen
returns-in-Listen c =
    returned c.in-Listen.is c.shared_slice_known-1.given
    c.listen.ensures.result c.listen.ensures.buffer
