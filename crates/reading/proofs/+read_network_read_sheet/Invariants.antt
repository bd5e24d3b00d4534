-- The measure of both is the number of bytes that the reader has not read: it falls at each call, since an entry that is taken brings the reader
-- further.
use Rattle.std.proofs.Common.{◌-◌, length}
use Rattle.reading.proofs.+read_network_read_sheet.Given as goal

abbrev pub decreases-read_network : goal.decreases-read_network
decreases-read_network l = length l.reader.bytes.now - l.reader.place

abbrev pub decreases-read_sheet : goal.decreases-read_sheet
decreases-read_sheet l = length l.reader.bytes.now - l.reader.place
