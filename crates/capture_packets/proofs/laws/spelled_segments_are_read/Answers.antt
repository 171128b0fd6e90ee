use Rattle.capture_packets.proofs.Spelling.{segments_are_read}
use Rattle.capture_packets.proofs.laws.spelled_segments_are_read.Goals as goal

pub returns : goal.returns
returns c = segments_are_read
