use Rattle.capture_packets.proofs.Spelling.{datagrams_are_read}
use Rattle.capture_packets.proofs.laws.spelled_datagrams_are_read.Goals as goal

pub returns : goal.returns
returns c = datagrams_are_read
