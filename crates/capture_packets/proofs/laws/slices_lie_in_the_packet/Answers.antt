use Rattle.capture_packets.proofs.Lying.{packet_lies}
use Rattle.capture_packets.proofs.laws.slices_lie_in_the_packet.Goals as goal

pub returns : goal.returns
returns c = λ link bytes. packet_lies link bytes
