use Rattle.std.proofs.Common.{ℕ, List, ap, ◌∙◌}
use Rattle.capture_packets.specs.Packets.{packet_of}
use Rattle.example_watch.proofs.Read.{cut}
use Rattle.example_watch.proofs.frames.cut_datagram.Goals as goal

pub returns : goal.returns
returns c = c.read_packet.ensures ∙ ap (λ (bytes : List ℕ). packet_of 1 bytes) c.requires ∙ cut
