use Rattle.std.proofs.Common.{ℕ, List, ap, ◌∙◌}
use Rattle.capture_packets.specs.Packets.{packet_of}
use Rattle.example_watch.proofs.Read.{fragment}
use Rattle.example_watch.proofs.frames.first_fragment.Goals as goal

pub returns : goal.returns
returns c = c.read_packet.ensures ∙ ap (λ (bytes : List ℕ). packet_of 1 bytes) c.requires ∙ fragment
