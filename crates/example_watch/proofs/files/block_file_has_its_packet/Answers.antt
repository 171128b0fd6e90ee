use Rattle.std.proofs.Common.{[], ◌∷◌}
use Rattle.example_watch.specs.Files.{block_file, block_packet}
use Rattle.example_watch.proofs.Captures.{block_capture}
use Rattle.example_watch.proofs.files.block_file_has_its_packet.Goals as goal

pub returns-clause-is : goal.returns-clause-is
returns-clause-is c = block_capture

pub returns-clause-only : goal.returns-clause-only
returns-clause-only c = λ ps h. c.a_file_has_one_reading.ensures block_file ps (block_packet ∷ []) h block_capture
