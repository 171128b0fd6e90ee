use Rattle.std.proofs.Common.{[], ◌∷◌}
use Rattle.example_watch.specs.Files.{classic_file, classic_packet}
use Rattle.example_watch.proofs.Captures.{classic_capture}
use Rattle.example_watch.proofs.files.classic_file_has_its_packet.Goals as goal

pub returns-clause-is : goal.returns-clause-is
returns-clause-is c = classic_capture c.spelled_files_are_read.ensures.read

pub returns-clause-only : goal.returns-clause-only
returns-clause-only c = λ ps h.
    c.a_file_has_one_reading.ensures classic_file ps (classic_packet ∷ []) h
    (classic_capture c.spelled_files_are_read.ensures.read)
