use Rattle.example_records.specs.Bytes.{long_header}
use Rattle.example_records.proofs.Runs.{run_long}
use Rattle.example_records.proofs.Told.{header_long}
use Rattle.example_records.proofs.limit.is_above_the_limit.Goals as goal

pub returns : goal.returns
returns c = record { stream = long_header; run = run_long; at = 0; long = header_long }
