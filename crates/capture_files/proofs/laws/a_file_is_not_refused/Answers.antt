use Rattle.capture_files.proofs.Stopped.{nothing_is_cut, nothing_is_refused}
use Rattle.capture_files.proofs.laws.a_file_is_not_refused.Goals as goal

pub returns-clause-refused : goal.returns-clause-refused
returns-clause-refused c = nothing_is_refused

pub returns-clause-cut : goal.returns-clause-cut
returns-clause-cut c = nothing_is_cut
