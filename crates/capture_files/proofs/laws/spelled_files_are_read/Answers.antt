use Rattle.capture_files.proofs.Spelled.{spelled_files_are_read, spelled_files_have_no_others}
use Rattle.capture_files.proofs.laws.spelled_files_are_read.Goals as goal

pub returns-clause-read : goal.returns-clause-read
returns-clause-read c = spelled_files_are_read

pub returns-clause-only : goal.returns-clause-only
returns-clause-only c = spelled_files_have_no_others
