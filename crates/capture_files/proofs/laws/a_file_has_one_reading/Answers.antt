use Rattle.capture_files.proofs.Once.{one_reading}
use Rattle.capture_files.proofs.laws.a_file_has_one_reading.Goals as goal

pub returns : goal.returns
returns c = λ bytes ps qs f g. one_reading bytes ps qs f g
