use Rattle.capture_files.proofs.Kept.{keeps}
use Rattle.capture_files.proofs.reader.CaptureReader.retained.Goals as goal

pub returns-clause-keeps : goal.returns-clause-keeps
returns-clause-keeps c = keeps c.args.self.now
