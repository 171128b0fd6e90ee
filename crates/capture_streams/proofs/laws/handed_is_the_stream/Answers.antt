use Rattle.capture_streams.proofs.Given.{handed_is_given, handed_is_the_run}
use Rattle.capture_streams.proofs.laws.handed_is_the_stream.Goals as goal

pub returns-clause-beginning : goal.returns-clause-beginning
returns-clause-beginning c = handed_is_given

pub returns-clause-whole : goal.returns-clause-whole
returns-clause-whole c = handed_is_the_run
