use Rattle.capture_files.proofs.Ended.{ends_after}
use Rattle.capture_files.proofs.Faults.{end_gathers}
use Rattle.capture_files.proofs.reader.CaptureReader.end.Goals as goal

pub returns-in-Gathering-clause-ends : goal.returns-in-Gathering-clause-ends
returns-in-Gathering-clause-ends c =
    ends_after c.args.self.now c.let_go.new.self c.end_unit.new.self c.end_unit.result c.let_go.ensures
    c.end_unit.ensures.ends

pub returns-in-Gathering-clause-refused : goal.returns-in-Gathering-clause-refused
returns-in-Gathering-clause-refused c =
    end_gathers c.args.self.now c.let_go.new.self c.end_unit.result c.let_go.ensures c.end_unit.new.self
    c.in-Gathering.is c.end_unit.ensures.refused
