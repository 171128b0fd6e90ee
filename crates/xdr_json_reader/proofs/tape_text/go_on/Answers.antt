use Rattle.xdr_json_reader.proofs.Stepping.{ended}
use Rattle.xdr_json_reader.proofs.tape_text.go_on.Goals as goal

pub returns-in-Ok-None-clause-value : goal.returns-in-Ok-None-clause-value
returns-in-Ok-None-clause-value c =
    ended c.args.frames c.args.reader.now _ c.step_out.result c.requires
    (rw c.in-Ok-None.field-0-is at c.in-Ok-None.ensures.value) c.step_out.ensures
