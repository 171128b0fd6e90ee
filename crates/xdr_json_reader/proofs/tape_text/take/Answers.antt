use Rattle.xdr_json_reader.proofs.Stepping.{opened, over}
use Rattle.xdr_json_reader.proofs.tape_text.take.Goals as goal

pub returns-in-Whole : goal.returns-in-Whole
returns-in-Whole c = λ old new g.
    over c.args.frames c.args.key.name.now c.in-Whole.node old new c.step_over.result c.requires
    (rw c.in-Whole.is at g) c.step_over.ensures

pub returns-in-Opened : goal.returns-in-Opened
returns-in-Opened c = λ old new g.
    opened c.args.frames c.in-Opened.inside c.args.key.name.now old new c.step_in.result
    (rw c.in-Opened.is at g) c.step_in.ensures
