use Rattle.std.proofs.lemmas.Result.{IfErr-weaker}
use Rattle.example_call.proofs.Refusals.{first_refused}
use Rattle.example_call.proofs.arguments.refuses_the_only_argument.Goals as goal

pub returns : goal.returns
returns c =
    IfErr-weaker c.judge_arguments.result _ _
    (first_refused c.args.schema.now.kinds c.args.limits c.args.bytes.now c.args.kind.place)
    c.judge_arguments.ensures.refused
