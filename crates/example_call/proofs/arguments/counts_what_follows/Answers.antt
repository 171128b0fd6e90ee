use Rattle.example_call.proofs.Refusals.{follows_four}
use Rattle.example_call.proofs.arguments.counts_what_follows.Goals as goal

pub returns : goal.returns
returns c =
    follows_four c.args.schema.now.kinds c.args.limits c.args.bytes.now c.judge_arguments.result c.requires
    c.judge_arguments.ensures.judged c.judge_arguments.ensures.refused
