use Rattle.example_rpc.proofs.LongFaults.{is_rest}
use Rattle.example_rpc.proofs.replies.reports_what_follows_a_denial.Goals as goal

pub returns : goal.returns
returns c = is_rest c.read_reply.result c.args.bytes.now c.requires c.read_reply.ensures.found
    c.read_reply.ensures.fault
