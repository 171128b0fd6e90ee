use Rattle.example_rpc.proofs.Faults.{is_bad_status}
use Rattle.example_rpc.proofs.replies.reports_a_status_that_there_is_not.Goals as goal

pub returns : goal.returns
returns c = is_bad_status c.read_reply.result c.args.bytes.now c.requires c.read_reply.ensures.found
    c.read_reply.ensures.fault
