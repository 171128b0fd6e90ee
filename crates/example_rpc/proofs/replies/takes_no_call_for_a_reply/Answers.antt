use Rattle.example_rpc.proofs.Faults.{is_another_kind}
use Rattle.example_rpc.proofs.replies.takes_no_call_for_a_reply.Goals as goal

pub returns : goal.returns
returns c = is_another_kind c.read_reply.result c.args.bytes.now c.requires c.read_reply.ensures.found
    c.read_reply.ensures.fault
