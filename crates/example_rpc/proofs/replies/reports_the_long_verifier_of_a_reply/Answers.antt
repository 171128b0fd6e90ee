use Rattle.example_rpc.proofs.LongFaults.{is_bad_auth}
use Rattle.example_rpc.proofs.replies.reports_the_long_verifier_of_a_reply.Goals as goal

pub returns : goal.returns
returns c = is_bad_auth c.read_reply.result c.args.bytes.now c.requires c.read_reply.ensures.found
    c.read_reply.ensures.fault
