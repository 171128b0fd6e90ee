use Rattle.example_rpc.proofs.Faults.{is_cut}
use Rattle.example_rpc.proofs.replies.reports_the_cut_reply.Goals as goal

pub returns : goal.returns
returns c = is_cut c.read_reply.result c.args.bytes.now c.requires c.read_reply.ensures.found c.read_reply.ensures.fault
