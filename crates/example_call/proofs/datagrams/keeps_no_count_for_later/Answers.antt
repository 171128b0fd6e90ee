use Rattle.rpc_message.specs.Spelling.{call}
use Rattle.rpc_message.specs.View.{call_view}
use Rattle.oncrpc_call.specs.Datagrams.{report_of}
use Rattle.example_call.proofs.EachSending.{kept_for_none}
use Rattle.example_call.proofs.datagrams.keeps_no_count_for_later.Goals as goal

pub returns : goal.returns
returns g c =
    let reports = report_of g.P.DatagramPort.left g.P.DatagramPort.sent g.P.DatagramPort.receive_failures
    g.P.DatagramPort.send_failures in
    let others = c.requires.others in
    kept_for_none reports c.args.call.now.xid (call (call_view c.args.call.now)) _ _ _ others.0 others.1
    c.requires.fresh c.requires.late others.2 others.3 others.4 c.ask_by_datagrams.ensures
