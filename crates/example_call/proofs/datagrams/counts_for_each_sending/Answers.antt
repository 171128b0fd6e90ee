use Rattle.rpc_message.specs.Spelling.{call}
use Rattle.rpc_message.specs.View.{call_view}
use Rattle.oncrpc_call.specs.Datagrams.{report_of}
use Rattle.example_call.proofs.EachSending.{counted_for_each}
use Rattle.example_call.proofs.datagrams.counts_for_each_sending.Goals as goal

pub returns : goal.returns
returns g c =
    let reports = report_of g.P.DatagramPort.left g.P.DatagramPort.sent g.P.DatagramPort.receive_failures
    g.P.DatagramPort.send_failures in
    counted_for_each reports c.args.call.now.xid (call (call_view c.args.call.now)) 10 _ _ _ c.requires.fresh
    c.requires.few c.ask_by_datagrams.ensures
