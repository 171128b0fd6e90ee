use Rattle.rpc_message.specs.Spelling.{call as call_bytes}
use Rattle.rpc_message.specs.View.{call_view}
use Rattle.example_registry.proofs.Waiting.{left_of, sent_of, is_err, other_two, is_reply}
use Rattle.example_registry.proofs.datagrams.hands_out_no_other_datagram.Goals as goal

pub returns-clause-none : goal.returns-clause-none
returns-clause-none c =
    let p = c.new-port.result in
    let q = c.exchange_datagram.new.port in
    is_err c.messages_have_one_case.ensures.exclusive (call_bytes (call_view c.args.call.now)) (left_of p) (left_of q)
    (sent_of p) (sent_of q) c.new-port.ensures.left c.args.call.now.xid c.requires.xid
    c.exchange_datagram.result c.exchange_datagram.ensures.answer

pub returns-clause-other : goal.returns-clause-other
returns-clause-other c =
    let p = c.new-port.result in
    let q = c.exchange_datagram.new.port in
    other_two c.messages_have_one_case.ensures.exclusive (call_bytes (call_view c.args.call.now)) (left_of p)
    (left_of q) (sent_of p) (sent_of q) c.new-port.ensures.left c.args.call.now.xid c.requires.xid
    c.exchange_datagram.result
    c.exchange_datagram.ensures.answer

pub returns-clause-reply : goal.returns-clause-reply
returns-clause-reply c =
    let p = c.new-port.result in
    let q = c.exchange_datagram.new.port in
    is_reply c.messages_have_one_case.ensures.exclusive (call_bytes (call_view c.args.call.now)) (left_of p) (left_of q)
    (sent_of p) (sent_of q) c.new-port.ensures.left c.args.call.now.xid c.requires.xid c.exchange_datagram.result
    c.exchange_datagram.ensures.answer
