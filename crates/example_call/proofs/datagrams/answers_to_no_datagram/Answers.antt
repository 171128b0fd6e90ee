use Rattle.std.proofs.Common.{inl, inr}
use Rattle.oncrpc_call.specs.Asked.{wanted_of}
use Rattle.example_call.proofs.Sendings.{nothing_answered}
use Rattle.example_call.proofs.datagrams.answers_to_no_datagram.Goals as goal

pub returns-clause-no_result : goal.returns-clause-no_result
returns-clause-no_result g c = λ zero.
    let e = c.call_datagram.ensures in
    let p = e.ends.printed zero in
    nothing_answered c.args.asked.now.call.xid _ _ (wanted_of c.args.asked.now) e.answer p.text c.requires.none_left
    e.asks.answer_is (inl p.shows)

pub returns-clause-no_refusal : goal.returns-clause-no_refusal
returns-clause-no_refusal g c = λ one.
    let e = c.call_datagram.ensures in
    let s = e.ends.said one in
    nothing_answered c.args.asked.now.call.xid _ _ (wanted_of c.args.asked.now) e.answer s.line c.requires.none_left
    e.asks.answer_is (inr s.refuses)
