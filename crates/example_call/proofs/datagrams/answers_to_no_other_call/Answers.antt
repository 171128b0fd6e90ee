use Rattle.std.proofs.Common.{inl, inr}
use Rattle.oncrpc_call.specs.Asked.{wanted_of}
use Rattle.example_call.proofs.Sendings.{other_answered}
use Rattle.example_call.proofs.datagrams.answers_to_no_other_call.Goals as goal

pub returns-clause-no_result : goal.returns-clause-no_result
returns-clause-no_result g c = λ zero.
    let e = c.call_datagram.ensures in
    let p = e.ends.printed zero in
    let other = c.requires.other in
    other_answered c.args.asked.now.call.xid _ _ other.0 (wanted_of c.args.asked.now) e.answer p.text other.1
    other.2 e.asks.answer_is (inl p.shows)

pub returns-clause-no_refusal : goal.returns-clause-no_refusal
returns-clause-no_refusal g c = λ one.
    let e = c.call_datagram.ensures in
    let s = e.ends.said one in
    let other = c.requires.other in
    other_answered c.args.asked.now.call.xid _ _ other.0 (wanted_of c.args.asked.now) e.answer s.line other.1
    other.2 e.asks.answer_is (inr s.refuses)
