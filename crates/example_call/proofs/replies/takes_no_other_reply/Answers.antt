use Rattle.std.proofs.Common.{◌∙◌}
use Rattle.rpc_engine.specs.Exchanged.{OtherXid}
use Rattle.oncrpc_call.specs.Asked.{wanted_of}
use Rattle.example_call.proofs.Inputs.{three_case, three_input}
use Rattle.example_call.proofs.Told.{refused_as, said_as, shown_as}
use Rattle.example_call.proofs.Written.{three_written}
use Rattle.example_call.proofs.replies.takes_no_other_reply.Goals as goal

pub returns-clause-none : goal.returns-clause-none
returns-clause-none g c = λ zero.
    let e = c.call_over.ensures in
    let p = e.ends.printed zero in
    shown_as c.exchanges_have_one_outcome.ensures.exclusive (wanted_of c.args.asked.now)
    three_input 2 (OtherXid 3) three_case
    c.args.asked.now.call.xid c.requires.xid _ c.new-reader.ensures.left e.answer p.text e.exact p.shows

pub returns-clause-said : goal.returns-clause-said
returns-clause-said g c = λ one.
    let e = c.call_over.ensures in
    let s = e.ends.said one in
    let told = refused_as c.exchanges_have_one_outcome.ensures.exclusive (wanted_of c.args.asked.now)
    three_input 2 (OtherXid 3) three_case
    c.args.asked.now.call.xid c.requires.xid _ c.new-reader.ensures.left e.answer s.line e.exact s.refuses in
    said_as (record { taken = g.F.Sink.taken; lost = g.F.Sink.failures }) _ _ s.line _ (told ∙ three_written) s.said

pub returns-clause-unprinted : goal.returns-clause-unprinted
returns-clause-unprinted g c = c.call_over.ensures.ends.unprinted
