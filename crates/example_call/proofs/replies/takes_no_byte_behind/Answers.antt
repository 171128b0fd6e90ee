use Rattle.rpc_engine.specs.Exchanged.{Replied}
use Rattle.oncrpc_call.specs.Asked.{wanted_of}
use Rattle.example_call.proofs.Numbers.{number_followed}
use Rattle.example_call.proofs.Inputs.{longer_case, longer_input, longer_reply}
use Rattle.example_call.proofs.Told.{shown_as}
use Rattle.example_call.proofs.replies.takes_no_byte_behind.Goals as goal

pub returns-clause-none : goal.returns-clause-none
returns-clause-none g c = λ zero.
    let e = c.call_over.ensures in
    let w = wanted_of c.args.asked.now in
    let p = e.ends.printed zero in
    let shows = shown_as c.exchanges_have_one_outcome.ensures.exclusive w
    longer_input 2 (Replied longer_reply) longer_case
    c.args.asked.now.call.xid c.requires.xid _ c.new-reader.ensures.left e.answer p.text e.exact p.shows in
    c.results_have_one_ending.ensures.ending w _ p.text _ shows
    (number_followed w c.requires.kinds c.requires.unsigned c.depth-in_range.ensures.range.least_depth
    c.depth-in_range.ensures.range.least_bytes)

pub returns-clause-unprinted : goal.returns-clause-unprinted
returns-clause-unprinted g c = c.call_over.ensures.ends.unprinted
