use Rattle.std.proofs.Common.{ap, ◌∙◌, Some}
use Rattle.rpc_engine.specs.Exchanged.{Replied}
use Rattle.oncrpc_call.specs.Asked.{wanted_of}
use Rattle.example_call.proofs.Numbers.{hex_printed, number_shown}
use Rattle.example_call.proofs.Inputs.{number_case, number_input, number_reply}
use Rattle.example_call.proofs.Told.{all_written, refused_as, shown_as}
use Rattle.example_call.proofs.Written.{number_written}
use Rattle.example_call.proofs.replies.prints_the_bytes_of_a_number.Goals as goal

pub returns-clause-printed : goal.returns-clause-printed
returns-clause-printed g c = λ zero.
    let e = c.call_over.ensures in
    let w = wanted_of c.args.asked.now in
    let p = e.ends.printed zero in
    let shows = shown_as c.exchanges_have_one_outcome.ensures.exclusive w
    number_input 2 (Replied number_reply) number_case
    c.args.asked.now.call.xid c.requires.xid _ c.new-reader.ensures.left e.answer p.text e.exact p.shows in
    all_written p.text _ _ c.requires.fresh p.written
    ∙ ap Some (hex_printed w _ p.text c.requires.form shows ∙ number_written)

pub returns-clause-shown : goal.returns-clause-shown
returns-clause-shown g c = λ one.
    let e = c.call_over.ensures in
    let w = wanted_of c.args.asked.now in
    let s = e.ends.said one in
    let refuses = refused_as c.exchanges_have_one_outcome.ensures.exclusive w
    number_input 2 (Replied number_reply) number_case
    c.args.asked.now.call.xid c.requires.xid _ c.new-reader.ensures.left e.answer s.line e.exact s.refuses in
    c.results_have_one_ending.ensures.ending w _ _ s.line
    (number_shown w c.requires.kinds c.requires.unsigned c.depth-in_range.ensures.range.least_depth
    c.depth-in_range.ensures.range.least_bytes) refuses
