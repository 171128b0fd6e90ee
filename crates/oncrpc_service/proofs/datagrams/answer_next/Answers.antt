-- The line of the datagram, or the part of it that was written.
use Rattle.oncrpc_service.specs.Datagrams.{datagram_line}
use Rattle.oncrpc_service.proofs.Finishing.{finishes, one_finished, one_lost, line_is_some}
use Rattle.oncrpc_service.proofs.datagrams.answer_next.Goals as goal

pub returns-clause-finished : goal.returns-clause-finished
returns-clause-finished g c =
    let ended = c.serve_datagrams-ended in
    let line = c.print_line.ensures (datagram_line c.args.number ended.result) c.datagram_line.ensures
    (line_is_some c.args.number ended.result) in
    one_finished _ c.args.number _ _ _ _ _ _ ended.result c.print_line.result
    (finishes _ _ _ _ ended.result ended.ensures.ok ended.ensures.fault ended.ensures.none_failed
    ended.ensures.one_failed) line

pub returns-clause-broken : goal.returns-clause-broken
returns-clause-broken g c =
    let ended = c.serve_datagrams-ended in
    let line = c.print_line.ensures (datagram_line c.args.number ended.result) c.datagram_line.ensures
    (line_is_some c.args.number ended.result) in
    one_lost _ c.args.number _ _ _ _ _ _ ended.result c.print_line.result
    (finishes _ _ _ _ ended.result ended.ensures.ok ended.ensures.fault ended.ensures.none_failed
    ended.ensures.one_failed) line
