use Rattle.example_registry.proofs.Replies.{cut_at_once, no_xid}
use Rattle.example_registry.proofs.served.exchanges_for_nothing.Goals as goal

pub returns-clause-none : goal.returns-clause-none
returns-clause-none g c =
    cut_at_once c.exchanges_have_one_outcome.ensures.exclusive c.no_record_begins_another.ensures.whole
    c.too_long_ends_the_stream.ensures.none _ _ c.new-reader.ensures.left c.exchange.result
    c.exchange.ensures.exchanged.exact

pub returns-clause-unanswered : goal.returns-clause-unanswered
returns-clause-unanswered g c =
    no_xid c.exchanges_have_one_outcome.ensures.exclusive c.no_record_begins_another.ensures.whole
    c.too_long_ends_the_stream.ensures.none _ _ c.new-reader.ensures.left c.exchange.result
    c.exchange.ensures.exchanged.exact
