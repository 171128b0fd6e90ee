use Rattle.rpc_engine.proofs.Outcomes.{one_outcome, some_outcome, outcomes_stay}
use Rattle.rpc_engine.proofs.laws.exchanges_have_one_outcome.Goals as goal

pub returns-clause-exclusive : goal.returns-clause-exclusive
returns-clause-exclusive c =
    one_outcome c.reply_bytes_are_exact.ensures c.no_record_begins_another.ensures.apart
    c.too_long_ends_the_stream.ensures.ends c.too_long_ends_the_stream.ensures.one

pub returns-clause-covering : goal.returns-clause-covering
returns-clause-covering c = some_outcome

pub returns-clause-stays : goal.returns-clause-stays
returns-clause-stays c = outcomes_stay c.too_long_ends_the_stream.ensures.ends
