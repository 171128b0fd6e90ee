use Rattle.example_registry.proofs.Replies.{not_handed_out, other_is_two}
use Rattle.example_registry.proofs.served.hands_out_no_other_reply.Goals as goal

pub returns-clause-none : goal.returns-clause-none
returns-clause-none g c =
    not_handed_out c.exchanges_have_one_outcome.ensures.exclusive _ c.new-reader.ensures.left _ c.exchange.result
    c.requires.xid c.exchange.ensures.exchanged.exact

pub returns-clause-other : goal.returns-clause-other
returns-clause-other g c =
    other_is_two c.exchanges_have_one_outcome.ensures.exclusive _ c.new-reader.ensures.left _ c.exchange.result
    c.requires.xid c.exchange.ensures.exchanged.exact
