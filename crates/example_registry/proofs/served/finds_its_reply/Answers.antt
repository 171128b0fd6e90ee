use Rattle.example_registry.proofs.Replies.{own_xid, own_reply}
use Rattle.example_registry.proofs.served.finds_its_reply.Goals as goal

pub returns-clause-xid : goal.returns-clause-xid
returns-clause-xid g c =
    own_xid c.exchanges_have_one_outcome.ensures.exclusive _ c.new-reader.ensures.left _ c.exchange.result
    c.requires.xid c.exchange.ensures.exchanged.exact

pub returns-clause-reply : goal.returns-clause-reply
returns-clause-reply g c =
    own_reply c.exchanges_have_one_outcome.ensures.exclusive _ c.new-reader.ensures.left _ c.exchange.result
    c.requires.xid c.exchange.ensures.exchanged.exact
