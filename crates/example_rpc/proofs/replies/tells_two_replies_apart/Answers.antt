use Rattle.rpc_message.specs.View.{reply_view}
use Rattle.example_rpc.proofs.replies.tells_two_replies_apart.Goals as goal

pub returns : goal.returns
returns c = λ same.
    c.requires.differ ((c.reply_bytes_are_exact.ensures (reply_view c.args.first.now)
    (reply_view c.args.second.now) _ _ c.in_ok-one.ensures c.in_ok-other.ensures).1 same)
