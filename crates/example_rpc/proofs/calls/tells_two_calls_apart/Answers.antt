use Rattle.rpc_message.specs.View.{call_view}
use Rattle.example_rpc.proofs.calls.tells_two_calls_apart.Goals as goal

pub returns : goal.returns
returns c = λ same.
    c.requires.differ ((c.call_bytes_are_exact.ensures (call_view c.args.first.now)
    (call_view c.args.second.now) _ _ c.in_ok-one.ensures c.in_ok-other.ensures).1 same)
