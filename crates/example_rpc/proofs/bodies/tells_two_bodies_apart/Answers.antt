use Rattle.rpc_message.specs.View.{auth_sys_view}
use Rattle.example_rpc.proofs.bodies.tells_two_bodies_apart.Goals as goal

pub returns : goal.returns
returns c = λ same.
    c.requires.differ ((c.auth_sys_bytes_are_exact.ensures (auth_sys_view c.args.first.now)
    (auth_sys_view c.args.second.now) _ _ c.in_ok-one.ensures c.in_ok-other.ensures).1 same)
