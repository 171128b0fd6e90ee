use Rattle.std.proofs.Common.{List, ◌∷◌, ap}
use Rattle.xdr_types.specs.Kinds.{Part}
use Rattle.xdr_stream.specs.Frames.{left_of}
use Rattle.xdr_stream.proofs.machine.nodes.open.Goals as goal

pub returns-clause-stack : goal.returns-clause-stack
returns-clause-stack g c =
    ap (λ (fs : List (List Part)). left_of c.args.frame ∷ fs) c.in_ok-put_rest.ensures.stack
