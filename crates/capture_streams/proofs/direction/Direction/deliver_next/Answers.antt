use Rattle.std.proofs.Common.{refl, arith}
use Rattle.std.proofs.lemmas.List.{length-take-le}
use Rattle.capture_streams.proofs.Delivering.{steps_popped, pops_as, ok_then}
use Rattle.capture_streams.proofs.direction.Direction.deliver_next.Goals as goal

pub append-requires-clause-gap : goal.append-requires-clause-gap
append-requires-clause-gap c = λ place low high.
    let long = length-take-le c.in-Gap.n c.args.bytes.now c.in-Gap.ensures.1 in
    c.in-Gap.ensures.2 place low (omega arith)

pub returns-in-Held-clause-ok : goal.returns-in-Held-clause-ok
returns-in-Held-clause-ok c =
    let old = c.args.self.now in
    let new = c.pop.new.self in
    let out = c.args.out.now.items in
    ok_then c.pop.result c.pop.ensures.ok (λ p. steps_popped old new c.args.bytes.now out c.pop.new.out.items
    (pops_as old _ new out c.pop.new.out.items refl refl p))
