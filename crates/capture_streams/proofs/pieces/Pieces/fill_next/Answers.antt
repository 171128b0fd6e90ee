use Rattle.std.proofs.Common.{length, arith}
use Rattle.std.proofs.lemmas.List.{length-take-le}
use Rattle.std.proofs.lemmas.Result.{err_from_is_err_and}
use Rattle.capture_streams.proofs.Filling.{next_held}
use Rattle.capture_streams.proofs.Wanting.{wanted_next}
use Rattle.capture_streams.proofs.pieces.Pieces.fill_next.Goals as goal

pub put-requires-clause-gap : goal.put-requires-clause-gap
put-requires-clause-gap c = λ place low high.
    let long = length-take-le c.in-Gap.n c.args.bytes.now c.in-Gap.ensures.1 in
    c.in-Gap.ensures.2 place low (omega arith)

pub returns-in-Held-clause-ok : goal.returns-in-Held-clause-ok
returns-in-Held-clause-ok c =
    next_held c.args.self.now.by_last c.args.at c.in-Held.n c.args.bytes.now c.in-Held.ensures.0 c.in-Held.ensures.1
    c.in-Held.ensures.2

pub returns-in_err-put-in-Gap-clause-refused : goal.returns-in_err-put-in-Gap-clause-refused
returns-in_err-put-in-Gap-clause-refused c =
    let p = err_from_is_err_and c.from_residual.result c.from_residual.ensures.1 in
    let long = length-take-le c.in-Gap.n c.args.bytes.now c.in-Gap.ensures.1 in
    rw (p.1, p.2) (wanted_next c.args.self.now c.put.new.self c.args.at (length c.args.bytes.now) c.in-Gap.n _ _
    c.in-Gap.ensures long c.in_err-put-in-Gap.ensures.refused)
