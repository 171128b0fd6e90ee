use Rattle.std.proofs.Common.{ℕ, ◌∙◌, List, sym, take}
use Rattle.xdr_types.specs.Kinds.{KindView, Part}
use Rattle.xdr_stream.specs.Frames.{left_of}
use Rattle.xdr_stream.specs.Private.Ahead.{IsAhead, AreAhead}
use Rattle.xdr_stream.proofs.Ahead.{ahead_only, if_some}
use Rattle.xdr_stream.proofs.runs.ahead.only_ahead.Goals as goal

pub returns-in-None-clause-ahead : goal.returns-in-None-clause-ahead
returns-in-None-clause-ahead c =
    let s : List KindView = c.args.schema.now.kinds in
    let bs : List ℕ = c.args.bytes.now in
    let ps : List Part = left_of c.args.frame in
    if_some c.flat_ahead.result (λ n. IsAhead s c.in-Some.id.place c.args.levels (take n bs))
    (λ n. AreAhead s ps c.args.levels (take n bs))
    (λ n r. ahead_only s ps c.in-Some.id.place c.args.levels (take n bs) c.in-Some.ensures
    (sym c.after.ensures ∙ c.in-None.ensures) r) c.flat_ahead.ensures.ahead
