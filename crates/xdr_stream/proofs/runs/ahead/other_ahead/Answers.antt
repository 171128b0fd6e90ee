use Rattle.std.proofs.Common.{◌≡◌, ◌-◌, ◌≤◌, ◌∙◌, ℕ, List, [], length, take, sym, ap, refl, arith}
use Rattle.xdr_types.specs.Kinds as xdr
use Rattle.xdr_types.specs.Kinds.{KindView}
use Rattle.xdr_types.specs.KindViews.{kind_view}
use Rattle.xdr_types.specs.Tree as value
use Rattle.xdr_types.specs.declared.kind.Kind.{Kind}
use Rattle.xdr_stream.specs.Private.Ahead.{IsAhead}
use Rattle.xdr_stream.specs.Private.Entire.{IsPadded}
use Rattle.xdr_stream.proofs.Judged.{padded_one}
use Rattle.xdr_stream.proofs.Ahead.{ahead_node, ahead_none, ahead_alone, if_some}
use Rattle.xdr_stream.proofs.Units.{bytes_taken}
use Rattle.xdr_stream.proofs.runs.ahead.other_ahead.Goals as goal

pub returns-in-Some-clause-ahead : goal.returns-in-Some-clause-ahead
returns-in-Some-clause-ahead c =
    let w = c.in-Some.ensures in
    ahead_alone c.args.schema.now.kinds c.args.id.place c.args.levels (value.bytes w.content)
    (take c.in-Some.whole.all c.args.bytes.now) c.requires.some (w.fits, w.spelled)

pub returns-in-Opaque-clause-ahead : goal.returns-in-Opaque-clause-ahead
returns-in-Opaque-clause-ahead c =
    let s : List KindView = c.args.schema.now.kinds in
    let bs : List ℕ = c.args.bytes.now in
    let size : ℕ = c.in-Opaque.size in
    if_some c.content_ahead.result (λ n. (n ≤ length bs) × IsPadded size (take n bs))
    (λ n. IsAhead s c.args.id.place c.args.levels (take n bs))
    (λ n r. ahead_alone s c.args.id.place c.args.levels (value.bytes r.1.0) (take n bs) c.requires.some
    (padded_one s c.args.id.place size (take n bs)
    (ap (λ (k : Kind). kind_view k) (sym c.in-Opaque.is) ∙ c.kind.ensures)
    (bytes_taken n bs (λ i. omega (arith, c.type_inv.bytes i))) r.1))
    c.content_ahead.ensures

pub returns-in-Nothing-clause-ahead : goal.returns-in-Nothing-clause-ahead
returns-in-Nothing-clause-ahead c =
    let s : List KindView = c.args.schema.now.kinds in
    ahead_node s c.args.id.place c.args.levels xdr.nothing value.nothing [] [] [] c.requires.some
    (ap (λ (k : Kind). kind_view k) (sym c.in-Nothing.is) ∙ c.kind.ensures) refl refl
    (ahead_none s (c.args.levels - 1)) refl
