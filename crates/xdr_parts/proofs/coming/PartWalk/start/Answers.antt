use Rattle.std.proofs.Common.{refl, sym}
use Rattle.xdr_types.specs.Layout.{entries}
use Rattle.xdr_parts.proofs.Handing.{all_to_come}
use Rattle.xdr_parts.proofs.Judging.{spelled_within}
use Rattle.xdr_parts.proofs.coming.PartWalk.start.Goals as goal

pub returns : goal.returns
returns c = λ v is.
    let fits = spelled_within c.args.schema.now c.len-known.ensures.well_formed c.len-known.ensures.sound
    c.args.kind.place c.args.limits c.args.bytes.now v c.depth-in_range.ensures.range is.0 (sym is.1) in
    all_to_come _ c.args.bytes.now (entries c.args.schema.now.kinds c.args.kind.place v)
    (c.start.ensures.walked v fits) c.start.ensures.none c.start.ensures.bytes refl
