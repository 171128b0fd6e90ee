use Rattle.std.proofs.Common.{refl, subst, take, Option, Some, None}
use Rattle.xdr_parts.specs.declared.part.Lent.{Lent}
use Rattle.xdr_paths.specs.Nodes.{Node, settled, root}
use Rattle.xdr_paths.specs.Private.Standing.{HasPart, PathLeadsTo}
use Rattle.xdr_paths.proofs.Following.{root_stands, lent_from_all}
use Rattle.xdr_paths.proofs.finding.find.Goals as goal

pub settled-requires : goal.settled-requires
settled-requires c =
    let o = c.in-Ok.ensures.whole in (
      root c.args.kind.place o.0,
      (
        record { place = refl; depth = refl; kind = refl; name = refl },
        root_stands c.args.schema.now.kinds c.args.kind.place c.args.limits c.args.input.now o.0 c.in-Ok.used
            c.depth-in_range.ensures.range o.1,
      ),
    )

pub at_path-requires : goal.at_path-requires
at_path-requires c =
    let o = c.in-Ok.ensures.whole in (
      settled c.args.schema.now.kinds (root c.args.kind.place o.0),
      c.settled.ensures (root c.args.kind.place o.0) (
        record { place = refl; depth = refl; kind = refl; name = refl },
        root_stands c.args.schema.now.kinds c.args.kind.place c.args.limits c.args.input.now o.0 c.in-Ok.used
            c.depth-in_range.ensures.range o.1,
      ),
    )

pub returns-in-Ok-Some-clause-found : goal.returns-in-Ok-Some-clause-found
returns-in-Ok-Some-clause-found c =
    let kinds = c.args.schema.now.kinds in
    let kind = c.args.kind.place in
    let input = c.args.input.now in
    let o = c.in-Ok.ensures.whole in
    let n : Node = settled kinds (root kind o.0) in
    let stands = c.settled.ensures (root kind o.0) (
      record { place = refl; depth = refl; kind = refl; name = refl },
      root_stands kinds kind c.args.limits input o.0 c.in-Ok.used c.depth-in_range.ensures.range o.1,
    ) in
    let h : HasPart (take c.in-Ok.used input) (Some c.in-Ok-Some.part) (PathLeadsTo kinds n c.args.path.now) =
    subst (λ (f : Option Lent). HasPart (take c.in-Ok.used input) f (PathLeadsTo kinds n c.args.path.now))
    c.in-Ok-Some.field-0-is (c.in-Ok-Some.ensures n stands) in (
      o.0,
      c.in-Ok.used,
      o.1,
      h.0,
      lent_from_all kinds kind c.args.limits input o.0 c.in-Ok.used c.depth-in_range.ensures.range o.1
          c.in-Ok-Some.part h.1,
    )

pub returns-in-Ok-None-clause-none : goal.returns-in-Ok-None-clause-none
returns-in-Ok-None-clause-none c =
    λ same.
    let kinds = c.args.schema.now.kinds in
    let kind = c.args.kind.place in
    let input = c.args.input.now in
    let o = c.in-Ok.ensures.whole in
    let n : Node = settled kinds (root kind o.0) in
    let stands = c.settled.ensures (root kind o.0) (
      record { place = refl; depth = refl; kind = refl; name = refl },
      root_stands kinds kind c.args.limits input o.0 c.in-Ok.used c.depth-in_range.ensures.range o.1,
    ) in
    let h : HasPart (take c.in-Ok.used input) None (PathLeadsTo kinds n c.args.path.now) =
    subst (λ (f : Option Lent). HasPart (take c.in-Ok.used input) f (PathLeadsTo kinds n c.args.path.now))
    c.in-Ok-None.field-0-is (c.in-Ok-None.ensures n stands) in
    (o.0, c.in-Ok.used, o.1, h)
