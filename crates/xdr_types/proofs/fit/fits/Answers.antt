use Rattle.std.proofs.Common.{◌≤◌, nat_le, leb-true, sym, ◌∙◌, arith}
use Rattle.std.proofs.lemmas.Bool.{and_parts as both}
use Rattle.xdr_types.specs.Tree.{depth}
use Rattle.xdr_types.specs.Fits.{fits}
use Rattle.xdr_types.specs.View.{tree}
use Rattle.xdr_types.proofs.fit.fits.Goals as goal

pub returns-then-is_value : goal.returns-then-is_value
returns-then-is_value c =
    let S = c.args.schema.now.kinds in
    let v = tree c.args.value.now in
    let hs = both (fits S c.args.kind.place v) (nat_le (depth v) c.depth.result)
    (sym c.is_value.ensures ∙ c.if-is_value.true) in
    let deep : depth v ≤ c.depth.result = leb-true _ _ hs.1 in
    let shallow : depth v ≤ c.args.limits.depth = omega (arith, deep, c.depth.ensures.value) in (
      λ r. (hs.0, (shallow, omega (arith, c.has_space.ensures.0 r, c.bytes.ensures))),
      λ w. c.has_space.ensures.1 (omega (arith, w.1.1, c.bytes.ensures)),
    )
