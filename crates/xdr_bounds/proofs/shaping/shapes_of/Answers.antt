use Rattle.std.proofs.Common.{◌≡◌, ℕ, [], ◌∷◌, length, sym, ap, subst, arith}
use Rattle.std.proofs.lemmas.List.{length-append}
use Rattle.xdr_types.specs.Kinds.{kind_at}
use Rattle.xdr_types.proofs.InSets.{pushed}
use Rattle.xdr_bounds.specs.Private.Shapes.{IsShape}
use Rattle.xdr_bounds.specs.declared.shape.Shape.{Shape}
use Rattle.xdr_bounds.proofs.shaping.shapes_of.Goals as goal

pub loop-place-preserved : goal.loop-place-preserved
loop-place-preserved c =
    let kinds = c.args.schema.now.kinds in
    let s = c.in_ok-shape.shape in
    record {
      lengths = omega (
        arith,
        ap length c.in_ok-push.ensures.items,
        length-append c.loop-place.shapes.items (s ∷ []),
        c.loop-place.invariant.lengths,
      );
      each = pushed (λ (i : ℕ) (x : Shape). IsShape kinds (kind_at kinds i) x) c.loop-place.shapes.items
          c.push.new.self.items s c.in_ok-push.ensures.items c.loop-place.invariant.each
          (subst (λ (i : ℕ). IsShape kinds (kind_at kinds i) s) (sym c.loop-place.invariant.lengths)
          c.in_ok-shape.ensures);
    }
