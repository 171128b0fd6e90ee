use Rattle.std.proofs.Common.{List, [], ◌∷◌, length, refl, sym, ap, subst}
use Rattle.xdr_types.specs.Kinds.{Part}
use Rattle.xdr_types.specs.Fits.{item_part}
use Rattle.xdr_stream.specs.Frames.{onto}
use Rattle.xdr_stream.specs.Trace.{Trace}
use Rattle.xdr_stream.specs.Sees.{Sees}
use Rattle.xdr_stream.specs.Private.Sound.{AreAllSolid}
use Rattle.xdr_stream.specs.declared.machine.frame.Frame.{Frame}
use Rattle.xdr_stream.specs.declared.machine.Awaits.TheVariants.{Next}
use Rattle.xdr_stream.proofs.Finishing.{sees_start}
use Rattle.xdr_stream.proofs.reader.start.fresh.Goals as goal

pub returns-clause-represents : goal.returns-clause-represents
returns-clause-represents g c = λ reported.
    let reports : Trace → Type 0 = λ (t : Trace). g.B.Build.reports c.args.built t in (
      refl,
      refl,
      refl,
      subst (λ (fs : List (List Part)). Sees c.args.schema.now.kinds c.args.kind.place c.args.limits reports Next
          ((item_part c.args.kind.place ∷ []) ∷ fs) [])
          (ap (λ (fs : List Frame). onto [] fs) (sym c.new.ensures))
          (sees_start c.args.schema.now.kinds c.args.kind.place c.args.limits reports c.len-known.ensures.valued
          c.requires reported),
      reported,
      ap (λ (fs : List Frame). length ((item_part c.args.kind.place ∷ []) ∷ onto [] fs)) c.new.ensures,
    )

pub invariant_of-result : goal.invariant_of-result
invariant_of-result g c = record {
  sound = (
    c.requires,
    subst (λ (fs : List (List Part)). AreAllSolid c.args.schema.now.kinds fs)
        (ap (λ (fs : List Frame). onto [] fs) (sym c.new.ensures)) tt,
  );
  waits = tt;
}
