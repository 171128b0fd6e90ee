use Rattle.std.proofs.Common.{◌≡◌, ◌<◌, ◌≤◌, ◌^◌, [], ◌∷◌, replicate, ap, sym, subst, arith}
use Rattle.xdr_types.specs.Kinds as xdr
use Rattle.xdr_types.specs.Kinds.{KindView}
use Rattle.xdr_types.specs.KindViews.{kind_view}
use Rattle.xdr_types.specs.Fits.{item_part}
use Rattle.xdr_types.specs.declared.kind.Kind.{Kind}
use Rattle.xdr_writer.specs.Items as told
use Rattle.xdr_filling.specs.Private.Makes.{IsNode}
use Rattle.xdr_filling.proofs.Making.{count_node}
use Rattle.xdr_filling.proofs.made.count_made.Goals as goal

pub returns : goal.returns
returns c = λ kinds.
    let same : kind_view c.args.kind.now ≡ xdr.up_to c.in-UpTo.item.place c.in-UpTo.max =
    ap (λ (x : Kind). kind_view x) c.in-UpTo.is in
    let few : c.args.count ≤ c.in-UpTo.max = omega arith in
    let low : c.args.count < 2 ^ 32 = omega arith in
    subst (λ (k : KindView). IsNode kinds k (told.count c.args.count ∷ []) c.count_unit.result
    (replicate c.args.count (item_part c.in-UpTo.item.place))) (sym same)
    (count_node kinds c.in-UpTo.item.place c.in-UpTo.max c.args.count c.count_unit.result few low c.count_unit.ensures)
