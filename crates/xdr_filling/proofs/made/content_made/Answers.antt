use Rattle.std.proofs.Common.{◌≡◌, ap, sym, subst}
use Rattle.std.specs.Prelude.{IfSome}
use Rattle.xdr_types.specs.Kinds as xdr
use Rattle.xdr_types.specs.Kinds.{KindView}
use Rattle.xdr_types.specs.KindViews.{kind_view}
use Rattle.xdr_types.specs.declared.kind.Kind.{Kind}
use Rattle.xdr_writer.specs.Items as told
use Rattle.xdr_filling.specs.Private.Makes.{Makes}
use Rattle.xdr_filling.proofs.Making.{on_some}
use Rattle.xdr_filling.proofs.made.content_made.Goals as goal

pub returns-in-OpaqueUpTo : goal.returns-in-OpaqueUpTo
returns-in-OpaqueUpTo c = λ kinds.
    let same : kind_view c.args.kind.now ≡ xdr.opaque_up_to c.in-OpaqueUpTo.max =
    ap (λ (x : Kind). kind_view x) c.in-OpaqueUpTo.is in
    subst (λ (k : KindView). IfSome c.counted_made.result (Makes kinds k (told.content c.args.bytes.now))) (sym same)
    (on_some c.counted_made.result _ _ (λ m h. h.0) (c.counted_made.ensures kinds))

pub returns-in-Text : goal.returns-in-Text
returns-in-Text c = λ kinds.
    let same : kind_view c.args.kind.now ≡ xdr.text c.in-Text.max =
    ap (λ (x : Kind). kind_view x) c.in-Text.is in
    subst (λ (k : KindView). IfSome c.counted_made-in-Text.result (Makes kinds k (told.content c.args.bytes.now)))
    (sym same) (on_some c.counted_made-in-Text.result _ _ (λ m h. h.1) (c.counted_made-in-Text.ensures kinds))
