use Rattle.std.proofs.Common.{◌≡◌, sym, ap, ◌∙◌, subst}
use Rattle.xdr_types.specs.Kinds as xdr
use Rattle.xdr_types.specs.Kinds.{KindView, kind_at}
use Rattle.xdr_types.specs.KindViews.{kind_view}
use Rattle.xdr_types.specs.declared.kind.Kind.{Kind}
use Rattle.xdr_laws.specs.Owed.{role_of}
use Rattle.xdr_writer.specs.Items.{item_view}
use Rattle.xdr_writer.specs.Private.Becomes.{Becomes}
use Rattle.xdr_writer.proofs.forms.node_item.Goals as goal

pub returns-in-Maybe : goal.returns-in-Maybe
returns-in-Maybe c = λ known unit.
    let s = c.args.schema.now.kinds in
    let same : kind_at s c.args.id.place ≡ xdr.maybe c.in-Maybe.item.place =
    sym c.kind.ensures ∙ ap (λ (x : Kind). kind_view x) c.in-Maybe.is in
    subst (λ (k : KindView). Becomes s k (role_of k) (item_view c.args.item) c.flag_item.result) (sym same)
    (c.flag_item.ensures s c.in-Maybe.item.place)

pub returns-in-UpTo : goal.returns-in-UpTo
returns-in-UpTo c = λ known unit.
    let s = c.args.schema.now.kinds in
    let same : kind_at s c.args.id.place ≡ xdr.up_to c.in-UpTo.item.place c.in-UpTo.max =
    sym c.kind.ensures ∙ ap (λ (x : Kind). kind_view x) c.in-UpTo.is in
    subst (λ (k : KindView). Becomes s k (role_of k) (item_view c.args.item) c.count_item.result) (sym same)
    (c.count_item.ensures s c.in-UpTo.item.place c.in-UpTo.max)

pub returns-in-OpaqueUpTo : goal.returns-in-OpaqueUpTo
returns-in-OpaqueUpTo c = λ known unit.
    let s = c.args.schema.now.kinds in
    let same : kind_at s c.args.id.place ≡ xdr.opaque_up_to c.in-OpaqueUpTo.max =
    sym c.kind.ensures ∙ ap (λ (x : Kind). kind_view x) c.in-OpaqueUpTo.is in
    subst (λ (k : KindView). Becomes s k (role_of k) (item_view c.args.item) c.counted_item.result) (sym same)
    (c.counted_item.ensures s (xdr.opaque_up_to c.in-OpaqueUpTo.max) tt)

pub returns-in-Text : goal.returns-in-Text
returns-in-Text c = λ known unit.
    let s = c.args.schema.now.kinds in
    let same : kind_at s c.args.id.place ≡ xdr.text c.in-Text.max =
    sym c.kind.ensures ∙ ap (λ (x : Kind). kind_view x) c.in-Text.is in
    subst (λ (k : KindView). Becomes s k (role_of k) (item_view c.args.item) c.counted_item-in-Text.result) (sym same)
    (c.counted_item-in-Text.ensures s (xdr.text c.in-Text.max) tt)
