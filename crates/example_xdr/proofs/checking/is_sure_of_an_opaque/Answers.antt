use Rattle.std.proofs.Common.{◌≡◌, ap, sym, subst, ◌∙◌}
use Rattle.xdr_types.specs.Kinds.{KindView, Lists, kind_at, opaque_up_to}
use Rattle.xdr_types.specs.declared.kind.KindId.{KindId}
use Rattle.xdr_stream.specs.Spared.{HasNoParts}
use Rattle.example_xdr.proofs.checking.is_sure_of_an_opaque.Goals as goal

pub returns : goal.returns
returns c =
    let d = c.start-checker.result in
    let set = c.start-checker.ensures.settings in
    let kind : kind_at d.reader.schema.now.kinds d.reader.kind.place ≡ opaque_up_to 4294967295 =
    ap (λ (x : Lists). kind_at x.kinds d.reader.kind.place) set.schema_is
    ∙ ap (λ (k : KindId). kind_at c.args.schema.now.kinds k.place) set.kind_is ∙ c.requires.kind in
    c.feed.ensures.granted (subst (λ (k : KindView). HasNoParts k) (sym kind) tt)
