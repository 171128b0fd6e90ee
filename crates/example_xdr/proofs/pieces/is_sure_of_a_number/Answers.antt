use Rattle.std.proofs.Common.{◌≡◌, ap, sym, subst, ◌∙◌}
use Rattle.xdr_types.specs.Kinds.{KindView, Lists, kind_at, hyper}
use Rattle.xdr_types.specs.declared.kind.KindId.{KindId}
use Rattle.xdr_stream.specs.Spared.{IsFlat}
use Rattle.example_xdr.proofs.pieces.is_sure_of_a_number.Goals as goal

pub returns : goal.returns
returns c =
    let d = c.start-decoder.result in
    let set = c.start-decoder.ensures.settings in
    let kind : kind_at d.reader.schema.now.kinds d.reader.kind.place ≡ hyper =
    ap (λ (x : Lists). kind_at x.kinds d.reader.kind.place) set.schema_is
    ∙ ap (λ (k : KindId). kind_at c.args.schema.now.kinds k.place) set.kind_is ∙ c.requires.kind in
    c.feed.ensures.granted (subst (λ (k : KindView). IsFlat k) (sym kind) tt)
