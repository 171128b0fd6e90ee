use Rattle.std.proofs.Common.{◌<◌, ap, sym, ◌∙◌, arith, length, map}
use Rattle.std.proofs.lemmas.List.{length-map}
use Rattle.xdr_types.specs.KindViews.{kind_view, lists_of}
use Rattle.example_xdr.proofs.First.{crowded, err_of}
use Rattle.example_xdr.proofs.schemas.too_many_kinds.Goals as goal
use Rattle.example_xdr.proofs.schemas.too_many_kinds.Goals.{in-Ok, in-Err}

pub returns : goal.returns
returns c =
    let ks = c.args.kinds.items in
    let many : 1024 < length (map kind_view ks) = omega (arith, length-map ks kind_view, c.requires) in
    crowded (lists_of ks c.args.names.items) c.build.result c.match-build.result c.build.ensures many
    (elim c.match-build.branch
    [ in-Ok w ↦ w.result-is ∙ sym (ap err_of w.in-Ok.is) | in-Err w ↦ w.result-is ∙ sym (ap err_of w.in-Err.is) ])
