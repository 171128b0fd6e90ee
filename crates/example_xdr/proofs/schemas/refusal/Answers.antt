use Rattle.std.proofs.Common.{◌≤◌, ap, sym, ◌∙◌, arith, length, map}
use Rattle.std.proofs.lemmas.List.{length-map}
use Rattle.xdr_types.specs.KindViews.{kind_view, lists_of}
use Rattle.example_xdr.proofs.First.{answered, flawless, err_of}
use Rattle.example_xdr.proofs.schemas.refusal.Goals as goal
use Rattle.example_xdr.proofs.schemas.refusal.Goals.{in-Ok, in-Err}

pub returns-clause-first : goal.returns-clause-first
returns-clause-first c = λ why place is.
    let ks = c.args.kinds.items in
    let few : length (map kind_view ks) ≤ 1024 = omega (arith, length-map ks kind_view, c.requires) in
    answered (lists_of ks c.args.names.items) c.build.result c.match-build.result why place c.build.ensures few is
    (elim c.match-build.branch [
      | in-Ok w ↦ w.result-is ∙ sym (ap err_of w.in-Ok.is)
      | in-Err w ↦ w.result-is ∙ sym (ap err_of w.in-Err.is)
    ])

pub returns-clause-none : goal.returns-clause-none
returns-clause-none c = λ is.
    let ks = c.args.kinds.items in
    let few : length (map kind_view ks) ≤ 1024 = omega (arith, length-map ks kind_view, c.requires) in
    flawless (lists_of ks c.args.names.items) c.build.result c.match-build.result c.build.ensures few is
    (elim c.match-build.branch [
      | in-Ok w ↦ w.result-is ∙ sym (ap err_of w.in-Ok.is)
      | in-Err w ↦ w.result-is ∙ sym (ap err_of w.in-Err.is)
    ])
