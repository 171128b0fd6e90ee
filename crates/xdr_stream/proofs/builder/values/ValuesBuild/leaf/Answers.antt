use Rattle.std.proofs.Common.{refl, arith}
use Rattle.xdr_stream.proofs.Reported.{reports_leaf}
use Rattle.std.proofs.lemmas.Result.{err_from_is_err_and}
use Rattle.xdr_stream.proofs.Levels.{alone_root}
use Rattle.xdr_stream.proofs.builder.values.ValuesBuild.leaf.Goals as goal

pub returns-clause-reported : goal.returns-clause-reported
returns-clause-reported c = λ t reported space.
    reports_leaf c.args.self.now _ c.value_of.result c.args.leaf t c.value_of.ensures c.in_ok-add.ensures.added
    refl refl
    (λ few. omega (arith, c.saturating_add-self.ensures, few)) refl reported space

pub returns-in_err-add-clause-granted : goal.returns-in_err-add-clause-granted
returns-in_err-add-clause-granted c = λ t reported alone.
    let p = err_from_is_err_and c.from_residual.result c.from_residual.ensures.1 in
    rw p.1 (c.in_err-add.ensures.granted
    (alone_root c.args.self.now.content.items c.args.self.now.work c.args.self.now.parents.items t reported.trace
    alone))
