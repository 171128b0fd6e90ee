use Rattle.std.proofs.Common.{ap, ◌∙◌}
use Rattle.oncrpc_watch.specs.Lines.{counts_line}
use Rattle.oncrpc_watch.proofs.Begun.{close_cut, close_untold}
use Rattle.std.proofs.lemmas.Result.{err_from_is_err_and}
use Rattle.oncrpc_watch.proofs.messages.close.Goals as goal

pub returns-in_err-line-clause-fails : goal.returns-in_err-line-clause-fails
returns-in_err-line-clause-fails g c =
    let e = c.from_residual in
    let p = err_from_is_err_and e.result e.ensures.1 in
    rw p.1 (close_untold c.args.watch.now _ p.0 p.2)

pub returns-in_err-write_whole-clause-fails : goal.returns-in_err-write_whole-clause-fails
returns-in_err-write_whole-clause-fails g c =
    let e = c.from_residual-in_err-write_whole in
    let p = err_from_is_err_and e.result e.ensures.1 in
    rw p.1 (close_cut c.args.watch.now c.as_bytes.result.now _ _ _ p.0 p.2
    (c.as_bytes.ensures.value ∙ c.in_ok-line.ensures ∙ ap (λ f. counts_line f c.counts-counts.result) c.form.ensures
    ∙ ap (λ k. counts_line c.args.watch.now.terms.form k) c.counts-counts.ensures) c.in_err-write_whole.ensures.cut.1
    c.in_err-write_whole.ensures.one_failed)
