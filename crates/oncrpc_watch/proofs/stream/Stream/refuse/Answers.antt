use Rattle.std.proofs.Common.{ap, ◌∙◌}
use Rattle.oncrpc_watch.specs.Events.{ending_line}
use Rattle.std.proofs.lemmas.Result.{err_from_is_err_and}
use Rattle.oncrpc_watch.proofs.Streamed.{ending_cut, ending_printed, untold}
use Rattle.oncrpc_watch.proofs.stream.Stream.refuse.Goals as goal

pub returns-clause-prints : goal.returns-clause-prints
returns-clause-prints g c =
    ending_printed c.args.watch.now c.refuse.new.self c.args.self.now.name.now c.as_bytes.result.now c.args.ending _ _
    c.refuse.ensures.terms c.refuse.ensures.table c.refuse.ensures.counts
    (c.as_bytes.ensures.value ∙ c.in_ok-line.ensures
    ∙ ap (λ f. ending_line f c.args.self.now.name.now c.args.ending)
    (c.form.ensures ∙ ap (λ t. t.form) c.refuse.ensures.terms)) c.in_ok-write_whole.ensures.ok
    c.in_ok-write_whole.ensures.none_failed

pub returns-in_err-line-clause-stops : goal.returns-in_err-line-clause-stops
returns-in_err-line-clause-stops g c =
    let e = c.from_residual in
    let p = err_from_is_err_and e.result e.ensures.1 in
    rw p.1 (untold c.args.watch.now _ _ p.0 p.2)

pub returns-in_err-write_whole-clause-stops : goal.returns-in_err-write_whole-clause-stops
returns-in_err-write_whole-clause-stops g c =
    let e = c.from_residual-in_err-write_whole in
    let p = err_from_is_err_and e.result e.ensures.1 in
    rw p.1 (ending_cut c.args.watch.now c.args.self.now.name.now c.as_bytes.result.now c.args.ending _ _ _ p.0 p.2
    (c.as_bytes.ensures.value ∙ c.in_ok-line.ensures
    ∙ ap (λ f. ending_line f c.args.self.now.name.now c.args.ending)
    (c.form.ensures ∙ ap (λ t. t.form) c.refuse.ensures.terms)) c.in_err-write_whole.ensures.cut.1
    c.in_err-write_whole.ensures.one_failed)
