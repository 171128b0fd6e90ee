use Rattle.std.proofs.Common.{inl, inr, refl, ⊎_elim}
use Rattle.oncrpc_watch.specs.Private.Steps.{reached, sunk}
use Rattle.oncrpc_watch.proofs.Begun.{both_close, both_stop, reports_close, reports_of}
use Rattle.oncrpc_watch.proofs.Closed.{prints_both}
use Rattle.std.proofs.lemmas.Result.{err_from_is_err_and}
use Rattle.oncrpc_watch.proofs.messages.print_both.Goals as goal

pub returns-clause-prints : goal.returns-clause-prints
returns-clause-prints g c = prints_both _ _ _ _ c.args.watch.now c.tell_both.new.watch _ _ _ _ _ _ c.requires
    c.new-calls.ensures.stands c.new-calls.ensures.name c.new-replies.ensures.stands c.new-replies.ensures.name
    c.in_ok-tell_both.ensures.tells c.in_ok-tell_both.ensures.ended.0 c.in_ok-tell_both.ensures.ended.1
    c.in_ok-status.ensures.closes

pub returns-in_err-tell_both-clause-part : goal.returns-in_err-tell_both-clause-part
returns-in_err-tell_both-clause-part g c =
    let e = c.from_residual in
    let p = err_from_is_err_and e.result e.ensures.1 in
    rw p.1 (both_stop _ _ _ _ c.args.watch.now _ _ _ _ _ c.requires
    c.new-calls.ensures.stands c.new-calls.ensures.name c.new-replies.ensures.stands c.new-replies.ensures.name
    c.in_err-tell_both.ensures.stops)

pub returns-in_err-tell_both-clause-fails : goal.returns-in_err-tell_both-clause-fails
returns-in_err-tell_both-clause-fails g c =
    let e = c.from_residual in
    let p = err_from_is_err_and e.result e.ensures.1 in
    let at = sunk g.O.Sink.taken g.O.Sink.failures in
    rw (p.1, p.2) (⊎_elim
    (λ h. inl (reports_of g.I.Source.failures g.I.Source.reads c.args.input c.tell_both.new.calls.source.source
    (reached g.I.Source.left g.I.Source.failures g.I.Source.reads c.tell_both.new.calls) refl refl
    (at c.args.output.now) (at c.tell_both.new.output) c.in_err-tell_both.field-0.0 h))
    (λ h. inr (reports_of g.R.Source.failures g.R.Source.reads c.args.other c.tell_both.new.replies.source.source
    (reached g.R.Source.left g.R.Source.failures g.R.Source.reads c.tell_both.new.replies) refl refl
    (at c.args.output.now) (at c.tell_both.new.output) c.in_err-tell_both.field-0.0 h))
    (c.in_err-tell_both.ensures.stops.fails _ _ _ _ c.new-calls.ensures.sound c.new-replies.ensures.sound))

pub returns-in_err-status-clause-part : goal.returns-in_err-status-clause-part
returns-in_err-status-clause-part g c =
    let e = c.from_residual-in_err-status in
    let p = err_from_is_err_and e.result e.ensures.1 in
    rw p.1 (both_close _ _ _ _ c.args.watch.now c.tell_both.new.watch
    _ _ _ _ _ _ c.requires c.new-calls.ensures.stands c.new-calls.ensures.name c.new-replies.ensures.stands
    c.new-replies.ensures.name c.in_ok-tell_both.ensures.tells c.in_ok-tell_both.ensures.ended.0
    c.in_ok-tell_both.ensures.ended.1 c.in_err-status.ensures.fails)

pub returns-in_err-status-clause-fails : goal.returns-in_err-status-clause-fails
returns-in_err-status-clause-fails g c =
    let e = c.from_residual-in_err-status in
    let p = err_from_is_err_and e.result e.ensures.1 in
    let at = sunk g.O.Sink.taken g.O.Sink.failures in
    rw (p.1, p.2) (inl (reports_close g.I.Source.failures g.I.Source.reads c.args.input (at c.args.output.now)
    (at c.tell_both.new.output) (at c.close.new.output) c.in_err-status.field-0.0
    c.in_ok-tell_both.ensures.tells.prints.unlost c.in_err-status.ensures.fails.fails))
