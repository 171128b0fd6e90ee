use Rattle.std.proofs.Common.{refl}
use Rattle.oncrpc_watch.proofs.Begun.{input_closes, input_stops, reports_close, reports_of}
use Rattle.oncrpc_watch.specs.Private.Steps.{reached, sunk}
use Rattle.oncrpc_watch.proofs.Closed.{prints_input}
use Rattle.std.proofs.lemmas.Result.{err_from_is_err_and}
use Rattle.oncrpc_watch.proofs.messages.print_one.Goals as goal

pub returns-clause-prints : goal.returns-clause-prints
returns-clause-prints g c = prints_input _ _ c.args.watch.now c.tell_all.new.watch _ _ _ _ _ c.requires
    c.new-calls.ensures.stands c.new-calls.ensures.name c.in_ok-tell_all.ensures.tells
    c.in_ok-tell_all.ensures.ended c.in_ok-status.ensures.closes

pub returns-in_err-tell_all-clause-part : goal.returns-in_err-tell_all-clause-part
returns-in_err-tell_all-clause-part g c =
    let e = c.from_residual in
    let p = err_from_is_err_and e.result e.ensures.1 in
    rw p.1 (input_stops _ _ c.args.watch.now _ _ _ _ c.requires
    c.new-calls.ensures.stands c.new-calls.ensures.name c.in_err-tell_all.ensures.stops)

pub returns-in_err-tell_all-clause-fails : goal.returns-in_err-tell_all-clause-fails
returns-in_err-tell_all-clause-fails g c =
    let e = c.from_residual in
    let p = err_from_is_err_and e.result e.ensures.1 in
    let at = sunk g.O.Sink.taken g.O.Sink.failures in
    rw (p.1, p.2) (reports_of g.I.Source.failures g.I.Source.reads c.args.input c.tell_all.new.self.source.source
    (reached g.I.Source.left g.I.Source.failures g.I.Source.reads c.tell_all.new.self) refl refl (at c.args.output.now)
    (at c.tell_all.new.output) c.in_err-tell_all.field-0.0
    (c.in_err-tell_all.ensures.stops.fails _ _ c.new-calls.ensures.sound))

pub returns-in_err-status-clause-part : goal.returns-in_err-status-clause-part
returns-in_err-status-clause-part g c =
    let e = c.from_residual-in_err-status in
    let p = err_from_is_err_and e.result e.ensures.1 in
    rw p.1 (input_closes _ _ c.args.watch.now c.tell_all.new.watch _ _ _ _ _
    c.requires c.new-calls.ensures.stands c.new-calls.ensures.name c.in_ok-tell_all.ensures.tells
    c.in_ok-tell_all.ensures.ended c.in_err-status.ensures.fails)

pub returns-in_err-status-clause-fails : goal.returns-in_err-status-clause-fails
returns-in_err-status-clause-fails g c =
    let e = c.from_residual-in_err-status in
    let p = err_from_is_err_and e.result e.ensures.1 in
    let at = sunk g.O.Sink.taken g.O.Sink.failures in
    rw (p.1, p.2) (reports_close g.I.Source.failures g.I.Source.reads c.args.input (at c.args.output.now) (at
    c.tell_all.new.output)
    (at c.close.new.output) c.in_err-status.field-0.0
    c.in_ok-tell_all.ensures.tells.prints.unlost c.in_err-status.ensures.fails.fails)
