use Rattle.std.proofs.Common.{ap, refl, subst, sym, ◌<◌}
use Rattle.rpc_record.specs.Streamed.{most_to_come}
use Rattle.rpc_record.specs.declared.stream.RecordStream.{RecordStream}
use Rattle.std.proofs.lemmas.Result.{err_from_is_err_and}
use Rattle.oncrpc_watch.proofs.Joined.{reads_ended, reads_told}
use Rattle.oncrpc_watch.proofs.Stopped.{on_record}
use Rattle.oncrpc_watch.proofs.stream.Stream.tell_next.Goals as goal

pub returns-clause-tells : goal.returns-clause-tells
returns-clause-tells g c = reads_told _ _ _ c.next.new.self.record.items c.args.watch.now c.next.new.watch
    c.tell.new.watch _ _ _ (rw c.in-Ok-true.field-0-test at c.in-Ok-true.ensures.reads) c.tell.ensures.same
    c.in_ok-tell.ensures.prints

pub returns-clause-fewer : goal.returns-clause-fewer
returns-clause-fewer g c = λ e. subst
    (λ (r : RecordStream). most_to_come r < most_to_come c.args.self.now.records)
    (sym (ap (λ r. r.stream) c.tell.ensures.same)) (c.in-Ok-true.ensures.fewer c.in-Ok-true.field-0-test)

pub returns-in-Ok-false-clause-tells : goal.returns-in-Ok-false-clause-tells
returns-in-Ok-false-clause-tells g c = reads_ended _ _ _ _ _ _ _
    (rw c.in-Ok-false.field-0-test at c.in-Ok-false.ensures.reads)

pub returns-in-Ok-false-clause-ended : goal.returns-in-Ok-false-clause-ended
returns-in-Ok-false-clause-ended g c = λ e. (rw c.in-Ok-false.field-0-test at c.in-Ok-false.ensures.reads).ended refl

pub returns-in_err-tell-clause-stops : goal.returns-in_err-tell-clause-stops
returns-in_err-tell-clause-stops g c =
    let p = err_from_is_err_and c.from_residual.result c.from_residual.ensures.1 in
    rw (p.1, p.2) (on_record _ _ _ c.next.new.self.record.items c.args.watch.now c.next.new.watch _ _ _ _
    (rw c.in-Ok-true.field-0-test at c.in-Ok-true.ensures.reads) c.in_err-tell.ensures.stops)
