use Rattle.std.proofs.Common.{Err, sym, ap, subst}
use Rattle.xdr_io.specs.Reported.{Counts}
use Rattle.rpc_record.specs.Failures.{reads_failed}
use Rattle.rpc_record.specs.Streamed.{HasRead, reads_of}
use Rattle.oncrpc_watch.specs.declared.stream.TheConstants.{MOST_RECORD}
use Rattle.std.proofs.lemmas.Result.{err_from_is_err_and}
use Rattle.oncrpc_watch.proofs.Streamed.{read_end, read_failed, read_record, read_refused}
use Rattle.oncrpc_watch.proofs.stream.Stream.read.Goals as goal

pub returns-in-Ok-true-clause-on : goal.returns-in-Ok-true-clause-on
returns-in-Ok-true-clause-on g c =
    read_record c.args.self.now.ended c.args.self.now.records c.next_record_into.new.self c.args.self.now.name.now
    _ _ _ _ _ _ c.requires.begun
    (λ start h. c.in-Ok-true.ensures.reads start
    (subst (λ k. Counts (reads_of c.args.self.now.records) start (g.R.Source.reads k)) (sym c.begin.ensures) h))
    c.next_record_into.new.buffer
    (λ limit rs left has. rw c.in-Ok-true.field-0-test at (c.in-Ok-true.ensures.next limit rs left
    (subst (λ k. HasRead limit c.args.self.now.records rs left (g.R.Source.left k)) (sym c.begin.ensures) has)))
    (subst (λ k. Counts 0 (g.R.Source.failures k) (g.R.Source.failures c.next_record_into.new.source.source))
    c.begin.ensures c.in-Ok-true.ensures.read)

pub returns-in-Ok-false-clause-on : goal.returns-in-Ok-false-clause-on
returns-in-Ok-false-clause-on g c =
    read_end c.args.self.now.ended c.args.self.now.records c.next_record_into.new.self c.args.self.now.name.now
    _ _ _ _ _ _ c.requires.begun
    (λ start h. c.in-Ok-false.ensures.reads start
    (subst (λ k. Counts (reads_of c.args.self.now.records) start (g.R.Source.reads k)) (sym c.begin.ensures) h))
    (λ limit rs left has. rw c.in-Ok-false.field-0-test at (c.in-Ok-false.ensures.next limit rs left
    (subst (λ k. HasRead limit c.args.self.now.records rs left (g.R.Source.left k)) (sym c.begin.ensures) has)))
    (subst (λ k. Counts 0 (g.R.Source.failures k) (g.R.Source.failures c.next_record_into.new.source.source))
    c.begin.ensures c.in-Ok-false.ensures.read)

pub returns-in_ok-ending-in-Err-clause-on : goal.returns-in_ok-ending-in-Err-clause-on
returns-in_ok-ending-in-Err-clause-on g c =
    read_refused c.args.self.now.ended c.args.self.now.records c.next_record_into.new.self c.args.self.now.name.now
    _ _ _ _ _ _ c.requires.begun
    (λ start h. c.in-Err.ensures.reads start
    (subst (λ k. Counts (reads_of c.args.self.now.records) start (g.R.Source.reads k)) (sym c.begin.ensures) h))
    c.in-Err.fault c.in_ok-ending-in-Err.ending c.in_ok-ending-in-Err.ensures.refused
    (λ limit rs left has. c.in-Err.ensures.next limit rs left
    (subst (λ k. HasRead limit c.args.self.now.records rs left (g.R.Source.left k)) (sym c.begin.ensures) has))
    (subst (λ k. Counts (reads_failed c.in-Err.fault) (g.R.Source.failures k)
    (g.R.Source.failures c.next_record_into.new.source.source)) c.begin.ensures c.in-Err.ensures.read)

pub returns-in_err-ending-in-Err-clause-fails : goal.returns-in_err-ending-in-Err-clause-fails
returns-in_err-ending-in-Err-clause-fails g c =
    let p = err_from_is_err_and c.from_residual.result c.from_residual.ensures.1 in
    rw (p.1, p.2) (λ failures reads s.
    read_failed c.args.self.now.ended c.args.self.now.records c.next_record_into.new.self c.args.self.now.name.now
    _ _ _ _ _ _ c.requires.begun
    (λ start h. c.in-Err.ensures.reads start
    (subst (λ k. Counts (reads_of c.args.self.now.records) start (g.R.Source.reads k)) (sym c.begin.ensures) h))
    c.in-Err.fault _ c.in_err-ending-in-Err.ensures.failed c.requires.standing
    (λ limit rs left has. c.in-Err.ensures.next limit rs left
    (subst (λ k. HasRead limit c.args.self.now.records rs left (g.R.Source.left k)) (sym c.begin.ensures) has))
    (subst (λ k. Counts (reads_failed c.in-Err.fault) (g.R.Source.failures k)
    (g.R.Source.failures c.next_record_into.new.source.source)) c.begin.ensures c.in-Err.ensures.read)
    (λ e. c.in-Err.ensures.many (ap Err e)) failures reads s)
