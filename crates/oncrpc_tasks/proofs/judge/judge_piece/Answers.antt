-- The checker's answer is the outcome of all bytes.
use Rattle.std.proofs.Common.{sym, ◌∙◌, arith}
use Rattle.std.proofs.lemmas.Bool.{false≢true}
use Rattle.oncrpc_tasks.proofs.Judging.{more, done, followed, refused}
use Rattle.oncrpc_tasks.proofs.judge.judge_piece.Goals as goal

pub returns-in-Ok-More-clause-says : goal.returns-in-Ok-More-clause-says
returns-in-Ok-More-clause-says c = λ q bytes f bounds count.
    more q c.args.checker.now c.feed.new.self bytes c.args.piece.now f c.feed.ensures.same bounds.units c.feed.result
    _ _ c.in-Ok-More.is c.in-Ok-More.field-0-is (omega (arith, count)) (c.feed.ensures.represents bytes f.represents)
    (c.feed.ensures.outcome bytes f.represents)

pub returns-in-Ok-Done-clause-says : goal.returns-in-Ok-Done-clause-says
returns-in-Ok-Done-clause-says c = λ q bytes f bounds count.
    followed q c.args.checker.now c.feed.new.self bytes c.args.piece.now f c.feed.ensures.same bounds.units
    c.feed.result _ c.in-Ok-Done.used _ c.in-Ok-Done.is c.in-Ok-Done.field-0-is (omega arith) (omega (arith, count))
    (c.feed.ensures.outcome bytes f.represents)

pub returns-in-Ok-Done-2-clause-says : goal.returns-in-Ok-Done-2-clause-says
returns-in-Ok-Done-2-clause-says c = λ q bytes f bounds count.
    done q c.args.checker.now c.feed.new.self bytes c.args.piece.now f c.feed.ensures.same bounds.units
    c.feed.result _ c.in-Ok-Done.used _ c.in-Ok-Done.is c.in-Ok-Done.field-0-is c.feed.ensures.leaves.used (omega arith)
    (omega (arith, count)) (c.feed.ensures.represents bytes f.represents) (c.feed.ensures.outcome bytes f.represents)

pub returns-in-Err-2-clause-says : goal.returns-in-Err-2-clause-says
returns-in-Err-2-clause-says c = λ q bytes f bounds count.
    refused q c.args.checker.now c.feed.new.self bytes c.args.piece.now f c.feed.ensures.same bounds.units
    c.in-Err.fault (λ e. let same = rw e at c.eq.ensures in false≢true (sym c.if-eq.false ∙ same))
    (c.in-Err.ensures.outcome bytes f.represents)
