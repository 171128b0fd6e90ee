use Rattle.std.proofs.Common.{subst, Ok}
use Rattle.xdr_writer.specs.Private.Judged.{Judges}
use Rattle.xdr_writer.specs.declared.item.Step.{Step}
use Rattle.xdr_writer.proofs.Pieces.{no_bytes, some_bytes, none_behind, whole_behind, judges_behind}
use Rattle.xdr_writer.proofs.judging.judge_behind.Goals as goal

pub returns-then-is_empty-clause-judges : goal.returns-then-is_empty-clause-judges
returns-then-is_empty-clause-judges c = λ d u h.
    none_behind d c.args.checker.now u c.args.bytes.now c.args.step
    (no_bytes c.args.bytes.now c.is_empty.result c.is_empty.ensures c.if-is_empty.true) h

pub returns-in-More-clause-judges : goal.returns-in-More-clause-judges
returns-in-More-clause-judges c = λ d u h.
    judges_behind d c.args.checker.now u c.args.bytes.now c.judge.new.checker c.judge.result
    (subst (λ (s : Step). Judges d c.args.checker.now u (Ok s)) c.in-More.is h) c.judge.ensures.judges

pub returns-in-Done-clause-judges : goal.returns-in-Done-clause-judges
returns-in-Done-clause-judges c = λ d u h.
    whole_behind d c.args.checker.now u c.args.bytes.now
    (some_bytes c.args.bytes.now c.is_empty.result c.is_empty.ensures c.if-is_empty.false)
    (subst (λ (s : Step). Judges d c.args.checker.now u (Ok s)) c.in-Done.is h)
