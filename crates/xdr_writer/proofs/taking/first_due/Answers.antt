use Rattle.std.proofs.Common.{[], Ok, subst}
use Rattle.xdr_writer.specs.Private.Judged.{Judges}
use Rattle.xdr_writer.specs.declared.item.Step.{Step}
use Rattle.xdr_writer.proofs.Finding.{first_more, first_done, first_refused}
use Rattle.xdr_writer.proofs.taking.first_due.Goals as goal

pub returns-in-Ok-More-clause-finds : goal.returns-in-Ok-More-clause-finds
returns-in-Ok-More-clause-finds c =
    first_more c.args.checker.now c.judge.new.checker c.due.result
    (subst (λ (s : Step). Judges c.args.checker.now c.judge.new.checker [] (Ok s)) c.in-Ok-More.field-0-is
    c.in-Ok-More.ensures.judges) c.due.ensures.due c.due.ensures.some

pub returns-in-Ok-Done-clause-finds : goal.returns-in-Ok-Done-clause-finds
returns-in-Ok-Done-clause-finds c =
    first_done c.args.checker.now c.judge.new.checker
    (subst (λ (s : Step). Judges c.args.checker.now c.judge.new.checker [] (Ok s)) c.in-Ok-Done.field-0-is
    c.in-Ok-Done.ensures.judges)

pub returns-in-Err-clause-finds : goal.returns-in-Err-clause-finds
returns-in-Err-clause-finds c =
    first_refused c.args.checker.now c.judge.new.checker c.in-Err.why c.in-Err.ensures.judges
