use Rattle.std.proofs.Common.{[], refl, subst, Ok}
use Rattle.xdr_stream.specs.Represents.{Answers}
use Rattle.xdr_stream.specs.declared.reader.Progress.{Progress}
use Rattle.xdr_parts.proofs.Judging.{done, more, failed}
use Rattle.oncrpc_messages.proofs.judge.outcome_of.Goals as goal

pub returns-in-Ok-Done-clause-whole : goal.returns-in-Ok-Done-clause-whole
returns-in-Ok-Done-clause-whole c =
    let r = c.check-reader.result in
    done c.args.schema.now c.args.kind c.args.limits r c.check-reader.ensures.settings c.args.input.now
    c.in-Ok-Done.used
    (subst (λ (p : Progress). Answers r.schema.now.kinds r.kind.place r.limits [] c.args.input.now (Ok p))
    c.in-Ok-Done.field-0-is (c.in-Ok-Done.ensures.answer [] c.check-reader.ensures.represents))

pub returns-in-Ok-More-clause-fault : goal.returns-in-Ok-More-clause-fault
returns-in-Ok-More-clause-fault c =
    let r = c.check-reader.result in
    let pending = more c.args.schema.now c.args.kind c.args.limits r c.check-reader.ensures.settings c.args.input.now
    (subst (λ (p : Progress). Answers r.schema.now.kinds r.kind.place r.limits [] c.args.input.now (Ok p))
    c.in-Ok-More.field-0-is (c.in-Ok-More.ensures.answer [] c.check-reader.ensures.represents)) in
    (λ cut. (pending, refl), λ other. absurd (other refl))

pub returns-clause-fault : goal.returns-clause-fault
returns-clause-fault c =
    failed c.args.schema.now c.args.kind c.args.limits c.check-reader.result c.check-reader.ensures.settings
    c.args.input.now c.in-Err.fault (c.in-Err.ensures.answer [] c.check-reader.ensures.represents)
