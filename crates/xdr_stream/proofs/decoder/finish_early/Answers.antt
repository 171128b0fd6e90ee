use Rattle.std.proofs.Common.{subst, arith}
use Rattle.xdr_stream.specs.Trace.{Trace}
use Rattle.xdr_stream.specs.Frames.{stack_of}
use Rattle.xdr_stream.specs.Values.{Reports}
use Rattle.xdr_stream.specs.Represents.{RepresentsAs}
use Rattle.xdr_stream.specs.declared.reader.State.{State}
use Rattle.xdr_stream.proofs.Finishing.{finish_failed, finish_open, still_open, kind_known}
use Rattle.xdr_stream.proofs.decoder.finish_early.Goals as goal

pub unreachable-requires : goal.unreachable-requires
unreachable-requires c = c.requires.early c.in-Finished.is

pub returns-in-Failed-clause-answer : goal.returns-in-Failed-clause-answer
returns-in-Failed-clause-answer c = λ b st.
    let r = c.args.reader.now in
    finish_failed r.schema.now.kinds r.kind.place r.limits c.in-Failed.fault b
    (subst (λ (x : State). RepresentsAs ⊥ r.schema.now.kinds r.kind.place r.limits (λ (t : Trace). Reports r.built t)
    (stack_of r.work r.parents.items) r.read r.unit r.pending x b) c.in-Failed.is st).0

pub finish_empty-requires : goal.finish_empty-requires
finish_empty-requires c =
    let r = c.args.reader.now in
    kind_known ⊥ r.schema.now.kinds r.kind.place r.limits (λ (t : Trace). Reports r.built t)
    (stack_of r.work r.parents.items) r.read r.unit r.pending r.state c.in-Fresh.is c.requires.given

pub returns-in-Reading-clause-answer : goal.returns-in-Reading-clause-answer
returns-in-Reading-clause-answer c = λ b st.
    let r = c.args.reader.now in
    let o = still_open r.schema.now.kinds r.kind.place r.limits (λ (t : Trace). Reports r.built t)
    (stack_of r.work r.parents.items) r.read r.unit r.pending c.in-Reading.field-0 b
    (subst (λ (x : State). RepresentsAs ⊥ r.schema.now.kinds r.kind.place r.limits (λ (t : Trace). Reports r.built t)
    (stack_of r.work r.parents.items) r.read r.unit r.pending x b) c.in-Reading.is st)
    c.depth-in_range.ensures.range.units in
    finish_open r.schema.now.kinds r.kind.place r.limits c.truncated.result c.saturating_add-at.result b
    c.truncated.ensures
    (omega (
      arith,
      c.saturating_add-at.ensures,
      c.unfinished.ensures.count,
      c.unfinished.ensures.few,
      o.1,
      o.2,
      c.depth-in_range.ensures.range.most_bytes,
    ))
    o.0
