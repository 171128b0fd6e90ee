use Rattle.std.proofs.Common.{subst, arith}
use Rattle.std.specs.Prelude.{⊤}
use Rattle.xdr_stream.specs.Trace.{Trace}
use Rattle.xdr_stream.specs.Frames.{stack_of}
use Rattle.xdr_stream.specs.Represents.{RepresentsAs}
use Rattle.xdr_stream.specs.declared.reader.State.{State}
use Rattle.xdr_stream.proofs.Finishing.{finish_failed, finish_open, still_open, kind_known}
use Rattle.xdr_stream.proofs.Counting.{counted_whole}
use Rattle.xdr_stream.proofs.checker.finish_check.Goals as goal

pub returns-in-Failed-clause-answer : goal.returns-in-Failed-clause-answer
returns-in-Failed-clause-answer c = λ b st.
    let r = c.args.reader in
    finish_failed r.schema.now.kinds r.kind.place r.limits c.in-Failed.fault b
    (subst (λ (x : State). RepresentsAs ⊤ r.schema.now.kinds r.kind.place r.limits (λ (t : Trace). ⊤)
    (stack_of r.work r.parents.items) r.read r.unit r.pending x b) c.in-Failed.is st).0

pub returns-in-Finished-clause-answer : goal.returns-in-Finished-clause-answer
returns-in-Finished-clause-answer c = λ b st.
    let r = c.args.reader in
    let w = counted_whole r.schema.now.kinds r.kind.place r.limits (λ (t : Trace). ⊤)
    (stack_of r.work r.parents.items) r.read r.unit r.pending b c.depth-in_range.ensures.range.units
    (subst (λ (x : State). RepresentsAs ⊤ r.schema.now.kinds r.kind.place r.limits (λ (t : Trace). ⊤)
    (stack_of r.work r.parents.items) r.read r.unit r.pending x b) c.in-Finished.is st) in
    (w.0, omega (arith, w.1, w.2, c.depth-in_range.ensures.range.most_bytes))

pub returns-in-Reading-clause-answer : goal.returns-in-Reading-clause-answer
returns-in-Reading-clause-answer c = λ b st.
    let r = c.args.reader in
    let o = still_open r.schema.now.kinds r.kind.place r.limits (λ (t : Trace). ⊤)
    (stack_of r.work r.parents.items) r.read r.unit r.pending c.in-Reading.field-0 b
    (subst (λ (x : State). RepresentsAs ⊤ r.schema.now.kinds r.kind.place r.limits (λ (t : Trace). ⊤)
    (stack_of r.work r.parents.items) r.read r.unit r.pending x b) c.in-Reading.is st)
    c.depth-in_range.ensures.range.units in
    finish_open r.schema.now.kinds r.kind.place r.limits c.truncated.result c.saturating_add-at.result b
    c.truncated.ensures
    (omega (
      arith,
      c.saturating_add-at.ensures,
      c.unfinished.ensures.count,
      c.unfinished.ensures.few,
      o.1,
      o.2,
      c.depth-in_range.ensures.range.most_bytes,
    ))
    o.0

pub count_empty-requires : goal.count_empty-requires
count_empty-requires c =
    let r = c.args.reader in
    kind_known ⊤ r.schema.now.kinds r.kind.place r.limits (λ (t : Trace). ⊤)
    (stack_of r.work r.parents.items) r.read r.unit r.pending r.state c.in-Fresh.is c.requires.given
