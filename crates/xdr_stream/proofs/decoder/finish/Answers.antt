use Rattle.std.proofs.Common.{subst}
use Rattle.xdr_stream.specs.Trace.{Trace}
use Rattle.xdr_stream.specs.Frames.{stack_of}
use Rattle.xdr_stream.specs.Values.{Reports}
use Rattle.xdr_stream.specs.Represents.{RepresentsAs}
use Rattle.xdr_stream.specs.declared.reader.State.{State}
use Rattle.xdr_stream.proofs.Finishing.{root_whole, root_not_none, ruled_out}
use Rattle.xdr_stream.proofs.decoder.finish.Goals as goal

pub returns-in-Finished-clause-answer : goal.returns-in-Finished-clause-answer
returns-in-Finished-clause-answer c = λ b st.
    let r = c.args.reader in
    root_whole r.schema.now.kinds r.kind.place r.limits r.built
    (stack_of r.work r.parents.items) r.read r.unit r.pending b
    (subst (λ (x : State). RepresentsAs ⊥ r.schema.now.kinds r.kind.place r.limits (λ (t : Trace). Reports r.built t)
    (stack_of r.work r.parents.items) r.read r.unit r.pending x b) c.in-Finished.is st) c.in-Some.value
    c.in-Some.ensures

pub unreachable-requires : goal.unreachable-requires
unreachable-requires c =
    let r = c.args.reader in
    ruled_out c.requires.given (λ g. root_not_none r.schema.now.kinds r.kind.place r.limits r.built
    (stack_of r.work r.parents.items) r.read r.unit r.pending g.0
    (subst (λ (x : State). RepresentsAs ⊥ r.schema.now.kinds r.kind.place r.limits (λ (t : Trace). Reports r.built t)
    (stack_of r.work r.parents.items) r.read r.unit r.pending x g.0) c.in-Finished.is g.1) c.in-None.ensures)
