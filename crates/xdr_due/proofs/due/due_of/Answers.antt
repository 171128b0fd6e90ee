use Rattle.std.proofs.Common.{◌≡◌, ℕ, ap, ◌∙◌, []}
use Rattle.std.specs.Prelude.{⊤}
use Rattle.xdr_stream.specs.Frames.{left_of, onto, stack_of}
use Rattle.xdr_stream.specs.Trace.{Trace}
use Rattle.xdr_stream.specs.declared.machine.Awaits.{Awaits}
use Rattle.xdr_stream.specs.declared.machine.Awaits.TheVariants.{Next, Content, Wide, Low}
use Rattle.xdr_stream.specs.declared.reader.State.TheVariants.{Reading}
use Rattle.xdr_due.proofs.Next.{at_reading, node, in_content, in_hyper, in_low, goes_on, pending_is}
use Rattle.xdr_due.proofs.due.due_of.Goals as goal

pub returns-in-Some-clause-due : goal.returns-in-Some-clause-due
returns-in-Some-clause-due c = λ b st.
    let r = c.args.reader.now in
    let is : r.state ≡ Reading Next = c.in-Reading.is ∙ ap (λ (x : Awaits). Reading x) c.in-Next.is in
    let none : r.pending ≡ 0 =
    pending_is r.state Next r.pending c.held_by_checker-held.result.pending is
    (c.held_by_checker-held.ensures.counts b st).pending c.if-held-ne0.false in
    node r.schema.now.kinds r.kind.place r.limits (λ (t : Trace). ⊤) c.in-Some.kind.place (left_of r.work)
    (onto [] r.parents.items) b c.in-Some.ensures
    (at_reading r.schema.now.kinds r.kind.place r.limits ⊤ (λ (t : Trace). ⊤) (stack_of r.work r.parents.items) r.read
    r.unit r.pending r.state Next b is none st)

pub returns-in-Content-clause-due : goal.returns-in-Content-clause-due
returns-in-Content-clause-due c = λ b st.
    let r = c.args.reader.now in
    let n : ℕ = c.in-Content.size in
    let is : r.state ≡ Reading (Content n) =
    c.in-Reading.is ∙ ap (λ (x : Awaits). Reading x) c.in-Content.is in
    let none : r.pending ≡ 0 =
    pending_is r.state (Content n) r.pending c.held_by_checker-held.result.pending is
    (c.held_by_checker-held.ensures.counts b st).pending c.if-held-ne0.false in
    let now = at_reading r.schema.now.kinds r.kind.place r.limits ⊤ (λ (t : Trace). ⊤)
    (stack_of r.work r.parents.items) r.read r.unit r.pending r.state (Content n) b is none st in
    in_content r.schema.now.kinds r.kind.place r.limits (λ (t : Trace). ⊤) (stack_of r.work r.parents.items) b n
    now.1 now.0

pub returns-in-Wide-clause-due : goal.returns-in-Wide-clause-due
returns-in-Wide-clause-due c = λ b st.
    let r = c.args.reader.now in
    let a : Awaits = Wide c.in-Wide.signed in
    let is : r.state ≡ Reading a = c.in-Reading.is ∙ ap (λ (x : Awaits). Reading x) c.in-Wide.is in
    let none : r.pending ≡ 0 =
    pending_is r.state a r.pending c.held_by_checker-held.result.pending is
    (c.held_by_checker-held.ensures.counts b st).pending c.if-held-ne0.false in
    let now = at_reading r.schema.now.kinds r.kind.place r.limits ⊤ (λ (t : Trace). ⊤)
    (stack_of r.work r.parents.items) r.read r.unit r.pending r.state a b is none st in
    in_hyper r.schema.now.kinds r.kind.place r.limits (λ (t : Trace). ⊤) (stack_of r.work r.parents.items) b
    c.in-Wide.signed now.0

pub returns-in-Low-clause-due : goal.returns-in-Low-clause-due
returns-in-Low-clause-due c = λ b st.
    let r = c.args.reader.now in
    let a : Awaits = Low c.in-Low.signed c.in-Low.field-1 in
    let is : r.state ≡ Reading a = c.in-Reading.is ∙ ap (λ (x : Awaits). Reading x) c.in-Low.is in
    let none : r.pending ≡ 0 =
    pending_is r.state a r.pending c.held_by_checker-held.result.pending is
    (c.held_by_checker-held.ensures.counts b st).pending c.if-held-ne0.false in
    let now = at_reading r.schema.now.kinds r.kind.place r.limits ⊤ (λ (t : Trace). ⊤)
    (stack_of r.work r.parents.items) r.read r.unit r.pending r.state a b is none st in
    in_low r.schema.now.kinds r.kind.place r.limits (λ (t : Trace). ⊤) (stack_of r.work r.parents.items) b
    c.in-Low.signed c.in-Low.field-1 now.0

pub returns-then-held-ne0-clause-some : goal.returns-then-held-ne0-clause-some
returns-then-held-ne0-clause-some c = λ b st waits units nothing.
    let r = c.args.reader.now in
    c.if-held-ne0.true (c.held_by_checker-held.ensures.pending b st (goes_on r.state waits) ∙ units)
