use Rattle.std.proofs.lemmas.Bool.{false≢true}
use Rattle.std.proofs.Common.{◌<◌, ◌≤◌, length, sym, ap, ◌∙◌, arith}
use Rattle.xdr_types.specs.Kinds as xdr
use Rattle.xdr_types.specs.KindViews.{kind_view}
use Rattle.xdr_stream.specs.Frames.{left_of, stack_of}
use Rattle.xdr_stream.specs.Trace.{Trace}
use Rattle.xdr_stream.specs.Private.Reported.{HasSpace}
use Rattle.xdr_stream.proofs.BuiltContent.{With}
use Rattle.xdr_stream.proofs.SeeingNodes.{is_next, code_deep, code_void, space_next}
use Rattle.xdr_stream.proofs.Sounding.{first_known}
use Rattle.std.proofs.lemmas.Result.{err_from_is_err_and}
use Rattle.xdr_stream.specs.declared.machine.Awaits.TheVariants.{Next}
use Rattle.xdr_stream.proofs.Sparing.{seen_alone}
use Rattle.xdr_stream.proofs.machine.nodes.pass_void.Goals as goal

pub kind-requires : goal.kind-requires
kind-requires g c = record {
  has = first_known c.args.schema.now.kinds (left_of c.args.work.now) c.in-Some.id.place c.requires.0 c.in-Some.ensures;
}

pub returns-then-len-depth-clause-deep : goal.returns-then-len-depth-clause-deep
returns-then-len-depth-clause-deep g c = λ kind q rest h.
    let deep : c.args.limits.depth ≤ length c.args.parents.now.items =
    omega (arith, c.if-len-depth.true, c.len.ensures, c.depth.ensures.value) in
    code_deep c.args.schema.now.kinds kind c.args.limits (g.B.Build.reports c.args.built.now)
    (g.B.Build.reports c.args.built.now) c.args.work.now c.args.parents.now.items q c.in-Some.id.place rest
    c.in-Some.ensures deep h

pub returns-in_ok-leaf-clause-follows : goal.returns-in_ok-leaf-clause-follows
returns-in_ok-leaf-clause-follows g c = λ kind q h.
    let shallow : length c.args.parents.now.items < c.args.limits.depth =
    omega (arith, c.if-len-depth.false, c.len.ensures, c.depth.ensures.value) in
    let is = sym (ap kind_view c.in-Nothing.is) ∙ c.kind.ensures in
    let n = is_next c.args.schema.now.kinds c.args.limits c.args.work.now c.args.parents.now.items c.in-Some.id.place
    xdr.nothing c.in-Some.ensures is shallow in
    let H : Trace → Type 0 = g.B.Build.reports c.args.built.now in
    rw c.after.ensures (code_void c.args.schema.now.kinds kind c.args.limits (With H HasSpace)
    (g.B.Build.reports c.leaf.new.self) c.args.work.now c.args.parents.now.items q n
    (λ a reported. c.in_ok-leaf.ensures.reported a reported.0 reported.1)
    (space_next c.args.schema.now.kinds kind c.args.limits H c.args.work.now c.args.parents.now.items q xdr.nothing n
    h))

pub returns-in_err-leaf-clause-spared : goal.returns-in_err-leaf-clause-spared
returns-in_err-leaf-clause-spared g c =
    let p = err_from_is_err_and c.from_residual.result c.from_residual.ensures.1 in
    rw (p.1, p.2) (λ kind q h free.
    let a = seen_alone g.B.Build.spares c.args.schema.now.kinds kind free c.args.limits (g.B.Build.reports
    c.args.built.now)
    Next (stack_of c.args.work.now c.args.parents.now.items) q h in
    false≢true (c.in_err-leaf.ensures.granted a.0 a.1 a.2))
