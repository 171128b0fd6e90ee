use Rattle.std.proofs.Common.{◌≡◌, ◌<◌, ◌≤◌, List, length, map, refl, sym, subst, ◌∙◌, arith}
use Rattle.xdr_laws.specs.Owed.{IsSolid}
use Rattle.xdr_types.specs.Kinds as xdr
use Rattle.xdr_types.specs.Kinds.{KindView, Part, kind_at}
use Rattle.xdr_types.specs.Tree as value
use Rattle.xdr_types.specs.KindViews.{kind_view, part_of_member}
use Rattle.xdr_laws.proofs.Nodes.{IsFormedKind}
use Rattle.xdr_laws.proofs.FewNodes.{formed_of}
use Rattle.xdr_stream.specs.Frames.{left_of, onto}
use Rattle.xdr_stream.specs.Sees.{Sees}
use Rattle.xdr_stream.specs.Private.Sound.{AreAllSolid, HasNext}
use Rattle.xdr_stream.specs.Steps.{IsStep}
use Rattle.xdr_stream.specs.declared.machine.step.Step.{Step}
use Rattle.xdr_stream.specs.declared.machine.Awaits.TheVariants.{Next}
use Rattle.xdr_stream.proofs.SeeingNodes.{is_next, code_deep, code_silent, code_free, code_opaque}
use Rattle.xdr_stream.proofs.SeeingNodes.{smaller_fixed, ready_next}
use Rattle.xdr_stream.proofs.Sounding.{first_known, first_solid, solid_known, solid_rest, has_not_none}
use Rattle.xdr_stream.proofs.Sounding.{fields_solid, items_solid}
use Rattle.std.proofs.lemmas.Result.{err_from_is_err_and}
use Rattle.std.proofs.Common.{[]}
use Rattle.xdr_stream.specs.Spared.{TakesNone}
use Rattle.xdr_stream.proofs.Sparing.{seen_root}
use Rattle.xdr_stream.proofs.machine.nodes.begin.Goals as goal

pub unreachable-requires : goal.unreachable-requires
unreachable-requires g c = has_not_none (left_of c.loop-id.work) c.loop-id.invariant.2 c.in_default.ensures

pub kind-requires : goal.kind-requires
kind-requires g c = record {
  has = first_known c.args.schema.now.kinds (left_of c.loop-id.work) c.in-Some.id.place
      (solid_known c.args.schema.now.kinds (left_of c.loop-id.work) c.loop-id.invariant.1.0) c.in-Some.ensures;
}

pub unreachable-requires-in-Void : goal.unreachable-requires-in-Void
unreachable-requires-in-Void g c =
    subst (λ (k : KindView). IsSolid k)
    (sym c.kind.ensures ∙ subst (λ (t : Step). IsStep (kind_view c.kind.result.now) t) c.in-Void.is c.step_of.ensures)
    (first_solid c.args.schema.now.kinds (left_of c.loop-id.work) c.in-Some.id.place c.loop-id.invariant.1.0
    c.in-Some.ensures)

pub returns-then-len-depth-clause-deep : goal.returns-then-len-depth-clause-deep
returns-then-len-depth-clause-deep g c = λ kind q rest h.
    let deep : c.args.limits.depth ≤ length c.loop-id.parents.items =
    omega (arith, c.if-len-depth.true, c.len.ensures, c.depth.ensures.value) in
    code_deep c.args.schema.now.kinds kind c.args.limits (g.B.Build.reports c.loop-id.built)
    (g.B.Build.reports c.loop-id.built) c.loop-id.work c.loop-id.parents.items q c.in-Some.id.place rest
    c.in-Some.ensures deep (c.loop-id.invariant.0 kind q h)

pub returns-then-len-depth-clause-solid : goal.returns-then-len-depth-clause-solid
returns-then-len-depth-clause-solid g c = c.loop-id.invariant.1

pub returns-in-Unit-clause-solid : goal.returns-in-Unit-clause-solid
returns-in-Unit-clause-solid g c = c.loop-id.invariant.1

pub returns-in-Unit-clause-ready : goal.returns-in-Unit-clause-ready
returns-in-Unit-clause-ready g c =
    let shallow : length c.loop-id.parents.items < c.args.limits.depth =
    omega (arith, c.if-len-depth.false, c.len.ensures, c.depth.ensures.value) in
    let n = is_next c.args.schema.now.kinds c.args.limits c.loop-id.work c.loop-id.parents.items c.in-Some.id.place
    (kind_view c.kind.result.now) c.in-Some.ensures c.kind.ensures shallow in
    ready_next c.args.schema.now.kinds c.args.limits c.loop-id.work c.loop-id.parents.items
    (kind_view c.kind.result.now) n
    (subst (λ (t : Step). IsStep (kind_view c.kind.result.now) t) c.in-Unit.is c.step_of.ensures)

pub loop-id-preserved-in-Continue-1 : goal.loop-id-preserved-in-Continue-1
loop-id-preserved-in-Continue-1 g c =
    let s : List KindView = c.args.schema.now.kinds in
    let shallow : length c.loop-id.parents.items < c.args.limits.depth =
    omega (arith, c.if-len-depth.false, c.len.ensures, c.depth.ensures.value) in
    let ps : List Part = map part_of_member c.in-Fields.fields.now in
    let is : xdr.structure ps ≡ kind_at s c.in-Some.id.place =
    sym (subst (λ (t : Step). IsStep (kind_view c.kind.result.now) t) c.in-Fields.is c.step_of.ensures)
    ∙ c.kind.ensures in
    let n = is_next s c.args.limits c.loop-id.work c.loop-id.parents.items c.in-Some.id.place
    (xdr.structure ps) c.in-Some.ensures is shallow in
    let within = first_known s (left_of c.loop-id.work) c.in-Some.id.place
    (solid_known s (left_of c.loop-id.work) c.loop-id.invariant.1.0) c.in-Some.ensures in
    let inner = fields_solid s c.in-Some.id.place ps c.len-known.ensures.known within
    (formed_of c.args.schema.now c.len-known.ensures.well_formed c.in-Some.id.place) is in
    let stack = c.in_ok-open-in-Fields.ensures.stack in (
      (λ kind q h.
          subst (λ (fs : List (List Part)). Sees s kind c.args.limits (g.B.Build.reports c.«open».new.built) Next fs q)
          (sym stack)
          (code_silent s kind c.args.limits (g.B.Build.reports c.loop-id.built)
          (g.B.Build.reports c.«open».new.built) c.loop-id.work c.loop-id.parents.items q
          (xdr.structure ps) value.fields n tt tt refl refl
          c.in_ok-open-in-Fields.ensures.reported (c.loop-id.invariant.0 kind q h))),
      subst (λ (fs : List (List Part)). AreAllSolid s fs) (sym stack)
          (inner.0, (solid_rest s (left_of c.loop-id.work) c.loop-id.invariant.1.0, c.loop-id.invariant.1.1)),
      subst (λ (qs : List Part). HasNext qs) (sym c.in_ok-open-in-Fields.ensures.work) inner.1,
    )

pub loop-id-smaller : goal.loop-id-smaller
loop-id-smaller g c =
    let s : List KindView = c.args.schema.now.kinds in
    let is : xdr.fixed c.in-Items.item.place c.in-Items.size ≡ kind_at s c.in-Some.id.place =
    sym (subst (λ (t : Step). IsStep (kind_view c.kind.result.now) t) c.in-Items.is c.step_of.ensures)
    ∙ c.kind.ensures in
    let within = first_known s (left_of c.loop-id.work) c.in-Some.id.place
    (solid_known s (left_of c.loop-id.work) c.loop-id.invariant.1.0) c.in-Some.ensures in
    smaller_fixed s (left_of c.loop-id.work)
    (left_of c.open-in-Items.new.work) c.in-Some.id.place c.in-Items.item.place c.in-Items.size _ _
    c.len-known.ensures.higher within is c.in-Some.ensures
    c.in_ok-open-in-Items.ensures.stack

pub loop-id-preserved : goal.loop-id-preserved
loop-id-preserved g c =
    let s : List KindView = c.args.schema.now.kinds in
    let shallow : length c.loop-id.parents.items < c.args.limits.depth =
    omega (arith, c.if-len-depth.false, c.len.ensures, c.depth.ensures.value) in
    let f : KindView = xdr.fixed c.in-Items.item.place c.in-Items.size in
    let is : f ≡ kind_at s c.in-Some.id.place =
    sym (subst (λ (t : Step). IsStep (kind_view c.kind.result.now) t) c.in-Items.is c.step_of.ensures)
    ∙ c.kind.ensures in
    let n = is_next s c.args.limits c.loop-id.work c.loop-id.parents.items c.in-Some.id.place f c.in-Some.ensures is
    shallow in
    let within = first_known s (left_of c.loop-id.work) c.in-Some.id.place
    (solid_known s (left_of c.loop-id.work) c.loop-id.invariant.1.0) c.in-Some.ensures in
    let inner = items_solid s c.in-Some.id.place c.in-Items.item.place c.in-Items.size c.len-known.ensures.known within
    (formed_of c.args.schema.now c.len-known.ensures.well_formed c.in-Some.id.place) is in
    let stack = c.in_ok-open-in-Items.ensures.stack in (
      (λ kind q h.
          subst (λ (fs : List (List Part)). Sees s kind c.args.limits (g.B.Build.reports c.open-in-Items.new.built)
          Next fs q) (sym stack)
          (code_silent s kind c.args.limits (g.B.Build.reports c.loop-id.built)
          (g.B.Build.reports c.open-in-Items.new.built) c.loop-id.work c.loop-id.parents.items q f
          (value.items c.in-Items.size) n tt tt refl refl
          c.in_ok-open-in-Items.ensures.reported (c.loop-id.invariant.0 kind q h))),
      subst (λ (fs : List (List Part)). AreAllSolid s fs) (sym stack)
          (inner.0, (solid_rest s (left_of c.loop-id.work) c.loop-id.invariant.1.0, c.loop-id.invariant.1.1)),
      subst (λ (qs : List Part). HasNext qs) (sym c.in_ok-open-in-Items.ensures.work) inner.1,
    )

pub returns-in-Wide-clause-follows : goal.returns-in-Wide-clause-follows
returns-in-Wide-clause-follows g c = λ kind q h.
    let s : List KindView = c.args.schema.now.kinds in
    let shallow : length c.loop-id.parents.items < c.args.limits.depth =
    omega (arith, c.if-len-depth.false, c.len.ensures, c.depth.ensures.value) in
    let n = is_next s c.args.limits c.loop-id.work c.loop-id.parents.items c.in-Some.id.place
    (kind_view c.kind.result.now) c.in-Some.ensures c.kind.ensures shallow in
    rw c.after.ensures (code_free s kind c.args.limits (g.B.Build.reports c.loop-id.built)
    (g.B.Build.reports c.loop-id.built) c.loop-id.work c.loop-id.parents.items q (kind_view c.kind.result.now)
    c.in-Wide.signed (subst (λ (t : Step). IsStep (kind_view c.kind.result.now) t) c.in-Wide.is c.step_of.ensures)
    n (c.loop-id.invariant.0 kind q h))

pub returns-in-Content-clause-follows : goal.returns-in-Content-clause-follows
returns-in-Content-clause-follows g c = λ kind q h.
    let s : List KindView = c.args.schema.now.kinds in
    let shallow : length c.loop-id.parents.items < c.args.limits.depth =
    omega (arith, c.if-len-depth.false, c.len.ensures, c.depth.ensures.value) in
    let is : xdr.opaque c.in-Content.size ≡ kind_at s c.in-Some.id.place =
    sym (subst (λ (t : Step). IsStep (kind_view c.kind.result.now) t) c.in-Content.is c.step_of.ensures)
    ∙ c.kind.ensures in
    let n = is_next s c.args.limits c.loop-id.work c.loop-id.parents.items c.in-Some.id.place
    (xdr.opaque c.in-Content.size) c.in-Some.ensures is shallow in
    rw c.after-in-Content.ensures (code_opaque s kind c.args.limits (g.B.Build.reports c.loop-id.built)
    (g.B.Build.reports c.loop-id.built) c.loop-id.work c.loop-id.parents.items q c.in-Content.size n
    (c.loop-id.invariant.0 kind q h))

pub returns-in-Content-clause-ready : goal.returns-in-Content-clause-ready
returns-in-Content-clause-ready g c =
    let s : List KindView = c.args.schema.now.kinds in
    let is : kind_at s c.in-Some.id.place ≡ xdr.opaque c.in-Content.size =
    sym c.kind.ensures
    ∙ subst (λ (t : Step). IsStep (kind_view c.kind.result.now) t) c.in-Content.is c.step_of.ensures in
    subst (λ (k : KindView). IsFormedKind s k) is
    (formed_of c.args.schema.now c.len-known.ensures.well_formed c.in-Some.id.place)

pub returns-in_err-open-in-Fields-clause-spared : goal.returns-in_err-open-in-Fields-clause-spared
returns-in_err-open-in-Fields-clause-spared g c =
    let p = err_from_is_err_and c.from_residual.result c.from_residual.ensures.1 in
    rw (p.1, p.2) (λ kind q h free.
    let s : List KindView = c.args.schema.now.kinds in
    let is : xdr.structure (map part_of_member c.in-Fields.fields.now) ≡ kind_at s c.in-Some.id.place =
    sym (subst (λ (t : Step). IsStep (kind_view c.kind.result.now) t) c.in-Fields.is c.step_of.ensures)
    ∙ c.kind.ensures in
    let root = seen_root g.B.Build.spares s kind free c.args.limits (g.B.Build.reports c.loop-id.built)
    (left_of c.loop-id.work) (onto [] c.loop-id.parents.items) q c.in-Some.id.place c.in-Some.ensures
    (c.loop-id.invariant.0 kind q h) in
    subst (λ (f : KindView). TakesNone g.B.Build.spares f) (sym is) root)

pub returns-in_err-open-in-Items-clause-spared : goal.returns-in_err-open-in-Items-clause-spared
returns-in_err-open-in-Items-clause-spared g c =
    let p = err_from_is_err_and c.from_residual-in_err-open-in-Items.result
    c.from_residual-in_err-open-in-Items.ensures.1 in
    rw (p.1, p.2) (λ kind q h free.
    let s : List KindView = c.args.schema.now.kinds in
    let is : xdr.fixed c.in-Items.item.place c.in-Items.size ≡ kind_at s c.in-Some.id.place =
    sym (subst (λ (t : Step). IsStep (kind_view c.kind.result.now) t) c.in-Items.is c.step_of.ensures)
    ∙ c.kind.ensures in
    let root = seen_root g.B.Build.spares s kind free c.args.limits (g.B.Build.reports c.loop-id.built)
    (left_of c.loop-id.work) (onto [] c.loop-id.parents.items) q c.in-Some.id.place c.in-Some.ensures
    (c.loop-id.invariant.0 kind q h) in
    subst (λ (f : KindView). TakesNone g.B.Build.spares f) (sym is) root)
