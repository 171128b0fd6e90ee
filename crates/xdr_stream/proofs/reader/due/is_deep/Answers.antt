use Rattle.std.proofs.Common.{◌≡◌, List, [], subst, arith}
use Rattle.xdr_types.specs.Kinds.{KindView, kind_at}
use Rattle.xdr_types.specs.Fits.{parts}
use Rattle.xdr_laws.specs.Owed.{lead_of, IsSilent, silent_head}
use Rattle.xdr_laws.proofs.FewNodes.{formed_of}
use Rattle.xdr_stream.specs.Frames.{Begins}
use Rattle.xdr_stream.proofs.Firsts.{due_root, due_first, due_deep, due_pending, known_first, solid_first}
use Rattle.xdr_stream.proofs.reader.due.is_deep.Goals as goal

pub loop-depth-init : goal.loop-depth-init
loop-depth-init c = (
  c.requires.known,
  c.requires.solid,
  due_root c.args.schema.now.kinds c.args.kind.place c.args.limits c.len-known.ensures.valued c.requires.known,
)

pub returns-in_default : goal.returns-in_default
returns-in_default c =
    let i = c.loop-depth.invariant in
    let s : List KindView = c.args.schema.now.kinds in
    let place = c.loop-depth.id.place in
    due_pending s c.args.kind.place c.args.limits place c.loop-depth.depth
    (omega (arith, c.loop-depth-test.true, c.depth.ensures.value))
    (omega (arith, c.depth.ensures.range.least_bytes)) i.1
    (formed_of c.args.schema.now c.len-known.ensures.well_formed place)
    (subst (λ (k : KindView). IsSilent (lead_of k) → parts k (silent_head k) ≡ []) c.kind.ensures c.in_default.ensures)
    i.2

pub loop-depth-preserved : goal.loop-depth-preserved
loop-depth-preserved c =
    let i = c.loop-depth.invariant in
    let s : List KindView = c.args.schema.now.kinds in
    let place = c.loop-depth.id.place in
    let b = subst (λ (k : KindView). IsSilent (lead_of k) × Begins (parts k (silent_head k)) c.in-Some.next.place)
    c.kind.ensures c.in-Some.ensures in (
      known_first s c.args.kind.place c.args.limits place c.in-Some.next.place c.len-known.ensures.known i.0 b.1,
      solid_first s (kind_at s place) c.in-Some.next.place i.1
          (formed_of c.args.schema.now c.len-known.ensures.well_formed place) b.0 b.1,
      due_first s c.args.kind.place c.args.limits place c.loop-depth.depth c.in-Some.next.place
          (omega (arith, c.loop-depth-test.true, c.depth.ensures.value)) b.0 b.1 i.2,
    )

pub returns : goal.returns
returns c =
    due_deep c.args.schema.now.kinds c.args.kind.place c.args.limits c.loop-depth.id.place c.loop-depth.depth
    (omega (arith, c.loop-depth-test.false, c.depth.ensures.value)) c.loop-depth.invariant.2
