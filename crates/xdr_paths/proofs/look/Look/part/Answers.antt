use Rattle.std.proofs.Common.{ℕ, ◌∙◌, ap, sym, subst, arith}
use Rattle.std.proofs.Math.Nat.{add-zero}
use Rattle.xdr_types.specs.KindViews.{kind_view}
use Rattle.xdr_types.specs.Layout.{Entry, entry}
use Rattle.xdr_parts.specs.Lent.{size_in, role_in}
use Rattle.xdr_paths.specs.Nodes.{IsOwn}
use Rattle.xdr_paths.specs.Private.Own.{part_at}
use Rattle.xdr_paths.proofs.OwnParts.{unit_own, wide_own, content_own, counted_there, counted_own}
use Rattle.xdr_paths.proofs.look.Look.part.Goals as goal

pub lent-requires : goal.lent-requires
lent-requires c =
    let o = unit_own c.args.self.now.schema.now.kinds c.args.self.now.limits c.args.self.now.bytes.now
    c.args.spot.now c.requires.0 c.requires.1 (kind_view c.kind.result.now) c.kind.ensures c.in-Unit.role
    c.in-Unit.ensures in
    omega (arith, o.1)

pub lent-requires-in-Wide : goal.lent-requires-in-Wide
lent-requires-in-Wide c =
    let o = wide_own c.args.self.now.schema.now.kinds c.args.self.now.limits c.args.self.now.bytes.now
    c.args.spot.now c.requires.0 c.requires.1 (kind_view c.kind.result.now) c.kind.ensures c.in-Wide.ensures in
    omega (arith, o.1)

pub lent-requires-in-Content : goal.lent-requires-in-Content
lent-requires-in-Content c =
    let o = content_own c.args.self.now.schema.now.kinds c.args.self.now.limits c.args.self.now.bytes.now
    c.args.spot.now c.requires.0 c.requires.1 (kind_view c.kind.result.now) c.kind.ensures c.in-Content.size
    c.in-Content.ensures in
    omega (arith, o.1)

pub unit_at-size-requires : goal.unit_at-size-requires
unit_at-size-requires c =
    counted_there c.args.self.now.schema.now.kinds c.args.self.now.limits c.args.self.now.bytes.now
    c.args.spot.now c.requires.0 c.requires.1 (kind_view c.kind.result.now) c.kind.ensures c.in-Counted.ensures

pub lent-requires-in-Counted : goal.lent-requires-in-Counted
lent-requires-in-Counted c =
    let o = counted_own c.args.self.now.schema.now.kinds c.args.self.now.limits c.args.self.now.bytes.now
    c.args.spot.now c.requires.0 c.requires.1 (kind_view c.kind.result.now) c.kind.ensures c.unit_at-size.result
    c.in-Counted.ensures c.unit_at-size.type_inv c.unit_at-size.ensures in
    omega (arith, o.1)

pub returns-in-Unit-clause-own : goal.returns-in-Unit-clause-own
returns-in-Unit-clause-own c =
    λ n st.
    let s = c.args.spot.now in
    let role = c.in-Unit.role in
    let o = unit_own c.args.self.now.schema.now.kinds c.args.self.now.limits c.args.self.now.bytes.now
    s n st (kind_view c.kind.result.now) c.kind.ensures role c.in-Unit.ensures in
    subst (λ (e : Entry). IsOwn c.args.self.now.schema.now.kinds n e)
    (sym (c.lent.ensures.entry
    ∙ ap (λ (a : ℕ). entry a (size_in role 4) s.depth (part_at s) (role_in role 4)) (add-zero s.at))) o.0

pub returns-in-Counted-clause-own : goal.returns-in-Counted-clause-own
returns-in-Counted-clause-own c =
    λ n st.
    let o = counted_own c.args.self.now.schema.now.kinds c.args.self.now.limits c.args.self.now.bytes.now
    c.args.spot.now n st (kind_view c.kind.result.now) c.kind.ensures c.unit_at-size.result
    c.in-Counted.ensures c.unit_at-size.type_inv c.unit_at-size.ensures in
    subst (λ (e : Entry). IsOwn c.args.self.now.schema.now.kinds n e) (sym c.lent-in-Counted.ensures.entry) o.0
