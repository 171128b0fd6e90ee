use Rattle.std.proofs.Common.{◌+◌, ◌∙◌, sym, subst, refl, arith, []}
use Rattle.xdr_types.specs.KindViews.{kind_view}
use Rattle.xdr_paths.specs.Nodes.{Node}
use Rattle.xdr_paths.specs.Private.Standing.{StandsAt}
use Rattle.xdr_paths.specs.declared.spot.Spot.{Spot}
use Rattle.xdr_paths.proofs.Named.{known_at, shallow_at, unit_there}
use Rattle.xdr_paths.proofs.Optional.{other_settled, absent_settled, present_settled}
use Rattle.xdr_paths.proofs.look.Look.settled.Goals as goal

pub kind-requires : goal.kind-requires
kind-requires c =
    let i = c.loop-item.invariant c.requires.0 c.requires.1 in
    record {
      has = known_at c.args.self.now.schema.now.kinds c.args.self.now.limits c.args.self.now.bytes.now
          c.loop-item.place i.0 i.1;
    }

pub returns-in_default : goal.returns-in_default
returns-in_default c =
    λ n st.
    let kinds = c.args.self.now.schema.now.kinds in
    let l = c.args.self.now.limits in
    let bytes = c.args.self.now.bytes.now in
    let i = c.loop-item.invariant n st in
    subst (λ (m : Node). StandsAt kinds l bytes c.loop-item.place m)
    (sym (other_settled kinds l bytes c.loop-item.place i.0 i.1 (kind_view c.kind.result.now) c.kind.ensures
    c.in_default.ensures) ∙ i.2) i.1

pub unit_at-requires : goal.unit_at-requires
unit_at-requires c =
    let i = c.loop-item.invariant c.requires.0 c.requires.1 in
    unit_there c.args.self.now.schema.now.kinds c.args.self.now.limits c.args.self.now.bytes.now c.loop-item.place
    i.0 i.1 _ (c.in-Some.ensures ∙ c.kind.ensures) tt

pub returns-then-unit_at-eq0 : goal.returns-then-unit_at-eq0
returns-then-unit_at-eq0 c =
    λ n st.
    let kinds = c.args.self.now.schema.now.kinds in
    let l = c.args.self.now.limits in
    let bytes = c.args.self.now.bytes.now in
    let i = c.loop-item.invariant n st in
    subst (λ (m : Node). StandsAt kinds l bytes c.loop-item.place m)
    (sym (absent_settled kinds l bytes c.loop-item.place i.0 i.1 c.in-Some.item.place c.unit_at.result
    (c.in-Some.ensures ∙ c.kind.ensures) c.unit_at.type_inv c.unit_at.ensures c.if-unit_at-eq0.true) ∙ i.2) i.1

pub overflow_add-place-in-loop-item : goal.overflow_add-place-in-loop-item
overflow_add-place-in-loop-item c =
    let i = c.loop-item.invariant c.requires.0 c.requires.1 in
    let deep = shallow_at c.args.self.now.schema.now.kinds c.args.self.now.limits c.args.self.now.bytes.now
    c.loop-item.place i.0 i.1 in
    omega (arith, deep, c.depth-in_range.ensures.range.most_depth)

pub loop-item-smaller : goal.loop-item-smaller
loop-item-smaller c =
    let i = c.loop-item.invariant c.requires.0 c.requires.1 in
    let long = unit_there c.args.self.now.schema.now.kinds c.args.self.now.limits c.args.self.now.bytes.now
    c.loop-item.place i.0 i.1 _ (c.in-Some.ensures ∙ c.kind.ensures) tt in
    omega (arith, long)

pub loop-item-preserved : goal.loop-item-preserved
loop-item-preserved c =
    λ n st.
    let kinds = c.args.self.now.schema.now.kinds in
    let s = c.loop-item.place in
    let i = c.loop-item.invariant n st in
    let f : Spot = record {
      at = s.at + 4;
      depth = s.depth + 1;
      kind = c.in-Some.item;
      name = record { ref_ptr = (0, 0); now = [] };
    } in
    let p = present_settled kinds c.args.self.now.limits c.args.self.now.bytes.now s i.0 i.1 c.in-Some.item.place
    c.unit_at.result (c.in-Some.ensures ∙ c.kind.ensures) c.unit_at.type_inv c.unit_at.ensures
    c.if-unit_at-eq0.false f refl refl refl refl in
    (p.0, (record { place = p.1.0.place; depth = p.1.0.depth; kind = p.1.0.kind; name = p.1.0.name }, p.1.1), p.2 ∙ i.2)
