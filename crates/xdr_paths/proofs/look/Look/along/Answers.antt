use Rattle.std.proofs.Common.{◌≡◌, ℕ, List, [], sym, subst}
use Rattle.xdr_parts.specs.Lent.{entry_of}
use Rattle.xdr_paths.specs.Nodes.{settled}
use Rattle.xdr_paths.specs.Private.Standing.{TextLeadsTo}
use Rattle.xdr_paths.specs.Private.Steps.{step_of}
use Rattle.xdr_paths.proofs.Following.{text_stops, text_misses, text_into, text_back, text_ends}
use Rattle.xdr_paths.proofs.Marks.{not_empty, is_empty}
use Rattle.xdr_paths.proofs.Outcomes.{found_at, none_found}
use Rattle.xdr_paths.proofs.look.Look.along.Goals as goal

pub loop-left-init : goal.loop-left-init
loop-left-init c = λ n st. (n, st, λ e t. t, λ e t. t)

pub returns-in_default : goal.returns-in_default
returns-in_default c =
    λ n st e t.
    let i = c.loop-left.invariant n st in
    text_stops c.args.self.now.schema.now.kinds i.0 c.loop-left.left.now
    (not_empty c.loop-left.left.now c.is_empty.result c.is_empty.ensures c.loop-left-test.true)
    c.in_default.ensures.only e (i.2 e t)

pub inside-requires : goal.inside-requires
inside-requires c =
    let i = c.loop-left.invariant c.requires.0 c.requires.1 in
    (i.0, i.1)

pub returns-in_default-2 : goal.returns-in_default-2
returns-in_default-2 c =
    λ n st e t.
    let i = c.loop-left.invariant n st in
    text_misses c.args.self.now.schema.now.kinds i.0 c.loop-left.left.now
    (not_empty c.loop-left.left.now c.is_empty.result c.is_empty.ensures c.loop-left-test.true)
    (step_of c.in-Some.step) c.in-Some.rest.now c.in-Some.ensures.only
    (none_found c.args.self.now.schema.now.kinds c.args.self.now.limits c.args.self.now.bytes.now
    c.in_ok-inner.field-0 _ c.in_default-2.is
    (c.in_ok-inner.ensures i.0 i.1)) e (i.2 e t)

pub loop-left-preserved : goal.loop-left-preserved
loop-left-preserved c =
    λ n st.
    let kinds = c.args.self.now.schema.now.kinds in
    let i = c.loop-left.invariant n st in
    let f = found_at c.args.self.now.schema.now.kinds c.args.self.now.limits c.args.self.now.bytes.now
    c.in_ok-inner.field-0 _ c.in-Some-2.inner c.in-Some-2.is (c.in_ok-inner.ensures i.0 i.1) in
    let some = not_empty c.loop-left.left.now c.is_empty.result c.is_empty.ensures c.loop-left-test.true in (
      settled kinds f.0,
      c.settled-place.ensures f.0 (f.2, f.3),
      λ e t. text_into kinds i.0 c.loop-left.left.now some (step_of c.in-Some.step) c.in-Some.rest.now f.0 f.1
          c.in-Some.ensures.only e (i.2 e t),
      λ e t. i.3 e (text_back kinds i.0 c.loop-left.left.now some (step_of c.in-Some.step) c.in-Some.rest.now f.0 f.1
          c.in-Some.ensures.found.0 c.in-Some.ensures.found.1 e t),
    )

pub part-requires : goal.part-requires
part-requires c =
    let i = c.loop-left.invariant c.requires.0 c.requires.1 in
    (i.0, i.1)

pub returns : goal.returns
returns c =
    λ n st.
    let kinds = c.args.self.now.schema.now.kinds in
    let i = c.loop-left.invariant n st in
    let none : c.loop-left.left.now ≡ [] =
    is_empty c.loop-left.left.now c.is_empty.result c.is_empty.ensures c.loop-left-test.false in (
      i.3 (entry_of c.part.result)
          (subst (λ (t : List ℕ). TextLeadsTo kinds i.0 t (entry_of c.part.result)) (sym none)
          (text_ends kinds i.0 (entry_of c.part.result) (c.part.ensures.own i.0 i.1))),
      c.part.ensures.lent,
    )
