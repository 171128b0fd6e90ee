use Rattle.std.proofs.Common.{◌≡◌, ℕ, List, [], sym, subst}
use Rattle.xdr_parts.specs.Lent.{entry_of}
use Rattle.xdr_paths.specs.Nodes.{Node, settled}
use Rattle.xdr_paths.specs.Private.Standing.{PathLeadsTo, TextLeadsTo, StandsAt, HasPart}
use Rattle.xdr_paths.specs.Private.Steps.{step_of}
use Rattle.xdr_paths.proofs.Following.{path_stops, path_misses, path_into, path_back, path_ends}
use Rattle.xdr_paths.proofs.Marks.{not_empty, is_empty}
use Rattle.xdr_paths.proofs.Outcomes.{on_ok, has_part, found_at, none_found}
use Rattle.xdr_paths.proofs.look.Look.at_path.Goals as goal

pub returns-then-is_empty : goal.returns-then-is_empty
returns-then-is_empty c =
    λ n st.
    let kinds = c.args.self.now.schema.now.kinds in
    let none : c.args.path.now ≡ [] =
    is_empty c.args.path.now c.is_empty.result c.is_empty.ensures c.if-is_empty.true in (
      subst (λ (t : List ℕ). PathLeadsTo kinds n t (entry_of c.part.result)) (sym none)
          (path_ends kinds n (entry_of c.part.result) (c.part.ensures.own n st)),
      c.part.ensures.lent,
    )

pub returns-in_default : goal.returns-in_default
returns-in_default c =
    λ n st e t.
    path_stops c.args.self.now.schema.now.kinds n c.args.path.now
    (not_empty c.args.path.now c.is_empty.result c.is_empty.ensures c.if-is_empty.false) c.in_default.ensures.only e t

pub returns-in_default-2 : goal.returns-in_default-2
returns-in_default-2 c =
    λ n st e t.
    path_misses c.args.self.now.schema.now.kinds n c.args.path.now
    (not_empty c.args.path.now c.is_empty.result c.is_empty.ensures c.if-is_empty.false)
    (step_of c.in-Some.step) c.in-Some.rest.now c.in-Some.ensures.only
    (none_found c.args.self.now.schema.now.kinds c.args.self.now.limits c.args.self.now.bytes.now
    c.in_ok-inner.field-0 _ c.in_default-2.is
    (c.in_ok-inner.ensures n st)) e t

pub along-requires : goal.along-requires
along-requires c =
    let f = found_at c.args.self.now.schema.now.kinds c.args.self.now.limits c.args.self.now.bytes.now
    c.in_ok-inner.field-0 _ c.in-Some-2.inner c.in-Some-2.is (c.in_ok-inner.ensures c.requires.0 c.requires.1) in
    (settled c.args.self.now.schema.now.kinds f.0, c.settled.ensures f.0 (f.2, f.3))

pub returns : goal.returns
returns c =
    let kinds = c.args.self.now.schema.now.kinds in
    let l = c.args.self.now.limits in
    let bytes = c.args.self.now.bytes.now in
    on_ok c.along.result
    (λ found. (n : Node) → StandsAt kinds l bytes c.settled.result n
    → HasPart bytes found (TextLeadsTo kinds n c.in-Some.rest.now))
    (λ found. (n : Node) → StandsAt kinds l bytes c.args.spot n
    → HasPart bytes found (PathLeadsTo kinds n c.args.path.now))
    (λ found h n st.
    let f = found_at c.args.self.now.schema.now.kinds c.args.self.now.limits c.args.self.now.bytes.now
    c.in_ok-inner.field-0 _ c.in-Some-2.inner c.in-Some-2.is (c.in_ok-inner.ensures n st) in
    let some = not_empty c.args.path.now c.is_empty.result c.is_empty.ensures c.if-is_empty.false in
    has_part bytes found (TextLeadsTo kinds (settled kinds f.0) c.in-Some.rest.now)
    (PathLeadsTo kinds n c.args.path.now)
    (λ e t. path_back kinds n c.args.path.now some (step_of c.in-Some.step) c.in-Some.rest.now f.0 f.1
    c.in-Some.ensures.found.0 c.in-Some.ensures.found.1 e t)
    (λ e t. path_into kinds n c.args.path.now some (step_of c.in-Some.step) c.in-Some.rest.now f.0 f.1
    c.in-Some.ensures.only e t)
    (h (settled kinds f.0) (c.settled.ensures f.0 (f.2, f.3))))
    c.along.ensures
