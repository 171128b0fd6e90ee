use Rattle.std.proofs.Common.{◌+◌, ◌∙◌, ap, sym, subst, Option}
use Rattle.std.specs.Prelude.{slice_get, replicate}
use Rattle.xdr_types.specs.Fits.{item_part}
use Rattle.xdr_types.specs.KindViews.{kind_view}
use Rattle.xdr_types.specs.Tree.{Values}
use Rattle.xdr_types.specs.declared.kind.Kind.{Kind}
use Rattle.xdr_paths.specs.Nodes.{Node, nodes, inside, step_to, to_item}
use Rattle.xdr_paths.specs.Private.Standing.{Spells, StandsAt, Finds}
use Rattle.xdr_paths.specs.declared.spot.Spot.{Spot}
use Rattle.xdr_paths.proofs.Named.{unit_there, fixed_at, up_to_at}
use Rattle.xdr_paths.proofs.Outcomes.{on_ok}
use Rattle.xdr_paths.proofs.look.Look.item.Goals as goal

pub counted-requires : goal.counted-requires
counted-requires c =
    let f = fixed_at c.args.self.now.schema.now.kinds c.args.self.now.limits c.args.self.now.bytes.now
    c.args.spot.now c.requires.0 c.requires.1 c.in-Fixed.item.place c.in-Fixed.size
    (ap (λ (k : Kind). kind_view k) (sym c.in-Fixed.is) ∙ c.kind.ensures) in
    (c.args.spot.now.depth + 1, c.requires.0.inner, f.0)

pub unit_at-size-requires : goal.unit_at-size-requires
unit_at-size-requires c =
    unit_there c.args.self.now.schema.now.kinds c.args.self.now.limits c.args.self.now.bytes.now c.args.spot.now
    c.requires.0 c.requires.1 _ (ap (λ (k : Kind). kind_view k) (sym c.in-UpTo.is) ∙ c.kind.ensures) tt

pub counted-requires-in-UpTo : goal.counted-requires-in-UpTo
counted-requires-in-UpTo c =
    let f = up_to_at c.args.self.now.schema.now.kinds c.args.self.now.limits c.args.self.now.bytes.now
    c.args.spot.now c.requires.0 c.requires.1 c.in-UpTo.item.place c.in-UpTo.max c.unit_at-size.result
    (ap (λ (k : Kind). kind_view k) (sym c.in-UpTo.is) ∙ c.kind.ensures) c.unit_at-size.type_inv
    c.unit_at-size.ensures in
    (c.args.spot.now.depth + 1, c.requires.0.inner, f.0)

pub returns-in-Fixed : goal.returns-in-Fixed
returns-in-Fixed c =
    let kinds = c.args.self.now.schema.now.kinds in
    let l = c.args.self.now.limits in
    let bytes = c.args.self.now.bytes.now in
    let s = c.args.spot.now in
    let size = c.in-Fixed.size in
    let item = c.in-Fixed.item.place in
    on_ok c.counted.result
    (λ (found : Option Spot). (vs : Values)
    → Spells kinds l bytes s.at (s.depth + 1) (replicate size (item_part item)) vs
    → Finds kinds l bytes found
    (slice_get (nodes kinds s.at (s.depth + 1) (replicate size (item_part item)) vs) c.args.index))
    (λ (found : Option Spot). (n : Node) → StandsAt kinds l bytes s n
    → Finds kinds l bytes found (step_to n.head (inside kinds n) (to_item c.args.index)))
    (λ found h n st.
    let f = fixed_at kinds l bytes s n st item size
    (ap (λ (k : Kind). kind_view k) (sym c.in-Fixed.is) ∙ c.kind.ensures) in
    subst (λ (o : Option Node). Finds kinds l bytes found o) (sym (f.1 c.args.index)) (h n.inner f.0))
    c.counted.ensures

pub returns-in-UpTo : goal.returns-in-UpTo
returns-in-UpTo c =
    let kinds = c.args.self.now.schema.now.kinds in
    let l = c.args.self.now.limits in
    let bytes = c.args.self.now.bytes.now in
    let s = c.args.spot.now in
    let x = c.unit_at-size.result in
    let item = c.in-UpTo.item.place in
    on_ok c.counted-in-UpTo.result
    (λ (found : Option Spot). (vs : Values)
    → Spells kinds l bytes (s.at + 4) (s.depth + 1) (replicate x (item_part item)) vs
    → Finds kinds l bytes found
    (slice_get (nodes kinds (s.at + 4) (s.depth + 1) (replicate x (item_part item)) vs) c.args.index))
    (λ (found : Option Spot). (n : Node) → StandsAt kinds l bytes s n
    → Finds kinds l bytes found (step_to n.head (inside kinds n) (to_item c.args.index)))
    (λ found h n st.
    let f = up_to_at kinds l bytes s n st item c.in-UpTo.max x
    (ap (λ (k : Kind). kind_view k) (sym c.in-UpTo.is) ∙ c.kind.ensures) c.unit_at-size.type_inv
    c.unit_at-size.ensures in
    subst (λ (o : Option Node). Finds kinds l bytes found o) (sym (f.1 c.args.index)) (h n.inner f.0))
    c.counted-in-UpTo.ensures
