use Rattle.std.proofs.Common.{◌≡◌, ◌+◌, ◌∙◌, ap, sym, subst, refl, List, Option, map}
use Rattle.xdr_types.specs.Kinds.{KindView, Part, structure}
use Rattle.xdr_types.specs.KindViews.{kind_view, part_of_member}
use Rattle.xdr_types.specs.Tree.{Values}
use Rattle.xdr_types.specs.declared.kind.Kind.{Kind}
use Rattle.xdr_types.specs.declared.kind.Member.{Member}
use Rattle.xdr_paths.specs.Nodes.{Node, nodes, inside, node_named, step_to, to_field}
use Rattle.xdr_paths.specs.Private.Standing.{Spells, StandsAt, Finds, IsChoice}
use Rattle.xdr_paths.specs.declared.spot.Spot.{Spot}
use Rattle.xdr_paths.proofs.Named.{structure_at}
use Rattle.xdr_paths.proofs.Outcomes.{on_ok}
use Rattle.xdr_paths.proofs.look.Look.named.Goals as goal

pub field-requires : goal.field-requires
field-requires c =
    let same : c.deref.result.now ≡ c.in-Structure.fields.items = cc in
    let f = structure_at c.args.self.now.schema.now.kinds c.args.self.now.limits c.args.self.now.bytes.now
    c.args.spot.now c.requires.0 c.requires.1 (map part_of_member c.deref.result.now)
    (ap (λ (ms : List Member). structure (map part_of_member ms)) same
    ∙ (ap (λ (k : Kind). kind_view k) (sym c.in-Structure.is) ∙ c.kind.ensures)) in
    (c.requires.0.inner, f.0)

pub arm-requires-clause-choice : goal.arm-requires-clause-choice
arm-requires-clause-choice c =
    subst (λ (k : KindView). IsChoice k c.in-Choice.tag.place)
    (ap (λ (k : Kind). kind_view k) (sym c.in-Choice.is) ∙ c.kind.ensures) refl

pub returns-in-Structure : goal.returns-in-Structure
returns-in-Structure c =
    let kinds = c.args.self.now.schema.now.kinds in
    let l = c.args.self.now.limits in
    let bytes = c.args.self.now.bytes.now in
    let s = c.args.spot.now in
    let same : c.deref.result.now ≡ c.in-Structure.fields.items = cc in
    let ps : List Part = map part_of_member c.deref.result.now in
    on_ok c.field.result
    (λ (found : Option Spot). (vs : Values) → Spells kinds l bytes s.at (s.depth + 1) ps vs
    → Finds kinds l bytes found (node_named c.args.name.now (nodes kinds s.at (s.depth + 1) ps vs)))
    (λ (found : Option Spot). (n : Node) → StandsAt kinds l bytes s n
    → Finds kinds l bytes found (step_to n.head (inside kinds n) (to_field c.args.name.now)))
    (λ found h n st.
    let f = structure_at kinds l bytes s n st ps
    (ap (λ (ms : List Member). structure (map part_of_member ms)) same
    ∙ (ap (λ (k : Kind). kind_view k) (sym c.in-Structure.is) ∙ c.kind.ensures)) in
    subst (λ (o : Option Node). Finds kinds l bytes found o) (sym (f.1 c.args.name.now)) (h n.inner f.0))
    c.field.ensures
