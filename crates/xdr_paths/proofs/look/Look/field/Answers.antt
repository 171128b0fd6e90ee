use Rattle.std.proofs.Common.{sym, ◌∙◌, refl}
use Rattle.xdr_paths.proofs.Marks.{no_elements}
use Rattle.xdr_paths.proofs.Named.{field_left, field_passed, field_found, no_field}
use Rattle.xdr_paths.proofs.look.Look.field.Goals as goal

pub loop-field-init : goal.loop-field-init
loop-field-init c = λ vs s. (vs, s, refl)

pub returns-then-is_named : goal.returns-then-is_named
returns-then-is_named c =
    λ vs s. field_found c.args.self.now.schema.now.kinds c.args.self.now.limits c.args.self.now.bytes.now
    c.args.depth c.args.name.now c.args.fields.now c.args.at c.loop-field.left.now c.loop-field.place
    c.loop-field.invariant c.in-Some.field.now c.in-Some.others.now c.spot_of.result c.in-Some.ensures.cases.0
    (sym c.is_named.ensures ∙ c.if-is_named.true) c.spot_of.ensures.at c.spot_of.ensures.depth
    c.spot_of.ensures.kind c.spot_of.ensures.name vs s

pub end_of-requires : goal.end_of-requires
end_of-requires c =
    field_left c.args.self.now.schema.now.kinds c.args.self.now.limits c.args.self.now.bytes.now
    c.args.depth c.args.name.now c.args.fields.now c.args.at c.loop-field.left.now c.loop-field.place
    c.loop-field.invariant c.in-Some.field.now c.in-Some.others.now c.in-Some.ensures.cases.0 c.requires

pub loop-field-preserved : goal.loop-field-preserved
loop-field-preserved c =
    field_passed c.args.self.now.schema.now.kinds c.args.self.now.limits c.args.self.now.bytes.now
    c.args.depth c.args.name.now c.args.fields.now c.args.at c.loop-field.left.now c.loop-field.place
    c.loop-field.invariant c.in-Some.field.now c.in-Some.others.now c.in_ok-place.place c.in-Some.ensures.cases.0
    (sym c.is_named.ensures ∙ c.if-is_named.false) c.in_ok-place.ensures

pub returns : goal.returns
returns c =
    no_field c.args.self.now.schema.now.kinds c.args.self.now.limits c.args.self.now.bytes.now
    c.args.depth c.args.name.now c.args.fields.now c.args.at c.loop-field.left.now c.loop-field.place
    c.loop-field.invariant (no_elements c.loop-field.left.now c.in_default.ensures.cases)
