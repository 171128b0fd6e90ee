use Rattle.std.proofs.Common.{◌<◌, ◌+◌, ◌^◌, ℕ, length, map, option_map, sym, ap, ◌∙◌, subst}
use Rattle.xdr_units.specs.Numbers.{pad}
use Rattle.xdr_types.specs.Kinds as xdr
use Rattle.xdr_types.specs.Kinds.{KindView, kind_at}
use Rattle.xdr_types.specs.KindViews.{kind_view, constant_of, part_of_member, branch_of}
use Rattle.xdr_bounds.specs.Private.Shapes.{IsShape}
use Rattle.xdr_bounds.specs.declared.shape.Shape.{Shape}
use Rattle.xdr_bounds.specs.declared.shape.Shape.TheVariants as shape
use Rattle.xdr_bounds.proofs.Formed.{at_kind, int_shape, unsigned_shape, hyper_shape, unsigned_hyper_shape}
use Rattle.xdr_bounds.proofs.Formed.{boolean_shape, numbered_shape, nothing_shape, opaque_shape, opaque_up_to_shape}
use Rattle.xdr_bounds.proofs.Formed.{text_shape, fixed_shape, structure_shape, up_to_shape, maybe_shape, choice_shape}
use Rattle.xdr_bounds.proofs.shaping.shape_of.Goals as goal

pub returns-in-Int : goal.returns-in-Int
returns-in-Int c =
    let kinds = c.args.schema.now.kinds in
    let place = c.args.id.place in
    subst (λ (s : Shape). IsShape kinds (kind_at kinds place) s) (sym c.exactly.ensures)
    (at_kind kinds place (kind_view c.kind.result.now) xdr.int _ c.kind.ensures (ap kind_view c.in-Int.is) c.requires
    c.len-valued.ensures.valued (int_shape kinds))

pub returns-in-Unsigned : goal.returns-in-Unsigned
returns-in-Unsigned c =
    let kinds = c.args.schema.now.kinds in
    let place = c.args.id.place in
    subst (λ (s : Shape). IsShape kinds (kind_at kinds place) s) (sym c.exactly-in-Unsigned.ensures)
    (at_kind kinds place (kind_view c.kind.result.now) xdr.unsigned _ c.kind.ensures (ap kind_view c.in-Unsigned.is)
    c.requires
    c.len-valued.ensures.valued (unsigned_shape kinds))

pub returns-in-Hyper : goal.returns-in-Hyper
returns-in-Hyper c =
    let kinds = c.args.schema.now.kinds in
    let place = c.args.id.place in
    subst (λ (s : Shape). IsShape kinds (kind_at kinds place) s) (sym c.exactly-in-Hyper.ensures)
    (at_kind kinds place (kind_view c.kind.result.now) xdr.hyper _ c.kind.ensures (ap kind_view c.in-Hyper.is)
    c.requires
    c.len-valued.ensures.valued (hyper_shape kinds))

pub returns-in-UnsignedHyper : goal.returns-in-UnsignedHyper
returns-in-UnsignedHyper c =
    let kinds = c.args.schema.now.kinds in
    let place = c.args.id.place in
    subst (λ (s : Shape). IsShape kinds (kind_at kinds place) s) (sym c.exactly-in-UnsignedHyper.ensures)
    (at_kind kinds place (kind_view c.kind.result.now) xdr.unsigned_hyper _ c.kind.ensures (ap kind_view
    c.in-UnsignedHyper.is) c.requires
    c.len-valued.ensures.valued (unsigned_hyper_shape kinds))

pub returns-in-Bool : goal.returns-in-Bool
returns-in-Bool c =
    let kinds = c.args.schema.now.kinds in
    let place = c.args.id.place in
    subst (λ (s : Shape). IsShape kinds (kind_at kinds place) s) (sym c.exactly-in-Bool.ensures)
    (at_kind kinds place (kind_view c.kind.result.now) xdr.boolean _ c.kind.ensures (ap kind_view c.in-Bool.is)
    c.requires
    c.len-valued.ensures.valued (boolean_shape kinds))

pub returns-in-Numbered : goal.returns-in-Numbered
returns-in-Numbered c =
    let kinds = c.args.schema.now.kinds in
    let place = c.args.id.place in
    subst (λ (s : Shape). IsShape kinds (kind_at kinds place) s) (sym c.exactly-in-Numbered.ensures)
    (at_kind kinds place (kind_view c.kind.result.now) _ _ c.kind.ensures (ap kind_view c.in-Numbered.is) c.requires
    c.len-valued.ensures.valued (numbered_shape kinds _))

pub returns-in-Opaque : goal.returns-in-Opaque
returns-in-Opaque c =
    let kinds = c.args.schema.now.kinds in
    let place = c.args.id.place in
    let size = c.in-Opaque.size in
    subst (λ (s : Shape). IsShape kinds (kind_at kinds place) s) (sym c.exactly-in-Opaque.ensures)
    (subst (λ (n : ℕ). IsShape kinds (kind_at kinds place) (shape.Alone n n)) (sym c.padded.ensures)
    (at_kind kinds place (kind_view c.kind.result.now) (xdr.opaque size) _ c.kind.ensures
    (ap kind_view c.in-Opaque.is) c.requires c.len-valued.ensures.valued (opaque_shape kinds size)))

pub returns-in-OpaqueUpTo : goal.returns-in-OpaqueUpTo
returns-in-OpaqueUpTo c =
    let kinds = c.args.schema.now.kinds in
    let place = c.args.id.place in
    let max = c.in-OpaqueUpTo.max in
    subst (λ (s : Shape). IsShape kinds (kind_at kinds place) s) (sym c.counted.ensures.shape)
    (at_kind kinds place (kind_view c.kind.result.now) (xdr.opaque_up_to max) _ c.kind.ensures (ap kind_view
    c.in-OpaqueUpTo.is) c.requires
    c.len-valued.ensures.valued (λ some. opaque_up_to_shape kinds max c.counted.ensures.small))

pub returns-in-Text : goal.returns-in-Text
returns-in-Text c =
    let kinds = c.args.schema.now.kinds in
    let place = c.args.id.place in
    let max = c.in-Text.max in
    subst (λ (s : Shape). IsShape kinds (kind_at kinds place) s) (sym c.counted-in-Text.ensures.shape)
    (at_kind kinds place (kind_view c.kind.result.now) (xdr.text max) _ c.kind.ensures (ap kind_view c.in-Text.is)
    c.requires
    c.len-valued.ensures.valued (λ some. text_shape kinds max c.counted-in-Text.ensures.small))

pub returns-in-Fixed : goal.returns-in-Fixed
returns-in-Fixed c =
    let kinds = c.args.schema.now.kinds in
    let place = c.args.id.place in
    at_kind kinds place (kind_view c.kind.result.now) (xdr.fixed c.in-Fixed.item.place c.in-Fixed.size) (shape.Items
    c.in-Fixed.item c.in-Fixed.size) c.kind.ensures (ap kind_view c.in-Fixed.is) c.requires
    c.len-valued.ensures.valued (λ some. fixed_shape kinds c.in-Fixed.item c.in-Fixed.size)

pub returns-in-UpTo : goal.returns-in-UpTo
returns-in-UpTo c =
    let kinds = c.args.schema.now.kinds in
    let place = c.args.id.place in
    let item = c.in-UpTo.item in
    let max = c.in-UpTo.max in
    subst (λ (s : Shape). IsShape kinds (kind_at kinds place) s) (sym c.up_to.ensures.shape)
    (at_kind kinds place (kind_view c.kind.result.now) (xdr.up_to item.place max) _ c.kind.ensures
    (ap kind_view c.in-UpTo.is) c.requires c.len-valued.ensures.valued
    (λ some. up_to_shape kinds item max c.up_to.ensures.small))

pub returns-in_ok-kinds_of-in-Structure : goal.returns-in_ok-kinds_of-in-Structure
returns-in_ok-kinds_of-in-Structure c =
    let kinds = c.args.schema.now.kinds in
    let place = c.args.id.place in
    at_kind kinds place (kind_view c.kind.result.now) _ _ c.kind.ensures (ap kind_view c.in-Structure.is) c.requires
    c.len-valued.ensures.valued (λ some. structure_shape kinds _ c.in_ok-kinds_of-in-Structure.field-0
    c.in_ok-kinds_of-in-Structure.ensures)

pub returns-in_ok-parts_of-in-Choice : goal.returns-in_ok-parts_of-in-Choice
returns-in_ok-parts_of-in-Choice c =
    let kinds = c.args.schema.now.kinds in
    let place = c.args.id.place in
    at_kind kinds place (kind_view c.kind.result.now) _ _ c.kind.ensures (ap kind_view c.in-Choice.is) c.requires
    c.len-valued.ensures.valued (λ some. choice_shape kinds place _ _ _ c.in_ok-parts_of-in-Choice.field-0 (sym
    c.kind.ensures
    ∙ ap kind_view c.in-Choice.is) c.in_ok-parts_of-in-Choice.ensures)

pub returns-in-Maybe : goal.returns-in-Maybe
returns-in-Maybe c =
    let kinds = c.args.schema.now.kinds in
    let place = c.args.id.place in
    at_kind kinds place (kind_view c.kind.result.now) (xdr.maybe c.in-Maybe.item.place) (shape.UpTo c.in-Maybe.item 1)
    c.kind.ensures (ap kind_view c.in-Maybe.is) c.requires
    c.len-valued.ensures.valued (λ some. maybe_shape kinds c.in-Maybe.item)

pub returns-in-Nothing : goal.returns-in-Nothing
returns-in-Nothing c =
    let kinds = c.args.schema.now.kinds in
    let place = c.args.id.place in
    subst (λ (s : Shape). IsShape kinds (kind_at kinds place) s) (sym c.exactly-in-Nothing.ensures)
    (at_kind kinds place (kind_view c.kind.result.now) xdr.nothing _ c.kind.ensures (ap kind_view c.in-Nothing.is)
    c.requires
    c.len-valued.ensures.valued (nothing_shape kinds))
