use Rattle.std.proofs.Common.{ap, ◌∙◌, map, subst, sym}
use Rattle.std.proofs.lemmas.Option.{IfSome_then}
use Rattle.xdr_types.specs.KindViews.{kind_view, part_of_member}
use Rattle.xdr_types.proofs.Extents.{of_int, of_unsigned, of_hyper, of_unsigned_hyper, of_opaque, of_fixed}
use Rattle.xdr_types.proofs.Extents.{of_structure, of_boolean, of_numbered}
use Rattle.xdr_types.specs.Extent.{IsExtent}
use Rattle.xdr_types.proofs.extent.extent_of.Goals as goal

pub returns-in-Int : goal.returns-in-Int
returns-in-Int c = λ kinds place are within is.
    subst (IsExtent kinds place) (sym c.alone.ensures)
    (of_int kinds place within (is ∙ ap kind_view c.in-Int.is))

pub returns-in-Unsigned : goal.returns-in-Unsigned
returns-in-Unsigned c = λ kinds place are within is.
    subst (IsExtent kinds place) (sym c.alone-in-Unsigned.ensures)
    (of_unsigned kinds place within (is ∙ ap kind_view c.in-Unsigned.is))

pub returns-in-Hyper : goal.returns-in-Hyper
returns-in-Hyper c = λ kinds place are within is.
    subst (IsExtent kinds place) (sym c.alone-in-Hyper.ensures)
    (of_hyper kinds place within (is ∙ ap kind_view c.in-Hyper.is))

pub returns-in-UnsignedHyper : goal.returns-in-UnsignedHyper
returns-in-UnsignedHyper c = λ kinds place are within is.
    subst (IsExtent kinds place) (sym c.alone-in-UnsignedHyper.ensures)
    (of_unsigned_hyper kinds place within (is ∙ ap kind_view c.in-UnsignedHyper.is))

pub returns-in-Bool : goal.returns-in-Bool
returns-in-Bool c = λ kinds place are within is.
    subst (IsExtent kinds place) (sym c.alone-in-Bool.ensures)
    (of_boolean kinds place within (is ∙ ap kind_view c.in-Bool.is))

pub returns-in-Numbered : goal.returns-in-Numbered
returns-in-Numbered c = λ kinds place are within is.
    subst (IsExtent kinds place) (sym c.alone-in-Numbered.ensures)
    (of_numbered kinds place _ within (is ∙ ap kind_view c.in-Numbered.is))

pub returns-in-Opaque : goal.returns-in-Opaque
returns-in-Opaque c = λ kinds place are within is.
    IfSome_then c.of_content.result c.of_content.ensures
    (λ e of. of_opaque kinds place c.in-Opaque.size e within (is ∙ ap kind_view c.in-Opaque.is) of)

pub returns-in_ok-noted_extent-in-Fixed : goal.returns-in_ok-noted_extent-in-Fixed
returns-in_ok-noted_extent-in-Fixed c = λ kinds place are within is.
    IfSome_then c.repeated.result c.repeated.ensures
    (λ e of. of_fixed kinds place c.in-Fixed.item.place c.in-Fixed.size c.in_ok-noted_extent-in-Fixed.field-0 e within
    (is ∙ ap kind_view c.in-Fixed.is) (c.in_ok-noted_extent-in-Fixed.ensures kinds are) of)

pub returns-in_ok-of_fields-in-Structure : goal.returns-in_ok-of_fields-in-Structure
returns-in_ok-of_fields-in-Structure c = λ kinds place are within is.
    IfSome_then c.over.result c.over.ensures
    (λ e of. of_structure kinds place (map part_of_member c.in-Structure.fields.items)
    c.in_ok-of_fields-in-Structure.field-0 e within (is ∙ ap kind_view c.in-Structure.is)
    (c.in_ok-of_fields-in-Structure.ensures kinds are) of)
