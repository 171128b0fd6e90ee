use Rattle.std.proofs.Common.{ap, ◌∙◌, refl, subst, map}
use Rattle.std.proofs.lemmas.Option.{IfSome_then}
use Rattle.xdr_types.specs.KindViews.{kind_view, part_of_member}
use Rattle.xdr_types.specs.Private.Deciding.{AreDecided}
use Rattle.xdr_types.specs.declared.decided.Deciding.{Deciding}
use Rattle.xdr_types.proofs.Extents.{of_boolean, of_numbered}
use Rattle.xdr_types.proofs.Deciding.{alone_decides, fields_decide}
use Rattle.xdr_types.proofs.decided.decided_of.Goals as goal

pub returns-in-Bool : goal.returns-in-Bool
returns-in-Bool c = λ kinds are within is.
    IfSome_then c.by_itself.result c.by_itself.ensures
    (λ d of. alone_decides kinds c.args.place _ d
    (of_boolean kinds c.args.place within (is ∙ ap kind_view c.in-Bool.is)) refl of.0 of.1)

pub returns-in-Numbered : goal.returns-in-Numbered
returns-in-Numbered c = λ kinds are within is.
    IfSome_then c.by_itself-in-Numbered.result c.by_itself-in-Numbered.ensures
    (λ d of. alone_decides kinds c.args.place _ d
    (of_numbered kinds c.args.place _ within (is ∙ ap kind_view c.in-Numbered.is)) refl of.0 of.1)

pub returns-in-Unit : goal.returns-in-Unit
returns-in-Unit c = λ kinds are within is.
    fields_decide kinds c.args.place (map part_of_member c.in-Structure.fields.items) c.in-Unit.decided
    (is ∙ ap kind_view c.in-Structure.is)
    (subst (λ (r : Deciding). AreDecided kinds (map part_of_member c.in-Structure.fields.items) r) c.in-Unit.is
    (c.in_ok-of_fields-in-Structure.ensures kinds are))
