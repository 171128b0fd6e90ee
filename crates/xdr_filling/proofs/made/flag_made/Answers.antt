use Rattle.std.proofs.Common.{◌≡◌, [], ◌∷◌, Bool, true, false, ap, sym, subst}
use Rattle.xdr_types.specs.Kinds as xdr
use Rattle.xdr_types.specs.Kinds.{KindView}
use Rattle.xdr_types.specs.KindViews.{kind_view}
use Rattle.xdr_types.specs.Fits.{item_part}
use Rattle.xdr_types.specs.declared.kind.Kind.{Kind}
use Rattle.xdr_writer.specs.Items as told
use Rattle.xdr_filling.specs.Private.Makes.{IsNode}
use Rattle.xdr_filling.proofs.Making.{present_node, absent_node}
use Rattle.xdr_filling.proofs.made.flag_made.Goals as goal

pub returns-then-flag : goal.returns-then-flag
returns-then-flag c = λ kinds.
    let place = c.in-Maybe.item.place in
    let same : kind_view c.args.kind.now ≡ xdr.maybe place = ap (λ (x : Kind). kind_view x) c.in-Maybe.is in
    subst (λ (b : Bool). IsNode kinds (kind_view c.args.kind.now) (told.flag b ∷ []) c.count_unit.result
    (item_part place ∷ [])) (sym c.if-flag.true)
    (subst (λ (k : KindView). IsNode kinds k (told.flag true ∷ []) c.count_unit.result (item_part place ∷ []))
    (sym same) (present_node kinds place c.count_unit.result c.count_unit.ensures))

pub returns-else-flag : goal.returns-else-flag
returns-else-flag c = λ kinds.
    let place = c.in-Maybe.item.place in
    let same : kind_view c.args.kind.now ≡ xdr.maybe place = ap (λ (x : Kind). kind_view x) c.in-Maybe.is in
    subst (λ (b : Bool). IsNode kinds (kind_view c.args.kind.now) (told.flag b ∷ []) c.count_unit-else-flag.result [])
    (sym c.if-flag.false)
    (subst (λ (k : KindView). IsNode kinds k (told.flag false ∷ []) c.count_unit-else-flag.result [])
    (sym same) (absent_node kinds place c.count_unit-else-flag.result c.count_unit-else-flag.ensures))
