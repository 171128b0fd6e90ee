-- Nodes without bytes of their own.
use Rattle.std.proofs.Common.{◌≡◌, [], List, map, replicate, ap, sym, ◌∙◌, subst}
use Rattle.xdr_types.specs.Kinds as xdr
use Rattle.xdr_types.specs.Kinds.{KindView, Part}
use Rattle.xdr_types.specs.KindViews.{kind_view, part_of_member}
use Rattle.xdr_types.specs.Fits.{item_part}
use Rattle.xdr_types.specs.declared.kind.Kind.{Kind}
use Rattle.xdr_types.specs.declared.kind.Member.{Member}
use Rattle.xdr_filling.specs.Private.Makes.{IsNode}
use Rattle.xdr_filling.proofs.Making.{structure_node, fixed_array, void_node}
use Rattle.xdr_filling.proofs.due.silent.Goals as goal

pub returns-in-Structure : goal.returns-in-Structure
returns-in-Structure c = λ kinds.
    let parts : List Part = map part_of_member c.deref.result.now in
    let same : kind_view c.args.kind.now ≡ xdr.structure parts =
    ap (λ (x : Kind). kind_view x) c.in-Structure.is
    ∙ ap (λ (ms : List Member). xdr.structure (map part_of_member ms)) (sym c.deref.ensures.value) in
    subst (λ (k : KindView). IsNode kinds k [] [] parts) (sym same) (structure_node kinds parts)

pub returns-in-Fixed : goal.returns-in-Fixed
returns-in-Fixed c = λ kinds.
    let same : kind_view c.args.kind.now ≡ xdr.fixed c.in-Fixed.item.place c.in-Fixed.size =
    ap (λ (x : Kind). kind_view x) c.in-Fixed.is in
    subst (λ (k : KindView). IsNode kinds k [] [] (replicate c.in-Fixed.size (item_part c.in-Fixed.item.place)))
    (sym same) (fixed_array kinds c.in-Fixed.item.place c.in-Fixed.size)

pub returns-in-Nothing : goal.returns-in-Nothing
returns-in-Nothing c = λ kinds.
    let same : kind_view c.args.kind.now ≡ xdr.nothing = ap (λ (x : Kind). kind_view x) c.in-Nothing.is in
    subst (λ (k : KindView). IsNode kinds k [] [] []) (sym same) (void_node kinds)
