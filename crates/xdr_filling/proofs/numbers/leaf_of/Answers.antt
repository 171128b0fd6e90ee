use Rattle.std.proofs.Common.{◌≡◌, ℤ, [], ◌∷◌, ap, sym, subst, rules, to_z, of_z}
use mir.Syntax.{w128}
use Rattle.xdr_types.specs.Kinds as xdr
use Rattle.xdr_types.specs.Kinds.{KindView}
use Rattle.xdr_types.specs.KindViews.{kind_view}
use Rattle.xdr_types.specs.declared.kind.Kind.{Kind}
use Rattle.xdr_writer.specs.Items as told
use Rattle.xdr_filling.specs.Private.Makes.{IsNode}
use Rattle.xdr_filling.proofs.numbers.leaf_of.Goals as goal

pub returns-in-Some : goal.returns-in-Some
returns-in-Some c =
    let s = c.args.schema.now.kinds in
    let wide : to_z w128 (of_z w128 c.args.number) ≡ c.args.number = search rules in
    let same : kind_view c.args.kind.now ≡ xdr.hyper = ap (λ (x : Kind). kind_view x) c.in-Hyper.is in
    subst (λ (k : KindView). IsNode s k (told.number c.args.number ∷ []) c.in-Some.bytes []) (sym same)
    (subst (λ (z : ℤ). IsNode s xdr.hyper (told.number z ∷ []) c.in-Some.bytes []) wide (c.in-Some.ensures s))

pub returns-in-Some-unsigned_hyper_leaf : goal.returns-in-Some-unsigned_hyper_leaf
returns-in-Some-unsigned_hyper_leaf c =
    let s = c.args.schema.now.kinds in
    let wide : to_z w128 (of_z w128 c.args.number) ≡ c.args.number = search rules in
    let same : kind_view c.args.kind.now ≡ xdr.unsigned_hyper = ap (λ (x : Kind). kind_view x) c.in-UnsignedHyper.is in
    subst (λ (k : KindView). IsNode s k (told.number c.args.number ∷ []) c.in-Some-unsigned_hyper_leaf.bytes [])
    (sym same)
    (subst (λ (z : ℤ). IsNode s xdr.unsigned_hyper (told.number z ∷ []) c.in-Some-unsigned_hyper_leaf.bytes [])
    wide (c.in-Some-unsigned_hyper_leaf.ensures s))
