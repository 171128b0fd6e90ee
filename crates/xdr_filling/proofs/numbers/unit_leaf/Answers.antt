use Rattle.std.proofs.Common.{◌≡◌, ℤ, true, ap, sym, ◌∙◌, rules, to_z, of_z}
use Rattle.std.specs.Int.{w64}
use mir.Syntax.{w128}
use Rattle.xdr_units.specs.Numbers.{num4}
use Rattle.xdr_types.specs.Kinds.{KindView, kind_at}
use Rattle.xdr_types.specs.Fits.{is_tag_of}
use Rattle.xdr_filling.proofs.Making.{unit_node}
use Rattle.xdr_filling.proofs.numbers.unit_leaf.Goals as goal

pub returns-then-is_legal_tag : goal.returns-then-is_legal_tag
returns-then-is_legal_tag c =
    let s = c.args.schema.now.kinds in
    let k : KindView = kind_at s c.args.id.place in
    let wide : to_z w128 (of_z w128 c.args.number) ≡ c.args.number = search rules in
    let short : to_z w64 (of_z w64 c.in-Some.word.number) ≡ c.in-Some.word.number = search rules in
    let same : to_z w64 (of_z w64 c.in-Some.word.number) ≡ c.args.number = short ∙ c.in-Some.ensures.0 ∙ wide in
    let legal : is_tag_of k c.args.number ≡ true =
    ap (λ (x : ℤ). is_tag_of k x) (sym same) ∙ sym c.is_legal_tag.ensures ∙ c.if-is_legal_tag.true in
    unit_node s k c.args.number c.in-Some.word.bytes legal (c.in-Some.ensures.1 ∙ ap (λ (x : ℤ). num4 x) wide)
