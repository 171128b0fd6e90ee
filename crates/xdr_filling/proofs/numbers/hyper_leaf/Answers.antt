use Rattle.std.proofs.Common.{◌≡◌, ◌^◌, ℤ, true, ap, sym, ◌∙◌, rules, to_z, of_z}
use mir.Syntax.{w128}
use Rattle.xdr_units.specs.Numbers.{num8}
use Rattle.xdr_types.specs.Fits.{is_signed, is_unsigned}
use Rattle.xdr_filling.proofs.Making.{hyper_node}
use Rattle.xdr_filling.proofs.numbers.hyper_leaf.Goals as goal

pub returns-then-is_hyper : goal.returns-then-is_hyper
returns-then-is_hyper c = λ kinds.
    let same : to_z w128 (of_z w128 c.args.number) ≡ c.args.number = search rules in
    let legal : is_signed (2 ^ 63) c.args.number ≡ true =
    ap (λ (x : ℤ). is_signed (2 ^ 63) x) (sym same) ∙ sym c.is_hyper.ensures ∙ c.if-is_hyper.true in
    hyper_node kinds c.args.number c.signed_wide.result legal
    (c.signed_wide.ensures ∙ ap (λ (x : ℤ). num8 x) same)
