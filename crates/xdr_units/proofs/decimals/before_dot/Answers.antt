use Rattle.std.proofs.Common.{◌≡◌, ◌+◌, ap, sym, ◌∙◌, arith, subst, take, ℕ, length, ◌∷◌, ◌++◌}
use Rattle.std.proofs.lemmas.List.{take_rest}
use Rattle.xdr_units.specs.Texts.{HasNoDot}
use Rattle.xdr_units.proofs.Cutting.{cut_at, no_dot_all}
use Rattle.xdr_units.proofs.decimals.before_dot.Goals as goal

pub returns-then-text-at-eq46 : goal.returns-then-text-at-eq46
returns-then-text-at-eq46 c = (
  c.loop-at.invariant,
  cut_at c.args.text.now c.loop-at.at c.loop-at-test.true c.if-text-at-eq46.true
      ∙ ap (λ rest. take c.loop-at.at c.args.text.now ++ 46 ∷ rest)
      (sym (take_rest c.args.text.now (c.loop-at.at + 1))),
)

pub returns : goal.returns
returns c =
    let all : c.loop-at.at ≡ length c.args.text.now = omega (arith, c.loop-at-test.false, c.loop-at.auto.at-end) in
    no_dot_all c.args.text.now (subst (λ (i : ℕ). HasNoDot (take i c.args.text.now)) all c.loop-at.invariant)
