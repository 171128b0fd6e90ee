use Rattle.std.proofs.Common.{◌≡◌, true, pos, get_or, subst, rules, to_z, of_z}
use mir.Syntax.{w128}
use Rattle.xdr_filling.specs.Private.Makes.{is_unit}
use Rattle.xdr_filling.proofs.Units.{units_next}
use Rattle.xdr_filling.proofs.runs.units_in_front.Goals as goal

pub loop-at-preserved : goal.loop-at-preserved
loop-at-preserved c =
    let same : to_z w128 (of_z w128 (get_or c.args.numbers.now c.loop-at.at (pos 0)))
    ≡ get_or c.args.numbers.now c.loop-at.at (pos 0) = search rules in
    let word : is_unit c.args.signed (to_z w128 (of_z w128 (get_or c.args.numbers.now c.loop-at.at (pos 0)))) ≡ true =
    cc (c.is_unit.ensures, c.if-not-is_unit.false) in
    units_next c.args.signed c.args.numbers.now c.loop-at.at (pos 0) c.loop-at-test.true c.loop-at.invariant
    (subst (λ (x : _). is_unit c.args.signed x ≡ true) same word)
