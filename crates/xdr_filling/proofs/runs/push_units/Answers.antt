use Rattle.std.proofs.Common.{◌≡◌, ◌++◌, ℕ, ℤ, List, true, pos, get_or, take, ap, sym, ◌∙◌, subst, append_assoc, rules}
use Rattle.std.proofs.Common.{to_z, of_z}
use mir.Syntax.{w128}
use Rattle.xdr_units.specs.Numbers.{num4}
use Rattle.xdr_filling.specs.Private.Makes.{is_unit}
use Rattle.xdr_filling.specs.Filled.{units}
use Rattle.xdr_filling.proofs.Units.{unit_at, bytes_next}
use Rattle.xdr_filling.proofs.runs.push_units.Goals as goal

pub unit-requires : goal.unit-requires
unit-requires c =
    let same : to_z w128 (of_z w128 (get_or c.args.numbers.now c.loop-number.number-index (pos 0)))
    ≡ get_or c.args.numbers.now c.loop-number.number-index (pos 0) = search rules in
    subst (λ (x : ℤ). is_unit c.args.signed x ≡ true) (sym same)
    (unit_at c.args.signed c.args.numbers.now c.loop-number.number-index (pos 0) c.loop-number-test.true c.requires)

pub loop-number-preserved : goal.loop-number-preserved
loop-number-preserved c =
    let same : to_z w128 (of_z w128 (get_or c.args.numbers.now c.loop-number.number-index (pos 0)))
    ≡ get_or c.args.numbers.now c.loop-number.number-index (pos 0) = search rules in
    let z : ℤ = get_or c.args.numbers.now c.loop-number.number-index (pos 0) in
    let before : List ℕ = units (take c.loop-number.number-index c.args.numbers.now) in
    let now : c.extend_from_slice.new.self.items ≡ c.loop-number.out.items ++ c.unit.result =
    rw c.in_ok-extend_from_slice.was at c.extend_from_slice.ensures.items in
    now
    ∙ ap (λ (q : List ℕ). c.loop-number.out.items ++ q) (c.unit.ensures ∙ ap (λ (x : ℤ). num4 x) same)
    ∙ ap (λ (q : List ℕ). q ++ num4 z) c.loop-number.invariant
    ∙ append_assoc c.args.out.now.items before (num4 z)
    ∙ ap (λ (q : List ℕ). c.args.out.now.items ++ q)
    (sym (bytes_next c.args.numbers.now c.loop-number.number-index (pos 0) c.loop-number-test.true))
