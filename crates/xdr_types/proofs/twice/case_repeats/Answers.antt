use Rattle.std.proofs.Common.{◌∙◌, ◌||◌, ℤ, List, int_cmp, sym, ap, arith}
use Rattle.std.specs.BTreeSet.{contains}
use Rattle.std.specs.List.{list_any}
use Rattle.xdr_types.specs.Fits.{is_listed}
use Rattle.xdr_types.specs.Faults.{case_twice}
use Rattle.xdr_types.proofs.Cases.{begin_arms, next_arm, found_arm, end_arms}
use Rattle.xdr_types.proofs.twice.case_repeats.Goals as goal

pub loop-i-init : goal.loop-i-init
loop-i-init c = begin_arms c.args.arms.now c.new-later.result c.new-later.ensures.empty

pub returns-then-branch : goal.returns-then-branch
returns-then-branch c =
    let a = c.index-arms-arms.result in
    let s = c.loop-i.later in
    found_arm c.args.arms.now c.loop-i.i a (contains int_cmp s) (omega arith) c.index-arms-arms.is
    (sym c.if-branch.true ∙ c.in_ok-is_refilled.ensures.again
    ∙ ap (λ (cs : List ℤ). case_twice cs
    || list_any (contains int_cmp s) cs) c.deref.ensures.value) c.loop-i.invariant

pub loop-i-preserved : goal.loop-i-preserved
loop-i-preserved c =
    let a = c.index-arms-arms.result in
    let s = c.loop-i.later in
    let n = c.is_refilled.new.later in
    next_arm c.args.arms.now c.loop-i.i a (contains int_cmp s) (contains int_cmp n) (omega arith) c.index-arms-arms.is
    (sym c.if-branch.false ∙ c.in_ok-is_refilled.ensures.again
    ∙ ap (λ (cs : List ℤ). case_twice cs || list_any (contains int_cmp s) cs) c.deref.ensures.value)
    (λ z. c.in_ok-is_refilled.ensures.added c.if-branch.false z
    ∙ ap (λ (cs : List ℤ). is_listed cs z || contains int_cmp s z) c.deref.ensures.value) c.loop-i.invariant

pub returns : goal.returns
returns c = end_arms c.args.arms.now c.loop-i.i (contains int_cmp c.loop-i.later) (omega arith) c.loop-i.invariant
