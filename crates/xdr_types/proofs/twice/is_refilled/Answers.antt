use Rattle.std.proofs.Common.{◌≡◌, ◌-◌, ◌∙◌, ℤ, pos, w64, to_z, of_z, length, get_or, int_cmp, refl, sym, ap, arith}
use Rattle.std.proofs.Common.{rules}
use Rattle.std.specs.BTreeSet.{contains}
use Rattle.xdr_types.proofs.Apart.{begins, next, found, ends, was_absent, was_there}
use Rattle.xdr_types.proofs.Cases.{by_case, cases, added_case, all_added}
use Rattle.xdr_types.proofs.twice.is_refilled.Goals as goal

pub loop-i-init : goal.loop-i-init
loop-i-init c = begins (by_case (contains int_cmp c.args.later.now)) c.args.cases.now
    (contains int_cmp c.args.later.now) (λ z. refl)

pub returns-then-not-branch-clause-again : goal.returns-then-not-branch-clause-again
returns-then-not-branch-clause-again c =
    let had = contains int_cmp c.args.later.now in
    let has = contains int_cmp c.loop-i.later in
    let cs = c.args.cases.now in
    let k : ℤ = get_or cs (length cs - 1 - c.loop-i.i) (pos 0) in
    let same : to_z w64 (of_z w64 k) ≡ k = search rules in
    found (by_case had) cs c.loop-i.i (pos 0) k has (omega arith) refl
    (ap has (sym same) ∙ was_there _ _ c.in_ok-insert.ensures.added c.if-not-branch.true) c.loop-i.invariant
    ∙ cases had cs

pub loop-i-preserved : goal.loop-i-preserved
loop-i-preserved c =
    let cs = c.args.cases.now in
    let s = c.loop-i.later in
    let n = c.insert.new.self in
    let k : ℤ = get_or cs (length cs - 1 - c.loop-i.i) (pos 0) in
    let same : to_z w64 (of_z w64 k) ≡ k = search rules in
    next (by_case (contains int_cmp c.args.later.now)) cs c.loop-i.i (pos 0) k (contains int_cmp s) (contains int_cmp n)
    (omega arith) refl
    (ap (contains int_cmp s) (sym same) ∙ was_absent _ _ c.in_ok-insert.ensures.added c.if-not-branch.false)
    (added_case s n _ k same c.in_ok-insert.ensures.updates) c.loop-i.invariant

pub returns-clause-again : goal.returns-clause-again
returns-clause-again c =
    let had = contains int_cmp c.args.later.now in
    ends (by_case had) c.args.cases.now c.loop-i.i (contains int_cmp c.loop-i.later) (omega arith) c.loop-i.invariant
    ∙ cases had c.args.cases.now

pub returns-clause-added : goal.returns-clause-added
returns-clause-added c = λ _. all_added c.args.cases.now c.loop-i.i (contains int_cmp c.args.later.now)
    (contains int_cmp c.loop-i.later) (omega arith) c.loop-i.invariant
