use Rattle.std.proofs.Common.{◌∙◌, ◌||◌, ℤ, List, Bool, int_cmp, sym, ap, arith}
use Rattle.std.specs.BTreeSet.{contains}
use Rattle.xdr_types.specs.Fits.{is_listed}
use Rattle.xdr_types.specs.declared.kind.Arm.{Arm}
use Rattle.xdr_types.proofs.FromEnd.{arm_of_more}
use Rattle.xdr_types.proofs.sets.cases_of.Goals as goal

pub loop-i-preserved : goal.loop-i-preserved
loop-i-preserved c z =
    let arms = c.args.arms.now in
    let a = c.index-arms-arms.result in
    let i = c.loop-i.i in
    c.in_ok-add_cases.ensures z
    ∙ ap (λ (cs : List ℤ). is_listed cs z || contains int_cmp c.loop-i.cases z)
    (c.deref.ensures.value ∙ ap (λ (x : Arm). x.cases.items) (sym c.index-arms-arms.is))
    ∙ ap (λ (b : Bool). is_listed a.cases.items z || b) (c.loop-i.invariant z)
    ∙ sym (arm_of_more arms i a z (omega arith) c.index-arms-arms.is)
