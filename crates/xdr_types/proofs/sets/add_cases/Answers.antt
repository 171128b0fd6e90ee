use Rattle.std.proofs.Common.{◌≡◌, ◌-◌, ◌∙◌, ◌||◌, ℤ, pos, Bool, w64, to_z, of_z, length, drop, get_or, int_cmp, int_eq}
use Rattle.std.proofs.Common.{refl, sym, ap, arith, rules}
use Rattle.std.proofs.Math.Bool.{or_assoc}
use Rattle.std.specs.BTreeSet.{contains}
use Rattle.xdr_types.specs.Fits.{is_listed}
use Rattle.xdr_types.proofs.FromEnd.{listed_of_more}
use Rattle.xdr_types.proofs.sets.add_cases.Goals as goal

pub loop-i-preserved : goal.loop-i-preserved
loop-i-preserved c z =
    let cs = c.args.more.now in
    let i = c.loop-i.i in
    let k : ℤ = get_or cs (length cs - 1 - i) (pos 0) in
    let same : to_z w64 (of_z w64 k) ≡ k = search rules in
    let had : Bool = contains int_cmp c.args.cases.now z in
    let later : Bool = is_listed (drop (length cs - i) cs) z in
    c.in_ok-add_case.ensures z
    ∙ ap (λ (n : ℤ). int_eq n z || contains int_cmp c.loop-i.cases z) same
    ∙ ap (λ (b : Bool). int_eq k z || b) (c.loop-i.invariant z)
    ∙ sym (or_assoc (int_eq k z) later had)
    ∙ ap (λ (b : Bool). b || had) (sym (listed_of_more cs i k z (omega arith) refl))
