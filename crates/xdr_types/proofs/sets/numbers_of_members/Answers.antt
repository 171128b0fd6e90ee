use Rattle.std.proofs.Common.{◌≡◌, ◌∙◌, ◌||◌, ◌^◌, ℤ, Bool, true, String, w32, w64, to_z, of_z, int_cmp, int_eq}
use Rattle.std.proofs.Common.{sym, ap, subst, arith, rules}
use Rattle.std.specs.declared.alloc.Global.{Global}
use Rattle.std.specs.BTreeSet.{contains}
use Rattle.xdr_types.specs.Fits.{is_signed}
use Rattle.xdr_types.proofs.FromEnd.{number_of_more}
use Rattle.xdr_types.proofs.sets.numbers_of_members.Goals as goal

pub loop-i-preserved : goal.loop-i-preserved
loop-i-preserved c z =
    let ms = c.args.members.now in
    let m = c.index-members-members.result in
    let i = c.loop-i.i in
    let same : to_z w64 (of_z w64 c.as_case.result) ≡ c.as_case.result = search rules in
    let small : to_z w32 (of_z w32 m.1) ≡ m.1 = search rules in
    let number : c.as_case.result ≡ m.1 = c.as_case.ensures.value
    ∙ ap (λ (x : String Global × ℤ). to_z w32 (of_z w32 x.1)) (sym c.index-members-members.is) ∙ small in
    c.in_ok-add_case.ensures z
    ∙ ap (λ (n : ℤ). int_eq n z || contains int_cmp c.loop-i.numbers z) (same ∙ number)
    ∙ ap (λ (b : Bool). int_eq m.1 z || b) (c.loop-i.invariant z)
    ∙ sym (number_of_more ms i m z (omega arith) c.index-members-members.is
    (subst (λ (n : ℤ). is_signed (2 ^ 31) n ≡ true) number c.as_case.ensures.int))
