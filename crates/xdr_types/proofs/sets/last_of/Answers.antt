use Rattle.std.proofs.Common.{◌≡◌, ◌≢◌, ◌-◌, ℤ, w32, w64, to_z, of_z, length, String, sym, ap, ◌∙◌, arith}
use Rattle.std.proofs.Common.{refl, rules}
use Rattle.std.proofs.lemmas.Bool.{eqb-false}
use Rattle.std.specs.declared.alloc.Global.{Global}
use Rattle.xdr_types.proofs.InSets.{number_at}
use Rattle.xdr_types.proofs.sets.last_of.Goals as goal

pub returns : goal.returns
returns c =
    let ms = c.args.members.now in
    let m = c.index-members-members.result in
    let some : length ms ≢ 0 = eqb-false (length ms) 0 (sym c.is_empty.ensures ∙ c.if-is_empty.false) in
    let same : to_z w64 (of_z w64 c.as_case.result) ≡ c.as_case.result = search rules in
    let small : to_z w32 (of_z w32 m.1) ≡ m.1 = search rules in
    let number : c.as_case.result ≡ m.1 = c.as_case.ensures.value
    ∙ ap (λ (x : String Global × ℤ). to_z w32 (of_z w32 x.1)) (sym c.index-members-members.is) ∙ small in
    let there = number_at ms (length ms - 1) m (omega arith) c.index-members-members.is in
    rw (same, c.as_case.ensures.int, number, there) refl
