use Rattle.std.proofs.Common.{ℕ, sym, subst, refl, arith}
use Rattle.xdr_types.specs.Extent.{IsExtent}
use Rattle.xdr_types.specs.Decided.{IsDecided}
use Rattle.xdr_types.specs.Private.Deciding.{AreDecided}
use Rattle.xdr_types.specs.declared.decided.Deciding.{Deciding}
use Rattle.xdr_types.proofs.Deciding.{free_first, decided_first, decided_behind}
use Rattle.xdr_types.proofs.decided.joined.Goals as goal

pub returns-in-Free : goal.returns-in-Free
returns-in-Free c = λ kinds p ps are same rest.
    let e = c.in_ok-extent.extent in
    let of : IsExtent kinds p.kind e =
    subst (λ (k : ℕ). IsExtent kinds k e) (sym same) (c.in_ok-extent.ensures kinds are) in
    free_first kinds p ps e of c.if-extent.true
    (subst (λ (r : Deciding). AreDecided kinds ps r) c.in-Free.is rest)

pub returns-in_ok-noted_decided-in-Free-2 : goal.returns-in_ok-noted_decided-in-Free-2
returns-in_ok-noted_decided-in-Free-2 c = λ kinds p ps are same rest.
    let e = c.in_ok-extent.extent in
    let d = c.in_ok-noted_decided-in-Free-2.field-0 in
    let of : IsExtent kinds p.kind e =
    subst (λ (k : ℕ). IsExtent kinds k e) (sym same) (c.in_ok-extent.ensures kinds are) in
    let by : IsDecided kinds p.kind d =
    subst (λ (k : ℕ). IsDecided kinds k d) (sym same) (c.in_ok-noted_decided-in-Free-2.ensures kinds are) in
    decided_first kinds p ps e of d by (subst (λ (r : Deciding). AreDecided kinds ps r) c.in-Free-2.is rest)

pub returns-in_ok-checked_add-in-Unit : goal.returns-in_ok-checked_add-in-Unit
returns-in_ok-checked_add-in-Unit c = λ kinds p ps are same rest.
    let e = c.in_ok-extent.extent in
    let d = c.in-Unit.unit in
    let of : IsExtent kinds p.kind e =
    subst (λ (k : ℕ). IsExtent kinds k e) (sym same) (c.in_ok-extent.ensures kinds are) in
    decided_behind kinds p ps e of d (record { at = c.in_ok-checked_add-in-Unit.field-0; kind = d.kind })
    c.if-extent-2.true (subst (λ (r : Deciding). AreDecided kinds ps r) c.in-Unit.is rest) (omega arith) refl
