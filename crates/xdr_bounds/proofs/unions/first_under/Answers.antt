use Rattle.std.proofs.Common.{◌≡◌, ℤ, ◌+ℤ◌, ◌≤ℤ◌, ◌<ℤ◌, pos, subst, sym, rules, arith, w64, to_z, of_z}
use Rattle.std.proofs.lemmas.Int.{ints, to_z-of_z}
use Rattle.xdr_bounds.specs.Private.Unions.{PicksKind}
use Rattle.xdr_bounds.proofs.Picking.{none_more}
use Rattle.xdr_bounds.proofs.unions.first_under.Goals as goal

pub loop-number-preserved : goal.loop-number-preserved
loop-number-preserved c =
    let u = c.args.choice.now in
    let low = c.args.low in
    let number = c.loop-number.number in
    let bits = c.loop-number.number-bits in
    let P : ℤ → Type 0 = λ z. PicksKind u.schema.now.kinds u.id.place z c.args.part.place in
    let back : to_z w64 bits ≡ number = first_of (search rules, grind (arith, ints, to_z-of_z), omega arith) in
    let same : to_z w64 (of_z w64 low) ≡ low = search rules in
    let next : to_z w64 (of_z w64 (to_z w64 bits +ℤ pos 1)) ≡ (number +ℤ pos 1) =
    first_of (search rules, grind (arith, ints, to_z-of_z, back), omega (arith, back)) in
    let not : P number → ⊥ = subst (λ (z : ℤ). P z → ⊥) back (c.picks.ensures.no c.if-picks.false) in
    let before : (z : ℤ) → low ≤ℤ z → z <ℤ number → P z → ⊥ =
    subst (λ (l : ℤ). (z : ℤ) → l ≤ℤ z → z <ℤ number → P z → ⊥) same
    (subst (λ (n : ℤ). (z : ℤ) → to_z w64 (of_z w64 low) ≤ℤ z → z <ℤ n → P z → ⊥) back
    c.loop-number.invariant.none) in
    record {
      within = grind (arith, ints);
      none = subst (λ (n : ℤ). (z : ℤ) → to_z w64 (of_z w64 low) ≤ℤ z → z <ℤ n → P z → ⊥) (sym next)
          (subst (λ (l : ℤ). (z : ℤ) → l ≤ℤ z → z <ℤ (number +ℤ pos 1) → P z → ⊥) (sym same)
          (none_more P low number before not));
    }
