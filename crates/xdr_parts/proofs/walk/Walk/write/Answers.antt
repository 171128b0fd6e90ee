use Rattle.std.proofs.Common.{◌≡◌, [], ◌∷◌, length, refl, ap, arith, rules}
use Rattle.xdr_types.specs.Layout.{Entry}
use Rattle.xdr_parts.proofs.walk.Walk.write.Goals as goal

pub returns-clause-wrote : goal.returns-clause-wrote
returns-clause-wrote c =
    let t = c.in_ok-take.ensures in
    let deep : c.len.result ≡ length c.args.self.now.parents.items = search rules in
    record {
      schema_is = refl;
      bytes_are = refl;
      at_is = refl;
      stack_is = refl;
      lists_is = t.lists_is;
      more = omega (arith, t.more);
      begun = c.part_at-part.result ∷ [];
      parts_are = ap (λ (e : Entry). e ∷ []) (rw deep at c.part_at-part.ensures.entry);
      lent = (c.part_at-part.ensures.lent, tt);
      taken = t.taken;
    }
