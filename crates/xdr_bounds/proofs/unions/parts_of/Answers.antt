use Rattle.std.proofs.Common.{ℕ, List, subst}
use Rattle.xdr_types.specs.declared.kind.KindId.{KindId}
use Rattle.xdr_bounds.specs.Private.Amounts.{IsIn, places_of}
use Rattle.xdr_bounds.proofs.unions.parts_of.Goals as goal

pub returns : goal.returns
returns c = record {
  each = c.in_ok-add_all.ensures.adds.picked
      (λ q i. absurd (subst (λ (xs : List KindId). IsIn q (places_of xs)) c.new-parts.ensures.items i));
  all = c.in_ok-add_all.ensures.seen;
}
