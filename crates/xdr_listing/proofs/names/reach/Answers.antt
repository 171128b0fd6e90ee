use Rattle.std.proofs.Common.{◌≡◌, List, [], ◌∷◌, ℕ, Option, None, length, get_or, ap, ◌∙◌, arith}
use Rattle.std.proofs.lemmas.List.{length-append}
use denote.Ref.{Bor}
use Rattle.xdr_listing.proofs.Firsts.{longer}
use Rattle.xdr_listing.proofs.names.reach.Goals as goal

pub loop-more-preserved : goal.loop-more-preserved
loop-more-preserved c = (
  omega (
    arith,
    ap length c.in_ok-push.ensures.items,
    length-append c.loop-more.firsts.items (None ∷ []),
    c.loop-more.invariant.0,
  ),
  λ q. ap (λ (xs : List (Option (Bor (List ℕ)))). get_or xs q None) c.in_ok-push.ensures.items
      ∙ longer c.loop-more.firsts.items q
      ∙ c.loop-more.invariant.1 q,
)
