use Rattle.std.proofs.Common.{◌∙◌, ℤ, ℕ, List, Option, map, ap}
use Rattle.std.specs.Option.{option_or}
use Rattle.xdr_types.specs.KindViews.{branch_of}
use Rattle.xdr_types.specs.Private.Lookups.{arm_from, first_at}
use Rattle.xdr_types.proofs.Entries.{first_of_none}
use Rattle.xdr_types.proofs.lookups.arms_by_case.Goals as goal

pub loop-index-init : goal.loop-index-init
loop-index-init c z =
    ap (λ (o : Option ℕ). option_or o (arm_from 0 (map branch_of c.args.arms.now) z))
    (ap (λ (es : List (ℤ × ℕ)). first_at es z) c.in_ok-found.ensures.items ∙ first_of_none z)
