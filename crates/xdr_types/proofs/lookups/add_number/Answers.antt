use Rattle.std.proofs.Common.{◌≡◌, ◌∙◌, ℤ, ℕ, List, w64, to_z, of_z, Some, None, if◌then◌else◌, int_eq, ap, rules}
use Rattle.std.specs.Option.{option_or}
use Rattle.xdr_types.specs.Private.Lookups.{first_at}
use Rattle.xdr_types.proofs.Entries.{first_of_more}
use Rattle.xdr_types.proofs.lookups.add_number.Goals as goal

pub returns : goal.returns
returns c z =
    let same : to_z w64 (of_z w64 c.args.number) ≡ c.args.number = search rules in
    ap (λ (es : List (ℤ × ℕ)). first_at es z) c.in_ok-push.ensures.items
    ∙ first_of_more c.args.found.now.items _ c.args.index z
    ∙ ap (λ (n : ℤ). option_or (first_at c.args.found.now.items z) (if int_eq n z then Some c.args.index else None))
    same
