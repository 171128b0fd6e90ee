use Rattle.std.proofs.Common.{◌≡◌, ℤ, drop, Some, None, if◌then◌else◌}
use Rattle.std.specs.Option.{option_or}
use Rattle.xdr_types.specs.Private.Lookups.{first_at}
use Rattle.xdr_types.specs.Fits.{is_listed}
use Rattle.xdr_types.proofs.lookups.add_numbers.Given as goal

abbrev pub invariant-loop-case : goal.invariant-loop-case
invariant-loop-case l =
    (z : ℤ) → option_or (first_at l.found.items z)
    (if is_listed (drop l.case-index l.cases) z then Some l.index else None)
    ≡ option_or (first_at l.initial.found.items z) (if is_listed l.cases z then Some l.index else None)
