use Rattle.std.proofs.Common.{nat_eq, arith, w32}
use Rattle.std.proofs.lemmas.Simd.{bitmask_splat}
use Rattle.registry_rows.proofs.scan.marks.Goals as goal

pub returns : goal.returns
returns c =
    bitmask_splat w32 (λ a b. nat_eq a b) c.args.programs 16 c.args.prog c.fits-programs.0 (omega arith)
