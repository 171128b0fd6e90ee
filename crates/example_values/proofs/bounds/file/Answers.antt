use Rattle.std.proofs.Common.{List, Some, subst, arith}
use Rattle.xdr_types.specs.Kinds.{KindView}
use Rattle.xdr_bounds.specs.Bounds.{AreRanges}
use Rattle.xdr_bounds.specs.declared.greatest.Greatest.TheVariants as greatest
use Rattle.example_values.specs.Rfc.{file_kinds}
use Rattle.example_values.proofs.Only.{is_least, is_greatest, told}
use Rattle.example_values.proofs.File.{file_least, file_most}
use Rattle.example_values.proofs.bounds.file.Goals as goal

pub returns : goal.returns
returns c =
    told file_kinds c.in_ok-bounds.bounds 6 (Some 16) (greatest.Bytes 66100) c.range.result
    (subst (λ (ks : List KindView). AreRanges ks c.in_ok-bounds.bounds) c.requires c.in_ok-bounds.ensures)
    (omega arith) (λ b h. is_least file_kinds 6 16 b file_least (omega arith) h)
    (λ g h. is_greatest file_kinds 6 66100 g file_most (omega arith) h) c.range.ensures.at c.range.ensures.right
