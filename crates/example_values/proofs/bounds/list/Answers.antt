use Rattle.std.proofs.Common.{List, Some, subst, arith}
use Rattle.xdr_types.specs.Kinds.{KindView}
use Rattle.xdr_bounds.specs.Bounds.{AreRanges}
use Rattle.xdr_bounds.specs.declared.greatest.Greatest.TheVariants as greatest
use Rattle.example_values.specs.Rfc.{list_kinds}
use Rattle.example_values.proofs.Only.{is_least, is_unbounded, told}
use Rattle.example_values.proofs.Entries.{entry_least, entry_unbounded}
use Rattle.example_values.proofs.bounds.list.Goals as goal

pub returns : goal.returns
returns c =
    told list_kinds c.in_ok-bounds.bounds 2 (Some 8) greatest.Unbounded c.range.result
    (subst (λ (ks : List KindView). AreRanges ks c.in_ok-bounds.bounds) c.requires c.in_ok-bounds.ensures)
    (omega arith) (λ b h. is_least list_kinds 2 8 b entry_least (omega arith) h)
    (λ g h. is_unbounded list_kinds 2 g entry_unbounded h) c.range.ensures.at c.range.ensures.right
