use Rattle.std.proofs.Common.{refl}
use Rattle.xdr_constants.specs.Names.{repeat_after}
use Rattle.xdr_constants.proofs.Tables.{no_constants}
use Rattle.xdr_constants.proofs.constant_table.ConstantTable.new.Goals as goal

pub invariant_of-result : goal.invariant_of-result
unfolding repeat_after
invariant_of-result c = record {
  is_first = rw c.new.ensures.items (no_constants c.new-2.result c.new-2.ensures.empty);
  are_apart = λ e. rw c.new.ensures.items refl;
}
