-- The count is that of the bytes that are lent.
use Rattle.std.proofs.Common.{ℕ, length}
use Rattle.c_values.proofs.Parting.{count_reported}
use Rattle.c_values.proofs.part.part_of.Goals as goal

pub returns : goal.returns
returns c =
    let count : ℕ = length c.args.lent.now.bytes.now in
    rw (c.type_number.ensures, c.kind.ensures, c.role_number.ensures count, count_reported c.args.lent.now.role count)
