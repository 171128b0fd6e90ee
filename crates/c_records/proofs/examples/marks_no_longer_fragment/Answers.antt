use Rattle.std.proofs.Common.{true, false, arith}
use Rattle.c_records.proofs.Headed.{not_headed}
use Rattle.c_records.proofs.examples.marks_no_longer_fragment.Goals as goal

pub returns : goal.returns
returns c =
    let first = not_headed 2147483648 true _ _ _ (omega arith) c.put_header-above.ensures in
    let second = not_headed 18446744073709551615 false _ _ _ (omega arith) c.put_header-all.ensures in
    (first.0, first.1, second.0, second.1)
