use Rattle.std.proofs.Common.{◌≡◌, ◌++◌, replicate}
use Rattle.xdr_units.proofs.units.push_padded.Given as goal

-- what is written so far
abbrev pub invariant-loop : goal.invariant-loop
invariant-loop l = l.out.items ≡ l.fn.out.items ++ l.bytes ++ replicate l.counter 0
