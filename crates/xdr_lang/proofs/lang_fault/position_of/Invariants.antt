use Rattle.std.proofs.Common.{◌≤◌}
use Rattle.xdr_lang.proofs.lang_fault.position_of.Given as goal

abbrev pub invariant-loop-index : goal.invariant-loop-index
invariant-loop-index l = record { line : 1 ≤ l.line; column : 1 ≤ l.column }
