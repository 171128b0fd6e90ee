use Rattle.std.proofs.Common.{◌≡◌, drop, map}
use Rattle.oncrpc_procedures.specs.Private.Cut.{row_of}
use Rattle.oncrpc_procedures.specs.Private.Search.{first_text}
use Rattle.oncrpc_procedures.proofs.installed.first_text.Given as goal

abbrev pub invariant-loop-row : goal.invariant-loop-row
invariant-loop-row l = first_text l.part (map row_of (drop l.row-index l.rows)) ≡ first_text l.part (map row_of l.rows)
