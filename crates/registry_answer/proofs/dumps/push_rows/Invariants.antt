use Rattle.std.proofs.Common.{◌≡◌, ◌++◌, take}
use Rattle.std.specs.Io.{StartsWith}
use Rattle.std.specs.List.{flat_map}
use Rattle.xdr_units.specs.Numbers.{pad}
use Rattle.registry_answer.specs.Private.Pushes.{row_bytes}
use Rattle.registry_answer.proofs.dumps.push_rows.Given as goal

-- the rows so far, once the padding of the last one is written
abbrev pub invariant-loop-index : goal.invariant-loop-index
invariant-loop-index g l =
    (l.out.items ++ pad l.before ≡ l.fn.out.items ++ flat_map row_bytes (take l.index l.directory))
    × StartsWith l.out.items l.fn.out.items
