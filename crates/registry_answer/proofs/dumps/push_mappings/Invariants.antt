use Rattle.std.proofs.Common.{◌≡◌, ◌++◌, take}
use Rattle.std.specs.List.{flat_map}
use Rattle.registry_answer.specs.Private.Pushes.{mapping_bytes}
use Rattle.registry_answer.proofs.dumps.push_mappings.Given as goal

-- the mappings of the rows so far
abbrev pub invariant-loop-index : goal.invariant-loop-index
invariant-loop-index g l = l.out.items ≡ l.fn.out.items ++ flat_map mapping_bytes (take l.index l.directory)
