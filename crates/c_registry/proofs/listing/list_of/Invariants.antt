use Rattle.std.proofs.Common.{◌≡◌, [], ◌++◌, drop}
use Rattle.c_registry.specs.Listed.{texts_of}
use Rattle.c_registry.specs.Private.Laid.{rows_behind}
use Rattle.c_registry.proofs.listing.list_of.Given as goal

-- what was laid and what is left are the whole
abbrev pub invariant-loop-index : goal.invariant-loop-index
invariant-loop-index l = record {
  rows : l.list.rows.items ++ rows_behind l.list.bytes.items (drop l.index l.directory) ≡ rows_behind [] l.directory;
  bytes : l.list.bytes.items ++ texts_of (drop l.index l.directory) ≡ texts_of l.directory;
}
