use Rattle.std.proofs.Common.{◌≡◌, ◌≤◌, length, drop}
use Rattle.xdr_types.specs.View.{tree}
use Rattle.rpc_directory.specs.Private.Listings.{list_of}
use Rattle.rpc_directory.proofs.directory.Directory.list.Given as goal

abbrev pub invariant-loop-left : goal.invariant-loop-left
invariant-loop-left g l = record {
  within : l.left ≤ length l.self;
  listed : tree l.list ≡ list_of l.listing (drop l.left l.self);
}

abbrev pub decreases-loop-left : goal.decreases-loop-left
decreases-loop-left g l = l.left
