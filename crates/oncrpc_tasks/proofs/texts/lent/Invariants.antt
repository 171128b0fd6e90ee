use Rattle.std.proofs.Common.{◌≡◌, ◌++◌, length}
use Rattle.xdr_rpcgen.specs.Files.{contents}
use Rattle.oncrpc_tasks.specs.Private.Gathered.{texts_bytes}
use Rattle.oncrpc_tasks.proofs.texts.lent.Given as goal

abbrev pub invariant-loop-left : goal.invariant-loop-left
invariant-loop-left l = texts_bytes l.texts ≡ contents l.parts.items ++ texts_bytes l.left

abbrev pub decreases-loop-left : goal.decreases-loop-left
decreases-loop-left l = length l.left
