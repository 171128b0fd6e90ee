use Rattle.std.proofs.Common.{◌≡◌, ◌++◌, length}
use Rattle.xdr_rpcgen.specs.Files.{behind_feeds, contents, joined}
use Rattle.xdr_rpcgen.proofs.files.join_texts.Given as goal

abbrev pub invariant-loop-left : goal.invariant-loop-left
invariant-loop-left l = joined (contents l.texts) ≡ l.whole.items ++ behind_feeds (contents l.left)

abbrev pub decreases-loop-left : goal.decreases-loop-left
decreases-loop-left l = length l.left
