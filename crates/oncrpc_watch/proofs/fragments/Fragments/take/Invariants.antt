use Rattle.std.proofs.Common.{◌≤◌, length}
use Rattle.oncrpc_watch.proofs.fragments.Fragments.take.Given as goal

abbrev pub invariant-parts : goal.invariant-parts
invariant-parts l = length l.rest ≤ length l.bytes

abbrev pub decreases-parts : goal.decreases-parts
decreases-parts l = length l.rest
