use Rattle.std.proofs.Common.{◌≡◌, ◌≤◌, drop}
use Rattle.oncrpc_encode.specs.Private.Scanned.{end_from, plain}
use Rattle.oncrpc_encode.proofs.scan.end_of.Given as goal

abbrev pub invariant-loop-place : goal.invariant-loop-place
invariant-loop-place l =
    (l.scan.depth ≤ l.place)
    × (end_from l.place l.scan (drop l.place l.text) ≡ end_from l.begin (plain 0) (drop l.begin l.text))
