use Rattle.std.proofs.Common.{◌≡◌, drop}
use Rattle.oncrpc_encode.specs.Private.Scanned.{past_spaces}
use Rattle.oncrpc_encode.proofs.items.past_spaces.Given as goal

abbrev pub invariant-loop-place : goal.invariant-loop-place
invariant-loop-place l = past_spaces l.place (drop l.place l.text) ≡ past_spaces l.begin (drop l.begin l.text)
