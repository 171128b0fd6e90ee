use Rattle.std.proofs.Common.{◌≡◌, ◌-◌}
use Rattle.capture_packets.specs.Internet.{extensions_passed}
use Rattle.capture_packets.specs.View.{carried_view}
use Rattle.capture_packets.proofs.ipv6.past_headers.Given as goal

abbrev pub invariant-loop-passed : goal.invariant-loop-passed
invariant-loop-passed l =
    extensions_passed (8 - l._passed) (carried_view l.rest) ≡ extensions_passed 8 (carried_view l.fn.carried)
