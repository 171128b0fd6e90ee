use Rattle.std.proofs.Common.{◌≡◌, suc, length}
use Rattle.json.specs.Json.{value}
use Rattle.xdr_json_reader.specs.Private.Frames.{made}
use Rattle.xdr_json_reader.specs.Private.Steps.{AreFew, Deep}
use Rattle.xdr_json_reader.proofs.tape_text.read_value.Given as goal

abbrev pub invariant-loop-node : goal.invariant-loop-node
invariant-loop-node l = Deep (λ d. value (suc d) l.fn.reader ≡ made d l.frames l.reader) × AreFew l.frames

abbrev pub decreases-loop-node : goal.decreases-loop-node
decreases-loop-node l = length l.reader
