-- All of a text that is not too long was read.
use Rattle.std.proofs.Common.{arith}
use Rattle.oncrpc_encode.specs.Encoding.{sought_of}
use Rattle.oncrpc_encode.proofs.Reading.{answer_read}
use Rattle.oncrpc_encode.proofs.encoded.encoded_over.Goals as goal

pub returns-clause-right : goal.returns-clause-right
returns-clause-right g c =
    answer_read (sought_of c.args.target.now) _ _ c.in_ok-text.text.items c.encoded_text.result
    c.in_ok-text.ensures.read.bytes
    (c.in_ok-text.ensures.read.end (omega (arith, c.in_ok-text.text.ok.0)))
    (rw c.deref.ensures.value at c.encoded_text.ensures.right)
