-- The bytes of the value, or that there is none.
use Rattle.xdr_types.specs.View.{tree}
use Rattle.oncrpc_encode.specs.Encoding.{sought_of}
use Rattle.oncrpc_encode.proofs.Reading.{encoded_right, refused_right}
use Rattle.oncrpc_encode.proofs.encoded.encoded_text.Goals as goal

pub returns-in_ok-bytes-in-Ok-clause-right : goal.returns-in_ok-bytes-in-Ok-clause-right
returns-in_ok-bytes-in-Ok-clause-right c =
    encoded_right (sought_of c.args.target.now) c.args.text.now (tree c.in-Ok.value)
    c.in_ok-bytes-in-Ok.bytes.items c.requires.short c.in-Ok.ensures.value c.in-Ok.ensures.only
    c.in_ok-bytes-in-Ok.ensures.bytes

pub returns-in_ok-refusal-in-Err-clause-right : goal.returns-in_ok-refusal-in-Err-clause-right
returns-in_ok-refusal-in-Err-clause-right c =
    refused_right (sought_of c.args.target.now) c.args.text.now c.in-Err.fault.why c.in-Err.fault.at
    c.in_ok-refusal-in-Err.refusal c.requires.short c.in-Err.ensures.place c.in-Err.ensures.refused
    c.in-Err.ensures.why c.in_ok-refusal-in-Err.ensures.refused
