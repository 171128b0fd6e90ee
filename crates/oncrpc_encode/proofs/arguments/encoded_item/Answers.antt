-- The bytes of the value that the item spells, or that it spells none.
use Rattle.std.proofs.Common.{◌+◌, ◌≤◌, arith}
use Rattle.xdr_types.specs.View.{tree}
use Rattle.oncrpc_encode.specs.Arguments.{item_text}
use Rattle.oncrpc_encode.specs.Encoding.{Sought}
use Rattle.oncrpc_encode.proofs.Arguing.{item_encoded, item_refused, item_short}
use Rattle.oncrpc_encode.proofs.arguments.encoded_item.Goals as goal

pub returns-in_ok-bytes-in-Ok-clause-right : goal.returns-in_ok-bytes-in-Ok-clause-right
returns-in_ok-bytes-in-Ok-clause-right c =
    item_encoded (record { kinds = c.args.schema.now.kinds; place = c.args.kind.place; limits = c.args.limits })
    (item_text c.args.text.now c.args.item) (tree c.in-Ok.value) c.in_ok-bytes-in-Ok.bytes.items c.in-Ok.ensures.value
    c.in-Ok.ensures.only c.in_ok-bytes-in-Ok.ensures.bytes

pub returns-in_ok-refusal-in-Err-clause-right : goal.returns-in_ok-refusal-in-Err-clause-right
returns-in_ok-refusal-in-Err-clause-right c =
    let inside : c.args.item.begin + c.in-Err.fault.at ≤ c.args.item.end =
    omega (arith, c.in-Err.ensures.place, item_short c.args.text.now c.args.item.begin c.args.item.end) in
    item_refused (record { kinds = c.args.schema.now.kinds; place = c.args.kind.place; limits = c.args.limits })
    c.args.text.now c.args.item c.in-Err.fault.why c.in-Err.fault.at c.in_ok-refusal-in-Err.refusal inside
    c.in-Err.ensures.refused c.in-Err.ensures.why c.in_ok-refusal-in-Err.ensures.refused
