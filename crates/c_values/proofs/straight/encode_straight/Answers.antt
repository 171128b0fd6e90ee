-- The items before the next fill the first parts, and where all parts are filled they are all items.
use Rattle.std.proofs.Common.{◌≡◌, ◌<◌, ◌≤◌, ℕ, List, length, arith}
use Rattle.c_values.specs.Answers.{Question}
use Rattle.c_values.specs.Private.Encodings.{bytes_in}
use Rattle.c_values.proofs.Filling.{none_yet, some_more, all_filled}
use Rattle.c_values.proofs.Putting.{rest_of}
use Rattle.c_values.proofs.straight.encode_straight.Goals as goal

pub loop-at-init : goal.loop-at-init
loop-at-init c =
    let q : Question =
    record { kinds = c.args.schema.now.kinds; place = c.args.kind.place; limits = c.args.limits } in
    let same : c.start-filling.result.schema.now.kinds ≡ q.kinds = (cc) in
    none_yet q c.start-filling.result c.args.content.now c.args.items.now (bytes_in c.in_ok-encoding.encoding)
    c.in_ok-encoding.ensures same c.start-filling.ensures.filled

pub loop-at-preserved : goal.loop-at-preserved
loop-at-preserved c =
    let q : Question =
    record { kinds = c.args.schema.now.kinds; place = c.args.kind.place; limits = c.args.limits } in
    let cs = c.args.items.now in
    let some : 0 < c.in_ok-count.count = omega arith in
    let same : c.put_next.new.filling.schema.now.kinds ≡ c.loop-at.filling.schema.now.kinds = (cc) in
    let few : length (bytes_in c.put_next.new.encoding) ≤ c.args.limits.bytes = omega arith in
    some_more q c.loop-at.filling c.args.content.now cs c.loop-at.at (bytes_in c.loop-at.encoding) c.loop-at.invariant _
    (rest_of c.loop-at.at cs) c.in_ok-count.count c.in_ok-count.ensures.few c.put_next.new.filling
    (bytes_in c.put_next.new.encoding) (c.in_ok-count.ensures.filled some) same few

pub returns-then-branch : goal.returns-then-branch
returns-then-branch c =
    let q : Question =
    record { kinds = c.args.schema.now.kinds; place = c.args.kind.place; limits = c.args.limits } in
    let last : length c.args.items.now ≤ c.loop-at.at = omega arith in
    all_filled q c.loop-at.filling c.args.content.now c.args.items.now c.loop-at.at (bytes_in c.loop-at.encoding)
    c.loop-at.invariant last (c.in_ok-is_whole.ensures.whole c.if-branch.true)
