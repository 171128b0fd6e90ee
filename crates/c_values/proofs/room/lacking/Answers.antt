-- The counts are those of the value that begins the input, and a fault says why there is none.
use Rattle.std.proofs.Common.{◌<◌, ◌-◌, ◌^◌, rules, arith}
use Rattle.c_values.specs.Answers.{Question}
use Rattle.c_values.specs.Parted.{Buffers, IsSmall}
use Rattle.c_values.proofs.Lacking.{no_room, unlisted_right}
use Rattle.c_values.proofs.room.lacking.Goals as goal

pub returns-in-Err : goal.returns-in-Err
returns-in-Err c =
    let q : Question =
    record { kinds = c.args.schema.now.kinds; place = c.args.kind.place; limits = c.args.limits } in
    unlisted_right q c.depth-in_range.ensures.range.units c.args.input.now c.in-Err.fault c.in-Err.ensures.fault
    c.unlisted.result c.unlisted.ensures (record { parts = c.args.parts.now; names = c.args.names.now })

pub returns : goal.returns
returns c =
    let q : Question =
    record { kinds = c.args.schema.now.kinds; place = c.args.kind.place; limits = c.args.limits } in
    let old : Buffers = record { parts = c.args.parts.now; names = c.args.names.now } in
    let exact : c.in-Ok.counts.names < 2 ^ 64 - 1 =
    search (rules, arith, c.if-counts.false, c.in-Ok.ensures.outcome.names) in
    let small : IsSmall old c.in-Ok.counts = search (rules, arith, c.else-counts-parts.branch) in
    no_room q c.depth-in_range.ensures.range.units c.args.input.now old c.in-Ok.counts c.in-Ok.ensures.outcome exact
    small
