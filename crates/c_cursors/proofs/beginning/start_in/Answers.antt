-- What is kept is a cursor before the first part of the value.
use Rattle.std.proofs.Common.{option_map}
use Rattle.c_values.specs.Answers.{Question}
use Rattle.c_cursors.specs.Held.{cursor_of}
use Rattle.c_cursors.proofs.Holding.{begun, unbegun}
use Rattle.c_cursors.proofs.beginning.start_in.Goals as goal

pub keep_cursor-requires : goal.keep_cursor-requires
keep_cursor-requires c = c.in-Ok.ensures.begun.2.there

pub returns-in-Ok : goal.returns-in-Ok
returns-in-Ok c =
    let q : Question =
    record { kinds = c.args.schema.now.kinds; place = c.args.kind.place; limits = c.args.limits } in
    let b = c.in-Ok.ensures.begun in
    begun q c.depth-in_range.ensures.range.units c.args.input.now c.in-Ok.cursor b.0 b.1 b.2
    (option_map cursor_of c.args.handle.now.held) (option_map cursor_of c.keep_cursor.new.handle.held)
    c.keep_cursor.result c.keep_cursor.ensures

pub returns-in-Err : goal.returns-in-Err
returns-in-Err c =
    let q : Question =
    record { kinds = c.args.schema.now.kinds; place = c.args.kind.place; limits = c.args.limits } in
    unbegun q c.depth-in_range.ensures.range.units c.args.input.now c.in-Err.fault c.in-Err.ensures.fault
    c.refusal.result c.refusal.ensures (option_map cursor_of c.args.handle.now.held)
