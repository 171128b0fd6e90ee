-- A name has room, or its count is told.
use Rattle.std.proofs.Common.{sym, ◌∙◌}
use Rattle.c_cursors.proofs.Parts.{with_room, too_small, lost_before}
use Rattle.c_cursors.proofs.giving.next_in.Goals as goal

pub returns-then-is_lost : goal.returns-then-is_lost
returns-then-is_lost c =
    lost_before c.args.schema.now.kinds c.args.input.now c.args.cursor.now
    (record { part = c.args.part.now; buffer = c.args.buffer.now }) (sym c.is_lost.ensures ∙ c.if-is_lost.true)

pub returns-in-Some : goal.returns-in-Some
returns-in-Some c =
    too_small c.args.schema.now.kinds c.args.input.now c.args.cursor.now c.lacking.new.cursor c.args.part.now
    c.args.buffer.now c.in-Some.count (sym c.is_lost.ensures ∙ c.if-is_lost.false) c.lacking.ensures.stay
    c.in-Some.ensures.lacking c.in-Some.ensures.more

pub returns-in-None : goal.returns-in-None
returns-in-None c =
    with_room c.args.schema.now.kinds c.args.input.now c.args.cursor.now c.lacking.new.cursor c.give.new.cursor
    (record { part = c.args.part.now; buffer = c.args.buffer.now })
    (record { part = c.give.new.part; buffer = c.give.new.buffer }) c.give.result
    (sym c.is_lost.ensures ∙ c.if-is_lost.false) c.lacking.ensures.stay c.in-None.ensures.lacking c.give.ensures
