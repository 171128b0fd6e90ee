use Rattle.std.proofs.Common.{◌+◌, take, drop, arith, sym}
use Rattle.std.proofs.lemmas.List.{take_rest, drop-drop, drop_all, length-take, length-take-le}
use Rattle.xdr_io.proofs.Chained.{length_rest}
use Rattle.rpc_record.proofs.Streaming.{hands_filled, hands_none, hands_fault}
use Rattle.rpc_record.proofs.stream.RecordStream.held_into.Goals as goal

pub returns-in-Ok-Whole-clause-next : goal.returns-in-Ok-Whole-clause-next
returns-in-Ok-Whole-clause-next c =
    let old = c.args.self.now in
    let read = take old.size old.piece in
    let fills = rw c.in-Ok-Whole.field-0-is at c.in-Ok-Whole.ensures.fills in
    let used = c.in-Ok-Whole.used in
    hands_filled old.records c.feed_into.new.self (drop old.at read) _ (drop (old.at + used) read) used
    c.feed_into.new.buffer (take_rest read old.at) c.feed_into.ensures.limit fills.0 fills.2
    (sym (drop-drop used old.at read))

pub returns-in-Ok-More-clause-next : goal.returns-in-Ok-More-clause-next
returns-in-Ok-More-clause-next c =
    let old = c.args.self.now in
    let read = take old.size old.piece in
    let fills = rw c.in-Ok-More.field-0-is at c.in-Ok-More.ensures.fills in
    hands_none old.records c.feed_into.new.self (drop old.at read) _ (drop old.size read) (take_rest read old.at)
    c.feed_into.ensures.limit fills.0 fills.1
    (drop_all old.size read (omega (arith, length-take old.size old.piece)))

pub returns-in-Err-clause-next : goal.returns-in-Err-clause-next
returns-in-Err-clause-next c =
    let old = c.args.self.now in
    let read = take old.size old.piece in
    hands_fault old.records c.feed_into.new.self (drop old.at read) _ (drop old.at read) c.in-Err.fault
    (take_rest read old.at)
    (omega (arith, length_rest old.at read, length-take-le old.size old.piece (omega arith)))
    (c.in-Err.ensures.fills.2 c.requires) c.in-Err.ensures.reports
