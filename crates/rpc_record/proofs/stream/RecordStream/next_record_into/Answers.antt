use Rattle.std.proofs.Common.{◌+◌, refl, arith}
use Rattle.xdr_io.proofs.Chained.{Counts-trans, Counts-none}
use Rattle.rpc_record.proofs.Streaming.{taken_more, fails_many, fails_read, is_read, fails_inside}
use Rattle.rpc_record.proofs.Streaming.{feed_unread, end_unread}
use Rattle.rpc_record.proofs.stream.RecordStream.next_record_into.Goals as goal

pub returns-then-self-eq-MOST_READS-clause-next : goal.returns-then-self-eq-MOST_READS-clause-next
returns-then-self-eq-MOST_READS-clause-next g c =
    let next = rw c.in-Ok-false.field-0-test at c.in-Ok-false.ensures.next in
    λ limit rs left h. fails_many limit c.held_into.new.self.records _ rs left _ next.0
    (next.1 limit rs left _ (c.reads.invariant.read limit rs left h))

pub returns-in-Err-clause-read : goal.returns-in-Err-clause-read
returns-in-Err-clause-read g c =
    Counts-trans _ _ _ 0 0 _ (feed_unread c.in-Err.fault c.in-Err.ensures.fault) c.reads.invariant.failures
    (Counts-none _)

pub returns-in-Err-end-clause-read : goal.returns-in-Err-end-clause-read
returns-in-Err-end-clause-read g c =
    let unread = end_unread c.held_into.new.self.records c.in-Err-end.fault c.in-Ok-false.ensures.open
    c.in-Err-end.ensures.ends.2 in
    Counts-trans _ _ _ 0 0 _ unread c.reads.invariant.failures c.in-Ok.ensures.failed

pub returns-in-Err-read-clause-next : goal.returns-in-Err-read-clause-next
returns-in-Err-read-clause-next g c =
    let next = rw c.in-Ok-false.field-0-test at c.in-Ok-false.ensures.next in
    λ limit rs left h. fails_read limit c.held_into.new.self.records _ rs left _ next.0
    (next.1 limit rs left _ (c.reads.invariant.read limit rs left h)) _ c.in-Err-read.ensures.bytes

pub returns-in-Ok-end-clause-next : goal.returns-in-Ok-end-clause-next
returns-in-Ok-end-clause-next g c =
    let next = rw c.in-Ok-false.field-0-test at c.in-Ok-false.ensures.next in
    let bytes = c.in-Ok.ensures.bytes in
    λ limit rs left h. is_read limit c.held_into.new.self.records _ rs left _ next.0
    (next.1 limit rs left _ (c.reads.invariant.read limit rs left h)) _ c.read.new.array c.in-Ok.size
    c.if-self-eq0.true bytes.0 (bytes.1 c.if-self-eq0.true) c.in-Ok-end.ensures.ends.0

pub returns-in-Err-end-clause-next : goal.returns-in-Err-end-clause-next
returns-in-Err-end-clause-next g c =
    let next = rw c.in-Ok-false.field-0-test at c.in-Ok-false.ensures.next in
    let bytes = c.in-Ok.ensures.bytes in
    λ limit rs left h. fails_inside limit c.held_into.new.self.records _ rs left _ next.0
    (next.1 limit rs left _ (c.reads.invariant.read limit rs left h)) _ c.read.new.array c.in-Ok.size
    c.if-self-eq0.true bytes.0 (bytes.1 c.if-self-eq0.true) c.in-Err-end.fault c.in-Err-end.ensures.ends.2

pub reads-preserved : goal.reads-preserved
reads-preserved g c =
    let next = rw c.in-Ok-false.field-0-test at c.in-Ok-false.ensures.next in
    record {
      opened = c.in-Ok-false.ensures.open;
      read = λ limit rs left h. taken_more limit c.held_into.new.self.records _ rs left _ next.0
          (next.1 limit rs left _ (c.reads.invariant.read limit rs left h)) _ _ c.in-Ok.ensures.bytes.0;
      counted = λ start h. Counts-trans start _ _ c.reads.self.reads 1 (c.held_into.new.self.reads + 1)
          (omega (arith, c.held_into.ensures.reads)) (c.reads.invariant.counted start h) c.read.ensures.count;
      failures = Counts-trans _ _ _ 0 0 0 refl c.reads.invariant.failures c.in-Ok.ensures.failed;
      to_come = omega (
        arith,
        c.reads.invariant.to_come,
        c.held_into.ensures.no_more,
        c.if-self-eq-MOST_READS.false,
        c.held_into.new.self.few,
        c.in-Ok.ensures.bound,
      );
    }
