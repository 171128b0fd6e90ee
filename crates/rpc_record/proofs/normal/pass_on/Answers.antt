use Rattle.std.proofs.Common.{true, [], ◌∷◌, ◌++◌, length, refl, sym, ap, subst, arith, rules}
use Rattle.std.proofs.lemmas.Grind.{common_steps}
use Rattle.xdr_io.proofs.Chained.{Counts-trans, Counts-none}
use Rattle.rpc_record.specs.Marked.{fragment}
use Rattle.rpc_record.specs.Private.Sending.{Sends}
use Rattle.rpc_record.specs.Failures.{reads_failed}
use Rattle.rpc_record.proofs.Gathering.{handed_none, handed_record, handed_flushed, handed_all}
use Rattle.rpc_record.proofs.Gathering.{lost_record, lost_waiting}
use Rattle.rpc_record.proofs.Gathering.{stops_failed, fails_unwritten, lost_is, all_normalised, fits_header}
use Rattle.rpc_record.proofs.Streaming.{feed_unread}
use Rattle.rpc_record.proofs.normal.pass_on.Goals as goal

pub records-init : goal.records-init
records-init g c = record {
  rs = [];
  read = c.requires.read _;
  handed = handed_none c.args.outbox.now _ c.requires.empty c.requires.records c.requires.bytes;
  reads = Counts-trans _ _ _ 0 0 _ (sym c.requires.unread) (Counts-none _) (Counts-none _);
  reads_failed = Counts-none _;
  writes_failed = Counts-none _;
}

-- ---- a record that was held

pub put_record-requires : goal.put_record-requires
put_record-requires g c =
    let inv = c.records.invariant in
    let next = rw c.in-Ok-Some.field-0-is at c.in-Ok-Some.ensures.next in
    let read = next c.args.records.now.records.limit inv.rs _ _ inv.read in
    omega (
      arith,
      ap length c.deref.ensures.value,
      fits_header c.args.records.now.records.limit c.next_held.new.self.records _ inv.rs
          c.in-Ok-Some.record.items _ _ c.requires.limit read,
    )

pub records-preserved-in-Ok : goal.records-preserved-in-Ok
records-preserved-in-Ok g c =
    let inv = c.records.invariant in
    let next = rw c.in-Ok-Some.field-0-is at c.in-Ok-Some.ensures.next in
    let read = next c.args.records.now.records.limit inv.rs _ _ inv.read in
    record {
      rs = inv.rs ++ c.in-Ok-Some.record.items ∷ [];
      read = read;
      handed = handed_record inv.rs c.records.outbox _ _ inv.handed c.in-Ok-Some.record.items c.put_record.new.self _
          c.in-Ok.ensures.records
          (subst (λ k. Sends c.records.outbox c.put_record.new.self (g.W.Sink.taken c.records.writer)
          (g.W.Sink.taken c.put_record.new.writer) (fragment true k)) c.deref.ensures.value c.in-Ok.ensures.ok);
      reads = Counts-trans _ _ _ c.records.records.reads 0 c.next_held.new.self.reads
          (omega (arith, c.next_held.ensures.reads)) inv.reads (Counts-none _);
      reads_failed = inv.reads_failed;
      writes_failed = Counts-trans _ _ _ 0 0 0 refl inv.writes_failed c.in-Ok.ensures.none_failed;
    }

pub returns-in-Err-put_record-clause-fault : goal.returns-in-Err-put_record-clause-fault
returns-in-Err-put_record-clause-fault g c =
    let inv = c.records.invariant in
    let next = rw c.in-Ok-Some.field-0-is at c.in-Ok-Some.ensures.next in
    let read = next c.args.records.now.records.limit inv.rs _ _ inv.read in
    lost_record inv.rs c.records.outbox _ _ inv.handed c.args.records.now.records.limit
    c.next_held.new.self.records _ _ _ _
    c.in-Ok-Some.record.items c.deref.result.now c.in-Err-put_record.lost c.deref.ensures.value read
    c.in-Err-put_record.ensures.cut

pub returns-in-Err-put_record-clause-read : goal.returns-in-Err-put_record-clause-read
returns-in-Err-put_record-clause-read g c =
    let lost = lost_is c.records.outbox _ _ _ c.in-Err-put_record.lost c.in-Err-put_record.ensures.cut in
    Counts-trans _ _ _ 0 0 _ lost.1 c.records.invariant.reads_failed (Counts-none _)

pub returns-in-Err-put_record-clause-write : goal.returns-in-Err-put_record-clause-write
returns-in-Err-put_record-clause-write g c =
    let lost = lost_is c.records.outbox _ _ _ c.in-Err-put_record.lost c.in-Err-put_record.ensures.cut in
    Counts-trans _ _ _ 0 1 _ lost.0 c.records.invariant.writes_failed c.in-Err-put_record.ensures.one_failed

-- ---- a fault among the bytes that were held

pub returns-in-Ok-flush-clause-fault : goal.returns-in-Ok-flush-clause-fault
returns-in-Ok-flush-clause-fault g c =
    let inv = c.records.invariant in
    let limit = c.args.records.now.records.limit in
    let fails = c.in-Err.ensures.next limit inv.rs _ _ inv.read in
    stops_failed limit inv.rs _ _ _ _ c.in-Err.fault fails
    (handed_all inv.rs c.flush.new.self _ _
    (handed_flushed inv.rs c.records.outbox _ _ inv.handed c.flush.new.self _ c.in-Ok-flush.ensures.records
    c.in-Ok-flush.ensures.ok) c.in-Ok-flush.ensures.empty).0

pub returns-in-Ok-flush-clause-write : goal.returns-in-Ok-flush-clause-write
returns-in-Ok-flush-clause-write g c =
    let inv = c.records.invariant in
    let limit = c.args.records.now.records.limit in
    let fails = c.in-Err.ensures.next limit inv.rs _ _ inv.read in
    Counts-trans _ _ _ 0 0 _ (fails_unwritten limit inv.rs _ _ c.in-Err.fault fails) inv.writes_failed
    c.in-Ok-flush.ensures.none_failed

pub returns-in-Ok-flush-clause-read : goal.returns-in-Ok-flush-clause-read
returns-in-Ok-flush-clause-read g c =
    Counts-trans _ _ _ 0 0 _ (feed_unread c.in-Err.fault c.in-Err.ensures.fault) c.records.invariant.reads_failed
    (Counts-none _)

pub returns-in-Err-flush-clause-fault : goal.returns-in-Err-flush-clause-fault
returns-in-Err-flush-clause-fault g c =
    let inv = c.records.invariant in
    lost_waiting inv.rs c.records.outbox _ _ inv.handed c.args.records.now.records.limit c.records.records.records
    _ _ _ _ c.in-Err-flush.lost inv.read c.in-Err-flush.ensures.cut

pub returns-in-Err-flush-clause-write : goal.returns-in-Err-flush-clause-write
returns-in-Err-flush-clause-write g c =
    let lost = lost_is c.records.outbox _ _ [] c.in-Err-flush.lost c.in-Err-flush.ensures.cut in
    Counts-trans _ _ _ 0 1 _ lost.0 c.records.invariant.writes_failed c.in-Err-flush.ensures.one_failed

pub returns-in-Err-flush-clause-read : goal.returns-in-Err-flush-clause-read
returns-in-Err-flush-clause-read g c =
    let lost = lost_is c.records.outbox _ _ [] c.in-Err-flush.lost c.in-Err-flush.ensures.cut in
    Counts-trans _ _ _ 0 0 _ lost.1 c.records.invariant.reads_failed (Counts-none _)

-- ---- no more is held

pub returns-in-Err-flush-2-clause-fault : goal.returns-in-Err-flush-2-clause-fault
returns-in-Err-flush-2-clause-fault g c =
    let inv = c.records.invariant in
    let next = rw c.in-Ok-None.field-0-is at c.in-Ok-None.ensures.next in
    let read = next.1 c.args.records.now.records.limit inv.rs _ _ inv.read in
    lost_waiting inv.rs c.records.outbox _ _ inv.handed c.args.records.now.records.limit
    c.next_held.new.self.records _ _ _ _
    c.in-Err-flush-2.lost read c.in-Err-flush-2.ensures.cut

pub returns-in-Err-flush-2-clause-read : goal.returns-in-Err-flush-2-clause-read
returns-in-Err-flush-2-clause-read g c =
    let lost = lost_is c.records.outbox _ _ [] c.in-Err-flush-2.lost c.in-Err-flush-2.ensures.cut in
    Counts-trans _ _ _ 0 0 _ lost.1 c.records.invariant.reads_failed (Counts-none _)

pub returns-in-Err-flush-2-clause-write : goal.returns-in-Err-flush-2-clause-write
returns-in-Err-flush-2-clause-write g c =
    let lost = lost_is c.records.outbox _ _ [] c.in-Err-flush-2.lost c.in-Err-flush-2.ensures.cut in
    Counts-trans _ _ _ 0 1 _ lost.0 c.records.invariant.writes_failed c.in-Err-flush-2.ensures.one_failed

pub returns-in-Ok-None-next_record-clause-ok : goal.returns-in-Ok-None-next_record-clause-ok
returns-in-Ok-None-next_record-clause-ok g c =
    let inv = c.records.invariant in
    let next = rw c.in-Ok-None.field-0-is at c.in-Ok-None.ensures.next in
    let read = next.1 c.args.records.now.records.limit inv.rs _ _ inv.read in
    let handed = handed_flushed inv.rs c.records.outbox _ _ inv.handed c.flush-in-records.new.self _
    c.in-Ok-flush-2.ensures.records c.in-Ok-flush-2.ensures.ok in
    let done = rw c.in-Ok-None-next_record.field-0-is
    at (c.in-Ok-None-next_record.ensures.next c.args.records.now.records.limit inv.rs _ read) in
    all_normalised c.args.records.now.records.limit inv.rs c.flush-in-records.new.self _ _ _ _ done
    (handed_all inv.rs c.flush-in-records.new.self _ _ handed c.in-Ok-flush-2.ensures.empty)

pub returns-in-Ok-None-next_record-clause-read : goal.returns-in-Ok-None-next_record-clause-read
returns-in-Ok-None-next_record-clause-read g c =
    Counts-trans _ _ _ 0 0 0 refl c.records.invariant.reads_failed c.in-Ok-None-next_record.ensures.read

pub returns-in-Ok-None-next_record-clause-write : goal.returns-in-Ok-None-next_record-clause-write
returns-in-Ok-None-next_record-clause-write g c =
    Counts-trans _ _ _ 0 0 0 refl c.records.invariant.writes_failed c.in-Ok-flush-2.ensures.none_failed

-- ---- a record that was read

pub put_record-requires-in-Ok-Some-next_record : goal.put_record-requires-in-Ok-Some-next_record
put_record-requires-in-Ok-Some-next_record g c =
    let inv = c.records.invariant in
    let next = rw c.in-Ok-None.field-0-is at c.in-Ok-None.ensures.next in
    let read = next.1 c.args.records.now.records.limit inv.rs _ _ inv.read in
    let more = rw c.in-Ok-Some-next_record.field-0-is
    at (c.in-Ok-Some-next_record.ensures.next c.args.records.now.records.limit inv.rs _ read) in
    omega (
      arith,
      ap length c.deref-in-Ok-Some-next_record.ensures.value,
      fits_header c.args.records.now.records.limit c.next_record.new.self.records _ inv.rs
          c.in-Ok-Some-next_record.record.items _ _
          c.requires.limit more,
    )

pub returns-in-Err-put_record-2-clause-fault : goal.returns-in-Err-put_record-2-clause-fault
returns-in-Err-put_record-2-clause-fault g c =
    let inv = c.records.invariant in
    let next = rw c.in-Ok-None.field-0-is at c.in-Ok-None.ensures.next in
    let read = next.1 c.args.records.now.records.limit inv.rs _ _ inv.read in
    let handed = handed_flushed inv.rs c.records.outbox _ _ inv.handed c.flush-in-records.new.self _
    c.in-Ok-flush-2.ensures.records c.in-Ok-flush-2.ensures.ok in
    let more = rw c.in-Ok-Some-next_record.field-0-is
    at (c.in-Ok-Some-next_record.ensures.next c.args.records.now.records.limit inv.rs _ read) in
    lost_record inv.rs c.flush-in-records.new.self _ _ handed c.args.records.now.records.limit
    c.next_record.new.self.records _ _ _ _
    c.in-Ok-Some-next_record.record.items c.deref-in-Ok-Some-next_record.result.now c.in-Err-put_record-2.lost
    c.deref-in-Ok-Some-next_record.ensures.value more c.in-Err-put_record-2.ensures.cut

pub returns-in-Err-put_record-2-clause-read : goal.returns-in-Err-put_record-2-clause-read
returns-in-Err-put_record-2-clause-read g c =
    let lost = lost_is c.flush-in-records.new.self _ _ _ c.in-Err-put_record-2.lost
    c.in-Err-put_record-2.ensures.cut in
    Counts-trans _ _ _ 0 0 _ lost.1 c.records.invariant.reads_failed c.in-Ok-Some-next_record.ensures.read

pub returns-in-Err-put_record-2-clause-write : goal.returns-in-Err-put_record-2-clause-write
returns-in-Err-put_record-2-clause-write g c =
    let inv = c.records.invariant in
    let flushed = Counts-trans _ _ _ 0 0 0 refl inv.writes_failed c.in-Ok-flush-2.ensures.none_failed in
    let lost = lost_is c.flush-in-records.new.self _ _ _ c.in-Err-put_record-2.lost
    c.in-Err-put_record-2.ensures.cut in
    Counts-trans _ _ _ 0 1 _ lost.0 flushed c.in-Err-put_record-2.ensures.one_failed

pub records-preserved : goal.records-preserved
records-preserved g c =
    let inv = c.records.invariant in
    let next = rw c.in-Ok-None.field-0-is at c.in-Ok-None.ensures.next in
    let read = next.1 c.args.records.now.records.limit inv.rs _ _ inv.read in
    let handed = handed_flushed inv.rs c.records.outbox _ _ inv.handed c.flush-in-records.new.self _
    c.in-Ok-flush-2.ensures.records c.in-Ok-flush-2.ensures.ok in
    let more = rw c.in-Ok-Some-next_record.field-0-is
    at (c.in-Ok-Some-next_record.ensures.next c.args.records.now.records.limit inv.rs _ read) in
    let flushed = Counts-trans _ _ _ 0 0 0 refl inv.writes_failed c.in-Ok-flush-2.ensures.none_failed in
    let put = c.put_record-in-Ok-Some-next_record.new in
    record {
      rs = inv.rs ++ c.in-Ok-Some-next_record.record.items ∷ [];
      read = more;
      handed = handed_record inv.rs c.flush-in-records.new.self _ _ handed
          c.in-Ok-Some-next_record.record.items put.self
          _ c.in-Ok-put_record.ensures.records
          (subst (λ k. Sends c.flush-in-records.new.self put.self (g.W.Sink.taken c.flush-in-records.new.writer)
          (g.W.Sink.taken put.writer) (fragment true k)) c.deref-in-Ok-Some-next_record.ensures.value
          c.in-Ok-put_record.ensures.ok);
      reads = c.next_record.ensures.reads _ (Counts-trans _ _ _ c.records.records.reads 0 c.next_held.new.self.reads
          (omega (arith, c.next_held.ensures.reads)) inv.reads (Counts-none _));
      reads_failed = Counts-trans _ _ _ 0 0 0 refl inv.reads_failed c.in-Ok-Some-next_record.ensures.read;
      writes_failed = Counts-trans _ _ _ 0 0 0 refl flushed c.in-Ok-put_record.ensures.none_failed;
    }

-- ---- a fault of reading on

pub returns-in-Err-next_record-clause-fault : goal.returns-in-Err-next_record-clause-fault
returns-in-Err-next_record-clause-fault g c =
    let inv = c.records.invariant in
    let next = rw c.in-Ok-None.field-0-is at c.in-Ok-None.ensures.next in
    let read = next.1 c.args.records.now.records.limit inv.rs _ _ inv.read in
    let handed = handed_flushed inv.rs c.records.outbox _ _ inv.handed c.flush-in-records.new.self _
    c.in-Ok-flush-2.ensures.records c.in-Ok-flush-2.ensures.ok in
    stops_failed c.args.records.now.records.limit inv.rs _ _ _ _ c.in-Err-next_record.fault
    (c.in-Err-next_record.ensures.next c.args.records.now.records.limit inv.rs _ read)
    (handed_all inv.rs c.flush-in-records.new.self _ _ handed c.in-Ok-flush-2.ensures.empty).0

pub returns-in-Err-next_record-clause-read : goal.returns-in-Err-next_record-clause-read
returns-in-Err-next_record-clause-read g c =
    Counts-trans _ _ _ 0 (reads_failed c.in-Err-next_record.fault) _ (omega arith) c.records.invariant.reads_failed
    c.in-Err-next_record.ensures.read

pub returns-in-Err-next_record-clause-write : goal.returns-in-Err-next_record-clause-write
returns-in-Err-next_record-clause-write g c =
    let inv = c.records.invariant in
    let next = rw c.in-Ok-None.field-0-is at c.in-Ok-None.ensures.next in
    let read = next.1 c.args.records.now.records.limit inv.rs _ _ inv.read in
    let fails = c.in-Err-next_record.ensures.next c.args.records.now.records.limit inv.rs _ read in
    Counts-trans _ _ _ 0 0 _
    (fails_unwritten c.args.records.now.records.limit inv.rs _ _ c.in-Err-next_record.fault fails)
    inv.writes_failed c.in-Ok-flush-2.ensures.none_failed

-- ---- how many reads were made

pub returns-in-Err-put_record-2-clause-reads : goal.returns-in-Err-put_record-2-clause-reads
returns-in-Err-put_record-2-clause-reads g c =
    let inv = c.records.invariant in
    record {
      most = record {
        calls = c.next_record.new.self.reads;
        few = c.next_record.ensures.most;
        counted = c.next_record.ensures.reads _ (Counts-trans _ _ _ c.records.records.reads 0
            c.next_held.new.self.reads (omega (arith, c.next_held.ensures.reads)) inv.reads (Counts-none _));
      };
      many = first_of (search rules, grind (arith, common_steps));
    }

pub returns-in-Err-next_record-clause-reads : goal.returns-in-Err-next_record-clause-reads
returns-in-Err-next_record-clause-reads g c =
    let inv = c.records.invariant in
    record {
      most = record {
        calls = c.next_record.new.self.reads;
        few = c.next_record.ensures.most;
        counted = c.next_record.ensures.reads _ (Counts-trans _ _ _ c.records.records.reads 0
            c.next_held.new.self.reads (omega (arith, c.next_held.ensures.reads)) inv.reads (Counts-none _));
      };
      many = first_of (search rules, grind (arith, common_steps));
    }
