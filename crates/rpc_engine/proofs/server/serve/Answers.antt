use Rattle.std.proofs.Common.{[], ◌∷◌, ◌++◌, refl, sym, subst, arith}
use Rattle.xdr_io.proofs.Chained.{Counts-trans, Counts-none}
use Rattle.registry_answer.specs.Views.{netid_of}
use Rattle.rpc_engine.specs.Served.{most_record}
use Rattle.rpc_record.specs.Failures.{reads_failed as flaw_reads}
use Rattle.rpc_engine.specs.Private.Serving.{Does}
use Rattle.rpc_engine.proofs.Pieces.{does_none, does_trans}
use Rattle.rpc_engine.proofs.Whole.{serves, stops_failed, stops_lost, reads_same, fails_unwritten, lost_is}
use Rattle.rpc_engine.proofs.server.serve.Goals as goal

pub records-init : goal.records-init
records-init g c = record {
  rs = [];
  start = c.new-session.result;
  begun = c.new-session.ensures;
  read = c.start-records.ensures.read _;
  does = does_none (netid_of c.args.transport) _ c.new-session.result _;
  reads = Counts-trans _ _ _ 0 0 _ (sym c.start-records.ensures.unread) (Counts-none _) (Counts-none _);
  reads_failed = Counts-none _;
  writes_failed = Counts-none _;
}

-- ---- the input has ended

pub returns-in-Ok-false-clause-ok : goal.returns-in-Ok-false-clause-ok
returns-in-Ok-false-clause-ok g c =
    let inv = c.records.invariant in
    serves (netid_of c.args.transport) _ _ inv.start c.records.session inv.rs _ _ _ _ inv.begun inv.does
    (rw c.in-Ok-false.field-0-test at (c.in-Ok-false.ensures.next most_record inv.rs _ inv.read))

-- ---- a record

pub records-preserved : goal.records-preserved
records-preserved g c =
    let inv = c.records.invariant in
    let record_is = c.deref.ensures.value in
    record {
      rs = inv.rs ++ c.next_record_into.new.buffer.items ∷ [];
      start = inv.start;
      begun = inv.begun;
      read = rw c.in-Ok-true.field-0-test at (c.in-Ok-true.ensures.next most_record inv.rs _ inv.read);
      does = does_trans (netid_of c.args.transport) _ _ _ inv.start c.records.session c.answer_record.new.self inv.rs
          (c.next_record_into.new.buffer.items ∷ []) _ _ _ inv.does
          (subst (λ k. Does (netid_of c.args.transport) c.records.directory c.answer_record.new.directory
          c.records.session c.answer_record.new.self (k ∷ []) (g.W.Sink.taken c.records.writer)
          (g.W.Sink.taken c.answer_record.new.writer)) record_is c.in-Ok.ensures.ok);
      reads = c.in-Ok-true.ensures.reads _ inv.reads;
      reads_failed = Counts-trans _ _ _ 0 0 0 refl inv.reads_failed c.in-Ok-true.ensures.read;
      writes_failed = Counts-trans _ _ _ 0 0 0 refl inv.writes_failed c.in-Ok.ensures.none_failed;
    }

pub returns-in-Err-answer_record-clause-fault : goal.returns-in-Err-answer_record-clause-fault
returns-in-Err-answer_record-clause-fault g c =
    let inv = c.records.invariant in
    stops_lost (netid_of c.args.transport) _ _ _ inv.start c.records.session inv.rs c.next_record_into.new.buffer.items
    c.deref.result.now _ _ _ _ _ c.next_record_into.new.self.records _ c.in-Err-answer_record.lost c.deref.ensures.value
    (rw c.in-Ok-true.field-0-test at (c.in-Ok-true.ensures.next most_record inv.rs _ inv.read)) inv.begun inv.does
    c.in-Err-answer_record.ensures.cut

pub returns-in-Err-answer_record-clause-write : goal.returns-in-Err-answer_record-clause-write
returns-in-Err-answer_record-clause-write g c =
    let lost = lost_is (netid_of c.args.transport) _ _ c.records.session _ _ _ c.in-Err-answer_record.lost
    c.in-Err-answer_record.ensures.cut in
    Counts-trans _ _ _ 0 1 _ lost.0 c.records.invariant.writes_failed c.in-Err-answer_record.ensures.one_failed

pub returns-in-Err-answer_record-clause-read : goal.returns-in-Err-answer_record-clause-read
returns-in-Err-answer_record-clause-read g c =
    let lost = lost_is (netid_of c.args.transport) _ _ c.records.session _ _ _ c.in-Err-answer_record.lost
    c.in-Err-answer_record.ensures.cut in
    Counts-trans _ _ _ 0 0 _ lost.1 c.records.invariant.reads_failed c.in-Ok-true.ensures.read

-- ---- a fault of the reader

pub returns-in-Err-clause-fault : goal.returns-in-Err-clause-fault
returns-in-Err-clause-fault g c =
    let inv = c.records.invariant in
    rw c.record_fault.ensures
    (stops_failed (netid_of c.args.transport) _ _ inv.start c.records.session inv.rs _ _ _ _ inv.begun inv.does
    c.in-Err.fault (c.in-Err.ensures.next most_record inv.rs _ inv.read))

pub returns-in-Err-clause-read : goal.returns-in-Err-clause-read
returns-in-Err-clause-read g c =
    rw c.record_fault.ensures
    (Counts-trans _ _ _ 0 (flaw_reads c.in-Err.fault) _ (omega (arith, reads_same c.in-Err.fault))
    c.records.invariant.reads_failed c.in-Err.ensures.read)

pub returns-in-Err-clause-write : goal.returns-in-Err-clause-write
returns-in-Err-clause-write g c =
    let inv = c.records.invariant in
    rw c.record_fault.ensures
    (Counts-trans _ _ _ 0 0 _
    (fails_unwritten inv.rs _ _ c.in-Err.fault (c.in-Err.ensures.next most_record inv.rs _ inv.read))
    inv.writes_failed (Counts-none _))
