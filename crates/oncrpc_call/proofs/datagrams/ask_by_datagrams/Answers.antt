-- The call is sent again while no receive brings a reply.
use Rattle.std.proofs.Common.{◌≡◌, ◌+◌, ◌*◌, ◌-◌, Err, refl, sym, ◌∙◌, subst, arith}
use Rattle.std.proofs.Common.{inl, inr, replicate, Result}
use Rattle.xdr_io.proofs.Chained.{Counts-none, Counts-trans}
use Rattle.xdr_io.specs.Reported.{Counts}
use Rattle.rpc_message.specs.declared.message.Reply.{Reply}
use Rattle.rpc_message.specs.Spelling.{call}
use Rattle.rpc_message.specs.View.{call_view}
use Rattle.rpc_engine.specs.Exchanged.{read_failures, write_failures}
use Rattle.rpc_engine.specs.declared.fault.ClientFault.{ClientFault}
use Rattle.rpc_engine.specs.declared.fault.ClientFault.TheVariants as fault
use Rattle.rpc_engine.proofs.Ports.{Sends-none}
use Rattle.oncrpc_call.specs.Datagrams.{Answered, most_passed, report_of, unanswered}
use Rattle.oncrpc_call.proofs.EachSending.{answered_last, never_sent, none_answered, not_sent_again, one_sending}
use Rattle.oncrpc_call.proofs.EachSending.{unanswered_more}
use Rattle.oncrpc_call.proofs.Passing.{answered_then, nothing_asked, over_sending, sent_again, unanswered_by}
use Rattle.oncrpc_call.proofs.Passing.{sent_then, unanswered_over, unread_at, unsent_at}
use Rattle.oncrpc_call.proofs.datagrams.ask_by_datagrams.Goals as goal

pub returns-in_default : goal.returns-in_default
returns-in_default g c = record {
  times = 0;
  few = omega arith;
  all = λ e. cc;
  none = λ zero. inl refl;
  sent = Sends-none _;
  answer_is = nothing_asked c.args.call.now.xid _ _;
  each = never_sent (report_of g.P.DatagramPort.left g.P.DatagramPort.sent g.P.DatagramPort.receive_failures
      g.P.DatagramPort.send_failures) c.args.call.now.xid (call (call_view c.args.call.now)) _;
  unreceived = Counts-none _;
  unsent = Counts-none _;
}

pub returns-then-is_answered : goal.returns-then-is_answered
returns-then-is_answered g c =
    let inv = c.asking.invariant in
    let xid = c.args.call.now.xid in
    let n = c.asking._sent in
    let answer = c.receive_reply-answer.result in
    let some : answer ≡ Err fault.Read → ⊥ = rw c.if-is_answered.true at c.is_answered.ensures in
    let own : c.deref.result.now ≡ call (call_view c.args.call.now) = c.deref.ensures.value ∙ c.in-Ok.ensures.parts in
    let reports = report_of g.P.DatagramPort.left g.P.DatagramPort.sent g.P.DatagramPort.receive_failures
    g.P.DatagramPort.send_failures in
    let one = one_sending reports xid (call (call_view c.args.call.now)) c.deref.result.now
    c.receive_reply-answer.result _ _ _ own c.in-Ok-send.ensures.sent c.in-Ok-send.ensures.unreceived
    c.in-Ok-send.ensures.none_failed c.in-Ok-send.ensures.failed c.receive_reply-answer.ensures.answered
    c.receive_reply-answer.ensures.unsent c.receive_reply-answer.ensures.read c.receive_reply-answer.ensures.write in
    record {
      times = n + 1;
      few = omega arith;
      all = λ e. absurd (some e);
      none = λ zero. absurd (omega (arith, zero));
      sent = sent_again _ _ _ _ n (call (call_view c.args.call.now)) c.deref.result.now inv.sent
          c.in-Ok-send.ensures.sent c.receive_reply-answer.ensures.unsent own;
      answer_is = answered_then xid (n * most_passed) most_passed ((n + 1) * most_passed) _ _ _ inv.passed.0 answer
          inv.passed.2 (omega arith) (over_sending xid _ _ _ inv.passed.0 inv.passed.1 c.in-Ok-send.ensures.unreceived)
          c.receive_reply-answer.ensures.answered;
      each = answered_last reports xid (call (call_view c.args.call.now)) n answer _ _ _ inv.each one;
      unreceived = Counts-trans _ _ _ n (read_failures answer) (unanswered (n + 1) answer)
          (unanswered_by n answer c.receive_reply-answer.ensures.unwritten)
          (Counts-trans _ _ _ n 0 n (omega arith) inv.unreceived c.in-Ok-send.ensures.none_failed)
          c.receive_reply-answer.ensures.read;
      unsent = Counts-trans _ _ _ 0 0 (write_failures answer) (sym c.receive_reply-answer.ensures.unwritten)
          (Counts-trans _ _ _ 0 0 0 refl inv.unsent c.in-Ok-send.ensures.failed)
          c.receive_reply-answer.ensures.write;
    }

pub asking-preserved : goal.asking-preserved
asking-preserved g c =
    let inv = c.asking.invariant in
    let xid = c.args.call.now.xid in
    let n = c.asking._sent in
    let own : c.deref.result.now ≡ call (call_view c.args.call.now) = c.deref.ensures.value ∙ c.in-Ok.ensures.parts in
    let none : c.receive_reply-answer.result ≡ Err fault.Read = rw c.if-is_answered.false at c.is_answered.ensures in
    let reports = report_of g.P.DatagramPort.left g.P.DatagramPort.sent g.P.DatagramPort.receive_failures
    g.P.DatagramPort.send_failures in
    let one = one_sending reports xid (call (call_view c.args.call.now)) c.deref.result.now
    c.receive_reply-answer.result _ _ _ own c.in-Ok-send.ensures.sent c.in-Ok-send.ensures.unreceived
    c.in-Ok-send.ensures.none_failed c.in-Ok-send.ensures.failed c.receive_reply-answer.ensures.answered
    c.receive_reply-answer.ensures.unsent c.receive_reply-answer.ensures.read c.receive_reply-answer.ensures.write in
    let left = g.P.DatagramPort.left in
    let failures = g.P.DatagramPort.receive_failures in
    let unread : Answered xid most_passed (left c.send.new.self) (left c.receive_reply-answer.new.port)
    (Err fault.Read) =
    subst (λ (r : Result Reply ClientFault). Answered xid most_passed (left c.send.new.self)
    (left c.receive_reply-answer.new.port) r) none c.receive_reply-answer.ensures.answered in
    let failed : Counts 1 (failures c.send.new.self) (failures c.receive_reply-answer.new.port) =
    subst (λ (r : Result Reply ClientFault). Counts (read_failures r) (failures c.send.new.self)
    (failures c.receive_reply-answer.new.port)) none c.receive_reply-answer.ensures.read in
    record {
      passed = unanswered_over xid (n * most_passed) most_passed ((n + 1) * most_passed) _ _ _ inv.passed.0
          inv.passed.2 (omega arith) (over_sending xid _ _ _ inv.passed.0 inv.passed.1 c.in-Ok-send.ensures.unreceived)
          unread;
      each = unanswered_more reports xid (call (call_view c.args.call.now)) n c.receive_reply-answer.result _ _ _
          inv.each none one;
      sent = sent_again _ _ _ _ n (call (call_view c.args.call.now)) c.deref.result.now inv.sent
          c.in-Ok-send.ensures.sent c.receive_reply-answer.ensures.unsent own;
      unreceived = Counts-trans _ _ _ n 1 (n + 1) refl
          (Counts-trans _ _ _ n 0 n (omega arith) inv.unreceived c.in-Ok-send.ensures.none_failed) failed;
      unsent = Counts-trans _ _ _ 0 0 0 refl
          (Counts-trans _ _ _ 0 0 0 refl inv.unsent c.in-Ok-send.ensures.failed)
          c.receive_reply-answer.ensures.write;
    }

pub returns-in-Err : goal.returns-in-Err
returns-in-Err g c =
    let inv = c.asking.invariant in
    let n = c.asking._sent in
    let reports = report_of g.P.DatagramPort.left g.P.DatagramPort.sent g.P.DatagramPort.receive_failures
    g.P.DatagramPort.send_failures in
    record {
      times = n;
      few = omega arith;
      all = λ e. cc;
      none = λ zero. inr refl;
      sent = sent_then _ _ _ (replicate n (call (call_view c.args.call.now))) inv.sent c.in-Err.ensures.sent;
      answer_is = unsent_at c.args.call.now.xid (n * most_passed) _ _ inv.passed.0 inv.passed.2
          (over_sending c.args.call.now.xid _ _ _ inv.passed.0 inv.passed.1 c.in-Err.ensures.unreceived);
      each = not_sent_again reports c.args.call.now.xid (call (call_view c.args.call.now)) n _ _ _ inv.each
          c.in-Err.ensures.sent c.in-Err.ensures.unreceived;
      unreceived = Counts-trans _ _ _ n 0 n (omega arith) inv.unreceived c.in-Err.ensures.none_failed;
      unsent = Counts-trans _ _ _ 0 1 1 refl inv.unsent c.in-Err.ensures.failed;
    }

pub returns : goal.returns
returns g c =
    let inv = c.asking.invariant in
    let n = c.asking._sent in
    let some = c.requires.some in
    let reports = report_of g.P.DatagramPort.left g.P.DatagramPort.sent g.P.DatagramPort.receive_failures
    g.P.DatagramPort.send_failures in
    record {
      times = n;
      few = omega arith;
      all = λ e. omega arith;
      none = λ zero. absurd (omega arith);
      sent = inv.sent;
      answer_is = unread_at c.args.call.now.xid (n * most_passed) _ _ inv.passed.0 inv.passed.2 inv.passed.1;
      each = none_answered reports c.args.call.now.xid (call (call_view c.args.call.now)) n _ _ (omega arith) inv.each;
      unreceived = Counts-trans _ _ _ n 0 (n - 1 + 1) (omega arith) inv.unreceived (Counts-none _);
      unsent = inv.unsent;
    }
