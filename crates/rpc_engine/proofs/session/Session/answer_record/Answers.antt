use Rattle.std.proofs.Common.{◌≡◌, length, true, false, subst}
use Rattle.registry_answer.specs.Views.{netid_of}
use Rattle.rpc_engine.specs.declared.session.Session.{Session}
use Rattle.rpc_engine.specs.Private.Fronts.{front_len, IsSent}
use Rattle.rpc_engine.proofs.Sessions.{does_silent, does_reply, loses_reply, front_is}
use Rattle.rpc_engine.proofs.session.Session.answer_record.Goals as goal

pub returns-in-Nothing-clause-ok : goal.returns-in-Nothing-clause-ok
returns-in-Nothing-clause-ok g c =
    does_silent (netid_of c.args.transport) c.args.directory.now _ c.args.self.now _ c.args.message.now _
    c.in-Nothing.ensures.0 c.begin.ensures.records c.begin.ensures.answered c.begin.ensures.bytes

pub returns-in-Reply-clause-ok : goal.returns-in-Reply-clause-ok
returns-in-Reply-clause-ok g c =
    let p = c.in-Reply.ensures in
    let x = c.clear.new.self.items in
    let old = c.extend_from_slice.new.self.items in
    let before : length old ≡ front_len c.is_ok-has_front.result =
    front_is c.is_ok-has_front.result _ x old c.clear.ensures.items c.extend_from_slice.ensures.items
    c.is_ok-has_front.ensures.value in
    let mid : Session = record {
      served = c.begin.new.self.served;
      written = c.begin.new.self.written;
      buffer = c.send-sent.new.buffer;
    } in
    does_reply (netid_of c.args.transport) c.args.directory.now c.append_answer.new.directory c.args.self.now mid
    c.count.new.self c.args.message.now p.0 false (g.W.Sink.taken c.args.writer.now)
    (g.W.Sink.taken c.send-sent.new.writer) p.1.0 c.begin.ensures.records c.begin.ensures.answered
    c.begin.ensures.bytes c.send-sent.result c.count.result c.count.ensures
    (c.send-sent.ensures.sent old p.0 before p.1.1.added)

pub returns-in-Reply-clause-cut : goal.returns-in-Reply-clause-cut
returns-in-Reply-clause-cut g c =
    let p = c.in-Reply.ensures in
    let x = c.clear.new.self.items in
    let old = c.extend_from_slice.new.self.items in
    let before : length old ≡ front_len c.is_ok-has_front.result =
    front_is c.is_ok-has_front.result _ x old c.clear.ensures.items c.extend_from_slice.ensures.items
    c.is_ok-has_front.ensures.value in
    let mid : Session = record {
      served = c.begin.new.self.served;
      written = c.begin.new.self.written;
      buffer = c.send-sent.new.buffer;
    } in
    loses_reply (netid_of c.args.transport) c.args.directory.now c.append_answer.new.directory c.args.self.now mid
    c.count.new.self c.args.message.now p.0 false (g.W.Sink.taken c.args.writer.now)
    (g.W.Sink.taken c.send-sent.new.writer) p.1.0 c.begin.ensures.records c.begin.ensures.answered
    c.begin.ensures.bytes c.send-sent.result c.count.result c.count.ensures
    (c.send-sent.ensures.sent old p.0 before p.1.1.added)

pub returns-in-OutOfMemory-clause-ok : goal.returns-in-OutOfMemory-clause-ok
returns-in-OutOfMemory-clause-ok g c =
    let mid : Session = record {
      served = c.begin.new.self.served;
      written = c.begin.new.self.written;
      buffer = c.append_answer.new.out;
    } in
    let t = g.W.Sink.taken c.args.writer.now in
    let u = g.W.Sink.taken c.send_whole-sent.new.writer in
    does_reply (netid_of c.args.transport) c.args.directory.now c.append_answer.new.directory c.args.self.now mid
    c.count-in-OutOfMemory.new.self c.args.message.now _ true t u c.in-OutOfMemory.ensures.0
    c.begin.ensures.records c.begin.ensures.answered c.begin.ensures.bytes c.send_whole-sent.result
    c.count-in-OutOfMemory.result c.count-in-OutOfMemory.ensures
    (subst (λ x. IsSent x t u c.send_whole-sent.result) c.system_error.ensures c.send_whole-sent.ensures.sent)

pub returns-in-OutOfMemory-clause-cut : goal.returns-in-OutOfMemory-clause-cut
returns-in-OutOfMemory-clause-cut g c =
    let mid : Session = record {
      served = c.begin.new.self.served;
      written = c.begin.new.self.written;
      buffer = c.append_answer.new.out;
    } in
    let t = g.W.Sink.taken c.args.writer.now in
    let u = g.W.Sink.taken c.send_whole-sent.new.writer in
    loses_reply (netid_of c.args.transport) c.args.directory.now c.append_answer.new.directory c.args.self.now mid
    c.count-in-OutOfMemory.new.self c.args.message.now _ true t u c.in-OutOfMemory.ensures.0
    c.begin.ensures.records c.begin.ensures.answered c.begin.ensures.bytes c.send_whole-sent.result
    c.count-in-OutOfMemory.result c.count-in-OutOfMemory.ensures
    (subst (λ x. IsSent x t u c.send_whole-sent.result) c.system_error.ensures c.send_whole-sent.ensures.sent)
