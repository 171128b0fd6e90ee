-- The rest of a node is put onto the others, or has no parts.
use Rattle.std.proofs.Common.{◌≡◌, [], sym}
use Rattle.xdr_stream.specs.Frames.{left_of, Begins}
use Rattle.xdr_stream.proofs.Frames.{none_of}
use Rattle.xdr_filling.specs.Filled.{onto}
use Rattle.xdr_filling.proofs.Opening.{rest_put, rest_left}
use Rattle.xdr_filling.proofs.filling.Filling.put_rest.Goals as goal

pub returns-in_ok-push-clause-rest : goal.returns-in_ok-push-clause-rest
returns-in_ok-push-clause-rest c = λ kinds h.
    let w = c.args.self.now.work in
    rest_put kinds h (left_of w.frame) (record { frame = c.after.result; room = w.room }) c.args.self.now.around.items
    c.push.new.self.items c.after.ensures c.in_ok-push.ensures.items

pub returns-else-is_some-clause-rest : goal.returns-else-is_some-clause-rest
returns-else-is_some-clause-rest c = λ kinds h.
    let w = c.args.self.now.work in
    let none : left_of c.after.result ≡ [] =
    none_of c.next.result (left_of c.after.result ≡ []) (λ k. Begins (left_of c.after.result) k.place)
    (sym c.if-is_some.ensures) c.next.ensures in
    rest_left kinds h (left_of w.frame) (left_of c.after.result) w.room (onto [] c.args.self.now.around.items)
    c.after.ensures none
