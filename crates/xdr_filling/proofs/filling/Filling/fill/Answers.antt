-- The next part is filled by a node without parts, or by one that is opened.
use Rattle.std.proofs.Common.{◌≡◌, ◌+◌, ◌-◌, ◌≤◌, List, [], ◌∷◌, refl, ap, subst, arith}
use Rattle.std.specs.Prelude.{Option}
use Rattle.xdr_types.specs.Kinds.{Part, kind_at}
use Rattle.xdr_stream.specs.Frames.{left_of}
use Rattle.xdr_stream.specs.declared.machine.frame.Frame.{Frame}
use Rattle.xdr_filling.specs.Filled.{onto}
use Rattle.xdr_filling.specs.Holes.{hole}
use Rattle.xdr_filling.specs.Private.Makes.{IsNode, inside_of}
use Rattle.xdr_filling.proofs.Opening.{leaf_goes, node_goes}
use Rattle.xdr_filling.proofs.filling.Filling.fill.Goals as goal

pub returns-in-None-clause-moves : goal.returns-in-None-clause-moves
returns-in-None-clause-moves c = λ yes kinds is bytes n.
    let w = c.args.self.now.work in
    let none : inside_of c.args.inside ≡ [] = ap (λ (o : Option Frame). inside_of o) c.in-None.is in
    leaf_goes kinds (left_of w.frame) c.args.id.place w.room (onto [] c.args.self.now.around.items) is bytes
    (inside_of c.args.inside) c.requires n (left_of c.after-self.result) c.after-self.ensures none (omega arith)

pub returns-in_ok-put_rest-in-Some-clause-moves : goal.returns-in_ok-put_rest-in-Some-clause-moves
returns-in_ok-put_rest-in-Some-clause-moves c = λ yes kinds is bytes n.
    let w = c.args.self.now.work in
    let parts : inside_of c.args.inside ≡ left_of c.in-Some.frame =
    ap (λ (o : Option Frame). inside_of o) c.in-Some.is in
    let room : w.room - 1 + 1 ≤ w.room = omega arith in
    node_goes kinds (left_of w.frame) c.args.id.place w.room (onto [] c.args.self.now.around.items) is bytes
    (left_of c.in-Some.frame) c.requires
    (subst (λ (qs : List Part). IsNode kinds (kind_at kinds c.args.id.place) is bytes qs) parts n) (w.room - 1) room
    (onto [] c.put_rest.new.self.around.items)
    (c.in_ok-put_rest-in-Some.ensures.rest kinds (hole (left_of c.in-Some.frame) (w.room - 1)))
