-- A node that has all its parts ends.
use Rattle.std.proofs.Common.{◌≡◌, [], refl}
use Rattle.xdr_stream.specs.Frames.{left_of, Begins}
use Rattle.xdr_stream.proofs.Frames.{none_of}
use Rattle.xdr_filling.specs.Filled.{holes_of}
use Rattle.xdr_filling.proofs.Going.{stays}
use Rattle.xdr_filling.proofs.Opening.{ended, none_left, empty}
use Rattle.xdr_filling.proofs.filling.Filling.settle.Goals as goal

pub loop-self-init : goal.loop-self-init
loop-self-init c = ((λ kinds. stays kinds (holes_of c.args.self.now)), refl)

pub loop-self-preserved : goal.loop-self-preserved
loop-self-preserved c =
    let f = c.loop-self.self in
    let none : left_of f.work.frame ≡ [] =
    none_of c.next.result (left_of f.work.frame ≡ []) (λ k. Begins (left_of f.work.frame) k.place)
    c.loop-self-test.ensures c.next.ensures in (
      (λ kinds. ended kinds (holes_of c.args.self.now) f.work c.in-Some.outer f.around.items c.pop.new.self.items
          (c.loop-self.invariant.0 kinds) none c.in-Some.ensures.items),
      c.loop-self.invariant.1,
    )

pub returns-in_default-clause-whole : goal.returns-in_default-clause-whole
returns-in_default-clause-whole c = λ off kinds.
    let f = c.loop-self.self in
    let none : left_of f.work.frame ≡ [] =
    none_of c.next.result (left_of f.work.frame ≡ []) (λ k. Begins (left_of f.work.frame) k.place)
    c.loop-self-test.ensures c.next.ensures in
    none_left kinds f.work c.pop.new.self.items none (empty c.pop.new.self.items c.in_default.ensures.cases.1)
