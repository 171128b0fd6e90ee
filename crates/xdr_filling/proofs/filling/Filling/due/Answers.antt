-- Nodes end and open without a byte.
use Rattle.std.proofs.Common.{◌≡◌, List, [], sym, subst, ◌∙◌}
use Rattle.xdr_types.specs.Kinds.{KindView, kind_at}
use Rattle.xdr_types.specs.KindViews.{kind_view}
use Rattle.xdr_filling.specs.Filled.{holes_of}
use Rattle.xdr_filling.specs.Holes.{Goes}
use Rattle.xdr_filling.specs.Private.Makes.{IsNode, inside_of}
use Rattle.xdr_filling.specs.declared.filling.Filling.{Filling}
use Rattle.xdr_filling.proofs.Going.{goes_by}
use Rattle.xdr_filling.proofs.Opening.{three_go}
use Rattle.xdr_filling.proofs.filling.Filling.due.Goals as goal

pub returns-then-not-branch-clause-moves : goal.returns-then-not-branch-clause-moves
returns-then-not-branch-clause-moves c =
    let k = c.args.self.now.schema.now.kinds in
    let same : c.fill.new.self ≡ c.settle.new.self = c.in_ok-fill.ensures.same (cc) in
    subst (λ (f : Filling). Goes k (holes_of c.args.self.now) (holes_of f) [] []) (sym same)
    (goes_by k (holes_of c.args.self.now) (holes_of c.loop-left.self) (holes_of c.settle.new.self) [] []
    c.loop-left.invariant.0 (c.settle.ensures.moves k))

pub loop-left-preserved : goal.loop-left-preserved
loop-left-preserved c =
    let k = c.args.self.now.schema.now.kinds in
    let schema : c.settle.new.self.schema ≡ c.args.self.now.schema =
    c.settle.ensures.schema ∙ c.loop-left.invariant.1 in
    let kinds : c.settle.new.self.schema.now.kinds ≡ k = cc in
    let kind : kind_view c.kind-kind.result.now ≡ kind_at k c.in-Some.id.place =
    subst (λ (s : List KindView). kind_view c.kind-kind.result.now ≡ kind_at s c.in-Some.id.place) kinds
    c.kind-kind.ensures in
    let node : IsNode k (kind_at k c.in-Some.id.place) [] [] (inside_of c.in-Some-silent.inside) =
    subst (λ (x : KindView). IsNode k x [] [] (inside_of c.in-Some-silent.inside)) kind
    (c.in-Some-silent.ensures k) in (
      three_go k (holes_of c.args.self.now) (holes_of c.loop-left.self) (holes_of c.settle.new.self)
          (holes_of c.fill.new.self) c.loop-left.invariant.0 (c.settle.ensures.moves k)
          (c.in_ok-fill.ensures.moves (cc) k [] [] node),
      c.fill.ensures.schema ∙ schema,
    )
