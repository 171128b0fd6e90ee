use Rattle.std.proofs.lemmas.Result.{err_from_is_err_and}
use Rattle.std.proofs.Common.{◌≡◌, []}
use Rattle.xdr_stream.specs.Frames.{left_of, Begins, stack_of}
use Rattle.xdr_stream.proofs.Frames.{none_of}
use Rattle.xdr_stream.proofs.Seeing.{sees_popped}
use Rattle.xdr_stream.proofs.Sounding.{stack_popped}
use Rattle.std.proofs.Common.{ap, length, arith, ◌∷◌}
use Rattle.std.proofs.lemmas.List.{length-append}
use Rattle.xdr_stream.specs.declared.machine.Awaits.TheVariants.{Next}
use Rattle.xdr_stream.proofs.Frames.{onto_length}
use Rattle.xdr_stream.proofs.Sparing.{seen_alone}
use Rattle.xdr_stream.proofs.machine.nodes.end_nodes.Goals as goal

pub loop-parents-preserved : goal.loop-parents-preserved
loop-parents-preserved g c = (
  (λ kinds kind limits q h.
      let none = none_of c.next.result (left_of c.loop-parents.work ≡ [])
      (λ k. Begins (left_of c.loop-parents.work) k.place) c.loop-parents-test.ensures c.next.ensures in
      sees_popped kinds kind limits (g.B.Build.reports c.loop-parents.built)
      (g.B.Build.reports c.close.new.self) c.loop-parents.work c.in-Some.parent c.loop-parents.parents.items
      c.pop.new.self.items q none
      c.in-Some.ensures.items c.in_ok-close.ensures (c.loop-parents.invariant.0 kinds kind limits q h)),
  λ kinds h.
      (stack_popped kinds c.loop-parents.work c.in-Some.parent c.loop-parents.parents.items c.pop.new.self.items
      c.in-Some.ensures.items (c.loop-parents.invariant.1 kinds h)).1,
)

pub returns-in_err-close-clause-solid : goal.returns-in_err-close-clause-solid
returns-in_err-close-clause-solid g c = λ kinds h.
    let p = stack_popped kinds c.loop-parents.work c.in-Some.parent c.loop-parents.parents.items c.pop.new.self.items
    c.in-Some.ensures.items (c.loop-parents.invariant.1 kinds h) in (p.0, p.1.1)

pub returns-clause-solid : goal.returns-clause-solid
returns-clause-solid g c = c.loop-parents.invariant.1

pub returns-in_err-close-clause-spared : goal.returns-in_err-close-clause-spared
returns-in_err-close-clause-spared g c =
    let p = err_from_is_err_and c.from_residual.result c.from_residual.ensures.1 in
    rw p.1 (λ kinds limits kind q h free.
    let a = seen_alone g.B.Build.spares kinds kind free limits (g.B.Build.reports c.loop-parents.built) Next
    (stack_of c.loop-parents.work c.loop-parents.parents.items) q (c.loop-parents.invariant.0 kinds kind limits q h) in
    absurd (omega (
      arith,
      a.3,
      onto_length [] c.loop-parents.parents.items,
      ap length c.in-Some.ensures.items,
      length-append c.pop.new.self.items (c.in-Some.parent ∷ []),
    )))
