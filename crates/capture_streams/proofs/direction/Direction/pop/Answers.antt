use Rattle.std.proofs.Common.{◌≡◌, ℕ, ◌+◌, ◌++◌, List, ap, subst, ◌∙◌, arith}
use Rattle.capture_streams.specs.Held.{StandFrom}
use Rattle.capture_streams.proofs.Firsts.{behind_first}
use Rattle.capture_streams.proofs.Stepping.{pops}
use Rattle.capture_streams.proofs.direction.Direction.pop.Goals as goal

pub invariant_of-self-clause-behind : goal.invariant_of-self-clause-behind
invariant_of-self-clause-behind c =
    let m = c.args.self.now.pieces.by_last in
    let v = c.in-Some.piece.now in
    let f = c.in-Some.ensures.some in
    let ends = (c.args.self.now.pieces.apart.whole f.0 v f.1.there).ends in
    let long = v.bytes.ok.0 in
    let due : f.0 + 1 ≡ v.at + c.len.result = omega (arith, c.len.ensures) in
    subst (λ (n : ℕ). StandFrom n c.drop_first.new.self.by_last) due
    (behind_first m c.drop_first.new.self.by_last f.0 v c.args.self.now.pieces.apart f.1
    (c.drop_first.ensures.drops f.0 v f.1))

pub returns-clause-ok : goal.returns-clause-ok
returns-clause-ok c =
    let d = c.args.self.now in
    let v = c.in-Some.piece.now in
    let f = c.in-Some.ensures.some in
    let long = v.bytes.ok.0 in
    pops d _ f.0 v c.args.out.now.items _ d.pieces.apart d.behind c.requires f.1 (c.drop_first.ensures.drops f.0 v f.1)
    (omega (arith, c.len.ensures))
    (c.in_ok-extend_from_slice.ensures.items ∙ ap (λ (xs : List ℕ). c.args.out.now.items ++ xs) c.deref.ensures.value)
