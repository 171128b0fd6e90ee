use Rattle.std.proofs.Common.{◌≡◌, ◌++◌, ◌-◌, List, ℕ, ap, ◌∙◌, append_assoc, replicate, take, rules, arith}
use Rattle.std.proofs.lemmas.List.{take-replicate}
use Rattle.xdr_show.proofs.Stepping.{spaces-more}
use Rattle.xdr_show.proofs.line.push_indent.Goals as goal

pub loop-left-preserved : goal.loop-left-preserved
loop-left-preserved c =
    let n = c.loop-left.left in
    let spaces : List ℕ = replicate 64 32 in
    let new : c.extend_from_slice.new.self.items
    ≡ c.loop-left.out.items ++ spaces = search (rules, c.in_ok-extend_from_slice.ensures.items) in
    ap (λ (z : List ℕ). z ++ replicate (n - 64) 32) new
    ∙ append_assoc c.loop-left.out.items spaces (replicate (n - 64) 32)
    ∙ ap (λ (z : List ℕ). c.loop-left.out.items ++ z) (spaces-more n 64 (omega arith)) ∙ c.loop-left.invariant

pub returns : goal.returns
returns c =
    let n = c.loop-left.left in
    let new : c.extend_from_slice-2.new.self.items
    ≡ c.loop-left.out.items ++ take n (replicate 64 32) = search (rules, c.in_ok-extend_from_slice-2.ensures.items) in
    new ∙ ap (λ (z : List ℕ). c.loop-left.out.items ++ z) (take-replicate n 64 32 (omega arith)) ∙ c.loop-left.invariant
