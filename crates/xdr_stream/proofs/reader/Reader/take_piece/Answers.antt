use Rattle.std.proofs.Common.{◌≡◌, ◌+◌, ◌-◌, ℕ, List, ◌++◌, length, take, drop, sym, ap, subst, ◌∙◌, append_assoc}
use Rattle.std.proofs.Common.{length-drop, length-take, arith}
use Rattle.std.proofs.Math.Seq.{take-add}
use Rattle.std.proofs.lemmas.List.{take_all}
use Rattle.xdr_stream.specs.Represents.{RepresentsBytes}
use Rattle.xdr_stream.proofs.Answering.{same_then}
use Rattle.xdr_stream.proofs.reader.Reader.take_piece.Goals as goal

pub loop-at-preserved-then-piece-at-ge4 : goal.loop-at-preserved-then-piece-at-ge4
loop-at-preserved-then-piece-at-ge4 g c =
    let i = c.loop-at.invariant in
    let p : List ℕ = c.args.piece.now in
    let at : ℕ = c.loop-at.at in
    let n : ℕ = c.take_units-at.result in (
      omega (arith, c.take_units-at.ensures.within, length-take (length p - at) (drop at p), length-drop at p, i.0),
      c.take_units-at.ensures.awake c.in-Reading.is,
      same_then c.args.self.now c.loop-at.self c.take_units-at.new.self i.2 c.take_units-at.ensures.same,
      λ b st.
          let all : take (length p - at) (drop at p) ≡ drop at p =
          take_all (length p - at) (drop at p) (omega (arith, length-drop at p)) in
          let joined : (b ++ take at p) ++ take n (take (length p - at) (drop at p)) ≡ b ++ take (at + n) p =
          ap (λ (x : List ℕ). (b ++ take at p) ++ take n x) all ∙ append_assoc b (take at p) (take n (drop at p))
          ∙ ap (λ (x : List ℕ). b ++ x) (sym (take-add at n p)) in
          subst (λ (x : List ℕ). RepresentsBytes g.B.Build.spares g.B.Build.reports c.take_units-at.new.self x) joined
          (c.take_units-at.ensures.represents (b ++ take at p) c.in-Reading.is c.if-self-eq0.true (i.3 b st)),
    )
