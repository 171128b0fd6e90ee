use Rattle.std.proofs.Common.{◌≡◌, ℕ, List, [], ◌∷◌, ◌++◌, take, refl, subst, sym, ap, ◌∙◌, append_assoc, arith}
use Rattle.xdr_stream.specs.Frames.{stack_of}
use Rattle.xdr_stream.specs.Represents.{RepresentsAs, RepresentsBytes}
use Rattle.xdr_stream.specs.declared.reader.State.{State}
use Rattle.xdr_stream.proofs.reader.Reader.take_byte.Goals as goal

pub returns-else-self-lt3-clause-represents : goal.returns-else-self-lt3-clause-represents
returns-else-self-lt3-clause-represents g c = λ b state st.
    let a = c.args.self.now in
    let s = subst (λ (x : State). RepresentsAs g.B.Build.spares a.schema.now.kinds a.kind.place a.limits
    (g.B.Build.reports a.built) (stack_of a.work a.parents.items) a.read a.unit a.pending x b) state st in
    let three : a.pending ≡ 3 = omega (arith, s.3, c.if-self-lt3.false) in
    let joined : s.0 ++ c.with_last-unit.result ≡ b ++ c.args.byte ∷ [] =
    ap (λ (u : List ℕ). s.0 ++ u) (c.with_last-unit.ensures
    ∙ ap (λ (n : ℕ). take n a.unit ++ c.args.byte ∷ []) (sym three))
    ∙ sym (append_assoc s.0 (take a.pending a.unit) (c.args.byte ∷ []))
    ∙ ap (λ (x : List ℕ). x ++ c.args.byte ∷ []) (sym s.1) in
    subst (λ (x : List ℕ). RepresentsBytes g.B.Build.spares g.B.Build.reports c.take.new.self x) joined
    (c.take.ensures.represents s.0 s.2 refl s.4 s.5 s.6)
