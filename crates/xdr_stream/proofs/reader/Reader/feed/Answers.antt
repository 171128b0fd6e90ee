use Rattle.std.proofs.Common.{ℕ, List, refl, sym, subst, append-nil, arith}
use Rattle.xdr_stream.specs.Represents.{RepresentsBytes, IsWaiting}
use Rattle.xdr_stream.specs.declared.reader.State.{State}
use Rattle.xdr_stream.proofs.Answering.{answers_more, answers_done, answers_fault, represents_failed}
use Rattle.xdr_stream.proofs.reader.Reader.feed.Goals as goal

pub returns-in-Finished-clause-answer : goal.returns-in-Finished-clause-answer
returns-in-Finished-clause-answer g c = λ b st.
    answers_done g.B.Build.spares g.B.Build.reports c.args.self.now c.args.self.now
    (record { schema_is = refl; kind_is = refl; limits_are = refl })
    b c.args.piece.now 0 (omega arith)
    (subst (λ (x : List ℕ). RepresentsBytes g.B.Build.spares g.B.Build.reports c.args.self.now x)
    (sym (append-nil b)) st)
    c.in-Finished.is

pub returns-in-Failed-state-clause-represents : goal.returns-in-Failed-state-clause-represents
returns-in-Failed-state-clause-represents g c = λ b st.
    let e = c.take_piece-used.ensures in
    represents_failed g.B.Build.spares g.B.Build.reports c.args.self.now c.take_piece-used.new.self e.same b
    c.args.piece.now c.take_piece-used.result
    e.within (e.represents b st) c.in-Failed-state.fault c.in-Failed-state.is

pub returns-in-Failed-state-clause-answer : goal.returns-in-Failed-state-clause-answer
returns-in-Failed-state-clause-answer g c = λ b st.
    let e = c.take_piece-used.ensures in
    answers_fault g.B.Build.spares g.B.Build.reports c.args.self.now c.take_piece-used.new.self e.same b
    c.args.piece.now c.take_piece-used.result
    e.within (e.represents b st) c.in-Failed-state.fault c.in-Failed-state.is

pub returns-in-Finished-state-clause-answer : goal.returns-in-Finished-state-clause-answer
returns-in-Finished-state-clause-answer g c = λ b st.
    let e = c.take_piece-used.ensures in
    answers_done g.B.Build.spares g.B.Build.reports c.args.self.now c.take_piece-used.new.self e.same b c.args.piece.now
    c.take_piece-used.result
    e.within (e.represents b st) c.in-Finished-state.is

pub returns-in-Reading-clause-answer : goal.returns-in-Reading-clause-answer
returns-in-Reading-clause-answer g c = λ b st.
    let e = c.take_piece-used.ensures in
    answers_more g.B.Build.spares g.B.Build.reports c.args.self.now c.take_piece-used.new.self e.same b c.args.piece.now
    c.take_piece-used.result
    e.within (e.represents b st) c.in-Reading.field-0 c.in-Reading.is
    (e.whole (subst (λ (x : State). IsWaiting x) (sym c.in-Reading.is) tt))
