use Rattle.std.proofs.Common.{◌≡◌, ◌++◌, ◌+◌, ◌≤◌, ℕ, List, length, subst, arith, vec_capacity}
use Rattle.std.specs.Prelude.{MatchResult}
use Rattle.xdr_writer.specs.Private.Bytes.{coded_bytes}
use Rattle.xdr_writer.specs.Private.Judged.{IsJudged, Judges, Grants}
use Rattle.xdr_writer.specs.declared.item.Step.{Step}
use Rattle.xdr_writer.specs.declared.refusal.Why.{Why}
use Rattle.xdr_writer.proofs.Finding.{within, kept_by}
use Rattle.xdr_writer.proofs.taking.write_within.Goals as goal

pub returns-clause-judged : goal.returns-clause-judged
returns-clause-judged c = λ b st.
    let w = c.args.checker.now in
    within w c.write.new.checker (coded_bytes c.args.coded) c.args.space b c.write.result
    (omega (arith, c.in-Some.ensures.0, c.in-Some.ensures.1))
    (subst (λ (z : List ℕ). IsJudged w c.write.new.checker b z c.write.result) c.pieces_of-pieces.ensures
    (c.write.ensures.judges.judged b st))

pub returns-clause-written : goal.returns-clause-written
returns-clause-written c =
    subst (λ (z : List ℕ). MatchResult c.write.result
    (λ (s : Step). c.write.new.out.items ≡ c.args.out.now.items ++ z)
    (λ (y : Why). c.write.new.out.items ≡ c.args.out.now.items)) c.pieces_of-pieces.ensures c.write.ensures.written

pub returns-clause-kept : goal.returns-clause-kept
returns-clause-kept c =
    let w = c.args.checker.now in
    let u : List ℕ = coded_bytes c.args.coded in
    kept_by w c.write.new.checker u c.args.space c.args.out.now.items c.write.new.out.items c.write.result
    (subst (λ (z : List ℕ). Judges w c.write.new.checker z c.write.result) c.pieces_of-pieces.ensures
    c.write.ensures.judges)
    (subst (λ (z : List ℕ). MatchResult c.write.result
    (λ (s : Step). c.write.new.out.items ≡ c.args.out.now.items ++ z)
    (λ (y : Why). c.write.new.out.items ≡ c.args.out.now.items)) c.pieces_of-pieces.ensures c.write.ensures.written)
    (omega (arith, c.in-Some.ensures.0, c.if-size-eq0.false)) (omega (arith, c.in-Some.ensures.0, c.in-Some.ensures.1))

pub returns-clause-granted : goal.returns-clause-granted
returns-clause-granted c =
    subst (λ (z : List ℕ). length c.args.out.now.items + length z ≤ vec_capacity c.args.out.now
    → Grants c.args.checker.now c.write.result) c.pieces_of-pieces.ensures c.write.ensures.granted
