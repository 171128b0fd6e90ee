-- The bytes that are judged and written are the item's.
use Rattle.std.proofs.Common.{◌≡◌, ◌+◌, ◌≤◌, ◌++◌, ℕ, List, length, subst, ◌∙◌}
use Rattle.std.specs.Prelude.{MatchResult, vec_capacity}
use Rattle.xdr_writer.specs.Private.Bytes.{pieces_bytes}
use Rattle.xdr_writer.specs.Private.Judged.{Judges, Grants}
use Rattle.xdr_writer.proofs.Joining.{head_alone}
use Rattle.xdr_writer.proofs.taking.write.Goals as goal

pub returns-then-is_empty : goal.returns-then-is_empty
returns-then-is_empty c =
    let e : c.bytes.result.now ≡ pieces_bytes c.args.pieces.now =
    c.bytes.ensures ∙ head_alone c.args.pieces.now c.is_empty.result c.is_empty.ensures c.if-is_empty.true in
    record {
      judges = subst (λ (u : List ℕ). Judges c.args.checker.now c.write_bytes.new.checker u c.write_bytes.result) e
          c.write_bytes.ensures.judges;
      written = subst (λ (u : List ℕ). MatchResult c.write_bytes.result
          (λ _. c.write_bytes.new.out.items ≡ c.args.out.now.items ++ u)
          (λ _. c.write_bytes.new.out.items ≡ c.args.out.now.items)) e c.write_bytes.ensures.written;
      granted = subst (λ (u : List ℕ). length c.args.out.now.items + length u ≤ vec_capacity c.args.out.now
          → Grants c.args.checker.now c.write_bytes.result) e c.write_bytes.ensures.granted;
    }

pub returns-in-Some : goal.returns-in-Some
returns-in-Some c =
    let d = c.write_bytes-in-Some.new.checker in
    let e : c.as_slice.result.now ≡ pieces_bytes c.args.pieces.now =
    c.as_slice.ensures.value ∙ c.in-Some.ensures in
    record {
      judges = subst (λ (u : List ℕ). Judges c.args.checker.now d u c.write_bytes-in-Some.result) e
          c.write_bytes-in-Some.ensures.judges;
      written = subst (λ (u : List ℕ). MatchResult c.write_bytes-in-Some.result
          (λ _. c.write_bytes-in-Some.new.out.items ≡ c.args.out.now.items ++ u)
          (λ _. c.write_bytes-in-Some.new.out.items ≡ c.args.out.now.items)) e c.write_bytes-in-Some.ensures.written;
      granted = subst (λ (u : List ℕ). length c.args.out.now.items + length u ≤ vec_capacity c.args.out.now
          → Grants c.args.checker.now c.write_bytes-in-Some.result) e c.write_bytes-in-Some.ensures.granted;
    }
