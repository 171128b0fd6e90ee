use Rattle.std.proofs.Common.{◌++◌, ℕ, List, length, append_assoc, subst, Ok, Err}
use Rattle.xdr_units.specs.Numbers.{pad}
use Rattle.xdr_writer.specs.Private.Bytes.{head_bytes}
use Rattle.xdr_writer.specs.Private.Judged.{Judges}
use Rattle.xdr_writer.proofs.Pieces.{refused_before, grants_back}
use Rattle.xdr_writer.proofs.judging.judge_pieces.Goals as goal

pub returns-in-Err-clause-judges : goal.returns-in-Err-clause-judges
returns-in-Err-clause-judges c =
    let w = c.args.checker.now in
    let h : List ℕ = head_bytes c.args.pieces.now.head in
    let bs : List ℕ = c.args.pieces.now.content.now in
    refused_before w c.judge.new.checker h (bs ++ pad (length bs)) c.in-Err.why
    (subst (λ (z : List ℕ). Judges w c.judge.new.checker z (Err c.in-Err.why)) c.bytes.ensures
    c.in-Err.ensures.judges)

pub returns-in-Err-judge_behind-clause-judges : goal.returns-in-Err-judge_behind-clause-judges
returns-in-Err-judge_behind-clause-judges c =
    let w = c.args.checker.now in
    let h : List ℕ = head_bytes c.args.pieces.now.head in
    let bs : List ℕ = c.args.pieces.now.content.now in
    let first : Judges w c.judge.new.checker h (Ok c.in-Ok.step) =
    subst (λ (z : List ℕ). Judges w c.judge.new.checker z (Ok c.in-Ok.step)) c.bytes.ensures c.in-Ok.ensures.judges in
    subst (λ (z : List ℕ). Judges w c.judge_behind.new.checker z (Err c.in-Err-judge_behind.why))
    (append_assoc h bs (pad (length bs)))
    (refused_before w c.judge_behind.new.checker (h ++ bs) (pad (length bs)) c.in-Err-judge_behind.why
    (c.in-Err-judge_behind.ensures.judges w h first))

pub returns-clause-judges : goal.returns-clause-judges
returns-clause-judges c =
    let w = c.args.checker.now in
    let h : List ℕ = head_bytes c.args.pieces.now.head in
    let bs : List ℕ = c.args.pieces.now.content.now in
    let first : Judges w c.judge.new.checker h (Ok c.in-Ok.step) =
    subst (λ (z : List ℕ). Judges w c.judge.new.checker z (Ok c.in-Ok.step)) c.bytes.ensures c.in-Ok.ensures.judges in
    let last : Judges w c.judge_behind-2.new.checker ((h ++ bs) ++ pad (length bs)) c.judge_behind-2.result =
    subst (λ (z : List ℕ). Judges w c.judge_behind-2.new.checker ((h ++ bs) ++ z) c.judge_behind-2.result)
    c.zeros_behind.ensures
    (c.judge_behind-2.ensures.judges w (h ++ bs) (c.in-Ok-judge_behind.ensures.judges w h first)) in
    subst (λ (z : List ℕ). Judges w c.judge_behind-2.new.checker z c.judge_behind-2.result)
    (append_assoc h bs (pad (length bs))) last

pub returns-clause-granted : goal.returns-clause-granted
returns-clause-granted c =
    let w = c.args.checker.now in
    let h : List ℕ = head_bytes c.args.pieces.now.head in
    let first : Judges w c.judge.new.checker h (Ok c.in-Ok.step) =
    subst (λ (z : List ℕ). Judges w c.judge.new.checker z (Ok c.in-Ok.step)) c.bytes.ensures c.in-Ok.ensures.judges in
    grants_back w c.judge_behind.new.checker c.judge_behind-2.result
    (c.in-Ok-judge_behind.ensures.judges w h first).same c.judge_behind-2.ensures.granted
