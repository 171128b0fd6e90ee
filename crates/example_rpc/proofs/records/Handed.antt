-- The record that is handed out.
use Rattle.std.proofs.Common.{◌≡◌, ℕ, List, [], ◌∷◌, ◌++◌, take, drop, Option, Some, None, IfSome}
use Rattle.std.proofs.Common.{Vec, Global, sym, ap, ◌∙◌, subst, arith}
use Rattle.std.proofs.lemmas.List.{append-nil, take-append-drop}
use Rattle.rpc_record.specs.declared.reader.RecordReader.{RecordReader}
use Rattle.rpc_record.specs.Marked.{header, Marked, NoneBeginsAnother}
use Rattle.rpc_record.specs.Reading.{IsWhole}
use Rattle.rpc_record.proofs.Streams.{Marked-one}
use Rattle.rpc_record.specs.Represents.{Always, Represents, Takes, limit_of}

-- 80000001 61
abbrev pub one_record : List ℕ
one_record = 128 ∷ 0 ∷ 0 ∷ 1 ∷ 97 ∷ []

pub is_marked : Marked (97 ∷ []) one_record
unfolding header
is_marked = Marked-one (97 ∷ []) (omega arith)

-- a record that is whole within it is that one, and all of it
pub whole_is : NoneBeginsAnother → (limit used : ℕ) (r : List ℕ) → IsWhole limit (r ∷ []) (take used one_record)
    → (97 ∷ [] ≡ r) × (drop used one_record ≡ [])
whole_is apart limit used r whole =
    let w = whole.stream in
    let all : take used one_record ≡ w.0 = w.1.1.2 ∙ ap (λ k. w.0 ++ k) w.1.1.1 ∙ append-nil w.0 in
    let split : one_record ≡ w.0 ++ drop used one_record = sym (take-append-drop used one_record)
    ∙ ap (λ k. k ++ drop used one_record) all in
    apart r (97 ∷ []) w.0 (drop used one_record) w.1.1.0 (subst (λ b. Marked (97 ∷ []) b) split is_marked)

pub handed : NoneBeginsAnother → (old new : RecordReader) (used : ℕ) (o : Option (Vec ℕ Global)) → Represents old [] []
    → Takes old new (take used one_record)
    → IfSome o (λ v. Always new (λ rs bytes. IsWhole (limit_of new) (rs ++ v.items ∷ []) bytes))
    → IfSome o (λ v. v.items ≡ 97 ∷ [])
handed apart old new used None s t h = tt
handed apart old new used (Some v) s t h =
    sym (whole_is apart (limit_of new) used v.items (h (take used one_record) [] (t [] [] s))).0
