-- The record that goes into a buffer.
use Rattle.std.proofs.Common.{◌≡◌, ℕ, ◌≤◌, List, [], ◌∷◌, length, take, Result, Ok, Err, IfOk, IfErr}
use Rattle.std.proofs.Common.{sym, ap, subst, arith}
use Rattle.std.proofs.lemmas.List.{append-nil, length-drop}
use Rattle.rpc_record.specs.declared.fault.RecordFault.{RecordFault}
use Rattle.rpc_record.specs.declared.fault.RecordFault.TheVariants as fault
use Rattle.rpc_record.specs.declared.fault.RecordStep.{RecordStep}
use Rattle.rpc_record.specs.declared.fault.RecordStep.TheVariants as step
use Rattle.rpc_record.specs.declared.reader.RecordReader.{RecordReader}
use Rattle.rpc_record.specs.Marked.{header, Longest, NoneBeginsAnother}
use Rattle.rpc_record.specs.Reading.{TooLongAt, IsWhole, WholeHasNoLong}
use Rattle.rpc_record.specs.Represents.{Represents, IsTaking, Fills, Reports, IsFilled}
use Rattle.rpc_record.proofs.Long.{only_memory}
use Rattle.rpc_record.proofs.Streams.{whole_none, whole_push}
use Rattle.example_rpc.proofs.records.Handed.{one_record, whole_is}

is_whole : IsWhole 100 ((97 ∷ []) ∷ []) one_record
unfolding header
is_whole = whole_push 100 [] [] (97 ∷ []) (whole_none 100) (omega arith) (omega arith)

pub put : NoneBeginsAnother → (old new : RecordReader) (piece r : List ℕ) (answer : Result RecordStep RecordFault)
    → old.limit ≡ 100 → piece ≡ one_record → Represents old [] [] → Fills old new piece r answer
    → Reports old piece answer → IsFilled old piece r answer
    → IfOk answer (λ s. (s ≡ step.Whole 5) × (r ≡ 97 ∷ []))
put apart old new piece r (Ok step.More) e p s k t f =
    let longest = subst (λ l. Longest l [] one_record) e (subst (λ b. Longest old.limit [] b) p (t [] [] s).0) in
    let more = longest.only ((97 ∷ []) ∷ []) one_record [] is_whole.within is_whole.stream
    (sym (append-nil one_record)) in
    absurd (omega (arith, ap length more.1))
put apart old new piece r (Ok (step.Whole n)) e p s k t f =
    let is = whole_is apart old.limit n r (subst (λ b. IsWhole old.limit (r ∷ []) (take n b)) p (f [] [] s)) in
    let most : n ≤ 5 = subst (λ b. n ≤ length b) p k.1 in
    (ap step.Whole (omega (arith, most, length-drop n one_record, ap length is.1)), sym is.0)
put apart old new piece r (Err x) e p s k t f = tt

pub put_refused : WholeHasNoLong → (old new : RecordReader) (piece r : List ℕ) (answer : Result RecordStep RecordFault)
    → old.limit ≡ 100 → piece ≡ one_record → IsTaking old → Represents old [] [] → Fills old new piece r answer
    → Reports old piece answer → IfErr answer (λ f. f ≡ fault.NoMemory)
put_refused none old new piece r (Err f) e p i s k t =
    only_memory old.limit (length piece) [] f piece
    (λ at h. none 100 ((97 ∷ []) ∷ []) one_record is_whole [] at (subst (λ b. TooLongAt 100 [] at b) p
    (subst (λ l. TooLongAt l [] at piece) e h))) (k.2 i) ((t [] [] s).1 i)
put_refused none old new piece r (Ok step) e p i s k t = tt
