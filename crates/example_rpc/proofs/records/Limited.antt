-- A record of as many bytes as the limit says.
use Rattle.std.proofs.Common.{◌≡◌, ℕ, List, [], ◌∷◌, length, Ok, Err, Result, IfErr, subst, arith}
use Rattle.rpc_record.specs.declared.fault.RecordFault.{RecordFault}
use Rattle.rpc_record.specs.declared.fault.RecordFault.TheVariants as fault
use Rattle.rpc_record.specs.declared.fault.RecordStep.{RecordStep}
use Rattle.rpc_record.specs.declared.reader.RecordReader.{RecordReader}
use Rattle.rpc_record.specs.Marked.{header}
use Rattle.rpc_record.specs.Reading.{TooLongAt, IsWhole, WholeHasNoLong}
use Rattle.rpc_record.specs.Represents.{Represents, IsTaking, Feeds, Reports}
use Rattle.rpc_record.proofs.Long.{only_memory}
use Rattle.rpc_record.proofs.Streams.{whole_none, whole_push}
use Rattle.example_rpc.proofs.records.Handed.{one_record}

is_whole : IsWhole 1 ((97 ∷ []) ∷ []) one_record
unfolding header
is_whole = whole_push 1 [] [] (97 ∷ []) (whole_none 1) (omega arith) (omega arith)

pub is_taken : WholeHasNoLong → (old new : RecordReader) (piece : List ℕ) (answer : Result RecordStep RecordFault)
    → old.limit ≡ 1 → piece ≡ one_record → IsTaking old → Represents old [] [] → Feeds old new piece answer
    → Reports old piece answer → IfErr answer (λ f. f ≡ fault.NoMemory)
is_taken none old new piece (Err f) e p i s k t =
    only_memory old.limit (length piece) [] f piece
    (λ at h. none 1 ((97 ∷ []) ∷ []) one_record is_whole [] at (subst (λ b. TooLongAt 1 [] at b) p
    (subst (λ l. TooLongAt l [] at piece) e h))) (k.2 i) ((t [] [] s).1 i)
is_taken none old new piece (Ok step) e p i s k t = tt
