-- An input that ends behind a header above the limit.
use Rattle.std.proofs.Common.{ℕ, List, [], Option, Some, subst}
use Rattle.xdr_io.proofs.Ended.{all_read}
use Rattle.rpc_record.specs.declared.fault.RecordFault.TheVariants as fault
use Rattle.rpc_record.specs.Normalised.{Stops}
use Rattle.rpc_record.specs.Reading.{TooLongAt}
use Rattle.example_rpc.proofs.records.Refused.{one_byte, is_long}

-- it is not cut
pub not_cut : (left taken taken' : Option (List ℕ)) (at : ℕ)
    → Stops 0 (Some one_byte) left taken taken' (fault.Truncated at) → ⊥
not_cut left taken taken' at s =
    s.stopped.5 [] 0 (subst (λ b. TooLongAt 0 [] 0 b) (all_read one_byte s.input left s.read s.stopped.3) is_long)
