-- A header above the limit, which is refused.
use Rattle.std.proofs.Common.{◌≡◌, ℕ, true, List, [], ◌∷◌, length, Ok, Err, Result, ◌⊎◌, MatchResult, sym, subst, arith}
use Rattle.rpc_record.specs.declared.fault.RecordFault.{RecordFault}
use Rattle.rpc_record.specs.declared.fault.RecordFault.TheVariants as fault
use Rattle.rpc_record.specs.declared.fault.RecordStep.{RecordStep}
use Rattle.rpc_record.specs.declared.fault.RecordStep.TheVariants as step
use Rattle.rpc_record.specs.declared.reader.RecordReader.{RecordReader}
use Rattle.rpc_record.specs.Marked.{header}
use Rattle.rpc_record.specs.Reading.{TooLongAt}
use Rattle.rpc_record.specs.Represents.{Represents, IsTaking, Feeds, Reports}
use Rattle.rpc_record.proofs.Long.{long_first, none_whole, refused_at}

-- 80000001
abbrev pub one_byte : List ℕ
one_byte = 128 ∷ 0 ∷ 0 ∷ 1 ∷ []

pub is_long : TooLongAt 0 [] 0 one_byte
unfolding header
is_long = long_first 0 1 true [] (omega arith) (omega arith)

module _ (old new : RecordReader) (piece : List ℕ) (long : TooLongAt old.limit [] 0 piece) (i : IsTaking old)
    (s : Represents old [] []) where
  fed : (answer : Result RecordStep RecordFault) → Feeds old new piece answer → Reports old piece answer
      → MatchResult answer (λ x. ⊥) (λ f. (f ≡ fault.TooLong 0) ⊎ (f ≡ fault.NoMemory))
  fed (Err f) k t = refused_at old.limit 0 piece long f (length piece) (k.2 i) ((t [] [] s).1 i)
  fed (Ok step.More) k t = absurd ((t [] [] s).1 [] 0 long)
  fed (Ok (step.Whole used)) k t =
      let w = t [] [] s in absurd (none_whole old.limit 0 piece long used w.0 w.1)

pub is_refused : (old new : RecordReader) (piece : List ℕ) (answer : Result RecordStep RecordFault)
    → old.limit ≡ 0 → piece ≡ one_byte → IsTaking old → Represents old [] [] → Feeds old new piece answer
    → Reports old piece answer
    → MatchResult answer (λ x. ⊥) (λ f. (f ≡ fault.TooLong 0) ⊎ (f ≡ fault.NoMemory))
is_refused old new piece answer e p i s k t =
    fed old new piece
    (subst (λ b. TooLongAt old.limit [] 0 b) (sym p) (subst (λ l. TooLongAt l [] 0 one_byte) (sym e) is_long))
    i s answer k t
