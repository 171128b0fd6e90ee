-- What reading past a number of bytes takes of a source, and what its faults say of the reads.
use Rattle.std.specs.Prelude.{◌≢◌, ℕ, ◌+◌, ◌≤◌, List, Option, Result, vec_len, IfOk, IfErr, OnOk, IsErrOf}
use Rattle.std.specs.declared.alloc.Global.{Global}
use Rattle.std.specs.declared.vec.Vec.{Vec}
use Rattle.std.specs.Io.KnownBytes.{Consumes, IsAtEnd}
use Rattle.xdr_io.specs.Reported.{Counts, MovesAtMost}
use Rattle.xdr_io.specs.declared.input.InputFault.{InputFault}
use Rattle.xdr_io.specs.declared.input.InputFault.TheVariants as fault

-- What is answered are the next bytes of the source: all of them, or more than enough by one read at most. No answer
-- takes more of the source.
pub record ReadsPast (enough : ℕ) (left left' : Option (List ℕ)) (result : Result (Vec ℕ Global) InputFault)
    : Type 0 where
  pub bytes : IfOk result (λ v. Consumes left left' v.items)
  pub end : IfOk result (λ v. vec_len v ≤ enough → IsAtEnd left')
  pub most : IfOk result (λ v. vec_len v ≤ enough + 4096)
  pub moved : MovesAtMost (enough + 4096) left left'

-- A read failed exactly where the fault is `Read`, and then one.
pub record FailsByRead {A : Type 0} (failures failures' : Option ℕ) (result : Result A InputFault) : Type 0 where
  pub none_failed : OnOk result (Counts 0 failures failures')
  pub failed : IsErrOf result fault.Read → Counts 1 failures failures'
  pub unfailed : IfErr result (λ f. f ≢ fault.Read → Counts 0 failures failures')

-- Too many reads are as many as are made at most, each of which gave a byte or more.
pub record NeedsTooMany {A : Type 0} (enough : ℕ) (reads reads' : Option ℕ) (result : Result A InputFault)
    : Type 0 where
  pub many : IsErrOf result fault.TooManyReads → Counts 1048576 reads reads'
  pub plenty : IsErrOf result fault.TooManyReads → 1048576 ≤ enough
