-- What was written of a stream of records before a read failed.
use Rattle.std.proofs.Common.{◌≡◌, ℕ, ◌+◌, List, Option, Some, false, subst, arith}
use Rattle.std.specs.Io.KnownBytes.{Appends, Consumes}
use Rattle.xdr_io.specs.Reported.{Counts}
use Rattle.rpc_record.specs.Marked.{Longest, normal}
use Rattle.oncrpc_tasks.specs.Devices.{Reports, Fails}
use Rattle.oncrpc_tasks.specs.Records.{StopsFor}
use Rattle.oncrpc_tasks.specs.RecordsEnd.{RecordsEnd}
use Rattle.oncrpc_answers.specs.declared.failure.Failure.{Failure}
use Rattle.oncrpc_answers.specs.declared.failure.Failure.TheVariants as failure

-- all whole records of what was read were written, whole
abbrev pub WritesAll : ℕ → (left left' taken taken' : Option (List ℕ)) → Type 0
WritesAll limit left left' taken taken' = (read : List ℕ) × (records : List (List ℕ))
    × Consumes left left' read × Longest limit records read × Appends taken taken' (normal records)

-- a count that stays failed no more
no_more : (old new : Option ℕ) → old ≡ Some 0 → new ≡ Some 0 → Counts 1 old new → ⊥
no_more old new p q h =
    let one : 0 ≡ 0 + 1 = subst (λ x. Counts 1 (Some 0) x) q (subst (λ x. Counts 1 x new) p h) in
    omega (arith, one)

module _ {I O : Type 0} (reports : Reports I O) (i i' : I) (o o' : O) (limit : ℕ) where
  of_failure : (f : Failure) → Fails reports i i' o o' f
      → StopsFor f limit (reports.left i) (reports.left i') (reports.taken o) (reports.taken o')
      → reports.lost o ≡ Some 0 → reports.lost o' ≡ Some 0
      → WritesAll limit (reports.left i) (reports.left i') (reports.taken o) (reports.taken o')
  of_failure failure.Read h s p q = (s.input, s.rs, s.read, s.stopped.0, s.stopped.1)
  of_failure failure.Write h s p q = absurd (no_more (reports.lost o) (reports.lost o') p q h)
  of_failure failure.TooManyReads h s p q = (s.input, s.rs, s.read, s.stopped.0, s.stopped.1)
  of_failure failure.NoMemory h s p q = absurd h

  pub before_a_failure : {F : Type 0} (fs fs' : F) (status : ℕ)
      → RecordsEnd limit false reports i i' o o' fs fs' status → status ≡ 3 → reports.lost o ≡ Some 0
      → reports.lost o' ≡ Some 0
      → WritesAll limit (reports.left i) (reports.left i') (reports.taken o) (reports.taken o')
  before_a_failure fs fs' status e three p q =
      let h = e.in_part three in of_failure h.0 h.1 h.2 p q
