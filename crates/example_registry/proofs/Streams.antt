-- What the streams of the examples come to.
use Rattle.std.proofs.Common.{◌≡◌, ℕ, true, Bool, List, [], ◌∷◌, length, Option, Some, Result, Ok, Err}
use Rattle.std.proofs.Common.{refl, sym, ap, subst, arith, IfOk, IsErr}
use Rattle.std.specs.Io.KnownBytes.{Appends, Consumes}
use Rattle.rpc_record.specs.declared.fault.RecordFault.TheVariants as flaw
use Rattle.rpc_record.specs.Marked.{header, normal, OneLongest}
use Rattle.rpc_record.specs.Reading.{IsWhole, WholeIsLongest, WholeHasNoLong, TooLongAt}
use Rattle.rpc_record.proofs.Long.{long_first}
use Rattle.rpc_record.proofs.Streams.{whole_none}
use Rattle.registry_rows.specs.Rows.{Row}
use Rattle.rpc_engine.specs.declared.fault.ServeFault.TheVariants as fault
use Rattle.rpc_engine.specs.declared.fault.Served.{Served}
use Rattle.rpc_engine.specs.Run.{Run}
use Rattle.rpc_engine.specs.Served.{Serves, Stops, most_record}
use Rattle.xdr_io.proofs.Ended.{all_read}

module _ (netid : List ℕ) (rows new : List Row) (l m t u : Option (List ℕ)) (served : Served)
    (s : Serves netid rows new l m t u served) (bytes : List ℕ) (reported : l ≡ Some bytes) where
  whole_is : IsWhole most_record s.rs bytes
  whole_is = subst (λ b. IsWhole most_record s.rs b)
      (sym (all_read bytes s.input m (subst (λ k. Consumes k m s.input) reported s.read) s.end)) s.whole

  records_are : OneLongest → WholeIsLongest → (rs : List (List ℕ)) → IsWhole most_record rs bytes → s.rs ≡ rs
  records_are one whole rs w =
      one most_record s.rs rs bytes (whole most_record s.rs bytes whole_is) (whole most_record rs bytes w)

-- ---- no bytes

run_none : (rows new : List Row) (netid : List ℕ) (ys : List Bool) (replies : List (List ℕ))
    → Run rows netid [] ys new replies → (new ≡ rows) × (replies ≡ [])
run_none rows new netid [] replies h = h
run_none rows new netid (y ∷ ys) replies h = absurd h

pub nothing : OneLongest → WholeIsLongest → (netid : List ℕ) (rows new : List Row) (l m t u : Option (List ℕ))
    (served : Served) → Serves netid rows new l m t u served → l ≡ Some []
    → ((served.records ≡ 0) × (served.replies ≡ 0)) × (new ≡ rows)
nothing one whole netid rows new l m t u served s reported =
    let none = records_are netid rows new l m t u served s [] reported one whole [] (whole_none most_record) in
    let run = run_none rows new netid s.refusals s.replies
    (subst (λ k. Run rows netid k s.refusals new s.replies) none s.run) in
    ((omega (arith, s.counted.records, ap length none), omega (arith, s.counted.answered, ap length run.1)), run.0)

-- what was written is known by how it began and what it is now
written_is : (t u : Option (List ℕ)) (bytes more : List ℕ) → Appends t u more → t ≡ Some [] → u ≡ Some bytes
    → more ≡ [] → bytes ≡ []
written_is t u bytes more h begun now none =
    subst (λ (b : List ℕ). Appends (Some []) (Some bytes) b) none
    (subst (λ (x : Option (List ℕ)). Appends x (Some bytes) more) begun
    (subst (λ (x : Option (List ℕ)). Appends t x more) now h))

pub unwritten : OneLongest → WholeIsLongest → (netid : List ℕ) (rows new : List Row) (l m t u : Option (List ℕ))
    (served : Served) → Serves netid rows new l m t u served → l ≡ Some [] → t ≡ Some [] → (bytes : List ℕ)
    → u ≡ Some bytes → bytes ≡ []
unwritten one whole netid rows new l m t u served s reported begun bytes now =
    let none = records_are netid rows new l m t u served s [] reported one whole [] (whole_none most_record) in
    let run = run_none rows new netid s.refusals s.replies
    (subst (λ k. Run rows netid k s.refusals new s.replies) none s.run) in
    written_is t u bytes (normal s.replies) s.written begun now (ap normal run.1)

-- ---- 80010001

long_header : TooLongAt most_record [] 0 (128 ∷ 1 ∷ 0 ∷ 1 ∷ [])
unfolding header
long_header = long_first most_record 65537 true [] (omega arith) (omega arith)

pub too_long : {E : Type 0} → WholeHasNoLong → (netid : List ℕ) (rows new : List Row) (l m t u : Option (List ℕ))
    (result : Result Served E) → IfOk result (λ served. Serves netid rows new l m t u served)
    → l ≡ Some (128 ∷ 1 ∷ 0 ∷ 1 ∷ []) → IsErr result
too_long none netid rows new l m t u (Err e) s reported = refl
too_long none netid rows new l m t u (Ok served) s reported =
    absurd (none most_record s.rs _ (whole_is netid rows new l m t u served s _ reported) [] 0 long_header)

pub not_cut : (netid : List ℕ) (rows new : List Row) (l m t u : Option (List ℕ)) (at : ℕ)
    → Stops netid rows new l m t u (fault.Record (flaw.Truncated at)) → l ≡ Some (128 ∷ 1 ∷ 0 ∷ 1 ∷ []) → ⊥
not_cut netid rows new l m t u at s reported =
    let all = all_read _ s.input m (subst (λ k. Consumes k m s.input) reported s.read) s.stopped.3 in
    s.stopped.5 [] 0 (subst (λ b. TooLongAt most_record [] 0 b) all long_header)
