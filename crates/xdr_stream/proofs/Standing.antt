-- The outcome where a unit is needed, and where the root has its value.
use Rattle.std.proofs.Common.{◌≡◌, ℕ, ◌<◌, List, [], ◌∷◌, ◌++◌, length, subst, arith}
use Rattle.xdr_types.specs.Kinds.{KindView, Part}
use Rattle.xdr_types.specs.Tree as value
use Rattle.xdr_types.specs.Tree.{Tree}
use Rattle.xdr_types.specs.Within.{Bounds}
use Rattle.xdr_types.specs.Outcome.{Outcome, IsDeep, Pending, TooLarge, Whole}
use Rattle.xdr_laws.specs.Laws.{IsUnfinished}
use Rattle.xdr_laws.proofs.Events.{outcome_large, outcome_pending}
use Rattle.xdr_stream.specs.Frames.{dues}
use Rattle.xdr_stream.specs.Trace.{Trace, level}
use Rattle.xdr_laws.specs.Owed.{Due}
use Rattle.xdr_stream.specs.Sees.{Sees, Reading, Built, IsReady, Ends}
use Rattle.xdr_stream.specs.Private.Moves.{GoesDeep, reason_of}
use Rattle.xdr_stream.specs.declared.machine.Trouble.{Trouble}
use Rattle.xdr_stream.specs.declared.machine.Trouble.TheVariants.{TooDeep, NoMemory}
use Rattle.std.proofs.Common.{◌%◌, ◌≤◌, inl, inr, refl}
use Rattle.std.proofs.lemmas.Bool.{cases_lt}
use Rattle.xdr_stream.specs.declared.machine.Awaits.{Awaits}
use Rattle.xdr_stream.specs.declared.machine.Awaits.TheVariants.{Next, Content, Wide, Low}
use Rattle.xdr_stream.proofs.Built.{built_whole}
use Rattle.xdr_stream.proofs.Reading.{reading_close}
use Rattle.xdr_stream.proofs.UnitRead.{still_due, still_rest, ends_whole}

module _ (s : List KindView) (t : ℕ) (l : Bounds) (H : Trace → Type 0) (q : List ℕ) where
  -- no node is too deep, and the value is not whole
  pub still : (a : Awaits) (fs : List (List Part)) → IsReady s l a fs → Sees s t l H a fs q
      → (IsDeep s t l q → ⊥) × IsUnfinished s t q
  still Next [] ready r = absurd ready
  still Next ([] ∷ fs) ready r = absurd ready
  still Next ((p ∷ ps) ∷ fs) ready r = still_due s t l p ps fs q ready.0 ready.1 r.reading
  still (Content n) fs ready r = still_rest s t l n fs q ready r.reading
  still (Wide signed) fs ready r = still_rest s t l 8 fs q (omega arith) r.reading
  still (Low signed x) fs ready r = still_rest s t l 4 fs q (omega arith) r.reading

  -- the limit on bytes is reached
  pub sees_large : (a : Awaits) (fs : List (List Part)) (rest : List ℕ) → IsReady s l a fs → length q ≡ l.bytes
      → Sees s t l H a fs q → Outcome s t l (q ++ rest) (TooLarge (length q))
  sees_large a fs rest ready full r = let w =
      still a fs ready r in outcome_large s t l q rest (r.reading.reached rest) w.0 w.1 full

  -- fewer bytes than a unit are there
  pub sees_pending : (a : Awaits) (fs : List (List Part)) (rest : List ℕ) → IsReady s l a fs → (length q ≡ l.bytes → ⊥)
      → length rest < 4 → Sees s t l H a fs q → Outcome s t l (q ++ rest) Pending
  sees_pending a fs rest ready small short r = let w =
      still a fs ready r in outcome_pending s t l q rest (r.reading.reached rest) w.0 w.1 small short

  -- the root has its value: a builder holds it alone
  pub sees_whole : (fs : List (List Part)) (rest : List ℕ) → fs ≡ [] ∷ [] → (r : Sees s t l H Next fs q)
      → (v : Tree) × (r.trace.levels ≡ level value.nothing (v ∷ []) ∷ [])
      × Outcome s t l (q ++ rest) (Whole v (length q))
  sees_whole fs rest ended r =
      let at : Built s t r.trace.levels ([] ∷ []) q =
      subst (λ (x : List (List Part)). Built s t r.trace.levels x q) ended r.built.1 in
      let b = built_whole s t r.trace.levels q at in
      let read : Reading s t l (dues ([] ∷ [])) q =
      subst (λ (x : List (List Part)). Reading s t l (dues x) q) ended r.reading in
      (b.0, b.1, ends_whole s t l q rest b.0 b.2 b.3 (reading_close s t l [] q read))

-- why nothing more begins, as a reason
pub ends_trouble : (s : List KindView) (t : ℕ) (l : Bounds) (H : Trace → Type 0) (fs : List (List Part))
    (q rest : List ℕ)
    (e : Trouble) → GoesDeep s l H fs e → Sees s t l H Next fs q → Ends s t l (reason_of e) (q ++ rest) (length q)
ends_trouble s t l H fs q rest TooDeep d h = d t q rest h
ends_trouble s t l H fs q rest NoMemory d h = tt

-- no more than the limit is read
pub within_limit : (s : List KindView) (t : ℕ) (l : Bounds) (ds : List Due) (q : List ℕ) → l.bytes % 4 ≡ 0
    → Reading s t l ds q → length q ≤ l.bytes
within_limit s t l ds q units r = elim (cases_lt l.bytes (length q)) [
  | inl more ↦ absurd (((r.reached []).before l.bytes more units).small refl)
  | inr most ↦ most
]
