-- A segment that was taken, where it is known what came before.
use Rattle.std.proofs.Common.{◌≡◌, ℕ, ◌+◌, List, [], ◌∷◌, ◌++◌, length, ap, subst, ◌∙◌}
use Rattle.std.proofs.Common.{Result, Ok, Err, OnOk, is_err, false}
use Rattle.std.proofs.lemmas.List.{append_assoc}
use Rattle.capture_streams.specs.declared.direction.Direction.{Direction}
use Rattle.capture_streams.specs.Segments.{Arrival, given, IsRun}
use Rattle.capture_streams.specs.Represents.{Stands, IsAtHole, IsOfSame, first_of, due_of}
use Rattle.capture_streams.specs.Taking.{Takes, HandsOn}
use Rattle.capture_streams.specs.Laws.{OneRun, HandedIsTheRun}

-- a segment that came at this due place
abbrev pub came : (due sequence : ℕ) → (bytes : List ℕ) → Arrival
came due sequence bytes = record { due = due; segment = record { sequence = sequence; bytes = bytes } }

-- A direction with this first number, to which these segments came. From a place on it handed on these bytes, behind
-- others that are in the buffer already.
pub record Is (d : Direction) (start : ℕ) (xs : List Arrival) (base : ℕ) (handed ahead buffer : List ℕ) : Type 0 where
  pub first : first_of d ≡ start
  pub stands : Stands d xs base handed
  pub out : buffer ≡ ahead ++ handed

pub started : (d : Direction) (first : ℕ) (out : List ℕ) → first_of d ≡ first → Stands d [] 0 [] → out ≡ []
    → Is d first [] 0 [] [] out
started d first out e s o = record { first = e; stands = s; out = o }

-- where nothing more is due, the bytes handed on are the run, which is known
settled : OneRun → HandedIsTheRun → (d : Direction) (first : ℕ) (arrivals : List Arrival) (base : ℕ)
    (handed ahead out run : List ℕ) → Is d first arrivals base handed ahead out → IsAtHole d
    → IsRun (given first arrivals) base run → Is d first arrivals base run ahead out
settled one whole d first arrivals base handed ahead out run s hole r =
    let given_run : IsRun (given first arrivals) base handed =
    subst (λ (f : ℕ). IsRun (given f arrivals) base handed) s.first (whole d arrivals base handed s.stands hole) in
    let e : handed ≡ run = one (given first arrivals) base handed run given_run r in
    subst (λ (z : List ℕ). Is d first arrivals base z ahead out) e s

pub taken : OneRun → HandedIsTheRun → (old new : Direction) (first : ℕ) (arrivals : List Arrival) (base due : ℕ)
    (before ahead run : List ℕ) (sequence : ℕ) (bytes out out' : List ℕ) → Is old first arrivals base before ahead out
    → base + length before ≡ due → IsOfSame old new → Takes old new sequence bytes out out' → IsAtHole new
    → IsRun (given first (arrivals ++ came due sequence bytes ∷ [])) base run
    → Is new first (arrivals ++ came due sequence bytes ∷ []) base run ahead out'
taken one whole old new first arrivals base due before ahead run sequence bytes out out' s at same t hole r =
    let e : due_of old ≡ due = s.stands.due ∙ at in
    let after : Is new first (arrivals ++ came (due_of old) sequence bytes ∷ []) base (before ++ t.handed) ahead out' =
    record {
      first = same.first ∙ s.first;
      stands = t.stands arrivals base before s.stands;
      out = t.appended ∙ ap (λ (z : List ℕ). z ++ t.handed) s.out ∙ append_assoc ahead before t.handed;
    } in
    settled one whole new first (arrivals ++ came due sequence bytes ∷ []) base (before ++ t.handed) ahead out' run
    (subst (λ (d : ℕ). Is new first (arrivals ++ came d sequence bytes ∷ []) base (before ++ t.handed) ahead out') e
    after) hole r

pub handed_on : OneRun → HandedIsTheRun → (old new : Direction) (first : ℕ) (arrivals : List Arrival) (base : ℕ)
    (before ahead run out out' : List ℕ) → Is old first arrivals base before ahead out → IsOfSame old new
    → HandsOn old new out out' → IsAtHole new → IsRun (given first arrivals) base run
    → Is new first arrivals base run ahead out'
handed_on one whole old new first arrivals base before ahead run out out' s same t hole r =
    settled one whole new first arrivals base (before ++ t.handed) ahead out' run
    (record {
      first = same.first ∙ s.first;
      stands = t.stands arrivals base before s.stands;
      out = t.appended ∙ ap (λ (z : List ℕ). z ++ t.handed) s.out ∙ append_assoc ahead before t.handed;
    }) hole r

-- what an answer says where it is Ok
pub where_ok : {T E P : Type 0} (result : Result T E) → is_err result ≡ false → OnOk result P → P
where_ok (Ok x) ok p = p
where_ok (Err e) ok p = absurd cc
