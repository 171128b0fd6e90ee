-- The part in which the next unit stands, from what is owed and what was reported.
use Rattle.std.proofs.Common.{◌≡◌, ℕ, ◌+◌, ◌<◌, ◌≤◌, Bool, pos, List, [], ◌∷◌, ◌++◌, length, take, refl, sym, ap, subst}
use Rattle.std.proofs.Common.{◌∙◌, append-nil, arith}
use Rattle.std.proofs.lemmas.List.Elements.{Contains-append_right}
use Rattle.xdr_units.specs.Numbers.{num4, pad}
use Rattle.xdr_types.specs.Kinds.{KindView, Part, kind_at}
use Rattle.xdr_types.specs.Within.{Bounds}
use Rattle.xdr_types.specs.Layout.{Entry, entry, of_content}
use Rattle.xdr_laws.specs.Owed.{Due, lead_of, HasUnit}
use Rattle.xdr_laws.specs.Begun.{first}
use Rattle.xdr_laws.proofs.Holding.{stands_in}
use Rattle.xdr_stream.specs.Frames.{dues, Begins}
use Rattle.xdr_stream.specs.Represents.{RepresentsAs, IsWaiting}
use Rattle.xdr_stream.specs.Held.{GoesOn, pending_at}
use Rattle.xdr_stream.specs.Trace.{Trace}
use Rattle.xdr_stream.specs.declared.machine.Awaits.{Awaits}
use Rattle.xdr_stream.specs.declared.machine.Awaits.TheVariants.{Next, Content, Wide, Low}
use Rattle.xdr_stream.specs.declared.reader.State.{State}
use Rattle.xdr_stream.specs.declared.reader.State.TheVariants.{Reading as Reads_next}
use Rattle.xdr_stream.specs.Sees.{Reading, Sees, IsReady, make_wide}
use Rattle.xdr_stream.proofs.Reading.{reaches}
use Rattle.xdr_types.specs.Tree as value
use Rattle.xdr_due.specs.Due.{BeginsNode, StandsInHyper, StandsInContent}
use Rattle.xdr_due.proofs.Middle.{middle, wide_stands, content_stands}

module _ (s : List KindView) (t : ℕ) (l : Bounds) where
  -- where a node is due
  begins : (p : Part) (ps : List Part) (fs : List (List Part)) (q : List ℕ) → HasUnit (lead_of (kind_at s p.kind))
      → length fs + 1 ≤ l.depth → Reading s t l (dues ((p ∷ ps) ∷ fs)) q → BeginsNode s t l q p.kind
  begins p ps fs q unit deep r =
      let ds : List Due = dues ((p ∷ ps) ∷ fs) in
      let e : Entry = first (length q) (length fs + 1) p (kind_at s p.kind) in
      let v = r.front in
      let inside = stands_in s t q r.begun v ds (reaches s t l ds q unit r) e
      (Contains-append_right r.begun (e ∷ []) e (0, omega arith, refl)) in
      (e, (v.0, v.1, inside, omega arith, omega arith), refl, refl, refl, refl, unit, deep)

  -- where a hyper integer is due, or its last unit
  pub in_hyper : (H : Trace → Type 0) (fs : List (List Part)) (q : List ℕ) (signed : Bool)
      → Sees s t l H (Wide signed) fs q → StandsInHyper s t q signed 0
  in_hyper H fs q signed r =
      let v = r.reading.front in
      let m = middle s t v.0 v.1.0 r.trace.levels fs [] (make_wide signed) 8 q v.1.1 r.built.1 v.1.2 in
      let e = wide_stands s signed [] v.1.1 q _ m in
      (e.0, (v.0, v.1, e.1, omega (arith, e.2), omega (arith, e.2, e.3)), e.2, e.3, e.4, e.5)

  pub in_low : (H : Trace → Type 0) (fs : List (List Part)) (q : List ℕ) (signed : Bool) (x : ℕ)
      → Sees s t l H (Low signed x) fs q → StandsInHyper s t q signed 4
  in_low H fs q signed x r =
      let v = r.reading.front in
      let c : List ℕ = num4 (pos x) in
      let m = middle s t v.0 v.1.0 r.trace.levels fs c (make_wide signed) 4 q v.1.1 r.built.1 v.1.2 in
      let e = wide_stands s signed c v.1.1 q _ m in
      (e.0, (v.0, v.1, e.1, omega (arith, e.2), omega (arith, e.2, e.3)), e.2, e.3, e.4, e.5)

  -- where content goes on
  pub in_content : (H : Trace → Type 0) (fs : List (List Part)) (q : List ℕ) (n : ℕ) → 0 < n
      → Sees s t l H (Content n) fs q → StandsInContent s t q n
  in_content H fs q n some r =
      let v = r.reading.front in
      let c : List ℕ = r.trace.content in
      let size : ℕ = length c + n in
      let m = middle s t v.0 v.1.0 r.trace.levels fs c value.bytes n q v.1.1 r.built v.1.2 in
      let shows = content_stands s m.place m.depth size m.part m.prefix c v.1.1 m.rest (kind_at s m.part.kind)
      m.head m.makes m.legal m.bytes in
      let e : Entry = entry (m.place + length m.prefix) (size + length (pad size)) m.depth m.part (of_content size) in (
        e,
        size,
        (v.0, v.1, m.inside e shows, omega (arith, m.here), omega (arith, m.here, some)),
        refl,
        omega (arith, m.here),
        some,
      )

  -- ---- the same of a reader that awaits a unit

  -- where no unit is unfinished, the bytes are those that are read
  pub at_reading : (spares : Type 0) (H : Trace → Type 0) (fs : List (List Part)) (read : ℕ) (space : List ℕ)
      (pending : ℕ) (st : State) (a : Awaits) (b : List ℕ) → st ≡ Reads_next a → pending ≡ 0
      → RepresentsAs spares s t l H fs read space pending st b → Sees s t l H a fs b × IsReady s l a fs
  at_reading spares H fs read space pending st a b is none stands =
      let at = subst (λ (x : State). RepresentsAs spares s t l H fs read space pending x b) is stands in
      let nothing : take pending space ≡ [] = ap (λ (n : ℕ). take n space) none in
      let same : at.0 ≡ b = sym (at.1 ∙ ap (λ (z : List ℕ). at.0 ++ z) nothing ∙ append-nil at.0) in
      (subst (λ (x : List ℕ). Sees s t l H a fs x) same at.4, at.5)

  pub node : (H : Trace → Type 0) (k : ℕ) (left : List Part) (fs : List (List Part)) (b : List ℕ) → Begins left k
      → Sees s t l H Next (left ∷ fs) b × IsReady s l Next (left ∷ fs) → BeginsNode s t l b k
  node H k [] fs b first_is now = absurd now.1
  node H k (p ∷ ps) fs b first_is now =
      let head : p ≡ first_is.0 = cc first_is.1 in
      let same : p.kind ≡ k = ap (λ (x : Part). x.kind) head ∙ first_is.2 in
      subst (λ (n : ℕ). BeginsNode s t l b n) same (begins p ps fs b now.1.0 now.1.1 now.0.reading)

-- where a unit is needed, bytes are taken
pub goes_on : (st : State) → IsWaiting st → GoesOn st
goes_on (Reads_next a) waits = tt
goes_on _ waits = absurd waits

-- and the bytes of an unfinished unit are those that are counted
pub pending_is : (st : State) (a : Awaits) (pending held : ℕ) → st ≡ Reads_next a → held ≡ pending_at st pending
    → held ≡ 0 → pending ≡ 0
pending_is st a pending held is counts none =
    ap (λ (x : State). pending_at x pending) (sym is) ∙ sym counts ∙ none
