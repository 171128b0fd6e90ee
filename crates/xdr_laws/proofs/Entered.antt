-- Nothing is read until a unit is needed.
use Rattle.std.proofs.Common.{◌≡◌, ℕ, zero, suc, ◌+◌, ◌≤◌, List, [], ◌∷◌, ◌++◌, length, refl, sym, subst}
use Rattle.std.proofs.Common.{append_assoc, arith, inl, inr}
use Rattle.std.specs.Prelude.{Contains, ◌⊎◌}
use Rattle.std.proofs.lemmas.List.Elements.{Contains-append_right}
use Rattle.xdr_types.specs.Kinds as xdr
use Rattle.xdr_types.specs.Kinds.{KindView, Part, kind_at}
use Rattle.xdr_types.specs.Tree as value
use Rattle.xdr_types.specs.Tree.{Head, Values}
use Rattle.xdr_units.specs.Numbers.{pad}
use Rattle.xdr_types.specs.Fits.{fits, parts}
use Rattle.xdr_types.specs.Layout.{Entry, entry, shown, shown_bytes, shown_items, of_number, of_content}
use Rattle.xdr_laws.specs.Owed.{Due, Frame, Rest, Reads, Lead, UnitFirst, LengthFirst, FreeBytes, Silent, lead_of}
use Rattle.xdr_laws.specs.Owed.{IsUnitFirst, IsLengthFirst, IsFreeBytes, IsSilent, HasUnit, free_size, silent_head}
use Rattle.xdr_laws.specs.Owed.{IsSettled, AreFrames, EndsAt, IsOnTrack, AllUpTo}
use Rattle.xdr_laws.proofs.Legal.{FitAll, fit_node}
use Rattle.std.proofs.lemmas.Bool.{false≢true}
use Rattle.xdr_laws.proofs.Owed.{reads_none, reads_end, silent_then}
use Rattle.xdr_laws.proofs.UnitOwed.{reads_silent, silent_only}
use Rattle.xdr_laws.proofs.Parts.{all_append}
use Rattle.xdr_laws.proofs.Content.{free_parts, reads_free, reads_over}

lead_case : (l : Lead) → HasUnit l ⊎ IsFreeBytes l ⊎ IsSilent l
lead_case UnitFirst = inl tt
lead_case LengthFirst = inl tt
lead_case FreeBytes = inr (inl tt)
lead_case Silent = inr (inr tt)

pub unit_case : (l : Lead) → HasUnit l → IsUnitFirst l ⊎ IsLengthFirst l
unit_case UnitFirst u = inl tt
unit_case LengthFirst u = inr tt
unit_case FreeBytes u = absurd u
unit_case Silent u = absurd u

pub frames_on_track : (s : List KindView) (before : List Entry) (place : ℕ) (ds : List Due) → AreFrames ds
    → IsOnTrack s before place ds
frames_on_track s before place [] a = tt
frames_on_track s before place (Frame d ts ∷ ds) a = a
frames_on_track s before place (Rest n ∷ ds) a = absurd a

-- a unit is needed, or just these frames are left
abbrev Enters : List KindView → (place : ℕ) (before : List Entry) → List Due → List Due → Type 0
Enters s place before a ds =
    (begun : List Entry) × (ds' : List Due) × Reads s place a [] begun ds'
    × ((IsSettled s ds' × IsOnTrack s (before ++ begun) place ds') ⊎ (ds' ≡ ds)) × AllUpTo place begun

then_enters : (s : List KindView) (place : ℕ) (before : List Entry) (a b ds : List Due) (begun : List Entry)
    → Reads s place a [] begun b → AllUpTo place begun
    → Enters s place (before ++ begun) b ds → Enters s place before a ds
then_enters s place before a b ds begun first low e =
    let c : (IsSettled s e.1 × IsOnTrack s (before ++ (begun ++ e.0)) place e.1) ⊎ (e.1 ≡ ds) = elim e.3 [
      | inl n ↦ inl (n.0, subst (λ (l : List Entry). IsOnTrack s l place e.1) (append_assoc before begun e.0) n.1)
      | inr same ↦ inr same
    ] in (
      begun ++ e.0,
      e.1,
      silent_then s place a b e.1 [] begun e.0 first e.2,
      c,
      all_append (λ (x : Entry). x.at ≤ place)
          begun e.0 low e.4,
    )

pub low_less : (m n : ℕ) (ps : List Entry) → m ≤ n → AllUpTo m ps → AllUpTo n ps
low_less m n [] h a = tt
low_less m n (e ∷ ps) h a = (omega arith, low_less m n ps h a.1)

pub free_low : (s : List KindView) (place d : ℕ) (t : Part) (k : KindView) → AllUpTo place (free_parts place d t k)
free_low s place d t (xdr.opaque size) = (omega arith, tt)
free_low s place d t _ = (omega arith, tt)

pub silent_low : (s : List KindView) (place d : ℕ) (t : Part) (k : KindView) → IsSilent (lead_of k)
    → AllUpTo place (shown place d t k (silent_head k))
silent_low s place d t (xdr.fixed item size) u = (omega arith, tt)
silent_low s place d t (xdr.structure fields) u = (omega arith, tt)
silent_low s place d t xdr.nothing u = (omega arith, tt)
silent_low s place d t _ u = absurd u

content_low : (place d : ℕ) (t : Part) (k : KindView) (n : ℕ) → AllUpTo (place + 4) (shown_bytes place d t k n)
content_low place d t (xdr.opaque size) n = (omega arith, tt)
content_low place d t _ n = (omega arith, (omega arith, tt))

items_low : (place d : ℕ) (t : Part) (k : KindView) → AllUpTo (place + 4) (shown_items place d t k)
items_low place d t (xdr.fixed item size) = (omega arith, tt)
items_low place d t _ = (omega arith, tt)

pub shown_low : (place d : ℕ) (t : Part) (k : KindView) (h : Head) → AllUpTo (place + 4) (shown place d t k h)
shown_low place d t k (value.bytes bs) = content_low place d t k (length bs)
shown_low place d t k (value.items n) = items_low place d t k
shown_low place d t k _ = (omega arith, tt)

-- the part of free bytes
pub free_part : (s : List KindView) (place d : ℕ) (t : Part) (k : KindView) → kind_at s t.kind ≡ k
    → IsFreeBytes (lead_of k)
    → (e : Entry) × Contains (free_parts place d t k) e × (e.at ≤ place) × EndsAt s (place + free_size k) e e.role
    × (e.depth ≡ d)
free_part s place d t xdr.hyper is u = (
  entry place 8 d t of_number,
  (0, omega arith, refl),
  omega arith,
  (refl, refl, subst (λ (k : KindView). IsFreeBytes (lead_of k)) (sym is) tt),
  refl,
)
free_part s place d t xdr.unsigned_hyper is u = (
  entry place 8 d t of_number,
  (0, omega arith, refl),
  omega arith,
  (refl, refl, subst (λ (k : KindView). IsFreeBytes (lead_of k)) (sym is) tt),
  refl,
)
free_part s place d t (xdr.opaque size) is u = (
  entry place (size + length (pad size)) d t (of_content size),
  (0, omega arith, refl),
  omega arith,
  (refl, refl),
  refl,
)
free_part s place d t _ is u = absurd u

-- what is entered from frames of these kinds, whatever stands around them
abbrev EntersAll : List KindView → (place : ℕ) → List Part → Type 0
EntersAll s place ts = (before : List Entry) (d : ℕ) (ds : List Due) → d ≡ length ds + 1 → AreFrames ds
    → Enters s place before (Frame d ts ∷ ds) ds

module _ (s : List KindView) (place : ℕ) where
  -- a value of free bytes begins
  enter_free : (before : List Entry) (d : ℕ) (t : Part) (ts : List Part) (ds : List Due) → d ≡ length ds + 1
      → AreFrames ds → IsFreeBytes (lead_of (kind_at s t.kind))
      → EntersAll s place ts → Enters s place before (Frame d (t ∷ ts) ∷ ds) ds
  enter_free before d t ts ds at a u after =
      by_size (free_size (kind_at s t.kind)) (reads_free s place d t ts ds u)
      (free_part s place d t (kind_at s t.kind) refl u)
    where
      by_size : (n : ℕ) → Reads s place (Frame d (t ∷ ts) ∷ ds) [] (free_parts place d t (kind_at s t.kind))
          (Rest n ∷ Frame d ts ∷ ds)
          → (e : Entry) × Contains (free_parts place d t (kind_at s t.kind)) e × (e.at ≤ place)
          × EndsAt s (place + n) e e.role × (e.depth ≡ d) → Enters s place before (Frame d (t ∷ ts) ∷ ds) ds
      by_size zero r e =
          let begun : List Entry = free_parts place d t (kind_at s t.kind) in
          let low : AllUpTo place begun = free_low s place d t (kind_at s t.kind) in
          then_enters s place before (Frame d (t ∷ ts) ∷ ds) (Rest 0 ∷ Frame d ts ∷ ds) ds begun r low
          (then_enters s place (before ++ begun) (Rest 0 ∷ Frame d ts ∷ ds) (Frame d ts ∷ ds) ds []
          (reads_over s place (Frame d ts ∷ ds)) tt
          (after ((before ++ begun) ++ []) d ds at a))
      by_size (suc n) r e =
          let begun : List Entry = free_parts place d t (kind_at s t.kind) in
          let low : AllUpTo place begun = free_low s place d t (kind_at s t.kind) in (
            begun,
            Rest (suc n) ∷ Frame d ts ∷ ds,
            r,
            inl (
              omega arith,
              (
                (at, a),
                e.0,
                Contains-append_right before begun e.0 e.1,
                e.2,
                e.3,
                omega
                    (arith, e.4, at),
              ),
            ),
            low,
          )

  -- a value of no bytes of its own begins
  enter_silent : (before : List Entry) (d : ℕ) (t : Part) (ts : List Part) (ds : List Due) → d ≡ length ds + 1
      → AreFrames ds → IsSilent (lead_of (kind_at s t.kind))
      → EntersAll s place (parts (kind_at s t.kind) (silent_head (kind_at s t.kind))) → EntersAll s place ts
      → Enters s place before (Frame d (t ∷ ts) ∷ ds) ds
  enter_silent before d t ts ds at a u inner after =
      let k : KindView = kind_at s t.kind in
      let begun : List Entry = shown place d t k (silent_head k) in
      let open_ : List Due = Frame (d + 1) (parts k (silent_head k)) ∷ Frame d ts ∷ ds in
      then_enters s place before (Frame d (t ∷ ts) ∷ ds) open_ ds begun (reads_silent s place d t ts ds u)
      (silent_low s place d t k u)
      (go_on (before ++ begun) open_ (inner (before ++ begun) (d + 1) (Frame d ts ∷ ds) (omega arith) (at, a)))
    where
      go_on : (before : List Entry) (b : List Due) → Enters s place before b (Frame d ts ∷ ds)
          → Enters s place before b ds
      go_on before b e = elim e.3 [
        | inl n ↦ (e.0, e.1, e.2, inl n, e.4)
        | inr same ↦
            then_enters s place before b (Frame d ts ∷ ds) ds e.0
            (subst (λ (l : List Due). Reads s place b [] e.0 l) same e.2) e.4 (after (before ++ e.0) d ds at a)
      ]

  pub enter : (v : Values) (ts : List Part) → FitAll s ts v → EntersAll s place ts
  enter value.none [] f before d ds at a = ([], ds, reads_end s place d ds, inr refl, tt)
  enter value.none (t ∷ ts) f before d ds at a = absurd (false≢true f)
  enter (value.node h ps rest) [] f before d ds at a = absurd (false≢true f)
  enter (value.node h ps rest) (t ∷ ts) fits before d ds at a =
      let f = fit_node s t ts h ps rest fits in
      let inner : EntersAll s place (parts (kind_at s t.kind) h) = enter ps (parts (kind_at s t.kind) h) f.1 in
      let after : EntersAll s place ts = enter rest ts f.2 in
      elim (lead_case (lead_of (kind_at s t.kind))) [
        | inl u ↦ ([], Frame d (t ∷ ts) ∷ ds, reads_none s place (Frame d (t ∷ ts) ∷ ds), inl (u, (at, a)), tt)
        | inr (inl u) ↦ enter_free before d t ts ds at a u after
        | inr (inr u) ↦
            enter_silent before d t ts ds at a u
            (subst (λ (g : Head). EntersAll s place (parts (kind_at s t.kind) g))
            (sym (silent_only s (kind_at s t.kind) u h f.0)) inner) after
      ]
