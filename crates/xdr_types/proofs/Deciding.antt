-- Which unit decides whether bytes are those of a value, by the parts of the value.
use Rattle.std.proofs.Common.{◌≡◌, ℕ, ◌+◌, ◌-◌, ◌%◌, ◌<◌, ◌≤◌, true, List, [], ◌∷◌, ◌++◌, length, take, drop}
use Rattle.std.proofs.Common.{refl, sym, ap, ◌∙◌, subst, arith, IsTrue}
use Rattle.std.specs.Bool.{⊤}
use Rattle.std.proofs.lemmas.Bool.{false≢true, and_parts as both, and_from as both_of}
use Rattle.std.proofs.lemmas.List.{length-append, length-drop, length-take-le, take-append-drop, take-take, take_all}
use Rattle.std.proofs.lemmas.List.{drop-drop, drop-take}
use Rattle.xdr_units.proofs.Bytes.{AreBytes-take, AreBytes-drop}
use Rattle.xdr_types.specs.Kinds as xdr
use Rattle.xdr_types.specs.Kinds.{KindView, Part, kind_at}
use Rattle.xdr_types.specs.Tree as value
use Rattle.xdr_types.specs.Tree.{Head, Values, Tree}
use Rattle.xdr_types.specs.Fits.{Fits, fits, fit, is_legal, parts, are_bytes}
use Rattle.xdr_types.specs.Spelling.{own, spelling, bytes_of}
use Rattle.xdr_types.specs.Extent.{IsExtent}
use Rattle.xdr_types.specs.Decided.{IsSpelled, IsDecided}
use Rattle.xdr_types.specs.Private.Deciding.{AreSpelled, Suffices, AreDecidedBy}
use Rattle.xdr_types.specs.declared.extent.Extent.{Extent}
use Rattle.xdr_types.specs.declared.decided.Decided.{Decided}
use Rattle.xdr_types.proofs.Content.{are_bytes_of}
use Rattle.xdr_types.proofs.Extents.{bytes_are}

-- ---- a number

-- a kind of one unit
pub alone_decides : (kinds : List KindView) (place : ℕ) (e : Extent) (d : Decided) → IsExtent kinds place e
    → e.bytes ≡ 4 → d.at ≡ 0 → d.kind.place ≡ place → IsDecided kinds place d
alone_decides kinds place e d of four first same = record {
  known = subst (λ (k : ℕ). k < length kinds) (sym same) of.within;
  units = ap (λ (n : ℕ). n % 4) first;
  inside = λ t f. omega (arith, of.bytes t f, four, first);
  decides = λ t f bs len are s.
      subst (λ (k : ℕ). IsSpelled kinds k bs) same
      (subst (λ (x : List ℕ). IsSpelled kinds d.kind.place x)
      (ap (λ (n : ℕ). take 4 (drop n bs)) first ∙ take_all 4 bs (omega (arith, len, of.bytes t f, four))) s);
}

-- ---- parts one after another

-- no parts
pub none_decide : (kinds : List KindView) → Suffices kinds [] (λ bs. ⊤)
none_decide kinds value.none f [] len are so = (value.none, refl, refl)
none_decide kinds value.none f (b ∷ bs) len are so = absurd (omega (arith, len))
none_decide kinds (value.node a b c) f bs len are so = absurd (false≢true f)

-- a unit among the first n bytes
pub unit_in : (at n : ℕ) (bs : List ℕ) → at + 4 ≤ n → take 4 (drop at (take n bs)) ≡ take 4 (drop at bs)
unit_in at n bs h =
    let more : 4 ≤ n - at = omega (arith, h) in
    let sum : n ≡ at + (n - at) = omega (arith, h) in
    ap (λ (m : ℕ). take 4 (drop at (take m bs))) sum ∙ ap (λ (x : List ℕ). take 4 x) (drop-take at (n - at) bs)
    ∙ take-take 4 (n - at) (drop at bs) more

module _ (kinds : List KindView) (p : Part) (ps : List Part) (a : Extent) (of : IsExtent kinds p.kind a) where
  -- the first of values one after another, those after it, and how many bytes they have together
  record IsSplit (vs : Values) : Type 0 where
    first : Tree
    rest : Values
    fits_first : Fits kinds p.kind first
    fit_rest : fit kinds ps rest ≡ true
    sum : length (spelling kinds (p ∷ ps) vs) ≡ a.bytes + length (spelling kinds ps rest)

  split : (vs : Values) → fit kinds (p ∷ ps) vs ≡ true → IsSplit vs
  split value.none f = absurd (false≢true f)
  split (value.node h inner rest) f =
      let fs = both (fits kinds p.kind (h, inner)) (fit kinds ps rest) f in record {
        first = (h, inner);
        rest = rest;
        fits_first = fs.0;
        fit_rest = fs.1;
        sum = length-append (bytes_of kinds p.kind (h, inner)) (spelling kinds ps rest)
            ∙ ap (λ (n : ℕ). n + length (spelling kinds ps rest)) (of.bytes (h, inner) fs.0);
      }

  join : (bs : List ℕ) → IsSpelled kinds p.kind (take a.bytes bs) → AreSpelled kinds ps (drop a.bytes bs)
      → AreSpelled kinds (p ∷ ps) bs
  join bs t vs = (
    value.node t.0.0 t.0.1 vs.0,
    both_of (fits kinds p.kind t.0) (fit kinds ps vs.0) t.1 vs.1,
    ap (λ (x : List ℕ). x ++ spelling kinds ps vs.0) t.2 ∙ ap (λ (x : List ℕ). take a.bytes bs ++ x) vs.2
        ∙ take-append-drop a.bytes bs,
  )

  -- how many bytes are the first one's, and how many are left
  front : (bs : List ℕ) (vs : Values) → IsSplit vs → length bs ≡ length (spelling kinds (p ∷ ps) vs)
      → length (take a.bytes bs) ≡ a.bytes
  front bs vs s len = length-take-le a.bytes bs (omega (arith, len, s.sum))

  back : (bs : List ℕ) (vs : Values) (s : IsSplit vs) → length bs ≡ length (spelling kinds (p ∷ ps) vs)
      → length (drop a.bytes bs) ≡ length (spelling kinds ps s.rest)
  back bs vs s len = omega (arith, length-drop a.bytes bs, len, s.sum)

  front_are : (bs : List ℕ) → IsTrue (are_bytes bs) → IsTrue (are_bytes (take a.bytes bs))
  front_are bs are = are_bytes_of (take a.bytes bs) (AreBytes-take a.bytes bs (bytes_are bs are))

  back_are : (bs : List ℕ) → IsTrue (are_bytes bs) → IsTrue (are_bytes (drop a.bytes bs))
  back_are bs are = are_bytes_of (drop a.bytes bs) (AreBytes-drop a.bytes bs (bytes_are bs are))

  -- a part that is free, in front of others
  more : (so all : List ℕ → Type 0) → IsTrue a.free → Suffices kinds ps so
      → ((bs : List ℕ) → all bs → so (drop a.bytes bs)) → Suffices kinds (p ∷ ps) all
  more so all is_free others behind vs f bs len are is =
      let s = split vs f in
      join bs (of.free is_free (take a.bytes bs) (front bs vs s len) (front_are bs are))
      (others s.rest s.fit_rest (drop a.bytes bs) (back bs vs s len) (back_are bs are) (behind bs is))

  pub free_first : IsTrue a.free → Suffices kinds ps (λ bs. ⊤) → Suffices kinds (p ∷ ps) (λ bs. ⊤)
  free_first is_free others = more (λ bs. ⊤) (λ bs. ⊤) is_free others (λ bs is. tt)

  -- a part that is free, in front of the one that is decided
  pub decided_behind : (d r : Decided) → IsTrue a.free → AreDecidedBy kinds ps d → r.at ≡ d.at + a.bytes
      → r.kind.place ≡ d.kind.place → AreDecidedBy kinds (p ∷ ps) r
  decided_behind d r is_free others further same = record {
    known = subst (λ (k : ℕ). k < length kinds) (sym same) others.known;
    units = omega (arith, others.units, of.bounded.units, further);
    inside = λ vs f.
        let s = split vs f in omega (arith, others.inside s.rest s.fit_rest, s.sum, further);
    decides = more (λ bs. IsSpelled kinds d.kind.place (take 4 (drop d.at bs)))
        (λ bs. IsSpelled kinds r.kind.place (take 4 (drop r.at bs))) is_free others.decides
        (λ bs is.
        subst (λ (x : List ℕ). IsSpelled kinds d.kind.place (take 4 x)) (placed bs)
        (subst (λ (k : ℕ). IsSpelled kinds k (take 4 (drop r.at bs))) same is));
  }
    where
      placed : (bs : List ℕ) → drop r.at bs ≡ drop d.at (drop a.bytes bs)
      placed bs = ap (λ (n : ℕ). drop n bs) (omega (arith, further)) ∙ sym (drop-drop d.at a.bytes bs)

  -- the part that is decided, in front of others that are free
  pub decided_first : (d : Decided) → IsDecided kinds p.kind d → Suffices kinds ps (λ bs. ⊤)
      → AreDecidedBy kinds (p ∷ ps) d
  decided_first d by others = record {
    known = by.known;
    units = by.units;
    inside = λ vs f.
        let s = split vs f in
        omega (arith, by.inside s.first s.fits_first, of.bytes s.first s.fits_first, s.sum);
    decides = λ vs f bs len are is.
        let s = split vs f in
        let room : d.at + 4 ≤ a.bytes = omega (arith, by.inside s.first s.fits_first, of.bytes s.first s.fits_first) in
        join bs
        (by.decides s.first s.fits_first (take a.bytes bs)
        (front bs vs s len ∙ sym (of.bytes s.first s.fits_first)) (front_are bs are)
        (subst (λ (x : List ℕ). IsSpelled kinds d.kind.place x) (sym (unit_in d.at a.bytes bs room)) is))
        (others s.rest s.fit_rest (drop a.bytes bs) (back bs vs s len) (back_are bs are) tt);
  }

-- ---- a structure

-- what decides of a kind, by the kind itself
record IsChosen (kinds : List KindView) (k : KindView) (d : Decided) : Type 0 where
  inside : (h : Head) (vs : Values) → is_legal kinds k h ≡ true → fit kinds (parts k h) vs ≡ true
      → d.at + 4 ≤ length (own k h ++ spelling kinds (parts k h) vs)
  decides : (h : Head) (vs : Values) → is_legal kinds k h ≡ true → fit kinds (parts k h) vs ≡ true → (bs : List ℕ)
      → length bs ≡ length (own k h ++ spelling kinds (parts k h) vs) → IsTrue (are_bytes bs)
      → IsSpelled kinds d.kind.place (take 4 (drop d.at bs))
      → (g : Head) × (ws : Values) × (is_legal kinds k g ≡ true) × (fit kinds (parts k g) ws ≡ true)
      × (own k g ++ spelling kinds (parts k g) ws ≡ bs)

structure_chosen : (kinds : List KindView) (ps : List Part) (d : Decided) → AreDecidedBy kinds ps d
    → IsChosen kinds (xdr.structure ps) d
structure_chosen kinds ps d by = record { inside = far; decides = each }
  where
    far : (h : Head) (vs : Values) → is_legal kinds (xdr.structure ps) h ≡ true
        → fit kinds (parts (xdr.structure ps) h) vs ≡ true
        → d.at + 4 ≤ length (own (xdr.structure ps) h ++ spelling kinds (parts (xdr.structure ps) h) vs)
    far value.fields vs l f = by.inside vs f
    far _ vs l f = absurd (false≢true l)

    each : (h : Head) (vs : Values) → is_legal kinds (xdr.structure ps) h ≡ true
        → fit kinds (parts (xdr.structure ps) h) vs ≡ true → (bs : List ℕ)
        → length bs ≡ length (own (xdr.structure ps) h ++ spelling kinds (parts (xdr.structure ps) h) vs)
        → IsTrue (are_bytes bs) → IsSpelled kinds d.kind.place (take 4 (drop d.at bs))
        → (g : Head) × (ws : Values) × (is_legal kinds (xdr.structure ps) g ≡ true)
        × (fit kinds (parts (xdr.structure ps) g) ws ≡ true)
        × (own (xdr.structure ps) g ++ spelling kinds (parts (xdr.structure ps) g) ws ≡ bs)
    each value.fields vs l f bs len are is =
        let r = by.decides vs f bs len are is in (value.fields, r.0, refl, r.1, r.2)
    each _ vs l f bs len are is = absurd (false≢true l)

-- a structure, by its fields
pub fields_decide : (kinds : List KindView) (place : ℕ) (ps : List Part) (d : Decided)
    → kind_at kinds place ≡ xdr.structure ps → AreDecidedBy kinds ps d → IsDecided kinds place d
fields_decide kinds place ps d is by =
    let k : KindView = kind_at kinds place in
    let chosen : IsChosen kinds k d =
    subst (λ (f : KindView). IsChosen kinds f d) (sym is) (structure_chosen kinds ps d by) in
    record {
      known = by.known;
      units = by.units;
      inside = λ t f.
          let hs = both (is_legal kinds k t.0) (fit kinds (parts k t.0) t.1) f in
          chosen.inside t.0 t.1 hs.0 hs.1;
      decides = λ t f bs len are so.
          let hs = both (is_legal kinds k t.0) (fit kinds (parts k t.0) t.1) f in
          let r = chosen.decides t.0 t.1 hs.0 hs.1 bs len are so in
          ((r.0, r.1), both_of (is_legal kinds k r.0) (fit kinds (parts k r.0) r.1) r.2 r.3, r.4);
    }
