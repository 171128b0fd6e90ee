-- How deep the parts of nodes are.
use Rattle.std.proofs.Common.{ℕ, ◌+◌, ◌<◌, ◌≤◌, List, [], ◌∷◌, ◌++◌, length, refl, sym, subst, arith}
use Rattle.std.specs.List.{AllByRecursion}
use Rattle.xdr_types.specs.Kinds as xdr
use Rattle.xdr_types.specs.Kinds.{KindView, Part, kind_at}
use Rattle.xdr_types.specs.Tree as value
use Rattle.xdr_types.specs.Tree.{Head, Values}
use Rattle.xdr_types.specs.Fits.{parts}
use Rattle.xdr_types.specs.Spelling.{own, spelling}
use Rattle.xdr_types.specs.Layout.{Entry, layout, shown, shown_bytes, shown_items}
use Rattle.xdr_laws.specs.Owed.{Completes}
use Rattle.xdr_laws.proofs.Owed.{begin_into}
use Rattle.xdr_laws.proofs.Whole.{all_more}
use Rattle.xdr_laws.proofs.Parts.{all_append}
use Rattle.xdr_stream.specs.Frames.{dues}
use Rattle.xdr_parts.proofs.Stepping.{ended}
use Rattle.xdr_cursor.specs.Coming.{BeginsAbove, BeginsNamed}

-- no part is less deep than so much
abbrev pub AreDeep : ℕ → List Entry → Type 0
AreDeep d es = AllByRecursion (λ (e : Entry). d ≤ e.depth) es

bytes_deep : (place d : ℕ) (p : Part) (k : KindView) (n : ℕ) → AreDeep d (shown_bytes place d p k n)
bytes_deep place d p (xdr.opaque size) n = (omega arith, tt)
bytes_deep place d p _ n = (omega arith, (omega arith, tt))

items_deep : (place d : ℕ) (p : Part) (k : KindView) → AreDeep d (shown_items place d p k)
items_deep place d p (xdr.fixed item size) = (omega arith, tt)
items_deep place d p _ = (omega arith, tt)

pub shown_deep : (place d : ℕ) (p : Part) (k : KindView) (h : Head) → AreDeep d (shown place d p k h)
shown_deep place d p k (value.bytes bs) = bytes_deep place d p k (length bs)
shown_deep place d p k (value.items n) = items_deep place d p k
shown_deep place d p k _ = (omega arith, tt)

pub less_deep : (d : ℕ) (e : Entry) → d + 1 ≤ e.depth → d ≤ e.depth
less_deep d e deep = omega arith

-- the parts of nodes are as deep as these or deeper
pub layout_deep : (s : List KindView) (place d : ℕ) (ps : List Part) (v : Values) → AreDeep d (layout s place d ps v)
layout_deep s place d [] v = tt
layout_deep s place d (p ∷ ps) value.none = tt
layout_deep s place d (p ∷ ps) (value.node h inner rest) =
    let k : KindView = kind_at s p.kind in
    let P : Entry → Type 0 = λ (e : Entry). d ≤ e.depth in
    let inside : List Entry = layout s (place + length (own k h)) (d + 1) (parts k h) inner in
    let after : List Entry = layout s (place + length (own k h) + length (spelling s (parts k h) inner)) d ps rest in
    let here : AreDeep d (shown place d p k h) = shown_deep place d p k h in
    let under : AreDeep (d + 1) inside = layout_deep s (place + length (own k h)) (d + 1) (parts k h) inner in
    let deeper : AreDeep d inside = all_more (λ (e : Entry). d + 1 ≤ e.depth) P (less_deep d) inside under in
    let behind : AreDeep d after =
    layout_deep s (place + length (own k h) + length (spelling s (parts k h) inner)) d ps rest in
    all_append P (shown place d p k h) (inside ++ after) here (all_append P inside after deeper behind)

-- a node shows a part by itself
bytes_some : (place d : ℕ) (p : Part) (k : KindView) (n : ℕ) → 0 < length (shown_bytes place d p k n)
bytes_some place d p (xdr.opaque size) n = omega arith
bytes_some place d p _ n = omega arith

items_some : (place d : ℕ) (p : Part) (k : KindView) → 0 < length (shown_items place d p k)
items_some place d p (xdr.fixed item size) = omega arith
items_some place d p _ = omega arith

pub shown_some : (place d : ℕ) (p : Part) (k : KindView) (h : Head) → 0 < length (shown place d p k h)
shown_some place d p k (value.bytes bs) = bytes_some place d p k (length bs)
shown_some place d p k (value.items n) = items_some place d p k
shown_some place d p k _ = omega arith

-- ---- the part that comes first

bytes_first : (place d : ℕ) (p : Part) (k : KindView) (n : ℕ) (qs : List Entry)
    → BeginsAbove d (shown_bytes place d p k n ++ qs)
bytes_first place d p (xdr.opaque size) n qs = omega arith
bytes_first place d p _ n qs = omega arith

items_first : (place d : ℕ) (p : Part) (k : KindView) (qs : List Entry)
    → BeginsAbove d (shown_items place d p k ++ qs)
items_first place d p (xdr.fixed item size) qs = omega arith
items_first place d p _ qs = omega arith

shown_first : (place d : ℕ) (p : Part) (k : KindView) (h : Head) (qs : List Entry)
    → BeginsAbove d (shown place d p k h ++ qs)
shown_first place d p k (value.bytes bs) qs = bytes_first place d p k (length bs) qs
shown_first place d p k (value.items n) qs = items_first place d p k qs
shown_first place d p k _ qs = omega arith

-- and it has the name of the node
bytes_named : (place d : ℕ) (p : Part) (k : KindView) (n : ℕ) (qs : List Entry)
    → BeginsNamed p.name (shown_bytes place d p k n ++ qs)
bytes_named place d p (xdr.opaque size) n qs = refl
bytes_named place d p _ n qs = refl

items_named : (place d : ℕ) (p : Part) (k : KindView) (qs : List Entry)
    → BeginsNamed p.name (shown_items place d p k ++ qs)
items_named place d p (xdr.fixed item size) qs = refl
items_named place d p _ qs = refl

pub shown_named : (place d : ℕ) (p : Part) (k : KindView) (h : Head) (qs : List Entry)
    → BeginsNamed p.name (shown place d p k h ++ qs)
shown_named place d p k (value.bytes bs) qs = bytes_named place d p k (length bs) qs
shown_named place d p k (value.items n) qs = items_named place d p k qs
shown_named place d p k _ qs = refl

pub above_less : (m n : ℕ) (es : List Entry) → m ≤ n → BeginsAbove m es → BeginsAbove n es
above_less m n [] h b = tt
above_less m n (e ∷ es) h b = let low : e.depth ≤ m = b in omega arith

-- what nodes at work owe begins no deeper than the innermost of them
pub begins_above : (s : List KindView) (at : ℕ) (fs : List (List Part)) (c : List ℕ) (es : List Entry)
    → Completes s at (dues fs) c es → BeginsAbove (length fs) es
begins_above s at [] c es r = subst (λ (x : List Entry). BeginsAbove 0 x) (sym r.1) tt
begins_above s at ([] ∷ fs) c es r =
    above_less (length fs) (length ([] ∷ fs)) es (omega arith)
    (begins_above s at fs c es (ended s at fs c es r))
begins_above s at ((p ∷ ps) ∷ fs) c es r =
    let d : ℕ = length fs + 1 in
    let b = begin_into s at d p ps (dues fs) c es r in
    above_less d (length ((p ∷ ps) ∷ fs)) es (omega arith)
    (subst (λ (x : List Entry). BeginsAbove d x) (sym b.5) (shown_first at d p (kind_at s p.kind) b.0 b.2))
