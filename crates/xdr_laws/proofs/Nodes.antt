-- How many nodes begin at one place.
use Rattle.std.proofs.Common.{◌≡◌, ℕ, zero, suc, ◌+◌, ◌<◌, ◌≤◌, ◌==◌, Bool, true, false, cond, List, [], ◌∷◌, ◌++◌}
use Rattle.std.proofs.Common.{length, Option, Some, None, refl, sym, ap, subst, ◌∙◌, arith, inl, inr, replicate}
use Rattle.std.specs.Prelude.{◌⊎◌, ⊤}
use Rattle.std.specs.List.{AllByRecursion}
use Rattle.std.proofs.lemmas.List.{length-append, length-replicate}
use Rattle.xdr_types.specs.Kinds as xdr
use Rattle.xdr_types.specs.Kinds.{KindView, Part, kind_at}
use Rattle.xdr_types.specs.Tree as value
use Rattle.xdr_types.specs.Tree.{Head, Values}
use Rattle.xdr_units.specs.Numbers.{pad, word}
use Rattle.xdr_types.specs.Fits.{fits, parts, item_part, part_of, optional_part}
use Rattle.xdr_types.specs.Spelling.{own, spelling}
use Rattle.xdr_types.specs.Layout.{Entry, entry, layout, shown, content, of_length}
use Rattle.xdr_laws.specs.Owed.{IsSolid}
use Rattle.xdr_laws.proofs.Legal.{IsLegal, FitAll, fit_node}
use Rattle.std.proofs.lemmas.Bool.{false≢true}
use Rattle.xdr_laws.specs.Parts.{Join, AllFrom, is_opaque, is_first, one_if, nodes_at}
use Rattle.xdr_laws.proofs.Numbers.{unit_of, units_of, unit4-length, unit8-length}
use Rattle.xdr_laws.proofs.Parts.{parts_join, join_from, join_low}

-- a well formed schema: nothing void stands as a field or an item, nothing fixed is of size 0, and a structure has
-- fields
abbrev pub AreMembers : List KindView → List Part → Type 0
AreMembers s ts = AllByRecursion (λ (t : Part). IsSolid (kind_at s t.kind)) ts

abbrev pub IsFormedKind : List KindView → KindView → Type 0
IsFormedKind s (xdr.opaque size) = 0 < size
IsFormedKind s (xdr.fixed item size) = (0 < size) × IsSolid (kind_at s item)
IsFormedKind s (xdr.up_to item max) = IsSolid (kind_at s item)
IsFormedKind s (xdr.structure fields) = (0 < length fields) × AreMembers s fields
IsFormedKind s (xdr.maybe item) = IsSolid (kind_at s item)
IsFormedKind s _ = ⊤

abbrev pub IsFormed : List KindView → Type 0
IsFormed s = (t : ℕ) → IsFormedKind s (kind_at s t)

-- what a kind has without reading a byte: the parts of a structure and of a fixed list
abbrev pub Over : (ℕ → Type 0) → KindView → Type 0
Over P (xdr.fixed item size) = P item
Over P (xdr.structure fields) = AllByRecursion (λ (p : Part). P p.kind) fields
Over P _ = ⊤

-- each structure and each fixed list is higher than all its parts
abbrev pub AreOver : List KindView → (ℕ → ℕ) → Type 0
AreOver s height = (t : ℕ) → Over (λ part. height part < height t) (kind_at s t)

-- and they point to places of the list
abbrev pub IsClosed : List KindView → Type 0
IsClosed s = (t : ℕ) → Over (λ part. part < length s) (kind_at s t)

nodes_append : (s : List KindView) (p : ℕ) (xs ys : List Entry)
    → nodes_at s p (xs ++ ys) ≡ nodes_at s p xs + nodes_at s p ys
nodes_append s p [] ys = omega arith
nodes_append s p (x ∷ xs) ys = let more = nodes_append s p xs ys in omega arith

not_here : (a p n : ℕ) → (a ≡ p → ⊥) → cond (a == p) n 0 ≡ 0
not_here a p n h = grind arith

-- none begins before the parts, nor after them
nodes_before : (s : List KindView) (p a : ℕ) (ps : List Entry) → AllFrom a ps → p < a → nodes_at s p ps ≡ 0
nodes_before s p a [] f h = refl
nodes_before s p a (e ∷ ps) f h =
    let here = not_here e.at p (one_if (is_first (kind_at s e.kind) e.role)) (λ same. absurd (omega (arith, f.0))) in
    let more = nodes_before s p a ps f.1 h in omega arith

nodes_after : (s : List KindView) (p a b : ℕ) (ps : List Entry) → Join a ps b → b < p → nodes_at s p ps ≡ 0
nodes_after s p a b [] j h = refl
nodes_after s p a b (e ∷ ps) j h =
    let low = join_low (a + e.size) b ps j.1 in
    let here = not_here e.at p (one_if (is_first (kind_at s e.kind) e.role)) (λ same. absurd (omega (arith, j.0))) in
    let more = nodes_after s p (a + e.size) b ps j.1 h in omega arith

-- one if the place is p
abbrev pub here : ℕ → ℕ → ℕ
here place p = cond (place == p) 1 0

pub here_one : (place p : ℕ) → here place p ≤ 1
here_one place p = by_test (place == p)
  where
    by_test : (b : Bool) → cond b 1 0 ≤ 1
    by_test true = omega arith
    by_test false = omega arith

pub here_not : (place p : ℕ) → (place ≡ p → ⊥) → here place p ≡ 0
here_not place p h = not_here place p 1 h

counts_one : (place p : ℕ) (b : Bool) → b ≡ true → cond (place == p) (one_if b) 0 + 0 ≡ here place p
counts_one place p b e = subst (λ (c : Bool). cond (place == p) (one_if c) 0 + 0 ≡ here place p) (sym e) (omega arith)

counts_none : (place p : ℕ) (b : Bool) → b ≡ false → cond (place == p) (one_if b) 0 + 0 ≡ 0
counts_none place p b e = subst (λ (c : Bool). cond (place == p) (one_if c) 0 + 0 ≡ 0) (sym e) (by_test (place == p))
  where
    by_test : (c : Bool) → cond c 0 0 + 0 ≡ 0
    by_test true = refl
    by_test false = refl

counts_length : (s : List KindView) (place : ℕ) (t : Part) (n p : ℕ) → is_opaque (kind_at s t.kind) ≡ false
    → nodes_at s p (entry place 4 0 t of_length ∷ content (place + 4) 0 t n) ≡ here place p
counts_length s place t n p e = let none = counts_none (place + 4) p (is_opaque (kind_at s t.kind)) e in omega arith

shown_nodes : (s : List KindView) (place d : ℕ) (t : Part) (k : KindView) (h : Head) → kind_at s t.kind ≡ k
    → IsLegal s k h
    → (p : ℕ) → nodes_at s p (shown place d t k h) ≡ here place p
shown_nodes s place d t (xdr.opaque size) (value.bytes bs) is l p = counts_one place p (is_opaque (kind_at s t.kind))
    (ap is_opaque is)
shown_nodes s place d t (xdr.opaque_up_to max) (value.bytes bs) is l p = counts_length s place t (length bs) p
    (ap is_opaque is)
shown_nodes s place d t (xdr.text max) (value.bytes bs) is l p = counts_length s place t (length bs) p
    (ap is_opaque is)
shown_nodes s place d t (xdr.fixed item size) (value.items n) is l p = omega arith
shown_nodes s place d t (xdr.up_to item max) (value.items n) is l p = omega arith
shown_nodes s place d t xdr.int (value.int z) is l p = omega arith
shown_nodes s place d t xdr.unsigned (value.unsigned n) is l p = omega arith
shown_nodes s place d t xdr.hyper (value.hyper z) is l p = omega arith
shown_nodes s place d t xdr.unsigned_hyper (value.unsigned_hyper n) is l p = omega arith
shown_nodes s place d t xdr.boolean (value.boolean b) is l p = omega arith
shown_nodes s place d t (xdr.numbered constants) (value.numbered z) is l p = omega arith
shown_nodes s place d t (xdr.structure fields) value.fields is l p = omega arith
shown_nodes s place d t (xdr.choice tag arms other) (value.tag z) is l p = omega arith
shown_nodes s place d t (xdr.maybe item) value.present is l p = omega arith
shown_nodes s place d t (xdr.maybe item) value.absent is l p = omega arith
shown_nodes s place d t xdr.nothing value.nothing is l p = omega arith
shown_nodes s place d t _ _ is l p = absurd l

-- how many nodes of them begin at p
abbrev pub count : List KindView → (p place d : ℕ) → List Part → Values → ℕ
count s p place d ts v = nodes_at s p (layout s place d ts v)

-- the bytes of the first value
abbrev first_size : List KindView → Part → Head → Values → ℕ
first_size s t h ps = length (own (kind_at s t.kind) h) + length (spelling s (parts (kind_at s t.kind) h) ps)

pub count_node : (s : List KindView) (p place d : ℕ) (t : Part) (ts : List Part) (h : Head) (ps rest : Values)
    → IsLegal s (kind_at s t.kind) h
    → count s p place d (t ∷ ts) (value.node h ps rest)
    ≡ here place p + (count s p (place + length (own (kind_at s t.kind) h)) (d + 1) (parts (kind_at s t.kind) h) ps
    + count s p (place + length (own (kind_at s t.kind) h) + length (spelling s (parts (kind_at s t.kind) h) ps)) d ts
    rest)
count_node s p place d t ts h ps rest l =
    let k : KindView = kind_at s t.kind in
    let inside : List Entry = layout s (place + length (own k h)) (d + 1) (parts k h) ps in
    let after : List Entry = layout s (place + length (own k h) + length (spelling s (parts k h) ps)) d ts rest in
    nodes_append s p (shown place d t k h) (inside ++ after)
    ∙ ap (λ (n : ℕ). n + nodes_at s p (inside ++ after)) (shown_nodes s place d t k h refl l p)
    ∙ ap (λ (n : ℕ). here place p + n) (nodes_append s p inside after)

pub count_before : (s : List KindView) (p place d : ℕ) (ts : List Part) (v : Values) → FitAll s ts v → p < place
    → count s p place d ts v ≡ 0
count_before s p place d ts v f h = nodes_before s p place (layout s place d ts v)
    (join_from place _ (layout s place d ts v) (parts_join s place d ts v f)) h

pub count_after : (s : List KindView) (p place d : ℕ) (ts : List Part) (v : Values) → FitAll s ts v
    → place + length (spelling s ts v) < p → count s p place d ts v ≡ 0
count_after s p place d ts v f h = nodes_after s p place (place + length (spelling s ts v)) (layout s place d ts v)
    (parts_join s place d ts v f) h

members_copies : (s : List KindView) (n : ℕ) (t : Part) → IsSolid (kind_at s t.kind) → AreMembers s (replicate n t)
members_copies s zero t h = tt
members_copies s (suc n) t h = (h, members_copies s n t h)

-- what a head without bytes has
abbrev IsOpen : List KindView → KindView → Head → Type 0
IsOpen s k h = AreMembers s (parts k h) × (0 < length (parts k h))

abbrev IsLong : KindView → Head → Type 0
IsLong k h = 0 < length (own k h)

pub long_or_open : (s : List KindView) (k : KindView) (h : Head) → IsFormedKind s k → IsSolid k → IsLegal s k h
    → IsLong k h ⊎ ((own k h ≡ []) × IsOpen s k h)
long_or_open s xdr.int (value.int z) w m l = inl (omega (arith, unit4-length (unit_of z)))
long_or_open s xdr.unsigned (value.unsigned n) w m l = inl (omega (arith, unit4-length n))
long_or_open s xdr.hyper (value.hyper z) w m l = inl (omega (arith, unit8-length (units_of z)))
long_or_open s xdr.unsigned_hyper (value.unsigned_hyper n) w m l = inl (omega (arith, unit8-length n))
long_or_open s xdr.boolean (value.boolean true) w m l = inl (omega (arith, unit4-length 1))
long_or_open s xdr.boolean (value.boolean false) w m l = inl (omega (arith, unit4-length 0))
long_or_open s (xdr.numbered constants) (value.numbered z) w m l = inl (omega (arith, unit4-length (unit_of z)))
long_or_open s (xdr.opaque size) (value.bytes bs) w m l = inl (omega (arith, l.0, length-append bs (pad (length bs))))
long_or_open s (xdr.opaque_up_to max) (value.bytes bs) w m l = inl
    (omega (arith, unit4-length (length bs), length-append (word (length bs)) (bs ++ pad (length bs))))
long_or_open s (xdr.text max) (value.bytes bs) w m l = inl
    (omega (arith, unit4-length (length bs), length-append (word (length bs)) (bs ++ pad (length bs))))
long_or_open s (xdr.fixed item size) (value.items n) w m l = inr
    (refl, (members_copies s n (item_part item) w.1, omega (arith, length-replicate n (item_part item), w.0, l)))
long_or_open s (xdr.up_to item max) (value.items n) w m l = inl (omega (arith, unit4-length n))
long_or_open s (xdr.structure fields) value.fields w m l = inr (refl, (w.1, w.0))
long_or_open s (xdr.choice tag arms other) (value.tag z) w m l = inl (omega (arith, unit4-length (unit_of z)))
long_or_open s (xdr.maybe item) value.present w m l = inl (omega (arith, unit4-length 1))
long_or_open s (xdr.maybe item) value.absent w m l = inl (omega (arith, unit4-length 0))
long_or_open s xdr.nothing h w m l = absurd m
long_or_open s _ _ w m l = absurd l

-- fields and items, or one void part of a choice
abbrev pub IsVoid : List KindView → List Part → Type 0
IsVoid s ts = (t : Part) × (ts ≡ t ∷ []) × (kind_at s t.kind ≡ xdr.nothing)

pub solid_or_void : (s : List KindView) (t : Part) → IsSolid (kind_at s t.kind) ⊎ (kind_at s t.kind ≡ xdr.nothing)
solid_or_void s t = by_kind (kind_at s t.kind)
  where
    by_kind : (k : KindView) → IsSolid k ⊎ (k ≡ xdr.nothing)
    by_kind xdr.nothing = inr refl
    by_kind _ = inl tt

listed_members : (s : List KindView) (o : Option Part) → AreMembers s (optional_part o) ⊎ IsVoid s (optional_part o)
listed_members s None = inl tt
listed_members s (Some t) = elim (solid_or_void s t) [ inl m ↦ inl (m, tt) | inr e ↦ inr (t, refl, e) ]

pub parts_members : (s : List KindView) (k : KindView) (h : Head) → IsFormedKind s k
    → AreMembers s (parts k h) ⊎ IsVoid s (parts k h)
parts_members s (xdr.fixed item size) (value.items n) w = inl (members_copies s n (item_part item) w.1)
parts_members s (xdr.up_to item max) (value.items n) w = inl (members_copies s n (item_part item) w)
parts_members s (xdr.structure fields) value.fields w = inl w.1
parts_members s (xdr.choice tag arms other) (value.tag z) w = listed_members s (part_of arms other z)
parts_members s (xdr.maybe item) value.present w = inl (w, tt)
parts_members s _ _ w = inl tt

module _ (s : List KindView) (formed : IsFormed s) where
  pub spelled : (ts : List Part) (v : Values) → AreMembers s ts → 0 < length ts → FitAll s ts v
      → 0 < length (spelling s ts v)
  spelled [] v m some f = absurd (omega arith)
  spelled (t ∷ ts) value.none m some f = absurd (false≢true f)
  spelled (t ∷ ts) (value.node h ps rest) m some fits =
      let f = fit_node s t ts h ps rest fits in
      let k : KindView = kind_at s t.kind in
      let sv : List ℕ = spelling s (parts k h) ps in
      let sw : List ℕ = spelling s ts rest in
      let inner : AreMembers s (parts k h) → 0 < length (parts k h)
      → 0 < length sv = λ a b. spelled (parts k h) ps a b f.1 in
      elim (long_or_open s k h (formed t.kind) m.0 f.0) [
        | inl long ↦ omega (arith, length-append (own k h ++ sv) sw, length-append (own k h) sv)
        | inr o ↦ (let i = inner o.1.0 o.1.1 in omega
            (arith, length-append (own k h ++ sv) sw, length-append (own k h) sv))
      ]

  -- the first value has bytes
  pub first_long : (t : Part) (h : Head) (ps : Values) → IsSolid (kind_at s t.kind) → IsLegal s (kind_at s t.kind) h
      → FitAll s (parts (kind_at s t.kind) h) ps → 0 < first_size s t h ps
  first_long t h ps m l f = elim (long_or_open s (kind_at s t.kind) h (formed t.kind) m l) [
    | inl long ↦ omega arith
    | inr o ↦ (let i = spelled (parts (kind_at s t.kind) h) ps o.1.0 o.1.1 f in omega arith)
  ]

  -- one void part
  pub void_one : (p place d : ℕ) (ts : List Part) (v : Values) → IsVoid s ts → FitAll s ts v
      → count s p place d ts v ≤ 1
  void_one p place d ts v void f =
      subst (λ (l : List Part). FitAll s l v → count s p place d l v ≤ 1) (sym void.1)
      (void_at p place d void.0 void.2 v) f
    where
      void_node : (p place d : ℕ) (t : Part) (h : Head) (ps rest : Values) → kind_at s t.kind ≡ xdr.nothing
          → FitAll s (t ∷ []) (value.node h ps rest) → count s p place d (t ∷ []) (value.node h ps rest) ≤ 1
      void_node p place d t h ps rest is f =
          let no_parts : parts (kind_at s t.kind) h ≡ [] = ap (λ (k : KindView). parts k h) is in
          let inside : count s p (place + length (own (kind_at s t.kind) h)) (d + 1) (parts (kind_at s t.kind) h) ps
          ≡ 0 =
          subst (λ (l : List Part). count s p (place + length (own (kind_at s t.kind) h)) (d + 1) l ps ≡ 0)
          (sym no_parts) refl in
          omega (arith, count_node s p place d t [] h ps rest (fit_node s t [] h ps rest f).0, here_one place p)

      void_at : (p place d : ℕ) (t : Part) → kind_at s t.kind ≡ xdr.nothing → (v : Values) → FitAll s (t ∷ []) v
          → count s p place d (t ∷ []) v ≤ 1
      void_at p place d t is value.none f = absurd (false≢true f)
      void_at p place d t is (value.node h ps rest) f = void_node p place d t h ps rest is f
