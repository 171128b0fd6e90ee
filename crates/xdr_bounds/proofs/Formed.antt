-- The shapes of kinds: what the nodes of each kind have by themselves, and of which kinds their parts are.
use Rattle.std.proofs.Common.{◌≡◌, ℕ, zero, suc, ◌+◌, ◌-◌, ◌%◌, ◌^◌, ◌<◌, ◌≤◌, ◌==◌, ◌&&◌, ℤ, pos, List, [], ◌∷◌, ◌++◌}
use Rattle.std.proofs.Common.{length}
use Rattle.std.proofs.Common.{map, replicate, ◌⊎◌, inl, inr, Bool, true, false, nat_le, nat_lt, Option, Some, None}
use Rattle.std.proofs.Common.{is_some}
use Rattle.std.proofs.Common.{refl, sym, ap, ◌∙◌, subst, arith, eq-eqb, eqb-true, le-leb, leb-true, lt-ltb}
use Rattle.std.proofs.lemmas.Bool.{false≢true, and_parts as both, and_from as both_of}
use Rattle.std.proofs.lemmas.List.{length-append, length-replicate}
use Rattle.xdr_units.specs.Numbers.{num4, pad, gap}
use Rattle.xdr_types.specs.Kinds as xdr
use Rattle.xdr_types.specs.Kinds.{KindView, Part, Branch, Constant, kind_at}
use Rattle.xdr_types.specs.Tree as value
use Rattle.xdr_types.specs.Tree.{Head}
use Rattle.xdr_types.specs.Fits.{fit, is_legal, is_length, are_bytes, parts, part_of, optional_part, item_part}
use Rattle.xdr_types.specs.Fits.{is_tag_of, part_in}
use Rattle.xdr_types.specs.Spelling.{own}
use Rattle.xdr_types.specs.Laws.{EachKindHasAValue}
use Rattle.std.specs.declared.vec.Vec.{Vec}
use Rattle.std.specs.declared.alloc.Global.{Global}
use Rattle.xdr_types.specs.declared.kind.KindId.{KindId}
use Rattle.xdr_bounds.specs.Private.Amounts.{IsIn, places_of}
use Rattle.xdr_bounds.specs.Private.Unions.{PicksKind, IsPicked, ArePicked}
use Rattle.xdr_bounds.specs.Private.Shapes.{kinds_of, IsForm, Covers, Offers, IsShape}
use Rattle.xdr_bounds.specs.declared.shape.Shape.{Shape}
use Rattle.xdr_bounds.specs.declared.shape.Shape.TheVariants as shape
use Rattle.xdr_bounds.proofs.Uppermost.{kinds_of-replicate}

-- what some value of the kind may show at its head
abbrev pub HasHead : List KindView → KindView → Type 0
HasHead kinds k = (h : Head) × (is_legal kinds k h ≡ true)

-- each node has so many bytes and no parts
abbrev IsExact : List KindView → KindView → ℕ → Type 0
IsExact kinds k n = (h : Head) → is_legal kinds k h ≡ true → (length (own k h) ≡ n) × (parts k h ≡ [])

exact : (kinds : List KindView) (k : KindView) (n : ℕ) → HasHead kinds k → IsExact kinds k n
    → IsShape kinds k (shape.Alone n n)
exact kinds k n some each = record { covers = covered; offers = offered }
  where
    covered : (m : ℕ) (qs : List ℕ) → IsForm kinds k m qs → Covers (shape.Alone n n) m qs
    covered m qs form =
        let of = each form.0 form.1 in
        let is : length (own k form.0) ≡ n = of.0 in
        let same : length (own k form.0) ≡ m = form.2 in
        (sym form.3 ∙ ap kinds_of of.1, omega arith, omega arith)

    here : (m : ℕ) (qs : List ℕ) → qs ≡ [] → m ≡ n → IsForm kinds k m qs
    here m qs none is =
        let of = each some.0 some.1 in
        (some.0, some.1, of.0 ∙ sym is, ap kinds_of of.1 ∙ sym none)

    offered : (m : ℕ) (qs : List ℕ) → Offers (shape.Alone n n) m qs → IsForm kinds k m qs
    offered m qs h = elim h.1 [ inl is ↦ here m qs h.0 is | inr is ↦ here m qs h.0 is ]

-- ---- numbers

int_exact : (kinds : List KindView) → IsExact kinds xdr.int 4
int_exact kinds (value.int z) l = (refl, refl)
int_exact kinds _ l = absurd (false≢true l)

unsigned_exact : (kinds : List KindView) → IsExact kinds xdr.unsigned 4
unsigned_exact kinds (value.unsigned n) l = (refl, refl)
unsigned_exact kinds _ l = absurd (false≢true l)

hyper_exact : (kinds : List KindView) → IsExact kinds xdr.hyper 8
hyper_exact kinds (value.hyper z) l = (refl, refl)
hyper_exact kinds _ l = absurd (false≢true l)

unsigned_hyper_exact : (kinds : List KindView) → IsExact kinds xdr.unsigned_hyper 8
unsigned_hyper_exact kinds (value.unsigned_hyper n) l = (refl, refl)
unsigned_hyper_exact kinds _ l = absurd (false≢true l)

boolean_exact : (kinds : List KindView) → IsExact kinds xdr.boolean 4
boolean_exact kinds (value.boolean b) l = (refl, refl)
boolean_exact kinds _ l = absurd (false≢true l)

numbered_exact : (kinds : List KindView) (cs : List Constant) → IsExact kinds (xdr.numbered cs) 4
numbered_exact kinds cs (value.numbered z) l = (refl, refl)
numbered_exact kinds cs _ l = absurd (false≢true l)

nothing_exact : (kinds : List KindView) → IsExact kinds xdr.nothing 0
nothing_exact kinds value.nothing l = (refl, refl)
nothing_exact kinds _ l = absurd (false≢true l)

opaque_exact : (kinds : List KindView) (size : ℕ) → IsExact kinds (xdr.opaque size) (size + length (pad size))
opaque_exact kinds size (value.bytes bs) l =
    let len : length bs ≡ size = eqb-true (length bs) size (both (length bs == size) (are_bytes bs) l).0 in
    (length-append bs (pad (length bs)) ∙ ap (λ (n : ℕ). n + length (pad n)) len, refl)
opaque_exact kinds size _ l = absurd (false≢true l)

pub int_shape : (kinds : List KindView) → HasHead kinds xdr.int → IsShape kinds xdr.int (shape.Alone 4 4)
int_shape kinds some = exact kinds xdr.int 4 some (int_exact kinds)

pub unsigned_shape : (kinds : List KindView) → HasHead kinds xdr.unsigned
    → IsShape kinds xdr.unsigned (shape.Alone 4 4)
unsigned_shape kinds some = exact kinds xdr.unsigned 4 some (unsigned_exact kinds)

pub hyper_shape : (kinds : List KindView) → HasHead kinds xdr.hyper → IsShape kinds xdr.hyper (shape.Alone 8 8)
hyper_shape kinds some = exact kinds xdr.hyper 8 some (hyper_exact kinds)

pub unsigned_hyper_shape : (kinds : List KindView) → HasHead kinds xdr.unsigned_hyper
    → IsShape kinds xdr.unsigned_hyper (shape.Alone 8 8)
unsigned_hyper_shape kinds some = exact kinds xdr.unsigned_hyper 8 some (unsigned_hyper_exact kinds)

pub boolean_shape : (kinds : List KindView) → HasHead kinds xdr.boolean → IsShape kinds xdr.boolean (shape.Alone 4 4)
boolean_shape kinds some = exact kinds xdr.boolean 4 some (boolean_exact kinds)

pub numbered_shape : (kinds : List KindView) (cs : List Constant) → HasHead kinds (xdr.numbered cs)
    → IsShape kinds (xdr.numbered cs) (shape.Alone 4 4)
numbered_shape kinds cs some = exact kinds (xdr.numbered cs) 4 some (numbered_exact kinds cs)

pub nothing_shape : (kinds : List KindView) → HasHead kinds xdr.nothing → IsShape kinds xdr.nothing (shape.Alone 0 0)
nothing_shape kinds some = exact kinds xdr.nothing 0 some (nothing_exact kinds)

pub opaque_shape : (kinds : List KindView) (size : ℕ) → HasHead kinds (xdr.opaque size)
    → IsShape kinds (xdr.opaque size) (shape.Alone (size + length (pad size)) (size + length (pad size)))
opaque_shape kinds size some = exact kinds (xdr.opaque size) _ some (opaque_exact kinds size)

-- ---- counted content

zeros : (n : ℕ) → are_bytes (replicate n 0) ≡ true
zeros zero = refl
zeros (suc n) = zeros n

-- more content has no fewer bytes with its zeros
pad_rises : (m n : ℕ) → m ≤ n → m + length (pad m) ≤ n + length (pad n)
pad_rises m n h =
    let few : length (pad m) ≡ gap m = length-replicate {A = ℕ} (gap m) 0 in
    let many : length (pad n) ≡ gap n = length-replicate {A = ℕ} (gap n) 0 in
    omega arith

-- the nodes of a kind have counted content, up to a count
record IsCounted (kinds : List KindView) (k : KindView) (max : ℕ) : Type 0 where
  each : (h : Head) → is_legal kinds k h ≡ true
      → (bs : List ℕ) × (length bs ≤ max) × (length (own k h) ≡ length bs + length (pad (length bs)) + 4)
      × (parts k h ≡ [])
  some : (bs : List ℕ) → length bs ≤ max → are_bytes bs ≡ true
      → (h : Head) × (is_legal kinds k h ≡ true) × (length (own k h) ≡ length bs + length (pad (length bs)) + 4)
      × (parts k h ≡ [])

counted : (kinds : List KindView) (k : KindView) (max : ℕ) → IsCounted kinds k max
    → IsShape kinds k (shape.Alone 4 (max + length (pad max) + 4))
counted kinds k max of = record { covers = covered; offers = offered }
  where
    covered : (m : ℕ) (qs : List ℕ) → IsForm kinds k m qs
        → Covers (shape.Alone 4 (max + length (pad max) + 4)) m qs
    covered m qs form =
        let e = of.each form.0 form.1 in
        let is : length (own k form.0) ≡ length e.0 + length (pad (length e.0)) + 4 = e.2 in
        let same : length (own k form.0) ≡ m = form.2 in
        let rises : length e.0 + length (pad (length e.0)) ≤ max + length (pad max) =
        pad_rises (length e.0) max e.1 in
        (sym form.3 ∙ ap kinds_of e.3, omega arith, omega arith)

    here : (n m : ℕ) (qs : List ℕ) → n ≤ max → qs ≡ [] → m ≡ n + length (pad n) + 4 → IsForm kinds k m qs
    here n m qs few none is =
        let content : List ℕ = replicate n 0 in
        let len : length content ≡ n = length-replicate {A = ℕ} n 0 in
        let e = of.some content (omega arith) (zeros n) in
        (e.0, e.1, e.2 ∙ ap (λ (x : ℕ). x + length (pad x) + 4) len ∙ sym is, ap kinds_of e.3 ∙ sym none)

    offered : (m : ℕ) (qs : List ℕ) → Offers (shape.Alone 4 (max + length (pad max) + 4)) m qs → IsForm kinds k m qs
    offered m qs h = elim h.1 [
      | inl is ↦ here 0 m qs (omega arith) h.0 is
      | inr is ↦ here max m qs (omega arith) h.0 is
    ]

within_max : (max n : ℕ) → is_length max n ≡ true → n ≤ max
within_max max n h = leb-true n max (both (nat_le n max) (nat_lt n (2 ^ 32)) h).0

is_within : (max n : ℕ) → n ≤ max → max < 2 ^ 32 → is_length max n ≡ true
is_within max n h small = both_of (nat_le n max) (nat_lt n (2 ^ 32)) (le-leb n max h) (lt-ltb n (2 ^ 32) (omega arith))

-- a length, the content and its zeros
spelled : (bs : List ℕ) → length (num4 (pos (length bs)) ++ (bs ++ pad (length bs)))
    ≡ length bs + length (pad (length bs)) + 4
spelled bs = length-append (num4 (pos (length bs))) (bs ++ pad (length bs))
    ∙ omega (arith, length-append bs (pad (length bs)))

text_counted : (kinds : List KindView) (max : ℕ) → max < 2 ^ 32 → IsCounted kinds (xdr.text max) max
text_counted kinds max small = record { each = each; some = some }
  where
    each : (h : Head) → is_legal kinds (xdr.text max) h ≡ true
        → (bs : List ℕ) × (length bs ≤ max)
        × (length (own (xdr.text max) h) ≡ length bs + length (pad (length bs)) + 4) × (parts (xdr.text max) h ≡ [])
    each (value.bytes bs) l = (
      bs,
      within_max max (length bs) (both (is_length max (length bs)) (are_bytes bs) l).0,
      spelled bs,
      refl,
    )
    each _ l = absurd (false≢true l)

    some : (bs : List ℕ) → length bs ≤ max → are_bytes bs ≡ true
        → (h : Head) × (is_legal kinds (xdr.text max) h ≡ true)
        × (length (own (xdr.text max) h) ≡ length bs + length (pad (length bs)) + 4) × (parts (xdr.text max) h ≡ [])
    some bs few are = (
      value.bytes bs,
      both_of (is_length max (length bs)) (are_bytes bs) (is_within max (length bs) few small) are,
      spelled bs,
      refl,
    )

opaque_counted : (kinds : List KindView) (max : ℕ) → max < 2 ^ 32 → IsCounted kinds (xdr.opaque_up_to max) max
opaque_counted kinds max small = record { each = each; some = some }
  where
    each : (h : Head) → is_legal kinds (xdr.opaque_up_to max) h ≡ true
        → (bs : List ℕ) × (length bs ≤ max)
        × (length (own (xdr.opaque_up_to max) h) ≡ length bs + length (pad (length bs)) + 4)
        × (parts (xdr.opaque_up_to max) h ≡ [])
    each (value.bytes bs) l = (
      bs,
      within_max max (length bs) (both (is_length max (length bs)) (are_bytes bs) l).0,
      spelled bs,
      refl,
    )
    each _ l = absurd (false≢true l)

    some : (bs : List ℕ) → length bs ≤ max → are_bytes bs ≡ true
        → (h : Head) × (is_legal kinds (xdr.opaque_up_to max) h ≡ true)
        × (length (own (xdr.opaque_up_to max) h) ≡ length bs + length (pad (length bs)) + 4)
        × (parts (xdr.opaque_up_to max) h ≡ [])
    some bs few are = (
      value.bytes bs,
      both_of (is_length max (length bs)) (are_bytes bs) (is_within max (length bs) few small) are,
      spelled bs,
      refl,
    )

pub text_shape : (kinds : List KindView) (max : ℕ) → max < 2 ^ 32
    → IsShape kinds (xdr.text max) (shape.Alone 4 (max + length (pad max) + 4))
text_shape kinds max small = counted kinds (xdr.text max) max (text_counted kinds max small)

pub opaque_up_to_shape : (kinds : List KindView) (max : ℕ) → max < 2 ^ 32
    → IsShape kinds (xdr.opaque_up_to max) (shape.Alone 4 (max + length (pad max) + 4))
opaque_up_to_shape kinds max small = counted kinds (xdr.opaque_up_to max) max (opaque_counted kinds max small)

-- ---- parts

pub fixed_shape : (kinds : List KindView) (item : KindId) (size : ℕ)
    → IsShape kinds (xdr.fixed item.place size) (shape.Items item size)
fixed_shape kinds item size = record {
  covers = λ n qs form. covered n qs form.0 form.1 form.2 form.3;
  offers = offered;
}
  where
    covered : (n : ℕ) (qs : List ℕ) (h : Head) → is_legal kinds (xdr.fixed item.place size) h ≡ true
        → length (own (xdr.fixed item.place size) h) ≡ n
        → kinds_of (parts (xdr.fixed item.place size) h) ≡ qs → Covers (shape.Items item size) n qs
    covered n qs (value.items c) l own_is of = (
      sym own_is,
      sym of ∙ kinds_of-replicate item.place c
          ∙ ap (λ (m : ℕ). replicate m item.place) (eqb-true c size l),
    )
    covered n qs _ l own_is of = absurd (false≢true l)

    offered : (n : ℕ) (qs : List ℕ) → Offers (shape.Items item size) n qs
        → IsForm kinds (xdr.fixed item.place size) n qs
    offered n qs h = (value.items size, eq-eqb size size refl, sym h.0, kinds_of-replicate item.place size ∙ sym h.1)

pub structure_shape : (kinds : List KindView) (ps : List Part) (ids : Vec KindId Global)
    → places_of ids.items ≡ kinds_of ps
    → IsShape kinds (xdr.structure ps) (shape.Fields ids)
structure_shape kinds ps ids same =
    record { covers = λ n qs form. covered n qs form.0 form.1 form.2 form.3; offers = offered }
  where
    covered : (n : ℕ) (qs : List ℕ) (h : Head) → is_legal kinds (xdr.structure ps) h ≡ true
        → length (own (xdr.structure ps) h) ≡ n
        → kinds_of (parts (xdr.structure ps) h) ≡ qs → Covers (shape.Fields ids) n qs
    covered n qs value.fields l own_is of = (sym own_is, sym of ∙ sym same)
    covered n qs _ l own_is of = absurd (false≢true l)

    offered : (n : ℕ) (qs : List ℕ) → Offers (shape.Fields ids) n qs → IsForm kinds (xdr.structure ps) n qs
    offered n qs h = (value.fields, refl, sym h.0, sym same ∙ sym h.1)

pub up_to_shape : (kinds : List KindView) (item : KindId) (max : ℕ) → max < 2 ^ 32
    → IsShape kinds (xdr.up_to item.place max) (shape.UpTo item max)
up_to_shape kinds item max small =
    record { covers = λ n qs form. covered n qs form.0 form.1 form.2 form.3; offers = offered }
  where
    covered : (n : ℕ) (qs : List ℕ) (h : Head) → is_legal kinds (xdr.up_to item.place max) h ≡ true
        → length (own (xdr.up_to item.place max) h) ≡ n
        → kinds_of (parts (xdr.up_to item.place max) h) ≡ qs → Covers (shape.UpTo item max) n qs
    covered n qs (value.items c) l own_is of =
        (sym own_is, c, within_max max c l, sym of ∙ kinds_of-replicate item.place c)
    covered n qs _ l own_is of = absurd (false≢true l)

    offered : (n : ℕ) (qs : List ℕ) → Offers (shape.UpTo item max) n qs → IsForm kinds (xdr.up_to item.place max) n qs
    offered n qs h =
        (value.items h.1, is_within max h.1 h.2 small, sym h.0, kinds_of-replicate item.place h.1 ∙ sym h.3)

pub maybe_shape : (kinds : List KindView) (item : KindId) → IsShape kinds (xdr.maybe item.place) (shape.UpTo item 1)
maybe_shape kinds item =
    record {
      covers = λ n qs form. covered n qs form.0 form.1 form.2 form.3;
      offers = λ n qs h. offered n qs h.0 h.1
          h.2 h.3;
    }
  where
    covered : (n : ℕ) (qs : List ℕ) (h : Head) → is_legal kinds (xdr.maybe item.place) h ≡ true
        → length (own (xdr.maybe item.place) h) ≡ n
        → kinds_of (parts (xdr.maybe item.place) h) ≡ qs → Covers (shape.UpTo item 1) n qs
    covered n qs value.present l own_is of = (sym own_is, 1, omega arith, sym of)
    covered n qs value.absent l own_is of = (sym own_is, 0, omega arith, sym of)
    covered n qs _ l own_is of = absurd (false≢true l)

    offered : (n : ℕ) (qs : List ℕ) → n ≡ 4 → (c : ℕ) → c ≤ 1 → qs ≡ replicate c item.place
        → IsForm kinds (xdr.maybe item.place) n qs
    offered n qs is zero few of = (value.absent, refl, sym is, sym of)
    offered n qs is (suc zero) few of = (value.present, refl, sym is, sym of)
    offered n qs is (suc (suc c)) few of = absurd (omega arith)

some_of : (o : Option Part) → is_some o ≡ true → (p : Part) × (o ≡ Some p)
some_of None h = absurd (false≢true h)
some_of (Some p) h = (p, refl)

pub choice_shape : (kinds : List KindView) (union tag : ℕ) (arms : List Branch) (other : Option Part)
    (ids : Vec KindId Global) → kind_at kinds union ≡ xdr.choice tag arms other
    → ArePicked kinds union tag ids.items → IsShape kinds (xdr.choice tag arms other) (shape.OneOf ids)
choice_shape kinds union tag arms other ids is are =
    record { covers = λ n qs form. covered n qs form.0 form.1 form.2 form.3; offers = offered }
  where
    covered : (n : ℕ) (qs : List ℕ) (h : Head) → is_legal kinds (xdr.choice tag arms other) h ≡ true
        → length (own (xdr.choice tag arms other) h) ≡ n
        → kinds_of (parts (xdr.choice tag arms other) h) ≡ qs → Covers (shape.OneOf ids) n qs
    covered n qs (value.tag z) l own_is of =
        let ls = both (is_tag_of (kind_at kinds tag) z) (is_some (part_of arms other z)) l in
        let p = some_of (part_of arms other z) ls.1 in
        let picks : PicksKind kinds union z p.0.kind = (p.0, ap (λ (x : KindView). part_in x z) is ∙ p.1, refl) in (
          sym own_is,
          p.0.kind,
          are.all z p.0.kind ls.0 picks,
          sym of ∙ ap (λ (o : Option Part). kinds_of (optional_part o)) p.1,
        )
    covered n qs _ l own_is of = absurd (false≢true l)

    offered : (n : ℕ) (qs : List ℕ) → Offers (shape.OneOf ids) n qs → IsForm kinds (xdr.choice tag arms other) n qs
    offered n qs h =
        let picked = are.each h.1 h.2 in
        let z = picked.0 in
        let p = picked.2 in
        let under : part_of arms other z ≡ Some p.0 = sym (ap (λ (x : KindView). part_in x z) is) ∙ p.1 in (
          value.tag z,
          both_of (is_tag_of (kind_at kinds tag) z) (is_some (part_of arms other z)) picked.1 (ap is_some under),
          sym h.0,
          ap (λ (o : Option Part). kinds_of (optional_part o)) under ∙ ap (λ (q : ℕ). q ∷ []) p.2 ∙ sym h.3,
        )

-- the shape of the kind at a place, by what kind it is
pub at_kind : (kinds : List KindView) (place : ℕ) (f k : KindView) (s : Shape) → f ≡ kind_at kinds place → f ≡ k
    → place < length kinds → EachKindHasAValue kinds → (HasHead kinds k → IsShape kinds k s)
    → IsShape kinds (kind_at kinds place) s
at_kind kinds place f k s at is within valued by =
    let e : kind_at kinds place ≡ k = sym at ∙ is in
    let v = valued place within in
    let legal : is_legal kinds (kind_at kinds place) v.0.0 ≡ true =
    (both (is_legal kinds (kind_at kinds place) v.0.0) (fit kinds (parts (kind_at kinds place) v.0.0) v.0.1) v.1).0 in
    subst (λ (x : KindView). IsShape kinds x s) (sym e)
    (by (v.0.0, subst (λ (x : KindView). is_legal kinds x v.0.0 ≡ true) e legal))
