-- A spelling is whole units of bytes.
use Rattle.std.proofs.Common.{◌≡◌, ℕ, zero, suc, ◌+◌, ◌-◌, ◌%◌, true, false, List, [], ◌∷◌, ◌++◌, length, refl, ap}
use Rattle.std.proofs.Common.{subst, ◌∙◌, append-nil, zero-add, arith, replicate}
use Rattle.std.proofs.lemmas.List.{length-append, length-replicate}
use Rattle.xdr_units.proofs.Bytes.{AreBytes-append}
use Rattle.xdr_types.specs.Kinds as xdr
use Rattle.xdr_types.specs.Kinds.{KindView, Part, kind_at}
use Rattle.xdr_types.specs.Tree as value
use Rattle.xdr_types.specs.Tree.{Head, Values, Tree, from_list}
use Rattle.xdr_units.specs.Numbers.{pad, padded, AreBytes, word}
use Rattle.xdr_types.specs.Fits.{Fits, fits, parts, item_part}
use Rattle.xdr_types.specs.Spelling.{own, spelling, bytes_of}
use Rattle.xdr_types.specs.Layout.{entries}
use Rattle.xdr_laws.proofs.Legal.{IsLegal, FitAll, fit_node, and}
use Rattle.std.proofs.lemmas.Bool.{false≢true}
use Rattle.xdr_laws.specs.Parts.{Join}
use Rattle.xdr_laws.proofs.Numbers.{unit_of, units_of, unit4-length, unit8-length}
use Rattle.xdr_laws.proofs.Content.{bytes8}
use Rattle.xdr_laws.proofs.Parts.{parts_join}

pub bytes4 : (n : ℕ) → AreBytes (word n)
bytes4 n = (omega arith, (omega arith, (omega arith, (omega arith, tt))))

zero_bytes : (n : ℕ) → AreBytes (replicate n 0)
zero_bytes zero = tt
zero_bytes (suc n) = (omega arith, zero_bytes n)

content_bytes : (s : List KindView) (k : KindView) (bs : List ℕ) → IsLegal s k (value.bytes bs) → AreBytes bs
content_bytes s (xdr.opaque size) bs l = l.1
content_bytes s (xdr.opaque_up_to max) bs l = l.2
content_bytes s (xdr.text max) bs l = l.2
content_bytes s _ bs l = absurd l

padded_bytes : (bs : List ℕ) → AreBytes bs → AreBytes (padded bs)
padded_bytes bs a = AreBytes-append bs (pad (length bs)) a (zero_bytes ((4 - length bs % 4) % 4))

own_content : (k : KindView) (bs : List ℕ) → AreBytes bs → AreBytes (own k (value.bytes bs))
own_content (xdr.opaque size) bs a = padded_bytes bs a
own_content _ bs a = AreBytes-append (word (length bs)) (padded bs) (bytes4 (length bs)) (padded_bytes bs a)

own_items : (k : KindView) (n : ℕ) → AreBytes (own k (value.items n))
own_items (xdr.fixed item size) n = tt
own_items _ n = bytes4 n

own_bytes : (s : List KindView) (k : KindView) (h : Head) → IsLegal s k h → AreBytes (own k h)
own_bytes s k (value.int z) l = bytes4 (unit_of z)
own_bytes s k (value.unsigned n) l = bytes4 n
own_bytes s k (value.hyper z) l = bytes8 (units_of z)
own_bytes s k (value.unsigned_hyper n) l = bytes8 n
own_bytes s k (value.boolean true) l = bytes4 1
own_bytes s k (value.boolean false) l = bytes4 0
own_bytes s k (value.numbered z) l = bytes4 (unit_of z)
own_bytes s k (value.bytes bs) l = own_content k bs (content_bytes s k bs l)
own_bytes s k (value.items n) l = own_items k n
own_bytes s k value.fields l = tt
own_bytes s k (value.tag z) l = bytes4 (unit_of z)
own_bytes s k value.present l = bytes4 1
own_bytes s k value.absent l = bytes4 0
own_bytes s k value.nothing l = tt

pub spelling_bytes : (s : List KindView) (ts : List Part) (v : Values) → FitAll s ts v → AreBytes (spelling s ts v)
spelling_bytes s [] v f = tt
spelling_bytes s (t ∷ ts) value.none f = absurd (false≢true f)
spelling_bytes s (t ∷ ts) (value.node h ps rest) fits =
    let k : KindView = kind_at s t.kind in
    let f = fit_node s t ts h ps rest fits in
    AreBytes-append (own k h ++ spelling s (parts k h) ps) (spelling s ts rest)
    (AreBytes-append (own k h) (spelling s (parts k h) ps) (own_bytes s k h f.0) (spelling_bytes s (parts k h) ps f.1))
    (spelling_bytes s ts rest f.2)

-- a value as the only one of a list
pub root_fits : (s : List KindView) (t : ℕ) (v : Tree) → Fits s t v → FitAll s (item_part t ∷ []) (from_list (v ∷ []))
root_fits s t v f = and (fits s t v) true f refl

pub root_spelling : (s : List KindView) (t : ℕ) (v : Tree)
    → spelling s (item_part t ∷ []) (from_list (v ∷ [])) ≡ bytes_of s t v
root_spelling s t v = append-nil (bytes_of s t v)

pub value_bytes : (s : List KindView) (t : ℕ) (v : Tree) → Fits s t v → AreBytes (bytes_of s t v)
value_bytes s t v f = subst (λ (b : List ℕ). AreBytes b) (root_spelling s t v)
    (spelling_bytes s (item_part t ∷ []) (from_list (v ∷ [])) (root_fits s t v f))

pad_units : (n : ℕ) → (n + length (pad n)) % 4 ≡ 0
pad_units n = omega (arith, length-replicate {A = ℕ} ((4 - n % 4) % 4) 0)

content_units : (k : KindView) (bs : List ℕ) → length (own k (value.bytes bs)) % 4 ≡ 0
content_units (xdr.opaque size) bs = omega (arith, pad_units (length bs), length-append bs (pad (length bs)))
content_units _ bs = omega (
  arith,
  unit4-length (length bs),
  pad_units (length bs),
  length-append (word (length bs))
      (bs ++ pad (length bs)),
  length-append bs (pad (length bs)),
)

items_units : (k : KindView) (n : ℕ) → length (own k (value.items n)) % 4 ≡ 0
items_units (xdr.fixed item size) n = refl
items_units _ n = omega (arith, unit4-length n)

pub own_units : (k : KindView) (h : Head) → length (own k h) % 4 ≡ 0
own_units k (value.int z) = omega (arith, unit4-length (unit_of z))
own_units k (value.unsigned n) = omega (arith, unit4-length n)
own_units k (value.hyper z) = omega (arith, unit8-length (units_of z))
own_units k (value.unsigned_hyper n) = omega (arith, unit8-length n)
own_units k (value.boolean true) = omega (arith, unit4-length 1)
own_units k (value.boolean false) = omega (arith, unit4-length 0)
own_units k (value.numbered z) = omega (arith, unit4-length (unit_of z))
own_units k (value.bytes bs) = content_units k bs
own_units k (value.items n) = items_units k n
own_units k value.fields = refl
own_units k (value.tag z) = omega (arith, unit4-length (unit_of z))
own_units k value.present = omega (arith, unit4-length 1)
own_units k value.absent = omega (arith, unit4-length 0)
own_units k value.nothing = refl

pub spelling_units : (s : List KindView) (ts : List Part) (v : Values) → length (spelling s ts v) % 4 ≡ 0
spelling_units s [] v = refl
spelling_units s (t ∷ ts) value.none = refl
spelling_units s (t ∷ ts) (value.node h ps rest) =
    let k : KindView = kind_at s t.kind in
    let sv : List ℕ = spelling s (parts k h) ps in
    let sw : List ℕ = spelling s ts rest in
    omega (
      arith,
      own_units k h,
      spelling_units s (parts k h) ps,
      spelling_units s ts rest,
      length-append
          (own k h ++ sv) sw,
      length-append (own k h) sv,
    )

pub value_units : (s : List KindView) (t : ℕ) (v : Tree) → length (bytes_of s t v) % 4 ≡ 0
value_units s t v = subst (λ (b : List ℕ). length b % 4 ≡ 0) (root_spelling s t v)
    (spelling_units s (item_part t ∷ []) (from_list (v ∷ [])))

-- the stretches of a value's parts join to its bytes
pub value_join : (s : List KindView) (t : ℕ) (v : Tree) → Fits s t v → Join 0 (entries s t v) (length (bytes_of s t v))
value_join s t v f =
    let all : List ℕ = spelling s (item_part t ∷ []) (from_list (v ∷ [])) in
    subst (λ (n : ℕ). Join 0 (entries s t v) n)
    (zero-add (length all) ∙ ap (λ (b : List ℕ). length b) (root_spelling s t v))
    (parts_join s 0 1 (item_part t ∷ []) (from_list (v ∷ [])) (root_fits s t v f))
