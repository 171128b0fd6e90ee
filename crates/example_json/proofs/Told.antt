-- Why a text is refused whose one value is wrong.
use Rattle.std.proofs.Common.{◌≡◌, ℕ, ◌<◌, ◌⊎◌, inl, inr, List, Some}
use Rattle.std.proofs.Common.{None, Option, true, false, refl, sym, ap, ◌∙◌, subst}
use Rattle.std.proofs.Common.{arith, is_some, ◌&&◌, ℤ, pos, negsuc, ◌^◌, get_or, length, decimal, codes, [], ◌∷◌}
use Rattle.std.proofs.Common.{Result, Ok, Err, IfOk, IfErr, IsErr}
use Rattle.std.proofs.lemmas.Bool.{true≢false, false≢true, and_parts as both, or_cases, ltb-true}
use Rattle.std.proofs.lemmas.Fmt.{decimal_is_IsNumeral}
use Rattle.std.proofs.lemmas.Slice.Eq.{bytes_eq-Decides}
use Rattle.std.proofs.lemmas.Str.{IsUtf8-from_is_utf8}
use Rattle.std.proofs.lemmas.Str.Parse.{digit_at}
use Rattle.std.specs.Fmt.{signed_decimal}
use Rattle.std.specs.Ordering.{int_eq}
use Rattle.std.specs.Str.{IsUtf8, is_utf8, bytes_eq}
use Rattle.json.specs.Json.{Json}
use Rattle.xdr_types.specs.Kinds as xdr
use Rattle.xdr_types.specs.Kinds.{KindView, kind_at}
use Rattle.xdr_types.specs.Tree as value
use Rattle.xdr_types.specs.Tree.{Tree}
use Rattle.xdr_types.specs.View.{tree}
use Rattle.xdr_types.specs.Fits.{is_legal, is_signed, parts}
use Rattle.xdr_types.specs.Within.{Bounds}
use Rattle.xdr_types.specs.declared.value.Value.{Value}
use Rattle.xdr_json.specs.Spelled.{shows, under, spell, spells, is_number, is_decimal_of}
use Rattle.xdr_json.specs.Text.{IsSpelling, json_text}
use Rattle.xdr_json_reader.specs.Nodes.{Due, Shows, ShowsNone}
use Rattle.xdr_json_reader.specs.Reasons.{NodeTells, IsWrongText, IsBeyond, Tells, number_reason, WantsNone, IsRight}
use Rattle.xdr_json_reader.specs.Reasons.{Fault, IsFirst, behind, here, in_part, lacks, in_member, on_key}
use Rattle.xdr_json_reader.specs.declared.fault.JsonFault.{JsonFault}
use Rattle.xdr_json_reader.specs.declared.fault.JsonReason.{JsonReason}
use Rattle.xdr_json_reader.specs.declared.fault.JsonReason.TheVariants as why

-- a value that stands for nothing is the first fault itself, where it has no members by name, whatever follows it
pub alone : (kinds : List KindView) (d : Due) (ds : List Due) (w : JsonReason)
    → WantsNone kinds (kind_at kinds d.0) d.1 → ShowsNone kinds (kind_at kinds d.0) d.1 → (IsRight kinds d → ⊥)
    → Fault kinds (IsRight kinds) (d ∷ ds) w → NodeTells kinds (kind_at kinds d.0) d.1 w
alone kinds d ds w plain none wrong (behind _ _ _ p f) = absurd (wrong p)
alone kinds d ds w plain none wrong (here _ _ _ n h) = h.tells
alone kinds d ds w plain none wrong (in_part _ _ h _ n s f) = absurd (none h s)
alone kinds _ ds _ plain none wrong (lacks place ms _ ps wants m) = absurd (plain ps wants)
alone kinds _ ds w plain none wrong (in_member place ms _ ps _ wants m f) = absurd (plain ps wants)
alone kinds _ ds w plain none wrong (on_key place ms _ ps _ wants e a) = absurd (plain ps wants)

-- a value that stands for nothing is not spelled
pub unspelled : (kinds : List KindView) (place : ℕ) (j : Json) → ShowsNone kinds (kind_at kinds place) j → (t : Tree)
    → spells kinds place j t ≡ true → ⊥
unspelled kinds place j none t h =
    let f = kind_at kinds place in
    let one = both (is_legal kinds f t.0 && shows kinds f t.0 j) (spell kinds (parts f t.0) (under kinds f t.0 j) t.1)
    h in
    let two = both (is_legal kinds f t.0) (shows kinds f t.0 j) one.0 in
    none t.0 (record { legal = two.0; shown = two.1 })

pub some-is : {A : Type 0} (x y : A) → Some x ≡ Some y → x ≡ y
some-is {A} x y e = ap from e
  where
    from : Option A → A
    from (Some z) = z
    from _ = x

module _ (kinds : List KindView) (place : ℕ) (limits : Bounds) (text : List ℕ) (j : Json) (utf8 : IsUtf8 text)
    (is : json_text text ≡ Some j) (wrong : (t : Tree) → spells kinds place j t ≡ true → ⊥) where
  not_none : json_text text ≡ None → ⊥
  not_none e = true≢false (ap is_some (sym is ∙ e))

  not_beyond : (P : Tree → Type 0) → IsBeyond kinds place text P → ⊥
  not_beyond P b =
      wrong b.value
      (subst (λ (x : Json). spells kinds place x b.value ≡ true) (some-is b.tree j (sym b.is.is ∙ is)) b.spells)

  at_first : (w : JsonReason) → IsWrongText kinds place text w → IsFirst kinds (place, j) w
  at_first w t =
      let tree : t.0 ≡ j = some-is t.0 j (sym t.1.is ∙ is) in
      subst (λ (x : Json). IsFirst kinds (place, x) w) tree t.2

  -- it is refused for the first fault of the JSON, an allocation failure aside
  pub first_told : (w : JsonReason) → Tells kinds place limits text w → IsFirst kinds (place, j) w ⊎ (w ≡ why.NoMemory)
  first_told why.NoMemory t = inr refl
  first_told why.NotJson (inl n) = absurd (n utf8)
  first_told why.NotJson (inr n) = absurd (not_none (n 4096 (omega arith)))
  first_told why.TooDeep (inl n) = absurd (not_none n)
  first_told why.TooDeep (inr b) = absurd (not_beyond _ b)
  first_told why.TooLarge b = absurd (not_beyond _ b)
  first_told w t = inl (at_first w t)

module _ (kinds : List KindView) (place : ℕ) (limits : Bounds) (text : List ℕ) (j : Json) (r : JsonReason)
    (utf8 : IsUtf8 text) (is : json_text text ≡ Some j) (plain : WantsNone kinds (kind_at kinds place) j)
    (none : ShowsNone kinds (kind_at kinds place) j)
    (only : (w : JsonReason) → NodeTells kinds (kind_at kinds place) j w → w ≡ r) where
  -- it is refused for the value's reason, an allocation failure aside
  pub told : (w : JsonReason) → Tells kinds place limits text w → (w ≡ r) ⊎ (w ≡ why.NoMemory)
  told w t =
      elim (first_told kinds place limits text j utf8 is (unspelled kinds place j none) w t) [
        | inl f ↦
            inl (only w (alone kinds (place, j) [] w plain none (λ r. unspelled kinds place j none r.0 r.1) f))
        | inr m ↦ inr m
      ]

-- ---- an answer

pub is_refused : (P : Tree → Type 0) (r : Result Value JsonFault) → ((t : Tree) → P t → ⊥)
    → IfOk r (λ v. P (tree v)) → IsErr r
is_refused P (Ok v) none p = absurd (none (tree v) p)
is_refused P (Err f) none p = refl

pub why_of : (P Q : JsonReason → Type 0) (r : Result Value JsonFault) → ((w : JsonReason) → P w → Q w)
    → IfErr r (λ f. P f.why) → IfErr r (λ f. Q f.why)
why_of P Q (Ok v) all p = tt
why_of P Q (Err f) all p = all f.why p

-- ---- a text of one int, whose JSON is none

-- JSON that is the number of no int
pub no_int_head : (kinds : List KindView) (j : Json)
    → ((z : ℤ) → is_signed (2 ^ 31) z ≡ true → is_number z j ≡ true → ⊥) → ShowsNone kinds xdr.int j
no_int_head kinds j none (value.int z) s = none z s.legal s.shown
no_int_head kinds j none _ s = false≢true s.legal

module _ (kinds : List KindView) (limits : Bounds) (text bs : List ℕ) (j : Json) (e : kinds ≡ xdr.int ∷ [])
    (h : text ≡ bs) (u : is_utf8 bs ≡ true) (is : json_text bs ≡ Some j)
    (none : (z : ℤ) → is_signed (2 ^ 31) z ≡ true → is_number z j ≡ true → ⊥) where
  no_head : ShowsNone (xdr.int ∷ []) xdr.int j
  no_head = no_int_head (xdr.int ∷ []) j none

  pub int_told : (w : JsonReason) → Tells kinds 0 limits text w → (w ≡ number_reason j) ⊎ (w ≡ why.NoMemory)
  int_told w t =
      told (xdr.int ∷ []) 0 limits bs j (number_reason j) (IsUtf8-from_is_utf8 bs u) is (λ ps w. w) no_head (λ v n. n) w
      (subst (λ (ks : List KindView). Tells ks 0 limits bs w) e
      (subst (λ (x : List ℕ). Tells kinds 0 limits x w) h t))

  pub no_int : (t : Tree) → IsSpelling kinds 0 limits text t → ⊥
  no_int t s =
      unspelled (xdr.int ∷ []) 0 j no_head t
      (subst (λ (k : Json). spells (xdr.int ∷ []) 0 k t ≡ true)
      (some-is s.tree j (sym s.is ∙ ap json_text h ∙ is))
      (subst (λ (x : List KindView). spells x 0 s.tree t ≡ true) e s.spells))

-- true is no number
pub no_flag : (z : ℤ) → is_signed (2 ^ 31) z ≡ true → false ≡ true → ⊥
no_flag z h k = false≢true k

-- ---- a fraction is no decimal

positive : (n : ℕ) → n < 2 ^ 64 → codes "1.5" ≡ decimal n → ⊥
positive n h e =
    let len : 1 < length (decimal n) = rw (sym e) (omega arith) in
    let d = digit_at (decimal n) 1 (decimal_is_IsNumeral n h).0.1 len in
    omega (arith, d.0, ap (λ (l : List ℕ). get_or l 1 0) e)

plain : (z : ℤ) → is_signed (2 ^ 31) z ≡ true → codes "1.5" ≡ signed_decimal z → ⊥
plain (pos n) h e = positive n (omega (arith, ltb-true n (2 ^ 31) h)) e
plain (negsuc n) h e = omega (arith, ap (λ (l : List ℕ). get_or l 0 0) e)

pub no_fraction : (z : ℤ) → is_signed (2 ^ 31) z ≡ true → is_decimal_of z (codes "1.5") ≡ true → ⊥
no_fraction z h k =
    elim (or_cases (bytes_eq (codes "1.5") (signed_decimal z)) (int_eq z (pos 0) && bytes_eq (codes "1.5") (codes "-0"))
    k) [
      | inl e ↦ plain z h ((bytes_eq-Decides (codes "1.5") (signed_decimal z)).0 e)
      | inr e ↦
          let zero = both (int_eq z (pos 0)) (bytes_eq (codes "1.5") (codes "-0")) e in
          let same : codes "1.5" ≡ codes "-0" = (bytes_eq-Decides (codes "1.5") (codes "-0")).0 zero.1 in
          omega (arith, ap (λ (l : List ℕ). get_or l 0 0) same)
    ]
