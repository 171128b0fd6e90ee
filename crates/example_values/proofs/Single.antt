-- Values that have one item.
use Rattle.std.proofs.Common.{◌≡◌, ℕ, ℤ, pos, ◌^◌, ◌≤◌, ◌&&◌, ◌==◌, Bool, true, false, List, [], ◌∷◌, ◌++◌, length}
use Rattle.std.proofs.Common.{refl, ap, sym, ◌∙◌, subst, nat_le, append-nil, Option, Some, None, is_some, IfSome}
use Rattle.std.proofs.Common.{Result, Ok, Err}
use Rattle.std.specs.Prelude.{IfOk}
use Rattle.std.proofs.lemmas.Bool.{false≢true, and_parts as both}
use Rattle.xdr_units.specs.Numbers.{num4, padded}
use Rattle.xdr_types.specs.Kinds as xdr
use Rattle.xdr_types.specs.Kinds.{KindView, Part, Branch, kind_at}
use Rattle.xdr_types.specs.Tree as value
use Rattle.xdr_types.specs.Tree.{Head, Values}
use Rattle.xdr_types.specs.Fits.{fit, is_legal, is_signed, is_length, are_bytes, is_tag_of, part_of, parts}
use Rattle.xdr_types.specs.Spelling.{own, spelling}
use Rattle.xdr_writer.specs.Items.{ItemView, number, content, items}
use Rattle.xdr_writer.specs.ItemsOf.{own_items, node_items_in}
use Rattle.xdr_filling.specs.Filled.{IsValue}

-- a value of this kind, by its head and its parts, with these items and bytes
pub record Has (kinds : List KindView) (k : KindView) (is : List ItemView) (bytes : List ℕ) (h : Head) (vs : Values)
    : Type 0 where
  pub fits : is_legal kinds k h && fit kinds (parts k h) vs ≡ true
  pub told : items (own_items k h ++ node_items_in kinds (parts k h) vs) ≡ is
  pub spelled : own k h ++ spelling kinds (parts k h) vs ≡ bytes

never : {A : Type 0} → false ≡ true → A
never e = absurd (false≢true e)

unlike : {A : Type 0} → (a b : Bool) → a && b ≡ true → a ≡ false → A
unlike a b e f = never (sym f ∙ (both a b e).0)

module _ (kinds : List KindView) where
  pub int_of : (z : ℤ) (bytes : List ℕ) (h : Head) (vs : Values) → Has kinds xdr.int (number z ∷ []) bytes h vs
      → (is_signed (2 ^ 31) z ≡ true) × (bytes ≡ num4 z)
  int_of z bytes (value.int y) value.none has =
      let same : y ≡ z = cc has.told in (
        ap (λ (x : ℤ). is_signed (2 ^ 31) x) (sym same) ∙ (both (is_signed (2 ^ 31) y) true has.fits).0,
        sym has.spelled ∙ append-nil (num4 y) ∙ ap (λ (x : ℤ). num4 x) same,
      )
  int_of z bytes (value.int y) (value.node h w v) has = never (both (is_signed (2 ^ 31) y) false has.fits).1
  int_of z bytes h vs has = unlike (is_legal kinds xdr.int h) (fit kinds (parts xdr.int h) vs) has.fits refl

  pub text_of : (max : ℕ) (bs bytes : List ℕ) (h : Head) (vs : Values)
      → Has kinds (xdr.text max) (content bs ∷ []) bytes h vs → nat_le (length bs) max ≡ true
  text_of max bs bytes (value.bytes xs) vs has =
      let same : xs ≡ bs = content_same xs bs vs has.told in
      let legal : is_length max (length xs) && are_bytes xs ≡ true =
      (both (is_length max (length xs) && are_bytes xs) (fit kinds [] vs) has.fits).0 in
      ap (λ (x : List ℕ). nat_le (length x) max) (sym same)
      ∙ (both _ _ (both (is_length max (length xs)) (are_bytes xs) legal).0).0
    where
      content_same : (xs bs : List ℕ) (vs : Values) → content xs ∷ items (node_items_in kinds [] vs) ≡ content bs ∷ []
          → xs ≡ bs
      content_same xs bs vs e = cc
  text_of max bs bytes h vs has =
      unlike (is_legal kinds (xdr.text max) h) (fit kinds (parts (xdr.text max) h) vs) has.fits refl

  pub opaque_of : (size : ℕ) (bs bytes : List ℕ) (h : Head) (vs : Values)
      → Has kinds (xdr.opaque size) (content bs ∷ []) bytes h vs → bytes ≡ padded bs
  opaque_of size bs bytes (value.bytes []) value.none has = absurd cc
  opaque_of size bs bytes (value.bytes (x ∷ xs)) value.none has =
      let same : x ∷ xs ≡ bs = cc has.told in
      sym has.spelled ∙ append-nil (padded (x ∷ xs)) ∙ ap (λ (y : List ℕ). padded y) same
  opaque_of size bs bytes (value.bytes xs) (value.node h w v) has =
      never (both (length xs == size && are_bytes xs) false has.fits).1
  opaque_of size bs bytes h vs has =
      unlike (is_legal kinds (xdr.opaque size) h) (fit kinds (parts (xdr.opaque size) h) vs) has.fits refl

  pub choice_of : (tag : ℕ) (arms : List Branch) (z : ℤ) (bytes : List ℕ) (h : Head) (vs : Values)
      → Has kinds (xdr.choice tag arms None) (number z ∷ []) bytes h vs → is_some (part_of arms None z) ≡ true
  choice_of tag arms z bytes (value.tag y) vs has =
      let same : y ≡ z = first_same y z _ has.told in
      ap (λ (x : ℤ). is_some (part_of arms None x)) (sym same)
      ∙ (both (is_tag_of (kind_at kinds tag) y) (is_some (part_of arms None y)) (both _ _ has.fits).0).1
    where
      first_same : (y z : ℤ) (is : List ItemView) → number y ∷ is ≡ number z ∷ [] → y ≡ z
      first_same y z is e = cc
  choice_of tag arms z bytes h vs has =
      unlike (is_legal kinds (xdr.choice tag arms None) h) (fit kinds (parts (xdr.choice tag arms None) h) vs) has.fits
      refl

-- what a value of the kind at a place is, where that is known
pub known : (kinds : List KindView) (place most : ℕ) (k : KindView) (is : List ItemView) (bytes : List ℕ)
    → kind_at kinds place ≡ k → (v : IsValue kinds place most is bytes)
    → Has kinds k is bytes v.0.0 v.0.1
known kinds place most k is bytes e v =
    subst (λ (x : KindView). Has kinds x is bytes v.0.0 v.0.1) e
    (record { fits = v.1; told = v.3; spelled = v.4 })

-- ---- what is said of an answer

pub each : {A E : Type 0} → (r : Result (Option A) E) (P Q : A → Type 0) → ((a : A) → P a → Q a)
    → IfOk r (λ (o : Option A). IfSome o P) → IfOk r (λ (o : Option A). IfSome o Q)
each (Ok (Some a)) P Q f h = f a h
each (Ok None) P Q f h = tt
each (Err e) P Q f h = tt

pub none_is : {A E : Type 0} → (r : Result (Option A) E) (P : A → Type 0) → ((a : A) → P a → ⊥)
    → IfOk r (λ (o : Option A). IfSome o P) → IfOk r (λ (o : Option A). o ≡ None)
none_is (Ok (Some a)) P f h = absurd (f a h)
none_is (Ok None) P f h = refl
none_is (Err e) P f h = tt

pub off : {E : Type 0} → (r : Result Bool E) (P : Type 0) → (P → ⊥) → IfOk r (λ (b : Bool). b ≡ true → P)
    → IfOk r (λ (b : Bool). b ≡ false)
off (Ok true) P f h = absurd (f (h refl))
off (Ok false) P f h = refl
off (Err e) P f h = tt
