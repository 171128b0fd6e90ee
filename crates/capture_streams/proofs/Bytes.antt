-- The byte at a place, of bytes that stand one after another.
use Rattle.std.proofs.Common.{◌≡◌, ℕ, ◌+◌, ◌<◌, ◌≤◌, suc, List, [], ◌∷◌, ◌++◌, length}
use Rattle.std.proofs.Common.{take, drop}
use Rattle.std.proofs.Common.{Option, Some, None, refl, sym, ap, subst, ◌∙◌, inl, inr, arith}
use Rattle.std.proofs.lemmas.Bool.{cases_eq, cases_lt, eq-eqb, ne_eqb}
use Rattle.std.proofs.lemmas.List.{take-append-drop, length-take-le}
use Rattle.std.specs.Option.{option_or}
use Rattle.capture_streams.specs.Segments.{byte_from, IsFront}

pub none_is_not : {A B : Type 0} {x : A} → None ≡ Some x → B
none_is_not e = absurd cc

pub some_is_not : {A B : Type 0} {x : A} → Some x ≡ None → B
some_is_not e = absurd cc

pub byte_from-below : (at : ℕ) (bs : List ℕ) (p : ℕ) → p < at → byte_from at bs p ≡ None
byte_from-below at [] p h = refl
byte_from-below at (b ∷ bs) p h =
    let apart : p ≡ at → ⊥ = λ e. omega arith in
    rw (ne_eqb p at apart) (byte_from-below (at + 1) bs p (omega arith))

pub byte_from-past : (at : ℕ) (bs : List ℕ) (p : ℕ) → at + length bs ≤ p → byte_from at bs p ≡ None
byte_from-past at [] p h = refl
byte_from-past at (b ∷ bs) p h =
    let apart : p ≡ at → ⊥ = λ e. omega arith in
    rw (ne_eqb p at apart) (byte_from-past (at + 1) bs p (omega arith))

pub byte_from-append : (at : ℕ) (xs ys : List ℕ) (p : ℕ)
    → byte_from at (xs ++ ys) p ≡ option_or (byte_from at xs p) (byte_from (at + length xs) ys p)
byte_from-append at [] ys p =
    let e : at ≡ at + 0 = omega arith in ap (λ (n : ℕ). byte_from n ys p) e
byte_from-append at (x ∷ xs) ys p =
    elim (cases_eq p at) [
      | inl e ↦ rw (eq-eqb p at e) refl
      | inr apart ↦
          let e : (at + 1) + length xs ≡ at + suc (length xs) = omega arith in
          rw (ne_eqb p at apart) (byte_from-append (at + 1) xs ys p
          ∙ ap (λ (n : ℕ). option_or (byte_from (at + 1) xs p) (byte_from n ys p)) e)
    ]

-- a place of the bytes has one of them
pub byte_from-some : (at : ℕ) (bs : List ℕ) (p : ℕ) → at ≤ p → p < at + length bs
    → (b : ℕ) × (byte_from at bs p ≡ Some b)
byte_from-some at [] p h k = absurd (omega arith)
byte_from-some at (b ∷ bs) p h k =
    elim (cases_eq p at) [
      | inl e ↦ (b, rw (eq-eqb p at e) refl)
      | inr apart ↦
          let r = byte_from-some (at + 1) bs p (omega arith) (omega arith) in
          (r.0, rw (ne_eqb p at apart) r.1)
    ]

pub byte_from-low : (at : ℕ) (bs : List ℕ) (p b : ℕ) → byte_from at bs p ≡ Some b → at ≤ p
byte_from-low at bs p b e =
    elim (cases_lt p at) [
      | inl below ↦ none_is_not (sym (byte_from-below at bs p below) ∙ e)
      | inr above ↦ above
    ]

pub byte_from-high : (at : ℕ) (bs : List ℕ) (p b : ℕ) → byte_from at bs p ≡ Some b → p < at + length bs
byte_from-high at bs p b e =
    elim (cases_lt p (at + length bs)) [
      | inl below ↦ below
      | inr above ↦ none_is_not (sym (byte_from-past at bs p above) ∙ e)
    ]

-- bytes and a place that are moved alike
pub byte_from-shift : (at n : ℕ) (bs : List ℕ) (p : ℕ) → byte_from (at + n) bs (p + n) ≡ byte_from at bs p
byte_from-shift at n [] p = refl
byte_from-shift at n (b ∷ bs) p =
    elim (cases_eq p at) [
      | inl e ↦
          let f : p + n ≡ at + n = omega arith in
          rw (eq-eqb p at e, eq-eqb (p + n) (at + n) f) refl
      | inr apart ↦
          let f : p + n ≡ at + n → ⊥ = λ e. apart (omega arith) in
          let g : (at + n) + 1 ≡ (at + 1) + n = omega arith in
          rw (ne_eqb p at apart, ne_eqb (p + n) (at + n) f)
          (ap (λ (m : ℕ). byte_from m bs (p + n)) g ∙ byte_from-shift (at + 1) n bs p)
    ]

-- the first so many bytes, and the others
pub byte_from-split : (at n : ℕ) (bs : List ℕ) (p : ℕ) → n ≤ length bs
    → byte_from at bs p ≡ option_or (byte_from at (take n bs) p) (byte_from (at + n) (drop n bs) p)
byte_from-split at n bs p h =
    let e : length (take n bs) ≡ n = length-take-le n bs h in
    ap (λ (xs : List ℕ). byte_from at xs p) (sym (take-append-drop n bs))
    ∙ byte_from-append at (take n bs) (drop n bs) p
    ∙ ap (λ (m : ℕ). option_or (byte_from at (take n bs) p) (byte_from (at + m) (drop n bs) p)) e

pub option_or-assoc : {A : Type 0} (x y z : Option A) → option_or (option_or x y) z ≡ option_or x (option_or y z)
option_or-assoc None y z = refl
option_or-assoc (Some a) y z = refl

pub option_or-none : {A : Type 0} (x : Option A) → option_or x None ≡ x
option_or-none None = refl
option_or-none (Some a) = refl

-- ---- fronts

pub front_joined : (g : ℕ → Option ℕ) (from : ℕ) (xs ys : List ℕ) → IsFront g from xs → IsFront g (from + length xs) ys
    → IsFront g from (xs ++ ys)
front_joined g from [] ys f h =
    let e : from + 0 ≡ from = omega arith in subst (λ (n : ℕ). IsFront g n ys) e h
front_joined g from (x ∷ xs) ys f h =
    let e : from + suc (length xs) ≡ (from + 1) + length xs = omega arith in
    (f.0, front_joined g (from + 1) xs ys f.1 (subst (λ (n : ℕ). IsFront g n ys) e h))

-- each place of a front has its byte
pub front_at : (g : ℕ → Option ℕ) (from : ℕ) (xs : List ℕ) → IsFront g from xs → (p : ℕ) → from ≤ p
    → p < from + length xs → (b : ℕ) × (g p ≡ Some b)
front_at g from [] f p h k = absurd (omega arith)
front_at g from (x ∷ xs) f p h k =
    elim (cases_eq p from) [
      | inl e ↦ (x, ap g e ∙ f.0)
      | inr apart ↦ front_at g (from + 1) xs f.1 p (omega arith) (omega arith)
    ]

-- a front of one map is one of each that has the same bytes there
pub front_same : (g h : ℕ → Option ℕ) (from : ℕ) (xs : List ℕ)
    → ((p b : ℕ) → from ≤ p → p < from + length xs → g p ≡ Some b → h p ≡ Some b)
    → IsFront g from xs → IsFront h from xs
front_same g h from [] same f = tt
front_same g h from (x ∷ xs) same f = (
  same from x (omega arith) (omega arith) f.0,
  front_same g h (from + 1) xs (λ p b l k e. same p b (omega arith) (omega arith) e) f.1,
)

-- bytes that a map has from a place on are a front
pub front_from : (g : ℕ → Option ℕ) (from : ℕ) (xs : List ℕ)
    → ((p b : ℕ) → byte_from from xs p ≡ Some b → g p ≡ Some b) → IsFront g from xs
front_from g from [] h = tt
front_from g from (x ∷ xs) h = (
  h from x (rw (eq-eqb from from refl) refl),
  front_from g (from + 1) xs (λ p b e.
      let low : from + 1 ≤ p = byte_from-low (from + 1) xs p b e in
      let apart : p ≡ from → ⊥ = λ f. omega arith in
      h p b (rw (ne_eqb p from apart) e)),
)
