-- Words, zeros and padded content at the front of bytes.
use Rattle.std.proofs.Common.{◌≡◌, ℕ, zero, suc, ◌^◌, ◌<◌, List, [], ◌∷◌, ◌++◌, length, take, drop, get_or, refl, sym}
use Rattle.std.proofs.Common.{ap, subst, ◌∙◌, append_assoc, arith}
use Rattle.std.specs.Int.{w32, w64, from_be_bytes}
use Rattle.std.specs.Str.{bytes_eq}
use Rattle.std.proofs.lemmas.List.{take_at, drop_at}
use Rattle.std.proofs.lemmas.Slice.Eq.{bytes_eq-Decides}
use Rattle.std.proofs.lemmas.Bool.Decides.{same_from_decides, Decides-like}
use Rattle.std.proofs.lemmas.Nat.{from_be_bytes-to_be_bytes_4, from_be_bytes-to_be_bytes_8}
use Rattle.xdr_units.specs.Numbers.{word, long_word, pad, padded, AreBytes}

-- bytes are so at each place,
pub byte_at : (bytes : List ℕ) → AreBytes bytes → (i : ℕ) → get_or bytes i 0 < 256
byte_at [] h i = omega arith
byte_at (b ∷ bytes) h zero = h.0
byte_at (b ∷ bytes) h (suc i) = byte_at bytes h.1 i

-- and numbers that are so at each place are bytes
pub bytes_at : (bytes : List ℕ) → ((i : ℕ) → get_or bytes i 0 < 256) → AreBytes bytes
bytes_at [] h = tt
bytes_at (b ∷ bytes) h = (h 0, bytes_at bytes (λ i. h (suc i)))

-- bytes before bytes
pub AreBytes-append : (a b : List ℕ) → AreBytes a → AreBytes b → AreBytes (a ++ b)
AreBytes-append [] b h k = k
AreBytes-append (x ∷ a) b h k = (h.0, AreBytes-append a b h.1 k)

-- bytes stay bytes behind so many of them,
pub AreBytes-drop : (n : ℕ) (bytes : List ℕ) → AreBytes bytes → AreBytes (drop n bytes)
AreBytes-drop zero bytes h = h
AreBytes-drop (suc n) [] h = tt
AreBytes-drop (suc n) (b ∷ bytes) h = AreBytes-drop n bytes h.1

-- and up to so many
pub AreBytes-take : (n : ℕ) (bytes : List ℕ) → AreBytes bytes → AreBytes (take n bytes)
AreBytes-take zero bytes h = tt
AreBytes-take (suc n) [] h = tt
AreBytes-take (suc n) (b ∷ bytes) h = (h.0, AreBytes-take n bytes h.1)

pub AreBytes-after : (a b : List ℕ) → AreBytes (a ++ b) → AreBytes b
AreBytes-after a b fits = subst AreBytes (drop_at a b (length a) refl) (AreBytes-drop (length a) (a ++ b) fits)

pub AreBytes-before : (a b : List ℕ) → AreBytes (a ++ b) → AreBytes a
AreBytes-before a b fits = subst AreBytes (take_at a b (length a) refl) (AreBytes-take (length a) (a ++ b) fits)

-- two fronts of one length are one, and so is what follows them
pub same_front : (a b x y : List ℕ) → length a ≡ length b → a ++ x ≡ b ++ y → (a ≡ b) × (x ≡ y)
same_front a b x y len e = (
  sym (take_at a x (length b) len) ∙ ap (take (length b)) e ∙ take_at b y (length b) refl,
  sym (drop_at a x (length b) len) ∙ ap (drop (length b)) e ∙ drop_at b y (length b) refl,
)

-- a number is known by its four bytes,
pub same_word : (m n : ℕ) (x y : List ℕ) → m < 2 ^ 32 → n < 2 ^ 32 → word m ++ x ≡ word n ++ y → (m ≡ n) × (x ≡ y)
same_word m n x y hm hn e =
    let front = same_front (word m) (word n) x y refl e in (
      sym (from_be_bytes-to_be_bytes_4 m hm) ∙ ap (from_be_bytes w32) front.0
          ∙ from_be_bytes-to_be_bytes_4 n hn,
      front.1,
    )

-- or eight
pub same_long_word : (m n : ℕ) (x y : List ℕ) → m < 2 ^ 64 → n < 2 ^ 64 → long_word m ++ x ≡ long_word n ++ y
    → (m ≡ n) × (x ≡ y)
same_long_word m n x y hm hn e =
    let front = same_front (long_word m) (long_word n) x y refl e in (
      sym (from_be_bytes-to_be_bytes_8 m hm) ∙ ap (from_be_bytes w64) front.0
          ∙ from_be_bytes-to_be_bytes_8 n hn,
      front.1,
    )

-- content of one size is one
pub same_content : (a b x y : List ℕ) → length a ≡ length b → padded a ++ x ≡ padded b ++ y → (a ≡ b) × (x ≡ y)
same_content a b x y len e =
    let regrouped : a ++ (pad (length a) ++ x) ≡ b ++ (pad (length b) ++ y) = sym (append_assoc a (pad (length a)) x)
    ∙ e ∙ append_assoc b (pad (length b)) y in
    let front = same_front a b (pad (length a) ++ x) (pad (length b) ++ y) len regrouped in
    let behind = same_front (pad (length a)) (pad (length b)) x y (ap (λ (n : ℕ). length (pad n)) len) front.1 in
    (front.0, behind.1)

-- bytes are compared in either order
pub bytes_eq-sym : (a b : List ℕ) → bytes_eq a b ≡ bytes_eq b a
bytes_eq-sym a b = same_from_decides _ _ (bytes_eq-Decides a b) (Decides-like _ sym sym (bytes_eq-Decides b a))
