-- What an index says of the entry that it was found at.
use Rattle.std.proofs.Common.{◌≡◌, ℕ, suc, ◌+◌, ◌-◌, ◌<◌, ◌≤◌, ℤ, List, [], ◌∷◌, length, get_or, map, Bool}
use Rattle.std.proofs.Common.{Option, Some, None, refl, sym, ap, ◌∙◌, arith, is_some, inl, inr, w64, to_z, of_z}
use Rattle.std.proofs.Common.{FitsSigned, rules}
use Rattle.std.specs.List.{find, position_from}
use Rattle.std.specs.Ordering.{int_eq}
use Rattle.std.proofs.lemmas.Bool.{cases_Bool as tested}
use Rattle.std.proofs.lemmas.Option.{none-some}
use Rattle.xdr_types.specs.Kinds.{Branch, Constant, Part}
use Rattle.xdr_types.specs.Fits.{is_constant, is_listed, part_of}
use Rattle.xdr_types.specs.Private.Lookups.{member_from, first_at}

-- what entries have for a number, read as the machine's word of it
pub indexed : (es : List (ℤ × ℕ)) (z : ℤ) (r : Option ℕ) → FitsSigned w64 z
    → r ≡ first_at es (to_z w64 (of_z w64 z)) → r ≡ first_at es z
indexed es z r fits e = let same : to_z w64 (of_z w64 z) ≡ z = search rules in e ∙ ap (first_at es) same

some-is : {A : Type 0} (x y : A) → Some x ≡ Some y → x ≡ y
some-is x y e = cc

-- an entry found at an index is the first that passes
record IsFoundAt {A B : Type 0} (f : A → B) (p : B → Bool) (i : ℕ) (xs : List A) (k : ℕ) : Type 0 where
  from : i ≤ k
  within : k < i + length xs
  first : (x : A) → x ≡ get_or xs (k - i) x → find p (map f xs) ≡ Some (f x)

found-at : {A B : Type 0} (f : A → B) (p : B → Bool) (i : ℕ) (xs : List A) (k : ℕ)
    → position_from p i (map f xs) ≡ Some k → IsFoundAt f p i xs k
found-at f p i [] k e = absurd (none-some k e)
found-at {A} f p i (y ∷ ys) k e =
    elim (tested (p (f y))) [
      | inl passes ↦
          let here : i ≡ k = some-is i k (rw passes at e) in
          let none : k - i ≡ 0 = omega arith in
          record {
            from = omega arith;
            within = omega arith;
            first = λ x is.
                let same : x ≡ y = is ∙ ap (λ (j : ℕ). get_or (y ∷ ys) j x) none in
                rw passes (ap (λ (z : A). Some (f z)) (sym same));
          }
      | inr fails ↦
          let later = found-at f p (i + 1) ys k (rw fails at e) in
          let next : k - i ≡ suc (k - (i + 1)) = omega (arith, later.from) in
          record {
            from = omega (arith, later.from);
            within = omega (arith, later.within);
            first = λ x is. rw fails (later.first x (is ∙ ap (λ (j : ℕ). get_or (y ∷ ys) j x) next));
          }
    ]

-- the same in a list that starts at 0
pub found-first : {A B : Type 0} (f : A → B) (p : B → Bool) (xs : List A) (k : ℕ)
    → position_from p 0 (map f xs) ≡ Some k
    → (k < length xs) × ((x : A) → x ≡ get_or xs k x → find p (map f xs) ≡ Some (f x))
found-first f p xs k e =
    let found = found-at f p 0 xs k e in
    let same : k ≡ k - 0 = omega arith in
    (omega (arith, found.within), λ x is. found.first x (is ∙ ap (λ (j : ℕ). get_or xs j x) same))

-- where no index is found, no entry passes
pub found-nowhere : {B : Type 0} (p : B → Bool) (i : ℕ) (ys : List B) → position_from p i ys ≡ None → find p ys ≡ None
found-nowhere p i [] e = refl
found-nowhere p i (y ∷ ys) e =
    elim (tested (p y)) [
      | inl passes ↦ absurd (none-some i (sym (rw passes at e)))
      | inr fails ↦ rw fails (found-nowhere p (i + 1) ys (rw fails at e))
    ]

-- a number is a member's where it has an index
pub member-constant : (i : ℕ) (cs : List Constant) (z : ℤ) → is_some (member_from i cs z) ≡ is_constant cs z
member-constant i [] z = refl
member-constant i (c ∷ cs) z =
    elim (tested (int_eq c.number z)) [ inl h ↦ rw h refl | inr h ↦ rw h (member-constant (i + 1) cs z) ]

-- the part under a number is that of the first arm that lists it
pub part-found : (arms : List Branch) (other : Option Part) (z : ℤ) (a : Branch)
    → find (λ (b : Branch). is_listed b.cases z) arms ≡ Some a → part_of arms other z ≡ Some a.part
part-found [] other z a e = absurd (none-some a e)
part-found (b ∷ arms) other z a e =
    elim (tested (is_listed b.cases z)) [
      | inl h ↦ rw h (ap (λ (x : Branch). Some x.part) (some-is b a (rw h at e)))
      | inr h ↦ rw h (part-found arms other z a (rw h at e))
    ]

-- or the default, where no arm does
pub part-not_found : (arms : List Branch) (other : Option Part) (z : ℤ)
    → find (λ (b : Branch). is_listed b.cases z) arms ≡ None → part_of arms other z ≡ other
part-not_found [] other z e = refl
part-not_found (b ∷ arms) other z e =
    elim (tested (is_listed b.cases z)) [
      | inl h ↦ absurd (none-some b (sym (rw h at e)))
      | inr h ↦ rw h (part-not_found arms other z (rw h at e))
    ]
