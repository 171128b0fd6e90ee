-- What a table of names holds, as it grows and as it is asked.
use Rattle.std.proofs.Common.{◌≡◌, ◌≤◌, ◌<◌, ◌+◌, ℕ, zero, suc, ℤ, Bool, true, false, cond, nat_lt, List, [], ◌∷◌}
use Rattle.std.proofs.Common.{◌++◌, length, take, Option, Some, None, is_some, refl, sym, ap, subst, ◌∙◌}
use Rattle.std.proofs.Common.{arith, inl, inr, ◌||◌, map}
use Rattle.std.proofs.Math.Bool.{or-false, or_assoc}
use Rattle.std.proofs.lemmas.List.{append_assoc, append-nil}
use Rattle.std.specs.List.{list_any}
use Rattle.std.proofs.lemmas.Bool.{lt-ltb, le-ltb, cases_Bool as test}
use Rattle.std.specs.BTreeMap.{BTreeMap, Updates, IsUnchanged, IsEmpty, is_at}
use Rattle.std.specs.Map.{lookup}
use Rattle.std.specs.Option.{option_or}
use Rattle.std.specs.Ordering.{nat_cmp, is_eq}
use Rattle.std.specs.Cmp.Lexicographic.{slice_cmp}
use Rattle.std.specs.Str.{bytes_eq}
use Rattle.std.proofs.lemmas.Map.Text.{is_eq-slice_cmp}
use Rattle.std.proofs.lemmas.Slice.Eq.{bytes_eq-Decides}
use denote.Ref.{Bor}
use Rattle.xdr_types.proofs.Apart.{texts_cmp as names_cmp, bytes_eq-sym}
use Rattle.xdr_tokens.specs.Options.{◌>>=◌}
use Rattle.xdr_tokens.proofs.Options.{some_is_not}
use Rattle.xdr_constants.specs.Constants.{Known, known}
use Rattle.xdr_constants.specs.Tables.{at_name, first_named, HasFirst}
use Rattle.xdr_constants.specs.Names.{repeat_after}

-- ---- one more name in a map

-- what a map has at each name after an insertion
pub at_more : {X : Type 0} (m n : BTreeMap (Bor (List ℕ)) X) (k : Bor (List ℕ)) (v : X)
    → Updates names_cmp m n k (Some v) → (q : List ℕ) → at_name q n ≡ cond (bytes_eq k.now q) (Some v) (at_name q m)
at_more {X = X} m n k v u q =
    let here : at_name q n ≡ cond (is_eq (slice_cmp nat_cmp k.now q)) (Some v) (at_name q m) = u.0
    (record { ref_ptr = (0, 0); now = q }) in
    here ∙ ap (λ (b : Bool). cond b (Some v) (at_name q m)) (is_eq-slice_cmp k.now q)

pub at_same : {X : Type 0} (m n : BTreeMap (Bor (List ℕ)) X) → IsUnchanged m n → (q : List ℕ)
    → at_name q n ≡ at_name q m
at_same {X = X} m n e q = ap
    (λ (es : List (Bor (List ℕ) × X)). lookup (is_at (λ (k : Bor (List ℕ)). slice_cmp nat_cmp q k.now)) es) e

pub at_empty : {X : Type 0} (m : BTreeMap (Bor (List ℕ)) X) → IsEmpty m → (q : List ℕ) → at_name q m ≡ None
at_empty {X = X} m e q = ap
    (λ (es : List (Bor (List ℕ) × X)). lookup (is_at (λ (k : Bor (List ℕ)). slice_cmp nat_cmp q k.now)) es) e

pub same_text : (a b : List ℕ) → bytes_eq a b ≡ true → a ≡ b
same_text a b e = (bytes_eq-Decides a b).0 e

-- a name that gets back what the map had at it
pub restored : {X : Type 0} (m n o : BTreeMap (Bor (List ℕ)) X) (k : Bor (List ℕ)) (v w : X)
    → Updates names_cmp m n k (Some v) → Updates names_cmp n o k (Some w) → at_name k.now m ≡ Some w → (q : List ℕ)
    → at_name q o ≡ at_name q m
restored m n o k v w u t e q =
    let last = at_more n o k w t q in
    let first = at_more m n k v u q in
    elim (test (bytes_eq k.now q)) [
      | inl on ↦ (rw on at last) ∙ sym (rw (same_text k.now q on) at e)
      | inr off ↦ (rw off at last) ∙ (rw off at first)
    ]

pub none_from : {A : Type 0} (o : Option A) → is_some o ≡ false → o ≡ None
none_from None e = refl
none_from (Some a) e = absurd cc

-- a new entry comes after all that are there
pub picked : {A : Type 0} (b : Bool) (f : Option A) (v : A) → (b ≡ true → f ≡ None)
    → cond b (Some v) f ≡ option_or f (cond b (Some v) None)
picked true f v h = rw (h refl) refl
picked false None v h = refl
picked false (Some a) v h = refl

pub retained : {A : Type 0} (b : Bool) (f : Option A) (v : A) → (b ≡ true → is_some f ≡ true)
    → f ≡ option_or f (cond b (Some v) None)
retained b (Some a) v h = refl
retained false None v h = refl
retained true None v h = let no : false ≡ true = h refl in absurd cc

pub option_or_cond : {A : Type 0} (b : Bool) (s x y : Option A) (v : A) → x ≡ option_or s y
    → cond b (Some v) x ≡ option_or (cond b (Some v) s) y
option_or_cond true s x y v e = refl
option_or_cond false s x y v e = e

-- ---- constants

first_more : (q : List ℕ) (ks : List Known) (i : ℕ) (k : Known)
    → first_named q i (ks ++ k ∷ []) ≡ option_or (first_named q i ks)
    (cond (bytes_eq k.name q) (Some (i + length ks, k.value, k.by_const)) None)
unfolding first_named
first_more q [] i k =
    let z : i ≡ i + 0 = omega arith in
    ap (λ (p : ℕ). cond (bytes_eq k.name q) (Some (p, k.value, k.by_const)) None) z
first_more q (x ∷ ks) i k =
    let z : suc i + length ks ≡ i + suc (length ks) = omega arith in
    option_or_cond (bytes_eq x.name q) (first_named q (suc i) ks) (first_named q (suc i) (ks ++ k ∷ []))
    (cond (bytes_eq k.name q) (Some (i + suc (length ks), k.value, k.by_const)) None) (i, x.value, x.by_const)
    (first_more q ks (suc i) k
    ∙ ap (λ (p : ℕ). option_or (first_named q (suc i) ks)
    (cond (bytes_eq k.name q) (Some (p, k.value, k.by_const)) None)) z)

first_pushed : (q : List ℕ) (ks : List Known) (k : Known)
    → first_named q 0 (ks ++ k ∷ []) ≡ option_or (first_named q 0 ks)
    (cond (bytes_eq k.name q) (Some (length ks, k.value, k.by_const)) None)
first_pushed q ks k =
    let z : 0 + length ks ≡ length ks = omega arith in
    first_more q ks 0 k ∙ ap
    (λ (p : ℕ). option_or (first_named q 0 ks) (cond (bytes_eq k.name q) (Some (p, k.value, k.by_const)) None)) z

pub no_constants : (m : BTreeMap (Bor (List ℕ)) (ℕ × ℤ × Bool)) → IsEmpty m → HasFirst m []
unfolding first_named
no_constants m e = record { finds = λ q. at_empty m e q }

pub new_constant : (m n : BTreeMap (Bor (List ℕ)) (ℕ × ℤ × Bool)) (ks : List Known) (k : Known) (key : Bor (List ℕ))
    → HasFirst m ks → key.now ≡ k.name → is_some (at_name key.now m) ≡ false
    → Updates names_cmp m n key (Some (length ks, k.value, k.by_const)) → HasFirst n (ks ++ k ∷ [])
new_constant m n ks k key has same not u = record {
  finds = λ q.
      let absent : bytes_eq k.name q ≡ true → first_named q 0 ks ≡ None = λ e.
      let there : key.now ≡ q = same ∙ same_text k.name q e in
      sym (has.finds q) ∙ (rw (← there) (none_from (at_name key.now m) not)) in
      at_more m n key (length ks, k.value, k.by_const) u q
      ∙ (rw (same, has.finds q)
      (picked (bytes_eq k.name q) (first_named q 0 ks) (length ks, k.value, k.by_const) absent))
      ∙ sym (first_pushed q ks k);
}

pub old_constant : (m : BTreeMap (Bor (List ℕ)) (ℕ × ℤ × Bool)) (ks : List Known) (k : Known) (key : Bor (List ℕ))
    → HasFirst m ks → key.now ≡ k.name → is_some (at_name key.now m) ≡ true → HasFirst m (ks ++ k ∷ [])
old_constant m ks k key has same there = record {
  finds = λ q.
      let present : bytes_eq k.name q ≡ true → is_some (first_named q 0 ks) ≡ true = λ e.
      let here : key.now ≡ q = same ∙ same_text k.name q e in
      let at : is_some (at_name q m) ≡ true = subst (λ (x : List ℕ). is_some (at_name x m) ≡ true) here there in
      rw (has.finds q) at at in
      has.finds q
      ∙ retained (bytes_eq k.name q) (first_named q 0 ks) (length ks, k.value, k.by_const) present
      ∙ sym (first_pushed q ks k);
}

pub earlier_constant : (m n o : BTreeMap (Bor (List ℕ)) (ℕ × ℤ × Bool)) (ks : List Known) (k : Known)
    (key : Bor (List ℕ)) (v w : ℕ × ℤ × Bool) → HasFirst m ks → key.now ≡ k.name → Updates names_cmp m n key (Some v)
    → Updates names_cmp n o key (Some w) → at_name key.now m ≡ Some w → HasFirst o (ks ++ k ∷ [])
earlier_constant m n o ks k key v w has same u t e =
    let all = old_constant m ks k key has same (ap (λ (x : Option (ℕ × ℤ × Bool)). is_some x) e) in
    record { finds = λ q. restored m n o key v w u t e q ∙ all.finds q }

pub same_constants : (m n : BTreeMap (Bor (List ℕ)) (ℕ × ℤ × Bool)) (ks : List Known) → HasFirst m ks → IsUnchanged m n
    → HasFirst n ks
same_constants m n ks has e = record { finds = λ q. at_same m n e q ∙ has.finds q }

-- the constant, where it is among so many
abbrev pub within : ℕ → ℕ × ℤ × Bool → Option (ℤ × Bool)
within before x = cond (nat_lt x.0 before) (Some (x.1, x.2)) None

none_cons : (t : Bool) (f : Option (ℕ × ℤ × Bool)) (i : ℕ) (x : Known) (b : ℕ) → b ≤ i → (f >>= within b) ≡ None
    → (cond t (Some (i, x.value, x.by_const)) f >>= within b) ≡ None
none_cons true f i x b h e = rw (le-ltb i b h) refl
none_cons false f i x b h e = e

none_within : (q : List ℕ) (ks : List Known) (i b : ℕ) → b ≤ i → (first_named q i ks >>= within b) ≡ None
unfolding first_named
none_within q [] i b h = refl
none_within q (x ∷ ks) i b h = none_cons (bytes_eq x.name q) (first_named q (suc i) ks) i x b h
    (none_within q ks (suc i) b (omega arith))

known_cons : (t : Bool) (k : Option (ℤ × Bool)) (f : Option (ℕ × ℤ × Bool)) (i : ℕ) (x : Known) (b : ℕ) → i < b
    → k ≡ (f >>= within b)
    → cond t (Some (x.value, x.by_const)) k ≡ (cond t (Some (i, x.value, x.by_const)) f >>= within b)
known_cons true k f i x b h e = rw (lt-ltb i b h) refl
known_cons false k f i x b h e = e

known_within : (q : List ℕ) (ks : List Known) (i b : ℕ) → known q (take b ks) ≡ (first_named q i ks >>= within (i + b))
unfolding first_named known
known_within q [] i zero = refl
known_within q [] i (suc b) = refl
known_within q (x ∷ ks) i zero = sym (none_within q (x ∷ ks) i (i + 0) (omega arith))
known_within q (x ∷ ks) i (suc b) =
    let z : suc i + b ≡ i + suc b = omega arith in
    known_cons (bytes_eq x.name q) (known q (take b ks)) (first_named q (suc i) ks) i x (i + suc b) (omega arith)
    (known_within q ks (suc i) b ∙ ap (λ (p : ℕ). first_named q (suc i) ks >>= within p) z)

pub known_before : (m : BTreeMap (Bor (List ℕ)) (ℕ × ℤ × Bool)) (ks : List Known) (q : List ℕ) (before : ℕ)
    → HasFirst m ks → (at_name q m >>= within before) ≡ known q (take before ks)
known_before m ks q before has =
    let z : before ≡ 0 + before = omega arith in
    ap (λ (o : Option (ℕ × ℤ × Bool)). o >>= within before) (has.finds q)
    ∙ ap (λ (p : ℕ). first_named q 0 ks >>= within p) z ∙ sym (known_within q ks 0 before)

-- ---- names that are there once

none_named : (n : List ℕ) (ks : List Known) (i : ℕ) → first_named n i ks ≡ None
    → list_any (bytes_eq n) (map (λ (k : Known). k.name) ks) ≡ false
unfolding first_named
none_named n [] i e = refl
none_named n (k ∷ ks) i e =
    elim (test (bytes_eq k.name n)) [
      | inl on ↦ absurd (some_is_not (i, k.value, k.by_const) (rw on at e))
      | inr off ↦ rw (bytes_eq-sym n k.name, off) (none_named n ks (suc i) (rw off at e))
    ]

-- a map that has nothing at a name, where no constant has it
pub has_no_other : (m : BTreeMap (Bor (List ℕ)) (ℕ × ℤ × Bool)) (ks : List Known) (n : List ℕ) → HasFirst m ks
    → is_some (at_name n m) ≡ false → list_any (bytes_eq n) (map (λ (k : Known). k.name) ks) ≡ false
has_no_other m ks n has not = none_named n ks 0 (sym (has.finds n) ∙ none_from (at_name n m) not)

append_one : (b : List (List ℕ)) (x : List ℕ) (xs : List (List ℕ)) → (b ++ x ∷ []) ++ xs ≡ b ++ x ∷ xs
append_one b x xs = append_assoc b (x ∷ []) xs

-- one more name
pub repeat_more : (b ns : List (List ℕ)) (n : List ℕ)
    → repeat_after b (ns ++ n ∷ []) ≡ (repeat_after b ns || list_any (bytes_eq n) (b ++ ns))
unfolding repeat_after
repeat_more b [] n = rw append-nil (or-false (list_any (bytes_eq n) b))
repeat_more b (x ∷ xs) n =
    ap (λ (t : Bool). list_any (bytes_eq x) b || t)
    (repeat_more (b ++ x ∷ []) xs n
    ∙ ap (λ (ys : List (List ℕ)). repeat_after (b ++ x ∷ []) xs || list_any (bytes_eq n) ys) (append_one b x xs))
    ∙ sym (or_assoc (list_any (bytes_eq x) b) (repeat_after (b ++ x ∷ []) xs)
    (list_any (bytes_eq n) (b ++ x ∷ xs)))
