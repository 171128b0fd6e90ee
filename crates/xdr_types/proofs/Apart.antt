-- A set of the names after one tells whether it is there again.
use Rattle.std.proofs.Common.{◌≡◌, ◌<◌, ◌+◌, ◌-◌, Ordering, String, ℕ, zero, suc, ℤ, Bool, true, false, cond, not, ◌&&◌}
use Rattle.std.proofs.Common.{◌||◌, List, [], ◌∷◌, length, Option, option_map, map, drop, drop-cons, get_or}
use Rattle.std.proofs.Common.{string_bytes, refl, sym, ap, ◌∙◌, arith}
use Rattle.std.proofs.Math.Bool.{or-true, or-false, or_assoc}
use Rattle.std.proofs.Math.Seq.{drop-length}
use Rattle.std.specs.declared.alloc.Global.{Global}
use Rattle.std.specs.BTreeSet.{BTreeSet, Updates}
use Rattle.std.specs.BTreeMap.{is_at}
use Rattle.std.specs.List.{list_any}
use Rattle.std.specs.Ordering.{nat_cmp, is_eq}
use Rattle.std.specs.Cmp.Lexicographic.{slice_cmp}
use Rattle.std.specs.Str.{bytes_eq}
use Rattle.std.proofs.lemmas.Map.Text.{is_eq-slice_cmp}
use denote.Ref.{Bor}
pub use Rattle.xdr_units.proofs.Bytes.{bytes_eq-sym}
use Rattle.xdr_types.specs.Kinds.{Constant, Part, Branch}
use Rattle.xdr_types.specs.KindViews.{constant_of, part_of_member, branch_of}
use Rattle.xdr_types.specs.Faults.{some_optional, is_none, constant_twice, part_twice, arm_twice}
use Rattle.xdr_types.specs.declared.kind.Member.{Member}
use Rattle.xdr_types.specs.declared.kind.Arm.{Arm}

-- How elements are told apart: by which name of each, which names are alike, which of them count, and which are there
-- besides the elements'.
pub record Naming (A K : Type 0) : Type 0 where
  pub alike : K → K → Bool
  pub name : A → K
  pub counts : K → Bool
  pub besides : K → Bool

-- the name is an element's, or there besides
abbrev pub is_there : {A K : Type 0} → Naming A K → List A → K → Bool
is_there {A} by xs q = list_any (λ (x : A). by.alike q (by.name x)) xs || by.besides q

-- a name that counts is there again after its element
abbrev pub repeats : {A K : Type 0} → Naming A K → List A → Bool
repeats by [] = false
repeats by (x ∷ xs) = (by.counts (by.name x) && is_there by xs (by.name x)) || repeats by xs

-- No name of the elements is there again, and a set has all that are there.
pub record AreApart {A K : Type 0} (by : Naming A K) (xs : List A) (has : K → Bool) : Type 0 where
  pub apart : repeats by xs ≡ false
  pub names : (q : K) → is_there by xs q ≡ has q

pub or_cond : (b x : Bool) → b || x ≡ cond b true x
or_cond true x = refl
or_cond false x = refl

pub was_absent : (r there : Bool) → r ≡ not there → r ≡ true → there ≡ false
was_absent r false e h = refl
was_absent r true e h = let no : false ≡ true = sym e ∙ h in absurd cc

pub was_there : (r there : Bool) → r ≡ not there → r ≡ false → there ≡ true
was_there r true e h = refl
was_there r false e h = let no : true ≡ false = sym e ∙ h in absurd cc

not_not : (b : Bool) → not (not b) ≡ b
not_not true = refl
not_not false = refl

pub was_again : (counts fresh there is : Bool) → fresh ≡ not there → counts && not fresh ≡ is → counts && there ≡ is
was_again counts fresh there is e h = ap (λ b. counts && b) (sym (not_not there) ∙ ap not (sym e)) ∙ h

pub list_any-map : {A B : Type 0} (f : A → B) (test : B → Bool) (xs : List A)
    → list_any test (map f xs) ≡ list_any (λ (x : A). test (f x)) xs
list_any-map f test [] = refl
list_any-map f test (x ∷ xs) = ap (λ b. test (f x) || b) (list_any-map f test xs)

one_more : {A K : Type 0} (by : Naming A K) (x : A) (xs : List A) (has new : K → Bool)
    → by.counts (by.name x) && has (by.name x) ≡ false → ((q : K) → new q ≡ by.alike q (by.name x) || has q)
    → AreApart by xs has → AreApart by (x ∷ xs) new
one_more {A} by x xs has new not u h = record {
  apart =
      let first : by.counts (by.name x) && is_there by xs (by.name x) ≡ false =
      ap (λ b. by.counts (by.name x) && b) (h.names (by.name x)) ∙ not in
      rw (first, h.apart) refl;
  names = λ q. or_assoc (by.alike q (by.name x)) (list_any (λ (y : A). by.alike q (by.name y)) xs) (by.besides q)
      ∙ ap (λ b. by.alike q (by.name x) || b) (h.names q) ∙ sym (u q);
}

again : {A K : Type 0} (by : Naming A K) (x : A) (xs : List A) (has : K → Bool)
    → by.counts (by.name x) && has (by.name x) ≡ true → AreApart by xs has → repeats by (x ∷ xs) ≡ true
again by x xs has there h =
    let first : by.counts (by.name x) && is_there by xs (by.name x) ≡ true =
    ap (λ b. by.counts (by.name x) && b) (h.names (by.name x)) ∙ there in
    rw first refl

repeats_from : {A K : Type 0} (by : Naming A K) (xs : List A) (j : ℕ) → repeats by (drop j xs) ≡ true
    → repeats by xs ≡ true
repeats_from by xs zero h = h
repeats_from by [] (suc j) h = h
repeats_from by (x ∷ xs) (suc j) h = rw (repeats_from by xs j h) (or-true _)

pub cut : {A : Type 0} (xs : List A) (i : ℕ) (d x : A) → i < length xs → x ≡ get_or xs (length xs - 1 - i) d
    → drop (length xs - 1 - i) xs ≡ x ∷ drop (length xs - i) xs
cut {A} xs i d x lt is =
    let after : length xs - i ≡ suc (length xs - 1 - i) = omega (arith, lt) in
    rw after (drop-cons xs (length xs - 1 - i) d (omega (arith, lt))
    ∙ ap (λ (y : A). y ∷ drop (suc (length xs - 1 - i)) xs) (sym is))

pub next : {A K : Type 0} (by : Naming A K) (xs : List A) (i : ℕ) (d x : A) (has new : K → Bool) → i < length xs
    → x ≡ get_or xs (length xs - 1 - i) d
    → by.counts (by.name x) && has (by.name x) ≡ false → ((q : K) → new q ≡ by.alike q (by.name x) || has q)
    → AreApart by (drop (length xs - i) xs) has → AreApart by (drop (length xs - (i + 1)) xs) new
next by xs i d x has new lt is not u h =
    let here : length xs - (i + 1) ≡ length xs - 1 - i = omega (arith, lt) in
    rw (here, cut xs i d x lt is) (one_more by x (drop (length xs - i) xs) has new not u h)

pub found : {A K : Type 0} (by : Naming A K) (xs : List A) (i : ℕ) (d x : A) (has : K → Bool) → i < length xs
    → x ≡ get_or xs (length xs - 1 - i) d
    → by.counts (by.name x) && has (by.name x) ≡ true → AreApart by (drop (length xs - i) xs) has → true ≡ repeats by xs
found by xs i d x has lt is there h =
    let here : repeats by (drop (length xs - 1 - i) xs) ≡ true =
    rw (cut xs i d x lt is) (again by x (drop (length xs - i) xs) has there h) in
    sym (repeats_from by xs (length xs - 1 - i) here)

pub begins : {A K : Type 0} (by : Naming A K) (xs : List A) (has : K → Bool) → ((q : K) → by.besides q ≡ has q)
    → AreApart by (drop (length xs - 0) xs) has
begins by xs has e =
    let all : length xs - 0 ≡ length xs = omega arith in
    rw (all, drop-length xs) (record { apart = refl; names = e })

pub ends : {A K : Type 0} (by : Naming A K) (xs : List A) (i : ℕ) (has : K → Bool) → i ≡ length xs
    → AreApart by (drop (length xs - i) xs) has → false ≡ repeats by xs
ends by xs i has e h =
    let none : length xs - i ≡ 0 = omega (arith, e) in
    sym ((rw none at h).apart)

-- ---- texts

abbrev pub texts_cmp : Bor (List ℕ) → Bor (List ℕ) → Ordering
texts_cmp x y = slice_cmp nat_cmp x.now y.now

-- the text is among the keys
abbrev pub has_text : BTreeSet (Bor (List ℕ)) → List ℕ → Bool
has_text s q = list_any (is_at (λ (k : Bor (List ℕ)). slice_cmp nat_cmp q k.now)) s.keys

pub added_text : (s n : BTreeSet (Bor (List ℕ))) (k : Bor (List ℕ)) (name : List ℕ) → k.now ≡ name
    → Updates texts_cmp s n k true → (q : List ℕ) → has_text n q ≡ bytes_eq q name || has_text s q
added_text s n k name e u q =
    let here : has_text n q ≡ cond (is_eq (slice_cmp nat_cmp k.now q)) true (has_text s q) =
    u.0 (record { ref_ptr = (0, 0); now = q }) in
    rw (here, is_eq-slice_cmp k.now q, e, bytes_eq-sym name q) (sym (or_cond (bytes_eq q name) (has_text s q)))

pub no_text : (s : BTreeSet (Bor (List ℕ))) → s.keys ≡ [] → (q : List ℕ) → false ≡ has_text s q
no_text s e q = ap (λ ks. list_any (is_at (λ (k : Bor (List ℕ)). slice_cmp nat_cmp q k.now)) ks) (sym e)

pub one_text : (s n : BTreeSet (Bor (List ℕ))) (k : Bor (List ℕ)) (name : List ℕ) → s.keys ≡ [] → k.now ≡ name
    → Updates texts_cmp s n k true → (q : List ℕ) → bytes_eq q name ≡ has_text n q
one_text s n k name e is u q = sym (added_text s n k name is u q ∙ ap (λ b. bytes_eq q name || b) (sym (no_text s e q))
    ∙ or-false (bytes_eq q name))

-- elements that are told apart by a text of each, where all texts count
abbrev pub by_text : {A : Type 0} → (A → List ℕ) → Naming A (List ℕ)
by_text name = record { alike = bytes_eq; name = name; counts = λ q. true; besides = λ q. false }

abbrev pub by_constant : Naming (String Global × ℤ) (List ℕ)
by_constant = by_text (λ m. string_bytes m.0)

abbrev pub by_field : Naming Member (List ℕ)
by_field = by_text (λ m. string_bytes m.name)

pub constants : (ms : List (String Global × ℤ)) → repeats by_constant ms ≡ constant_twice (map constant_of ms)
constants [] = refl
constants (m ∷ ms) =
    let later : list_any (λ (d : Constant). bytes_eq (string_bytes m.0) d.name) (map constant_of ms) ≡ list_any
    (λ (d : String Global × ℤ). bytes_eq (string_bytes m.0) (string_bytes d.0)) ms =
    list_any-map constant_of (λ (d : Constant). bytes_eq (string_bytes m.0) d.name) ms in
    rw (
      later,
      constants ms,
      or-false (list_any
          (λ (d : String Global × ℤ). bytes_eq (string_bytes m.0) (string_bytes d.0)) ms),
    ) refl

pub fields : (ms : List Member) → repeats by_field ms ≡ part_twice (map part_of_member ms)
fields [] = refl
fields (m ∷ ms) =
    let later : list_any (λ (p : Part). bytes_eq (string_bytes m.name) p.name) (map part_of_member ms) ≡ list_any
    (λ (n : Member). bytes_eq (string_bytes m.name) (string_bytes n.name)) ms =
    list_any-map part_of_member (λ (p : Part). bytes_eq (string_bytes m.name) p.name) ms in
    rw (
      later,
      fields ms,
      or-false (list_any
          (λ (n : Member). bytes_eq (string_bytes m.name) (string_bytes n.name)) ms),
    ) refl

-- arms are told apart by the names of their parts, of which an empty one does not count, and the other part's is there
-- besides
abbrev pub by_arm : Option Part → Naming Arm (List ℕ)
by_arm other = record {
  alike = bytes_eq;
  name = λ a. string_bytes a.member.name;
  counts = λ q. not (is_none q);
  besides = λ q. some_optional (λ (p : Part). bytes_eq q p.name) other;
}

pub arms : (other : Option Part) (xs : List Arm) → repeats (by_arm other) xs ≡ arm_twice (map branch_of xs) other
arms other [] = refl
arms other (a ∷ xs) =
    let later : list_any (λ (b : Branch). bytes_eq (string_bytes a.member.name) b.part.name) (map branch_of xs)
    ≡ list_any (λ (b : Arm). bytes_eq (string_bytes a.member.name) (string_bytes b.member.name)) xs =
    list_any-map branch_of (λ (b : Branch). bytes_eq (string_bytes a.member.name) b.part.name) xs in
    rw (later, arms other xs) refl

pub besides_arms : (other now : Option Member) (s n : BTreeSet (Bor (List ℕ))) → other ≡ now → n ≡ s
    → ((q : List ℕ) → some_optional (λ (p : Part). bytes_eq q p.name) (option_map part_of_member now) ≡ has_text s q)
    → (xs : List Arm) → AreApart (by_arm (option_map part_of_member other)) (drop (length xs - 0) xs) (has_text n)
besides_arms other now s n e is h xs =
    begins (by_arm (option_map part_of_member other)) xs (has_text n)
    (λ q. ap (λ (o : Option Member). some_optional (λ (p : Part). bytes_eq q p.name) (option_map part_of_member o)) e
    ∙ h q ∙ ap (λ (t : BTreeSet (Bor (List ℕ))). has_text t q) (sym is))
