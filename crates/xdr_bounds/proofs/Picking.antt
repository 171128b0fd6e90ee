-- The kinds of a union's parts, as they are gathered.
use Rattle.std.proofs.Common.{◌≡◌, ℕ, zero, suc, ◌+◌, ◌^◌, ◌<◌, ◌≤◌, ◌||◌, ◌&&◌, ℤ, pos, negsuc, List, [], ◌∷◌, ◌++◌}
use Rattle.std.proofs.Common.{length, map, drop, get_or, ◌⊎◌, inl, inr, Bool, true, false, nat_lt, ltb-true, Option}
use Rattle.std.proofs.Common.{Some}
use Rattle.std.proofs.Common.{MatchOption, ◌≤ℤ◌, ◌<ℤ◌, ◌+ℤ◌}
use Rattle.std.proofs.lemmas.Int.{ints}
use Rattle.std.proofs.Common.{None, refl, sym, ap, ◌∙◌, subst, arith, int_eq}
use Rattle.std.proofs.lemmas.Bool.{false≢true, or_cases, or_left, or_right, and_parts as both}
use Rattle.std.proofs.lemmas.Bool.Decides.{Decides-int_eq}
use Rattle.std.proofs.lemmas.List.{at_drop_more, at_drop_all}
use Rattle.std.proofs.lemmas.Option.{none-some}
use Rattle.xdr_types.specs.Kinds as xdr
use Rattle.xdr_types.specs.Kinds.{KindView, Part, Branch, kind_at}
use Rattle.xdr_types.specs.Fits.{is_tag_of, is_listed, part_in, part_of}
use Rattle.xdr_types.specs.Sound.{has_arm}
use Rattle.xdr_types.specs.declared.kind.KindId.{KindId}
use Rattle.xdr_bounds.specs.Private.Amounts.{IsIn, places_of}
use Rattle.xdr_bounds.specs.Private.Unions.{PicksKind, PicksDefault, IsPicked, IsSeen, Adds, ArePicked}

pub in_push : (q : ℕ) (ids : List KindId) (id : KindId) → IsIn q (places_of ids) → IsIn q (places_of (ids ++ id ∷ []))
in_push q [] id i = absurd i
in_push q (x ∷ ids) id (inl is) = inl is
in_push q (x ∷ ids) id (inr i) = inr (in_push q ids id i)

pub in_last : (ids : List KindId) (id : KindId) → IsIn id.place (places_of (ids ++ id ∷ []))
in_last [] id = inl refl
in_last (x ∷ ids) id = inr (in_last ids id)

in_cases : (q : ℕ) (ids : List KindId) (id : KindId) → IsIn q (places_of (ids ++ id ∷ []))
    → IsIn q (places_of ids) ⊎ (q ≡ id.place)
in_cases q [] id (inl is) = inr is
in_cases q [] id (inr none) = absurd none
in_cases q (x ∷ ids) id (inl is) = inl (inl is)
in_cases q (x ∷ ids) id (inr i) =
    elim (in_cases q ids id i) [ inl there ↦ inl (inr there) | inr is ↦ inr is ]

pub adds_none : (kinds : List KindView) (union tag : ℕ) (ids : List KindId) → Adds kinds union tag ids ids
adds_none kinds union tag ids = record { stay = λ q i. i; picked = λ each q i. each q i }

-- one kind more, of a part under a legal number
pub adds_one : (kinds : List KindView) (union tag : ℕ) (ids : List KindId) (id : KindId) (z : ℤ) (p : Part)
    → is_tag_of (kind_at kinds tag) z ≡ true → part_in (kind_at kinds union) z ≡ Some p → p.kind ≡ id.place
    → Adds kinds union tag ids (ids ++ id ∷ [])
adds_one kinds union tag ids id z p legal under is = record {
  stay = λ q i. in_push q ids id i;
  picked = λ each q i. elim (in_cases q ids id i) [
    | inl there ↦ each q there
    | inr last ↦ (z, legal, (p, under, is ∙ sym last))
  ];
}

pub adds_trans : (kinds : List KindView) (union tag : ℕ) (a b c : List KindId) → Adds kinds union tag a b
    → Adds kinds union tag b c → Adds kinds union tag a c
adds_trans kinds union tag a b c ab bc = record {
  stay = λ q i. bc.stay q (ab.stay q i);
  picked = λ each q i. bc.picked (λ r j. ab.picked each r j) q i;
}

same_part : (p q : Part) → Some p ≡ Some q → p ≡ q
same_part p q e = cc

-- the part under a number is seen where its kind is among the others
pub seen_last : (kinds : List KindView) (union tag : ℕ) (ids : List KindId) (id : KindId) (z : ℤ) (p : Part)
    → part_in (kind_at kinds union) z ≡ Some p → p.kind ≡ id.place → IsSeen kinds union tag (ids ++ id ∷ []) z
seen_last kinds union tag ids id z p under is kind legal (q, also, of) =
    let same : p ≡ q = same_part p q (sym under ∙ also) in
    subst (λ (k : ℕ). IsIn k (places_of (ids ++ id ∷ []))) (sym is ∙ ap (λ (x : Part). x.kind) same ∙ of)
    (in_last ids id)

-- a number that is not legal, or that has no part, is seen
pub seen_illegal : (kinds : List KindView) (union tag : ℕ) (ids : List KindId) (z : ℤ)
    → is_tag_of (kind_at kinds tag) z ≡ false → IsSeen kinds union tag ids z
seen_illegal kinds union tag ids z not kind legal picks = absurd (false≢true (sym not ∙ legal))

pub seen_none : (kinds : List KindView) (union tag : ℕ) (ids : List KindId) (z : ℤ)
    → part_in (kind_at kinds union) z ≡ None → IsSeen kinds union tag ids z
seen_none kinds union tag ids z none kind legal (p, under, of) = absurd (none-some p (sym none ∙ under))

pub seen_still : (kinds : List KindView) (union tag : ℕ) (a b : List KindId) (z : ℤ) → Adds kinds union tag a b
    → IsSeen kinds union tag a z → IsSeen kinds union tag b z
seen_still kinds union tag a b z adds seen kind legal picks = adds.stay kind (seen kind legal picks)

-- of the numbers that elements have, those of the elements so far are seen: one element more
pub one_more : {X : Type 0} (kinds : List KindView) (union tag : ℕ) (a b : List KindId) (T : List X → ℤ → Bool)
    (t : X → ℤ → Bool) (xs : List X) (i : ℕ) (d : X) → i < length xs
    → ((x : X) (ys : List X) (z : ℤ) → T (x ∷ ys) z ≡ t x z || T ys z)
    → Adds kinds union tag a b → ((z : ℤ) → t (get_or xs i d) z ≡ true → IsSeen kinds union tag b z)
    → ((z : ℤ) → T xs z ≡ true → (T (drop i xs) z ≡ true) ⊎ IsSeen kinds union tag a z)
    → (z : ℤ) → T xs z ≡ true → (T (drop (i + 1) xs) z ≡ true) ⊎ IsSeen kinds union tag b z
one_more {X} kinds union tag a b T t xs i d h eq adds new so_far z e =
    elim (so_far z e) [
      | inl rest ↦ elim (or_cases (t (get_or xs i d) z) (T (drop (i + 1) xs) z)
          (sym (eq (get_or xs i d) (drop (i + 1) xs) z) ∙ sym (at_drop_more (λ (ys : List X). T ys z) xs i d h)
          ∙ rest)) [
            | inl here ↦ inr (new z here)
            | inr there ↦ inl there
          ]
      | inr seen ↦ inr (seen_still kinds union tag a b z adds seen)
    ]

-- at the end all are seen
pub all_seen : {X : Type 0} (kinds : List KindView) (union tag : ℕ) (ids : List KindId) (T : List X → ℤ → Bool)
    (xs : List X) (i : ℕ) → length xs ≤ i → ((z : ℤ) → T [] z ≡ false)
    → ((z : ℤ) → T xs z ≡ true → (T (drop i xs) z ≡ true) ⊎ IsSeen kinds union tag ids z)
    → (z : ℤ) → T xs z ≡ true → IsSeen kinds union tag ids z
all_seen {X} kinds union tag ids T xs i h none so_far z e =
    elim (so_far z e) [
      | inl rest ↦ absurd (false≢true (sym (none z) ∙ sym (at_drop_all (λ (ys : List X). T ys z) xs i h) ∙ rest))
      | inr seen ↦ seen
    ]

pub same_number : (a z : ℤ) → int_eq a z ≡ true → a ≡ z
same_number a z e = (Decides-int_eq a z).0 e

other_part : (arms : List Branch) (other : Option Part) (z : ℤ) → has_arm arms z ≡ false → part_of arms other z ≡ other
other_part [] other z h = refl
other_part (b ∷ arms) other z h = by_case (is_listed b.cases z) refl (other_part arms other z)
  where
    by_case : (r : Bool) → is_listed b.cases z ≡ r → (has_arm arms z ≡ false → part_of arms other z ≡ other)
        → part_of (b ∷ arms) other z ≡ other
    by_case true e later = absurd (false≢true (sym h ∙ or_left (is_listed b.cases z) (has_arm arms z) e))
    by_case false e later =
        let rest : has_arm arms z ≡ false = sym (ap (λ (r : Bool). r || has_arm arms z) e) ∙ h in
        rw e (later rest)

-- under a number that no arm lists stands the default
pub default_under : (kinds : List KindView) (union tag : ℕ) (arms : List Branch) (other : Option Part) (z : ℤ)
    (kind : ℕ) → kind_at kinds union ≡ xdr.choice tag arms other → has_arm arms z ≡ false
    → PicksKind kinds union z kind → (p : Part) × (other ≡ Some p) × (p.kind ≡ kind)
default_under kinds union tag arms other z kind is none (p, under, of) =
    (p, sym (other_part arms other z none) ∙ sym (ap (λ (k : KindView). part_in k z) is) ∙ under, of)

pub tested : (b : Bool) → (b ≡ true) ⊎ (b ≡ false)
tested true = inl refl
tested false = inr refl

-- the two numbers of a boolean
pub boolean_listed : (z : ℤ) → is_tag_of xdr.boolean z ≡ true → is_listed (pos 0 ∷ pos 1 ∷ []) z ≡ true
boolean_listed (pos zero) h = refl
boolean_listed (pos (suc zero)) h = refl
boolean_listed (pos (suc (suc n))) h = absurd (omega (arith, ltb-true (suc (suc n)) 2 h))
boolean_listed (negsuc n) h = absurd (false≢true h)

-- all numbers are seen: those that an arm lists, and those of the default, whose kind no legal number picks, or one
-- that is seen does
pub all_numbers : (kinds : List KindView) (union tag : ℕ) (arms : List Branch) (other : Option Part) (ids : List KindId)
    → kind_at kinds union ≡ xdr.choice tag arms other
    → ((z : ℤ) → has_arm arms z ≡ true → IsSeen kinds union tag ids z)
    → ((z : ℤ) → is_tag_of (kind_at kinds tag) z ≡ true → (p : Part) → other ≡ Some p
    → PicksKind kinds union z p.kind → IsIn p.kind (places_of ids))
    → (z : ℤ) → IsSeen kinds union tag ids z
all_numbers kinds union tag arms other ids is listed rest z kind legal picks =
    elim (tested (has_arm arms z)) [
      | inl here ↦ listed z here kind legal picks
      | inr none ↦
          let d = default_under kinds union tag arms other z kind is none picks in
          subst (λ (k : ℕ). IsIn k (places_of ids)) d.2
          (rest z legal d.0 d.1 (subst (λ (k : ℕ). PicksKind kinds union z k) (sym d.2) picks))
    ]

-- the kind of the default is seen, where that of one legal number under which it stands is
pub default_seen : (kinds : List KindView) (union tag : ℕ) (other : Option Part) (ids : List KindId) (y : ℤ)
    → is_tag_of (kind_at kinds tag) y ≡ true → PicksDefault kinds union y other → IsSeen kinds union tag ids y
    → (p : Part) → other ≡ Some p → IsIn p.kind (places_of ids)
default_seen kinds union tag other ids y legal picks seen p is =
    let same : picks.0 ≡ p = same_part picks.0 p (sym picks.1 ∙ is) in
    subst (λ (q : Part). IsIn q.kind (places_of ids)) same (seen picks.0.kind legal picks.2)

-- the number under which the default's kind is looked for, of numbers that are passed on
pub default_number : (kinds : List KindView) (union : ℕ) (other : Option Part) (p : Part) (r : Option ℤ)
    (low high from to : ℤ) → other ≡ Some p → from ≡ low → to ≡ high
    → MatchOption r ((z : ℤ) → from ≤ℤ z → z <ℤ to → PicksKind kinds union z p.kind → ⊥)
    (λ z. (from ≤ℤ z) × (z <ℤ to) × PicksKind kinds union z p.kind)
    → MatchOption r ((z : ℤ) → low ≤ℤ z → z <ℤ high → PicksDefault kinds union z other → ⊥)
    (λ z. (low ≤ℤ z) × (z <ℤ high) × PicksDefault kinds union z other)
default_number kinds union other p None low high from to is lo hi h = λ z above below d.
    h z (subst (λ (y : ℤ). y ≤ℤ z) (sym lo) above) (subst (λ (y : ℤ). z <ℤ y) (sym hi) below)
    (subst (λ (q : Part). PicksKind kinds union z q.kind) (same_part d.0 p (sym d.1 ∙ is)) d.2)
default_number kinds union other p (Some z) low high from to is lo hi h = (
  subst (λ (y : ℤ). y ≤ℤ z) lo h.0,
  subst (λ (y : ℤ). z <ℤ y) hi h.1,
  (p, is, h.2),
)

-- what no number below n has, nor n, no number below the next has
pub none_more : (P : ℤ → Type 0) (low n : ℤ) → ((z : ℤ) → low ≤ℤ z → z <ℤ n → P z → ⊥) → (P n → ⊥) → (z : ℤ)
    → low ≤ℤ z → z <ℤ (n +ℤ pos 1) → P z → ⊥
none_more P low n before not z above below here =
    elim (tested (int_eq n z)) [
      | inl same ↦ not (subst P (sym (same_number n z same)) here)
      | inr other ↦
          let apart : n ≡ z → ⊥ = λ e. false≢true (sym other ∙ (Decides-int_eq n z).1 e) in
          let less : z <ℤ n = grind (arith, ints) in before z above less here
    ]
