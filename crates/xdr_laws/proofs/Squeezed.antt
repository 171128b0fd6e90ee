-- Heights squeezed below the number of kinds.
use Rattle.std.proofs.Common.{◌≡◌, ℕ, zero, suc, ◌+◌, ◌<◌, ◌≤◌, Bool, true, false, cond, nat_lt, List, [], ◌∷◌, length}
use Rattle.std.proofs.Common.{sym, ap, subst, arith, inl, inr}
use Rattle.std.specs.List.{AllByRecursion}
use Rattle.std.proofs.lemmas.Bool.{cases_lt}
use Rattle.std.proofs.lemmas.List.{get_or_past}
use Rattle.xdr_types.specs.Kinds as xdr
use Rattle.xdr_types.specs.Kinds.{KindView, Part, kind_at}
use Rattle.xdr_types.specs.Fits.{fit, parts, is_legal}
use Rattle.xdr_laws.proofs.Legal.{both, legal_is}
use Rattle.xdr_laws.specs.Laws.{FewAtOnePlace}
use Rattle.xdr_laws.proofs.GoesOn.{legal_known}
use Rattle.xdr_laws.proofs.Nodes.{IsFormed, Over, AreOver, IsClosed}
use Rattle.xdr_laws.proofs.Heights.{few_below}

one_less : ℕ → ℕ → ℕ
one_less a b = cond (nat_lt a b) 1 0

one_less_most : (a b : ℕ) → one_less a b ≤ 1
unfolding one_less
one_less_most a b = by_test (nat_lt a b)
  where
    by_test : (c : Bool) → cond c 1 0 ≤ 1
    by_test true = omega arith
    by_test false = omega arith

one_less_not : (a b : ℕ) → b ≤ a → one_less a b ≡ 0
unfolding one_less
one_less_not a b h = grind arith

one_less_is : (a b : ℕ) → a < b → one_less a b ≡ 1
unfolding one_less
one_less_is a b h = grind arith

one_less_mono : (a b c : ℕ) → b ≤ c → one_less a b ≤ one_less a c
one_less_mono a b c h = elim (cases_lt a b) [
  | inl less ↦ omega (arith, one_less_is a b less, one_less_is a c (omega arith))
  | inr more ↦ omega (arith, one_less_not a b more)
]

abbrev lower : (ℕ → ℕ) → ℕ → ℕ → ℕ
lower height t zero = 0
lower height t (suc i) = one_less (height i) (height t) + lower height t i

lower_most : (height : ℕ → ℕ) (t n : ℕ) → lower height t n ≤ n
lower_most height t zero = omega arith
lower_most height t (suc i) = omega (arith, one_less_most (height i) (height t), lower_most height t i)

lower_own : (height : ℕ → ℕ) (t n : ℕ) → t < n → lower height t n < n
lower_own height t zero h = absurd (omega arith)
lower_own height t (suc i) h =
    let inner : t < i → lower height t i < i = λ less. lower_own height t i less in
    elim (cases_lt t i) [
      | inl less ↦ omega (arith, one_less_most (height i) (height t), inner less)
      | inr more ↦
          (let same : i ≡ t = omega arith in
          omega (arith, one_less_not (height i) (height t) (omega (arith, ap height same)), lower_most height t i))
    ]

lower_mono : (height : ℕ → ℕ) (p t n : ℕ) → height p ≤ height t → lower height p n ≤ lower height t n
lower_mono height p t zero h = omega arith
lower_mono height p t (suc i) h = omega (
  arith,
  one_less_mono (height i) (height p) (height t) h,
  lower_mono height p t
      i h,
)

lower_less : (height : ℕ → ℕ) (p t n : ℕ) → height p < height t → p < n → lower height p n < lower height t n
lower_less height p t zero h l = absurd (omega arith)
lower_less height p t (suc i) h l =
    let inner : p < i → lower height p i < lower height t i = λ less. lower_less height p t i h less in
    elim (cases_lt p i) [
      | inl less ↦ omega (arith, one_less_mono (height i) (height p) (height t) (omega arith), inner less)
      | inr more ↦
          (let same : i ≡ p = omega arith in
          omega (
            arith,
            one_less_not (height i) (height p) (omega (arith, ap height same)),
            one_less_is (height i) (height t) (omega (arith, ap height same)),
            lower_mono height p t i (omega arith),
          ))
    ]

-- the number of lower places
rank : List KindView → (ℕ → ℕ) → ℕ → ℕ
rank s height t = cond (nat_lt t (length s)) (lower height t (length s)) 0

rank_in : (s : List KindView) (height : ℕ → ℕ) (t : ℕ) → t < length s → rank s height t ≡ lower height t (length s)
unfolding rank
rank_in s height t h = grind arith

rank_out : (s : List KindView) (height : ℕ → ℕ) (t : ℕ) → length s ≤ t → rank s height t ≡ 0
unfolding rank
rank_out s height t h = grind arith

rank_bound : (s : List KindView) (height : ℕ → ℕ) → 0 < length s → (t : ℕ) → rank s height t < length s
rank_bound s height some t = elim (cases_lt t (length s)) [
  | inl known ↦ omega (arith, rank_in s height t known, lower_own height t (length s) known)
  | inr unknown ↦ omega (arith, rank_out s height t unknown)
]

rank_less : (s : List KindView) (height : ℕ → ℕ) (p t : ℕ) → p < length s → t < length s → height p < height t
    → rank s height p < rank s height t
rank_less s height p t k l h = omega (
  arith,
  rank_in s height p k,
  rank_in s height t l,
  lower_less height p t
      (length s) h k,
)

rank_all : (s : List KindView) (height : ℕ → ℕ) (t : ℕ) → t < length s → (ts : List Part)
    → AllByRecursion (λ (p : Part). height p.kind < height t) ts → AllByRecursion (λ (p : Part). p.kind < length s) ts
    → AllByRecursion (λ (p : Part). rank s height p.kind < rank s height t) ts
rank_all s height t l [] a c = tt
rank_all s height t l (p ∷ ts) a c = (rank_less s height p.kind t c.0 l a.0, rank_all s height t l ts a.1 c.1)

rank_over : (s : List KindView) (height : ℕ → ℕ) (t : ℕ) → t < length s → (k : KindView)
    → Over (λ part. height part < height t) k → Over (λ part. part < length s) k
    → Over (λ part. rank s height part < rank s height t) k
rank_over s height t l (xdr.fixed item size) a c = rank_less s height item t c l a
rank_over s height t l (xdr.structure fields) a c = rank_all s height t l fields a c
rank_over s height t l _ a c = tt

ranks_higher : (s : List KindView) (height : ℕ → ℕ) → AreOver s height → IsClosed s → AreOver s (rank s height)
ranks_higher s height higher closed t = elim (cases_lt t (length s)) [
  | inl known ↦ rank_over s height t known (kind_at s t) (higher t) (closed t)
  | inr past ↦ subst (λ (k : KindView). Over (λ part. rank s height part < rank s height t) k)
      (sym (get_or_past s t xdr.unknown past)) tt
]

pub few_of : (s : List KindView) (height : ℕ → ℕ) → AreOver s height → IsClosed s → IsFormed s → FewAtOnePlace s
few_of s height higher closed formed t v p f =
    let known : t < length s = legal_known s t v.0
    (legal_is s (kind_at s t) v.0 (both (is_legal s (kind_at s t) v.0) (fit s (parts (kind_at s t) v.0) v.1) f).0)
    in
    few_below s (rank s height) (length s) (ranks_higher s height higher closed) (rank_bound s height (omega arith))
    formed t v p f
