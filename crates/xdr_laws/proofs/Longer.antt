-- An outcome other than pending stays for longer inputs.
use Rattle.std.proofs.Common.{◌≡◌, ℕ, ◌+◌, ◌%◌, ◌<◌, ◌≤◌, List, ◌++◌, length, take, drop, sym, ap, subst, ◌∙◌, arith}
use Rattle.std.specs.Int.{w32, from_be_bytes}
use Rattle.std.proofs.lemmas.List.{take-append-le, drop-append-le, length-append, length-drop}
use Rattle.xdr_types.specs.Kinds.{KindView}
use Rattle.xdr_types.specs.Tree.{Tree}
use Rattle.xdr_types.specs.Within.{Bounds}
use Rattle.xdr_types.specs.Front.{Front}
use Rattle.xdr_types.specs.Outcome.{Why, Ending, Pending, Whole, TooDeep, TooLarge, Broken, IsEvent, IsDeep, IsQuiet}
use Rattle.xdr_types.specs.Outcome.{IsReached, IsFull, IsBad, IsReason, Outcome}

pub quiet_longer : (s : List KindView) (t : ℕ) (l : Bounds) (q x : List ℕ) (r : ℕ) → r + 4 ≤ length q
    → IsQuiet s t l q r
    → IsQuiet s t l (q ++ x) r
quiet_longer s t l q x r short h =
    let same : take r (q ++ x) ≡ take r q = take-append-le r q x (omega arith) in
    let same4 : take (r + 4) (q ++ x) ≡ take (r + 4) q = take-append-le (r + 4) q x short in
    record {
      shallow = λ d. h.shallow (subst (λ (b : List ℕ). IsDeep s t l b) same d);
      unfinished = λ v f. h.unfinished v (record { fits = f.fits; spelled = f.spelled ∙ same });
      small = h.small;
      front = λ n. subst (λ (b : List ℕ). Front s t b) (sym same4) (h.front short);
    }

pub unit_apart : (r n : ℕ) → r % 4 ≡ 0 → n % 4 ≡ 0 → r < n → r + 4 ≤ n
unit_apart r n a b h = omega arith

module _ (s : List KindView) (t : ℕ) (l : Bounds) (b x : List ℕ) (p : ℕ) where
  reached_longer : IsReached s t l b p → IsReached s t l (b ++ x) p
  reached_longer r = record {
    units = r.units;
    within = omega (arith, r.within, length-append b x);
    before = λ n h m. quiet_longer s t l b x n (omega (arith, r.within, unit_apart n p m r.units h)) (r.before n h m);
  }

  same_front : p ≤ length b → take p (b ++ x) ≡ take p b
  same_front h = take-append-le p b x h

  not_deep_longer : p ≤ length b → (IsDeep s t l (take p b) → ⊥) → IsDeep s t l (take p (b ++ x)) → ⊥
  not_deep_longer h n d = n (subst (λ (q : List ℕ). IsDeep s t l q) (same_front h) d)

  full_longer : (v : Tree) → p ≤ length b → IsFull s t b p v → IsFull s t (b ++ x) p v
  full_longer v h f = record { fits = f.fits; spelled = f.spelled ∙ sym (same_front h) }

  full_shorter : (v : Tree) → p ≤ length b → IsFull s t (b ++ x) p v → IsFull s t b p v
  full_shorter v h f = record { fits = f.fits; spelled = f.spelled ∙ same_front h }

bad_longer : (s : List KindView) (t : ℕ) (b x : List ℕ) (p : ℕ) (why : Why) → IsBad s t b p why
    → IsBad s t (b ++ x) p why
bad_longer s t b x p why bad =
    let short : p ≤ length b = omega (arith, bad.enough) in
    let unit : take 4 (drop p (b ++ x)) ≡ take 4 (drop p b) =
    ap (λ (y : List ℕ). take 4 y) (drop-append-le p b x short)
    ∙ take-append-le 4 (drop p b) x (omega (arith, bad.enough, length-drop p b)) in
    record {
      enough = omega (arith, bad.enough, length-append b x);
      no_front = λ f. bad.no_front (subst (λ (q : List ℕ). Front s t q) (take-append-le (p + 4) b x bad.enough) f);
      reason = subst (λ (q : List ℕ). IsReason s t q (from_be_bytes w32 (take 4 (drop p (b ++ x)))) why)
          (sym (take-append-le p b x short))
          (subst (λ (u : List ℕ). IsReason s t (take p b) (from_be_bytes w32 u) why) (sym unit) bad.reason);
    }

pub stays : (s : List KindView) (t : ℕ) (l : Bounds) (b x : List ℕ) (e : Ending) → IsEvent e → Outcome s t l b e
    → Outcome s t l (b ++ x) e
stays s t l b x Pending i o = absurd i
stays s t l b x (Whole v p) i o = (
  reached_longer s t l b x p o.0,
  not_deep_longer s t l b x p o.0.within o.1,
  full_longer s t l b x p v o.0.within o.2,
)
stays s t l b x (TooDeep p) i o = (
  reached_longer s t l b x p o.0,
  subst (λ (q : List ℕ). IsDeep s t l q)
      (sym (same_front s t l b x p o.0.within)) o.1,
)
stays s t l b x (TooLarge p) i o = (
  reached_longer s t l b x p o.0,
  not_deep_longer s t l b x p o.0.within o.1,
  (λ v f. o.2 v (full_shorter s t l b x p v o.0.within f)),
  o.3,
)
stays s t l b x (Broken why p) i o =
    let h : p ≤ length b = o.0.within in (
      reached_longer s t l b x p o.0,
      not_deep_longer s t l b x p h o.1,
      (λ v f. o.2 v (full_shorter s t l b x p v h f)),
      o.3,
      bad_longer s t b x p why o.4,
    )
