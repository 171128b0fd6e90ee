-- Some of a record, of which no whole one begins it.
use Rattle.std.proofs.Common.{◌≡◌, ℕ, suc, ◌+◌, ◌^◌, ◌<◌, ◌≤◌, Bool, true, false, List, [], ◌∷◌, ◌++◌, length, All, sym}
use Rattle.std.proofs.Common.{ap, ◌∙◌, append_assoc, length-append, arith}
use Rattle.std.specs.List.{flat_map, concat}
use Rattle.rpc_record.specs.Marked.{header, fragment, IsContent, IsUnfinished, Longest, Stream, Within}
use Rattle.rpc_record.proofs.Longest.{one_reading, header-same, fragment-same, true_false}
use Rattle.rpc_record.proofs.Headers.{length-header}

-- no fragment begins the tail whose content has space behind so many bytes
abbrev pub HasNoFragment : ℕ → ℕ → List ℕ → Type 0
HasNoFragment limit used tail = (l : Bool) (c z : List ℕ) → IsContent c → used + length c ≤ limit
    → tail ≡ fragment l c ++ z → ⊥

no_marked : (limit used : ℕ) (firsts gs : List (List ℕ)) (d tail z : List ℕ) → All IsContent firsts → All IsContent gs
    → IsContent d
    → HasNoFragment limit (used + length (concat firsts)) tail → used + length (concat gs ++ d) ≤ limit
    → flat_map (fragment false) firsts ++ tail ≡ flat_map (fragment false) gs ++ (fragment true d ++ z) → ⊥
no_marked limit used [] [] d tail z p q i n h e = n true d z i (omega arith) e
no_marked limit used [] (g ∷ gs) d tail z p q i n h e =
    n false g (flat_map (fragment false) gs ++ (fragment true d ++ z)) (q 0 [] (omega arith))
    (omega (arith, h, length-append (g ++ concat gs) d, length-append g (concat gs)))
    (e ∙ append_assoc (fragment false g) _ _)
no_marked limit used (f ∷ fs) [] d tail z p q i n h e =
    let s = fragment-same false true f d (flat_map (fragment false) fs ++ tail) z (p 0 [] (omega arith)) i
    (sym (append_assoc (fragment false f) _ _) ∙ e) in
    true_false (sym s.0)
no_marked limit used (f ∷ fs) (g ∷ gs) d tail z p q i n h e =
    let s = fragment-same false false f g _ _ (p 0 [] (omega arith)) (q 0 [] (omega arith))
    (sym (append_assoc (fragment false f) _ _) ∙ e ∙ append_assoc (fragment false g) _ _) in
    let same : length f ≡ length g = ap length s.1 in
    let space : used + length f + length (concat gs ++ d) ≤ limit = omega
    (arith, h, same, length-append (g ++ concat gs) d, length-append g (concat gs), length-append (concat gs) d) in
    let rest : HasNoFragment limit (used + length f + length (concat fs)) tail = λ l c y k b t. n l c y k
    (omega (arith, b, length-append f (concat fs))) t in
    no_marked limit (used + length f) fs gs d tail z (λ k a lt. p (suc k) a (omega arith))
    (λ k a lt. q (suc k) a (omega arith)) i rest space s.2

pub IsUnfinished-fragments : (limit : ℕ) (firsts : List (List ℕ)) (tail : List ℕ) → All IsContent firsts
    → HasNoFragment limit (length (concat firsts)) tail → IsUnfinished limit (flat_map (fragment false) firsts ++ tail)
IsUnfinished-fragments limit firsts tail p n r front back m b e =
    let rest : HasNoFragment limit (0 + length (concat firsts)) tail = λ l c y k a t. n l c y k (omega arith) t in
    let space : 0 + length (concat m.firsts ++ m.last) ≤ limit = omega (arith, b, ap length m.content) in
    no_marked limit 0 firsts m.firsts m.last tail back p m.each m.each_last rest space
    (e ∙ ap (λ k. k ++ back) m.spelled ∙ append_assoc (flat_map (fragment false) m.firsts) (fragment true m.last) back)

-- less than a header
pub HasNoFragment-short : (limit used : ℕ) (tail : List ℕ) → length tail < 4 → HasNoFragment limit used tail
HasNoFragment-short limit used tail h l c z k b e =
    omega (
      arith,
      ap length e,
      length-append (header l (length c) ++ c) z,
      length-append (header l (length c)) c,
      length-header l (length c),
      h,
    )

-- less than a fragment
pub HasNoFragment-part : (limit used left : ℕ) (last : Bool) (part : List ℕ) → 0 < left → length part + left < 2 ^ 31
    → HasNoFragment limit used (header last (length part + left) ++ part)
HasNoFragment-part limit used left last part some h l c z k b e =
    let s = header-same last l (length part + left) (length c) part (c ++ z) h k
    (e ∙ append_assoc (header l (length c)) c z) in
    omega (arith, s.1, ap length s.2, length-append c z, some)

-- more than the limit
pub HasNoFragment-long : (limit used count : ℕ) (last : Bool) (more : List ℕ) → count < 2 ^ 31 → limit < used + count
    → HasNoFragment limit used (header last count ++ more)
HasNoFragment-long limit used count last more h passes l c z k b e =
    let s = header-same last l count (length c) more (c ++ z) h k (e ∙ append_assoc (header l (length c)) c z) in
    omega (arith, s.1, passes, b)

pub Longest-from : (limit : ℕ) (rs : List (List ℕ)) (bytes whole part : List ℕ) → Stream rs whole → Within limit rs
    → IsUnfinished limit part → bytes ≡ whole ++ part → Longest limit rs bytes
Longest-from limit rs bytes whole part s w u e = record {
  whole = whole;
  part = part;
  stream = s;
  within = w;
  spelled = e;
  only = λ others front back v t k. one_reading limit rs whole part s u others front back v t (sym e ∙ k);
}
