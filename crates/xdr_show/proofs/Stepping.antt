-- One more level, digit, item or part.
use Rattle.std.proofs.Common.{◌≡◌, ℕ, ◌+◌, ◌-◌, ◌≤◌, List, [], ◌∷◌, ◌++◌, replicate, refl}
use Rattle.std.proofs.Common.{ap, sym, ◌∙◌, arith, append_assoc}
use Rattle.std.proofs.lemmas.List.{replicate-append-replicate}
use Rattle.hex.specs.Hex.{encode_lower, encode_with}
use Rattle.xdr_types.specs.Kinds.{KindView, Part}
use Rattle.xdr_types.specs.Tree.{Tree, Values, node, depth_of}
use Rattle.xdr_show.specs.Private.Lines.{lines, value_lines}

-- so many spaces, and then so many more
pub spaces-more : (m n : ℕ) → n ≤ m → ◌++◌ {A = ℕ} (replicate n 32) (replicate (m - n) 32) ≡ replicate m 32
spaces-more m n few =
    let all : n + (m - n) ≡ m = omega (arith, few) in
    replicate-append-replicate {A = ℕ} n (m - n) 32 ∙ ap (λ (k : ℕ). replicate {A = ℕ} k 32) all

-- bytes that join are joined in hexadecimal
pub encode-append : (xs ys : List ℕ) → encode_lower (xs ++ ys) ≡ encode_lower xs ++ encode_lower ys
unfolding encode_with
encode-append [] ys = refl
encode-append (x ∷ xs) ys =
    ap (λ (l : List ℕ). encode_lower (x ∷ []) ++ l) (encode-append xs ys)
    ∙ sym (append_assoc (encode_lower (x ∷ [])) (encode_lower xs) (encode_lower ys))

-- one more of the values is written
pub lines-step : (kinds : List KindView) (depth : ℕ) (p : Part) (ps qs : List Part) (t : Tree) (vs ws : Values)
    (out new all : List ℕ) → qs ≡ p ∷ ps → ws ≡ node t.0 t.1 vs
    → out ++ lines kinds depth qs ws ≡ all → new ≡ out ++ value_lines kinds depth p t
    → new ++ lines kinds depth ps vs ≡ all
lines-step kinds depth p ps qs t vs ws out new all qe we reported e =
    ap (λ (z : List ℕ). z ++ lines kinds depth ps vs) e
    ∙ append_assoc out (value_lines kinds depth p t) (lines kinds depth ps vs)
    ∙ ap (λ (z : Values). out ++ lines kinds depth (p ∷ ps) z) (sym we)
    ∙ ap (λ (z : List Part). out ++ lines kinds depth z ws) (sym qe) ∙ reported

-- the first of values lies as deep as they do, and so do the rest
pub deep-step : (most depth : ℕ) (t : Tree) (vs ws : Values) → ws ≡ node t.0 t.1 vs → depth + depth_of ws ≤ most + 1
    → (depth + depth_of t.1 ≤ most) × (depth + depth_of vs ≤ most + 1)
deep-step most depth t vs ws we h = let e = ap depth_of we in (omega (arith, e), omega (arith, e))
