-- A dump is made from the back, row by row.
use Rattle.std.proofs.Common.{◌≡◌, ℕ, ◌≤◌, zero, suc, List, [], ◌∷◌, length, drop, slice_get, filter_map, ap, sym, ◌∙◌}
use Rattle.std.proofs.Common.{arith, Option, Some, None, is_some, true≢false}
use Rattle.std.specs.List.{cons_option}
use Rattle.xdr_types.specs.Tree.{Tree}
use Rattle.registry_rows.specs.Rows.{Row}
use Rattle.registry_dumps.specs.Dumps.{linked, given, group, rpcb_tree, rpcb_list, mapping_row, mapping_list}

drop_at : (rs : List Row) (i : ℕ) (r : Row) → slice_get rs i ≡ Some r → drop i rs ≡ r ∷ drop (suc i) rs
drop_at [] i r e = absurd (true≢false (sym (ap is_some e)))
drop_at (x ∷ xs) zero r e = ap (λ o. from o ∷ xs) e
  where
    from : Option Row → Row
    from None = x
    from (Some y) = y
drop_at (x ∷ xs) (suc i) r e = drop_at xs i r e

pub none_past : (rs : List Row) (i : ℕ) → slice_get rs i ≡ None → length rs ≤ i
none_past [] i e = omega arith
none_past (x ∷ xs) zero e = absurd (true≢false (ap is_some e))
none_past (x ∷ xs) (suc i) e = let h : length xs ≤ i = none_past xs i e in omega (arith, h)

-- One more row at the front.
pub rpcb_more : (rs : List Row) (i left : ℕ) (r : Row) (rest : Tree) → left ≡ suc i → slice_get rs i ≡ Some r
    → rest ≡ rpcb_list (drop left rs)
    → given (group (rpcb_tree r ∷ rest ∷ [])) ≡ rpcb_list (drop i rs)
rpcb_more rs i left r rest n at e =
    ap (λ t. given (group (rpcb_tree r ∷ t ∷ []))) (e ∙ ap (λ (k : ℕ). rpcb_list (drop k rs)) n)
    ∙ sym (ap rpcb_list (drop_at rs i r at))

-- One more mapping at the front.
pub mapping_more : (rs : List Row) (i left : ℕ) (r : Row) (m rest : Tree) → left ≡ suc i → slice_get rs i ≡ Some r
    → Some m ≡ mapping_row r → rest ≡ mapping_list (drop left rs)
    → given (group (m ∷ rest ∷ [])) ≡ mapping_list (drop i rs)
mapping_more rs i left r m rest n at has e =
    ap (λ t. given (group (m ∷ t ∷ []))) (e ∙ ap (λ (k : ℕ). mapping_list (drop k rs)) n)
    ∙ ap (λ (o : Option Tree). linked (cons_option o (filter_map mapping_row (drop (suc i) rs)))) has
    ∙ sym (ap mapping_list (drop_at rs i r at))

-- A row without a mapping adds nothing.
pub mapping_less : (rs : List Row) (i left : ℕ) (r : Row) (rest : Tree) → left ≡ suc i → slice_get rs i ≡ Some r
    → None ≡ mapping_row r → rest ≡ mapping_list (drop left rs)
    → rest ≡ mapping_list (drop i rs)
mapping_less rs i left r rest n at has e =
    (e ∙ ap (λ (k : ℕ). mapping_list (drop k rs)) n)
    ∙ ap (λ (o : Option Tree). linked (cons_option o (filter_map mapping_row (drop (suc i) rs)))) has
    ∙ sym (ap mapping_list (drop_at rs i r at))
