-- What is written of a list's node.
use Rattle.std.proofs.Common.{◌≡◌, ℕ, ◌<◌, ◌≤◌, List, [], ◌∷◌, ◌++◌, length, get_or, refl, ap, sym, ◌∙◌}
use Rattle.std.proofs.Common.{arith}
use Rattle.std.proofs.Common.{append_assoc, append-nil, Vec, Global, Result, Ok, Err, IfOk, OnOk, ◌⊎◌, inl, inr}
use Rattle.std.proofs.lemmas.List.{drop_all}
use Rattle.xdr_types.specs.Tree as value
use Rattle.xdr_types.specs.Tree.{Tree, Values}
use Rattle.xdr_types.specs.View.{tree, values}
use Rattle.xdr_types.specs.declared.value.Value as Value'
use Rattle.xdr_types.specs.declared.value.Value.{Value}
use Rattle.xdr_types.proofs.Joining.{values-at}
use Rattle.xdr_types.proofs.Views.{tree-Group}
use Rattle.oncrpc_service.specs.Private.Nodes.{item_line, list_lines, node_lines}

pub on_ok : {A E P Q : Type 0} (r : Result A E) → (P → Q) → OnOk r P → OnOk r Q
on_ok (Ok v) f p = f p
on_ok (Err e) f p = tt

pub if_ok : {A E : Type 0} {P Q : A → Type 0} (r : Result A E) → ((x : A) → P x → Q x) → IfOk r P → IfOk r Q
if_ok (Ok v) f p = f v p
if_ok (Err e) f p = tt

-- two additions are one
pub then_more : (out mid new xs ys all : List ℕ) → all ≡ xs ++ ys → mid ≡ out ++ xs → new ≡ mid ++ ys
    → new ≡ out ++ all
then_more out mid new xs ys all e f g =
    g ∙ ap (λ (z : List ℕ). z ++ ys) f ∙ append_assoc out xs ys ∙ ap (λ (z : List ℕ). out ++ z) (sym e)

two_values : (vs : List Value) (a b : Value) → 2 ≤ length vs → length vs < 3 → a ≡ get_or vs 0 a → b ≡ get_or vs 1 b
    → values vs ≡ value.node (tree a).0 (tree a).1 (value.node (tree b).0 (tree b).1 value.none)
two_values vs a b least most first second =
    values-at vs 0 a (omega arith) first
    ∙ ap (λ (z : Values). value.node (tree a).0 (tree a).1 z) (values-at vs 1 b (omega arith) second
    ∙ ap (λ (z : List Value). value.node (tree b).0 (tree b).1 (values z)) (drop_all 2 vs (omega arith)))

-- a node of a row and the rest of the list
pub pair_lines : (n : Value) (v : Vec Value Global) (a b : Value) → n ≡ Value'.Group v → 2 ≤ length v.items
    → length v.items < 3 → a ≡ get_or v.items 0 a → b ≡ get_or v.items 1 b
    → node_lines (tree n) ≡ item_line (tree a).0 (tree a).1 ++ list_lines (tree b).0 (tree b).1
pair_lines n v a b is least most first second =
    ap (λ (t : Tree). node_lines t) (ap tree is ∙ tree-Group v
    ∙ ap (λ (vs : Values). (value.fields, vs)) (two_values v.items a b least most first second))

no_pair : (vs : List Value) → (length vs < 2) ⊎ (2 < length vs) → node_lines (value.fields, values vs) ≡ []
no_pair [] h = refl
no_pair (a ∷ []) h = refl
no_pair (a ∷ b ∷ []) (inl h) = absurd (omega (arith, h))
no_pair (a ∷ b ∷ []) (inr h) = absurd (omega (arith, h))
no_pair (a ∷ b ∷ c ∷ vs) h = refl

-- a node that is none of a list
pub other_lines : (n : Value) (v : Vec Value Global) → n ≡ Value'.Group v → (length v.items < 2) ⊎ (2 < length v.items)
    → node_lines (tree n) ≡ []
other_lines n v is h = ap (λ (t : Tree). node_lines t) (ap tree is ∙ tree-Group v) ∙ no_pair v.items h

pub unchanged : (out all : List ℕ) → all ≡ [] → out ≡ out ++ all
unchanged out all e = sym (append-nil out) ∙ ap (λ (z : List ℕ). out ++ z) (sym e)
