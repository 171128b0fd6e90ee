-- The two lists that are dumped, made from the last row on.
use Rattle.std.proofs.Common.{◌≡◌, ℕ, suc, List, [], ◌∷◌, drop, slice_get, ap, sym, ◌∙◌, Option, Some, None, is_some}
use Rattle.std.proofs.Common.{true≢false}
use Rattle.xdr_types.specs.Tree.{Tree}
use Rattle.registry_rows.specs.Rows.{Row}
use Rattle.registry_dumps.specs.Dumps.{given, group, rpcb_tree}
use Rattle.rpc_directory.proofs.Steps.{rpcb_more, mapping_more, mapping_less}
use Rattle.rpc_directory.specs.Private.Listings.{item_of, list_of}
use Rattle.rpc_directory.specs.declared.dumps.Listing.{Listing}
use Rattle.rpc_directory.specs.declared.dumps.Listing.TheVariants.{Rpcbs, Mappings}

-- One more item at the front.
pub list_more : (k : Listing) (rs : List Row) (i left : ℕ) (r : Row) (m rest : Tree) → left ≡ suc i
    → slice_get rs i ≡ Some r → Some m ≡ item_of k r → rest ≡ list_of k (drop left rs)
    → given (group (m ∷ rest ∷ [])) ≡ list_of k (drop i rs)
list_more Rpcbs rs i left r m rest n at has e =
    let same : m ≡ rpcb_tree r = ap value has in
    ap (λ t. given (group (t ∷ rest ∷ []))) same ∙ rpcb_more rs i left r rest n at e
  where
    value : Option Tree → Tree
    value None = m
    value (Some t) = t
list_more Mappings rs i left r m rest n at has e = mapping_more rs i left r m rest n at has e

-- A row without an item adds nothing.
pub list_less : (k : Listing) (rs : List Row) (i left : ℕ) (r : Row) (rest : Tree) → left ≡ suc i
    → slice_get rs i ≡ Some r → None ≡ item_of k r → rest ≡ list_of k (drop left rs) → rest ≡ list_of k (drop i rs)
list_less Rpcbs rs i left r rest n at has e = absurd (true≢false (sym (ap is_some has)))
list_less Mappings rs i left r rest n at has e = mapping_less rs i left r rest n at has e
