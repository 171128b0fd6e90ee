-- The first item is not all of them.
use Rattle.std.proofs.Common.{◌≡◌, ℕ, List, [], ◌∷◌, ◌++◌}
use Rattle.xdr_types.specs.Kinds.{KindView}
use Rattle.xdr_writer.specs.Items.{ItemView}
use Rattle.xdr_filling.specs.Filled.{HasFilled, IsValue, spelled_bytes}
use Rattle.example_values.specs.Pair.{pair_kinds}
use Rattle.example_values.proofs.Single.{off}
use Rattle.example_values.proofs.Two.{not_early, three}
use Rattle.example_values.proofs.filling.is_not_whole_one_item_early.Goals as goal

pub returns : goal.returns
returns c =
    let f = c.take.new.self in
    let kinds : List KindView = f.schema.now.kinds in
    let k : kinds ≡ pair_kinds = (cc) in
    let most : ℕ = c.args.limits.depth in
    let x : List ℕ = spelled_bytes c.in-Some._first in
    let one : (place depth : ℕ) (is : List ItemView) (bytes : List ℕ)
    → HasFilled c.start-filling.result place depth is bytes → HasFilled f place depth (is ++ three ∷ []) (bytes ++ x) =
    rw c.in-Some.is at c.in_ok-_first.ensures.filled in
    off c.is_whole.result ((place depth : ℕ) (is : List ItemView) (b : List ℕ) → HasFilled f place depth is b
    → IsValue kinds place depth is b)
    (λ p. not_early kinds most x k (p 2 most (three ∷ []) x (one 2 most [] [] c.start-filling.ensures.filled)))
    c.is_whole.ensures.whole
