-- The items are those of the pair, and so are the bytes.
use Rattle.std.proofs.Common.{◌≡◌, ℕ, List, [], ◌∷◌, ◌++◌}
use Rattle.xdr_writer.specs.Items.{ItemView}
use Rattle.xdr_filling.specs.Filled.{HasFilled, spelled_bytes}
use Rattle.example_values.specs.Pair.{pair_kinds}
use Rattle.example_values.proofs.Two.{pair_is, three, abc}
use Rattle.example_values.proofs.filling.fills_a_pair.Goals as goal

pub returns-then-branch : goal.returns-then-branch
returns-then-branch c =
    let k : c.take-2.new.self.schema.now.kinds ≡ pair_kinds = (cc) in
    let most : ℕ = c.args.limits.depth in
    let x : List ℕ = spelled_bytes c.in-Some.first in
    let y : List ℕ = spelled_bytes c.in-Some-2.second in
    let one : (place depth : ℕ) (is : List ItemView) (bytes : List ℕ)
    → HasFilled c.start-filling.result place depth is bytes
    → HasFilled c.take.new.self place depth (is ++ three ∷ []) (bytes ++ x) =
    rw c.in-Some.is at c.in_ok-first.ensures.filled in
    let two : (place depth : ℕ) (is : List ItemView) (bytes : List ℕ)
    → HasFilled c.take.new.self place depth is bytes
    → HasFilled c.take-2.new.self place depth (is ++ abc ∷ []) (bytes ++ y) =
    rw c.in-Some-2.is at c.in_ok-second.ensures.filled in
    pair_is c.take-2.new.self.schema.now.kinds most (x ++ y) k (c.items_tell_value.ensures pair_kinds)
    (c.in_ok-is_whole.ensures.whole c.if-branch.true 2 most (three ∷ abc ∷ []) (x ++ y)
    (two 2 most (three ∷ []) x (one 2 most [] [] c.start-filling.ensures.filled)))
