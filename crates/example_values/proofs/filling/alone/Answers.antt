-- The item fills all.
use Rattle.std.proofs.Common.{◌≡◌, ℕ, List, [], ◌∷◌, ◌++◌, subst}
use Rattle.xdr_types.specs.Kinds.{KindView}
use Rattle.xdr_writer.specs.Items.{ItemView, item_view}
use Rattle.xdr_filling.specs.Filled.{HasFilled, IsValue, spelled_bytes}
use Rattle.example_values.proofs.filling.alone.Goals as goal

pub returns-then-branch : goal.returns-then-branch
returns-then-branch c =
    let k : c.take.new.self.schema.now.kinds ≡ c.args.schema.now.kinds = (cc) in
    let i : ItemView = item_view c.args.item in
    let more : List ℕ = spelled_bytes c.in-Some.spelled in
    let fills : (place depth : ℕ) (is : List ItemView) (bytes : List ℕ)
    → HasFilled c.start-filling.result place depth is bytes
    → HasFilled c.take.new.self place depth (is ++ i ∷ []) (bytes ++ more) =
    rw c.in-Some.is at c.in_ok-spelled.ensures.filled in
    subst (λ (s : List KindView). IsValue s c.args.kind.place c.args.limits.depth (i ∷ []) more) k
    (c.in_ok-is_whole.ensures.whole c.if-branch.true c.args.kind.place c.args.limits.depth (i ∷ []) more
    (fills c.args.kind.place c.args.limits.depth [] [] c.start-filling.ensures.filled))
