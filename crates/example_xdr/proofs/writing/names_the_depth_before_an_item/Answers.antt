use Rattle.std.proofs.Common.{◌≡◌, ◌%◌, ℕ, List, [], ap, ◌∙◌}
use Rattle.xdr_types.specs.Kinds.{KindView, Lists}
use Rattle.xdr_types.specs.Within.{Bounds}
use Rattle.xdr_types.specs.declared.kind.KindId.{KindId}
use Rattle.xdr_writer.specs.Items.{item_view}
use Rattle.xdr_writer.specs.Represents.{kinds_of, kind_of}
use Rattle.xdr_writer.specs.Answers.{Refuses}
use Rattle.example_xdr.specs.Pair.{pair_kinds}
use Rattle.example_xdr.proofs.Putting.{moved, of_error}
use Rattle.example_xdr.proofs.Depth.{names_depth, none_taken, is_error, on_error}
use Rattle.example_xdr.proofs.writing.names_the_depth_before_an_item.Goals as goal

pub returns-clause-refused : goal.returns-clause-refused
returns-clause-refused c =
    let w = c.start-writer.result in
    let set = c.start-writer.ensures.settings in
    let is : kinds_of w ≡ pair_kinds = ap (λ (x : Lists). x.kinds) set.checker.schema_is ∙ c.requires.kinds in
    let at : kind_of w ≡ 2 = ap (λ (k : KindId). k.place) set.checker.kind_is in
    let one : w.limits.depth ≡ 1 = ap (λ (x : Bounds). x.depth) set.limits_are ∙ c.requires.shallow in
    let units : w.limits.bytes % 4 ≡ 0 =
    ap (λ (x : Bounds). x.bytes % 4) set.limits_are ∙ c.depth-in_range.ensures.range.units in
    is_error c.put.result
    (none_taken w _ is at one units c.start-writer.ensures.represents _ _ _ c.put.result c.put.ensures.took)

pub returns-clause-retained : goal.returns-clause-retained
returns-clause-retained c =
    let w = c.start-writer.result in
    let set = c.start-writer.ensures.settings in
    let is : kinds_of w ≡ pair_kinds = ap (λ (x : Lists). x.kinds) set.checker.schema_is ∙ c.requires.kinds in
    let at : kind_of w ≡ 2 = ap (λ (k : KindId). k.place) set.checker.kind_is in
    let one : w.limits.depth ≡ 1 = ap (λ (x : Bounds). x.depth) set.limits_are ∙ c.requires.shallow in
    let units : w.limits.bytes % 4 ≡ 0 =
    ap (λ (x : Bounds). x.bytes % 4) set.limits_are ∙ c.depth-in_range.ensures.range.units in
    on_error c.put.result _
    (none_taken w _ is at one units c.start-writer.ensures.represents _ _ _ c.put.result c.put.ensures.took)
    c.put.ensures.refuses.retained

pub returns-clause-depth : goal.returns-clause-depth
returns-clause-depth c =
    let w = c.start-writer.result in
    let set = c.start-writer.ensures.settings in
    let is : kinds_of w ≡ pair_kinds = ap (λ (x : Lists). x.kinds) set.checker.schema_is ∙ c.requires.kinds in
    let at : kind_of w ≡ 2 = ap (λ (k : KindId). k.place) set.checker.kind_is in
    let one : w.limits.depth ≡ 1 = ap (λ (x : Bounds). x.depth) set.limits_are ∙ c.requires.shallow in
    let units : w.limits.bytes % 4 ≡ 0 =
    ap (λ (x : Bounds). x.bytes % 4) set.limits_are ∙ c.depth-in_range.ensures.range.units in
    of_error c.put.result _ _
    (λ f refuses known. names_depth w.limits one units (item_view c.args.item) f.why
    (moved (λ (k : List KindView) (n : ℕ). Refuses k n w.limits [] (item_view c.args.item) f.why) (kinds_of w)
    (kind_of w) is at (refuses [] c.start-writer.ensures.represents).0) known) c.put.ensures.refuses.refuses
