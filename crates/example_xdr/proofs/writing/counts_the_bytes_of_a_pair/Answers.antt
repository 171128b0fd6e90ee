use Rattle.std.proofs.Common.{◌≡◌, ℕ, List, [], ap, ◌∙◌}
use Rattle.xdr_types.specs.Kinds.{KindView, Lists}
use Rattle.xdr_types.specs.declared.kind.KindId.{KindId}
use Rattle.xdr_writer.specs.Represents.{Begin, kinds_of, kind_of}
use Rattle.example_xdr.specs.Pair.{pair_kinds}
use Rattle.example_xdr.proofs.Putting.{one_item, both, moved, on_ok, both_count}
use Rattle.example_xdr.proofs.writing.counts_the_bytes_of_a_pair.Goals as goal

pub returns : goal.returns
returns c =
    let set = c.start-writer.ensures.settings.checker in
    let x = c.put-2.new.self in
    let same = c.put.ensures.stays.same.checker in
    let same2 = c.put-2.ensures.stays.same.checker in
    let schema = same2.schema_is ∙ same.schema_is ∙ set.schema_is in
    let is : kinds_of x ≡ pair_kinds = ap (λ (x : Lists). x.kinds) schema ∙ c.requires in
    let at : kind_of x ≡ 2 = ap (λ (k : KindId). k.place) (same2.kind_is ∙ same.kind_is ∙ set.kind_is) in
    let t = c.in_ok-put.ensures.took [] c.start-writer.ensures.represents in
    let u = c.in_ok-put-2.ensures.took (one_item t.kind) t.represents in
    on_ok c.finish.result _ _
    (λ n whole. (whole (both t.kind u.kind) u.represents).1
    ∙ both_count t.kind u.kind (moved (λ (k : List KindView) (n : ℕ). Begin k n (both t.kind u.kind)) (kinds_of x)
    (kind_of x) is at u.represents.begin)) c.finish.ensures.whole
