use Rattle.std.proofs.Common.{◌≡◌, ℕ, List, [], ap, ◌∙◌}
use Rattle.xdr_types.specs.Kinds.{KindView, Lists}
use Rattle.xdr_types.specs.declared.kind.KindId.{KindId}
use Rattle.xdr_writer.specs.Represents.{Begin, kinds_of, kind_of}
use Rattle.xdr_writer.specs.Answers.{Takes}
use Rattle.example_xdr.specs.Pair.{pair_kinds}
use Rattle.example_xdr.proofs.Putting.{one_item, both, moved, first_more, second_done, pair_written}
use Rattle.example_xdr.proofs.writing.writes_a_pair.Goals as goal

pub returns-clause-steps : goal.returns-clause-steps
returns-clause-steps c =
    let w = c.start-writer.result in
    let set = c.start-writer.ensures.settings.checker in
    let is : kinds_of w ≡ pair_kinds = ap (λ (x : Lists). x.kinds) set.schema_is ∙ c.requires in
    let at : kind_of w ≡ 2 = ap (λ (k : KindId). k.place) set.kind_is in
    let v = c.put.new.self in
    let same = c.put.ensures.stays.same.checker in
    let is2 : kinds_of v ≡ pair_kinds = ap (λ (x : Lists). x.kinds) same.schema_is ∙ is in
    let at2 : kind_of v ≡ 2 = ap (λ (k : KindId). k.place) same.kind_is ∙ at in
    let t = c.in_ok-first.ensures.took [] c.start-writer.ensures.represents in
    let u = c.in_ok-second.ensures.took (one_item t.kind) t.represents in (
      first_more w.limits t.kind c.in_ok-first.first
          (moved (λ (k : List KindView) (n : ℕ). Begin k n (one_item t.kind)) (kinds_of v) (kind_of v) is2 at2
          t.represents.begin)
          (moved (λ (k : List KindView) (n : ℕ). Takes k n w.limits (one_item t.kind) c.in_ok-first.first) (kinds_of w)
          (kind_of w) is at t.takes),
      second_done v.limits t.kind u.kind c.in_ok-second.second
          (moved (λ (k : List KindView) (n : ℕ). Takes k n v.limits (both t.kind u.kind) c.in_ok-second.second)
          (kinds_of v) (kind_of v) is2 at2 u.takes),
    )

pub returns-clause-bytes : goal.returns-clause-bytes
returns-clause-bytes c =
    let w = c.start-writer.result in
    let set = c.start-writer.ensures.settings.checker in
    let v = c.put.new.self in
    let x = c.put-2.new.self in
    let same = c.put.ensures.stays.same.checker in
    let same2 = c.put-2.ensures.stays.same.checker in
    let schema = same2.schema_is ∙ same.schema_is ∙ set.schema_is in
    let is : kinds_of x ≡ pair_kinds = ap (λ (x : Lists). x.kinds) schema ∙ c.requires in
    let at : kind_of x ≡ 2 = ap (λ (k : KindId). k.place) (same2.kind_is ∙ same.kind_is ∙ set.kind_is) in
    let t = c.in_ok-first.ensures.took [] c.start-writer.ensures.represents in
    let u = c.in_ok-second.ensures.took (one_item t.kind) t.represents in
    pair_written c.new-out.result.items c.put.new.out.items c.put-2.new.out.items t.kind u.kind c.new-out.ensures.items
    t.bytes u.bytes
    (moved (λ (k : List KindView) (n : ℕ). Begin k n (both t.kind u.kind)) (kinds_of x) (kind_of x) is at
    u.represents.begin)
