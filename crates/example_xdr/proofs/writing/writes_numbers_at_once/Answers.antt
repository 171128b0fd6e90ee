use Rattle.std.proofs.Common.{◌≡◌, ◌++◌, ℕ, List, [], ap, subst, ◌∙◌}
use Rattle.std.specs.Prelude.{Some, IfSome}
use Rattle.xdr_types.specs.Kinds.{KindView, Lists}
use Rattle.xdr_types.specs.declared.kind.KindId.{KindId}
use Rattle.xdr_writer.specs.Represents.{Begin, kinds_of, kind_of}
use Rattle.xdr_writer.specs.Answers.{Takes}
use Rattle.example_xdr.specs.Counted.{array_kinds}
use Rattle.example_xdr.proofs.AtOnce.{counted, last_done, all_written, moved_array}
use Rattle.example_xdr.proofs.writing.writes_numbers_at_once.Goals as goal

pub returns-clause-step : goal.returns-clause-step
returns-clause-step c =
    let v = c.put.new.self in
    let set = c.start-writer.ensures.settings.checker in
    let same = c.put.ensures.stays.same.checker in
    let is : kinds_of v ≡ array_kinds = ap (λ (x : Lists). x.kinds) (same.schema_is ∙ set.schema_is) ∙ c.requires in
    let at : kind_of v ≡ 1 = ap (λ (k : KindId). k.place) (same.kind_is ∙ set.kind_is) in
    let t = c.in_ok-put.ensures.took [] c.start-writer.ensures.represents in
    let a = c.in_ok-step.ensures.took (counted t.kind) t.represents in
    last_done t.kind a.more a.numbers v.limits c.in_ok-step.step a.none
    (λ s e. moved_array (λ (k : List KindView) (n : ℕ). Takes k n v.limits (counted t.kind ++ a.more) s) (kinds_of v)
    (kind_of v) is at (subst (λ (o : _). IfSome o (λ (x : _). Takes (kinds_of v) (kind_of v) v.limits
    (counted t.kind ++ a.more) x)) e a.takes))

pub returns-clause-bytes : goal.returns-clause-bytes
returns-clause-bytes c =
    let x = c.put_numbers.new.self in
    let set = c.start-writer.ensures.settings.checker in
    let same = c.put.ensures.stays.same.checker in
    let same2 = c.put_numbers.ensures.same.checker in
    let is : kinds_of x ≡ array_kinds =
    ap (λ (y : Lists). y.kinds) (same2.schema_is ∙ same.schema_is ∙ set.schema_is) ∙ c.requires in
    let at : kind_of x ≡ 1 = ap (λ (k : KindId). k.place) (same2.kind_is ∙ same.kind_is ∙ set.kind_is) in
    let t = c.in_ok-put.ensures.took [] c.start-writer.ensures.represents in
    let a = c.in_ok-step.ensures.took (counted t.kind) t.represents in
    all_written t.kind a.more a.numbers c.new-out.result.items c.put.new.out.items c.put_numbers.new.out.items
    c.new-out.ensures.items t.bytes a.bytes
    (moved_array (λ (k : List KindView) (n : ℕ). Begin k n (counted t.kind ++ a.more)) (kinds_of x) (kind_of x) is at
    a.represents.begin)
