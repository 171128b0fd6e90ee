use Rattle.std.proofs.Common.{◌≡◌, ◌≤◌, [], ap, sym, subst, ◌∙◌}
use Rattle.xdr_types.specs.Kinds.{Lists}
use Rattle.xdr_types.specs.Within.{Bounds}
use Rattle.xdr_types.specs.declared.kind.KindId.{KindId}
use Rattle.xdr_writer.specs.Represents.{kinds_of, kind_of}
use Rattle.example_xdr.specs.Pair.{pair_kinds}
use Rattle.example_xdr.proofs.Putting.{of_error, has_value}
use Rattle.example_xdr.proofs.writing.takes_the_first_of_a_pair.Goals as goal

pub returns : goal.returns
returns c =
    let w = c.start-writer.result in
    let set = c.start-writer.ensures.settings in
    let is : kinds_of w ≡ pair_kinds = ap (λ (x : Lists). x.kinds) set.checker.schema_is ∙ c.requires.kinds in
    let at : kind_of w ≡ 2 = ap (λ (k : KindId). k.place) set.checker.kind_is in
    let deep : 2 ≤ w.limits.depth = subst (λ (x : Bounds). 2 ≤ x.depth) (sym set.limits_are) c.requires.deep in
    let room : 12 ≤ w.limits.bytes = subst (λ (x : Bounds). 12 ≤ x.bytes) (sym set.limits_are) c.requires.buffer in
    of_error c.put.result _ _
    (λ f none known. has_value (kinds_of w) (kind_of w) w.limits is at deep room
    (none [] c.start-writer.ensures.represents known)) c.put.ensures.refuses.no_value
