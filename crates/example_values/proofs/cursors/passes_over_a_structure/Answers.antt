use Rattle.std.proofs.Common.{[], ◌++◌}
use Rattle.xdr_types.specs.Layout.{entries}
use Rattle.example_values.proofs.GoneOver.{structure_parts, others_come, nothing_left, none_comes}
use Rattle.example_values.proofs.cursors.passes_over_a_structure.Goals as goal

pub returns : goal.returns
returns c =
    let kinds = c.args.schema.now.kinds in
    let input = c.args.input.now in
    let kind = c.args.kind.place in
    let b = c.in-Ok.ensures.begun in
    let es = entries kinds kind b.0 in
    let all = structure_parts kinds kind c.requires.kind.0 c.requires.kind.1 b.0 b.1.2.fits in
    let come = others_come c.next.new.self kinds input es (all.inner ++ []) _ all.joined
    c.in-Ok-next._group (c.in-Ok-next.ensures.part es b.2) in
    let left = nothing_left c.skip.new.self kinds input all.inner all.deep
    (c.in-Ok-skip.ensures.skipped (all.inner ++ []) come) in
    none_comes c.next-2.new.self kinds input c.in-Ok-next-2.other (c.in-Ok-next-2.ensures.part [] left)
