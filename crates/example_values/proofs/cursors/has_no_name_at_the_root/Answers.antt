-- The part that comes first has the name of the root.
use Rattle.std.proofs.Common.{ℕ, List, [], length, ap, sym}
use Rattle.xdr_types.specs.Layout.{entries}
use Rattle.example_values.proofs.GoneOver.{number_parts, name_of_first}
use Rattle.example_values.proofs.cursors.has_no_name_at_the_root.Goals as goal

pub returns : goal.returns
returns c =
    let kinds = c.args.schema.now.kinds in
    let kind = c.args.kind.place in
    let b = c.in-Ok.ensures.begun in
    let es = entries kinds kind b.0 in
    ap (λ (name : List ℕ). length name)
    (sym (name_of_first es [] _ c.in-Some.name.now (number_parts kinds kind c.requires.kind b.0 b.1.2.fits)
    (c.in-Some.ensures.name c.args.input.now es b.2)))
