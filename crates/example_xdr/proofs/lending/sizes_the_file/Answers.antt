use Rattle.std.proofs.Common.{◌≡◌, ◌++◌, [], List, subst, sym, refl, ap, ◌∙◌, IfOk, length, map}
use Rattle.xdr_types.specs.Kinds.{KindView}
use Rattle.xdr_types.specs.Layout.{entries}
use Rattle.xdr_types.specs.Spelling.{bytes_of}
use Rattle.xdr_types.specs.Within.{FitsWithin}
use Rattle.xdr_parts.specs.Counted.{capped, names_of}
use Rattle.xdr_parts.specs.Lent.{entry_of}
use Rattle.example_xdr.specs.Rfc.{sillyprog, sillyprog_bytes}
use Rattle.example_xdr.proofs.LentBytes.{sized, listed, only_memory}
use Rattle.example_xdr.proofs.lending.sizes_the_file.Goals as goal

pub returns-clause-counts : goal.returns-clause-counts
returns-clause-counts c =
    let fit : FitsWithin c.args.schema.now.kinds 6 c.args.limits sillyprog =
    subst (λ (k : List KindView). FitsWithin k 6 c.args.limits sillyprog) (sym c.requires.kinds)
    (refl, (c.requires.deep, c.requires.buffer)) in
    let bytes : bytes_of c.args.schema.now.kinds 6 sillyprog ++ [] ≡ sillyprog_bytes =
    ap (λ (k : List KindView). bytes_of k 6 sillyprog ++ []) c.requires.kinds in
    subst (λ (k : List KindView). IfOk c.sized_parts.result (λ s. (s.counts.used ≡ length (bytes_of k 6 sillyprog))
    × (s.counts.parts ≡ length (entries k 6 sillyprog))
    × (s.counts.names ≡ capped (length (names_of (entries k 6 sillyprog))))))
    c.requires.kinds
    (sized c.args.schema.now.kinds 6 c.args.limits c.depth-in_range.ensures.range.units c.args.input.now sillyprog []
    fit (c.requires.input ∙ sym bytes) c.sized_parts.result c.sized_parts.ensures.outcome)

pub returns-clause-parts : goal.returns-clause-parts
returns-clause-parts c =
    let fit : FitsWithin c.args.schema.now.kinds 6 c.args.limits sillyprog =
    subst (λ (k : List KindView). FitsWithin k 6 c.args.limits sillyprog) (sym c.requires.kinds)
    (refl, (c.requires.deep, c.requires.buffer)) in
    let bytes : bytes_of c.args.schema.now.kinds 6 sillyprog ++ [] ≡ sillyprog_bytes =
    ap (λ (k : List KindView). bytes_of k 6 sillyprog ++ []) c.requires.kinds in
    subst (λ (k : List KindView). IfOk c.sized_parts.result (λ s. map entry_of s.list.items ≡ entries k 6 sillyprog))
    c.requires.kinds
    (listed c.args.schema.now.kinds 6 c.args.limits c.depth-in_range.ensures.range.units c.args.input.now sillyprog []
    fit (c.requires.input ∙ sym bytes) c.sized_parts.result c.sized_parts.ensures.outcome)

pub returns-clause-taken : goal.returns-clause-taken
returns-clause-taken c =
    let fit : FitsWithin c.args.schema.now.kinds 6 c.args.limits sillyprog =
    subst (λ (k : List KindView). FitsWithin k 6 c.args.limits sillyprog) (sym c.requires.kinds)
    (refl, (c.requires.deep, c.requires.buffer)) in
    let bytes : bytes_of c.args.schema.now.kinds 6 sillyprog ++ [] ≡ sillyprog_bytes =
    ap (λ (k : List KindView). bytes_of k 6 sillyprog ++ []) c.requires.kinds in
    only_memory c.args.schema.now.kinds 6 c.args.limits c.depth-in_range.ensures.range.units c.args.input.now sillyprog
    [] fit (c.requires.input ∙ sym bytes) c.sized_parts.result c.sized_parts.ensures.fault
