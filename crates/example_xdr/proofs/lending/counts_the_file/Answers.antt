use Rattle.std.proofs.Common.{◌≡◌, ◌++◌, [], List, subst, sym, refl, ap, ◌∙◌, IfOk, length}
use Rattle.xdr_types.specs.Kinds.{KindView}
use Rattle.xdr_types.specs.Layout.{entries}
use Rattle.xdr_types.specs.Spelling.{bytes_of}
use Rattle.xdr_types.specs.Within.{FitsWithin}
use Rattle.xdr_parts.specs.Counted.{capped, names_of}
use Rattle.example_xdr.specs.Rfc.{sillyprog, sillyprog_bytes}
use Rattle.example_xdr.proofs.LentBytes.{counted, only_memory}
use Rattle.example_xdr.proofs.lending.counts_the_file.Goals as goal

pub returns-clause-counts : goal.returns-clause-counts
returns-clause-counts c =
    let fit : FitsWithin c.args.schema.now.kinds 6 c.args.limits sillyprog =
    subst (λ (k : List KindView). FitsWithin k 6 c.args.limits sillyprog) (sym c.requires.kinds)
    (refl, (c.requires.deep, c.requires.buffer)) in
    let bytes : bytes_of c.args.schema.now.kinds 6 sillyprog ++ [] ≡ sillyprog_bytes =
    ap (λ (k : List KindView). bytes_of k 6 sillyprog ++ []) c.requires.kinds in
    subst (λ (k : List KindView). IfOk c.count_parts.result (λ n. (n.used ≡ length (bytes_of k 6 sillyprog))
    × (n.parts ≡ length (entries k 6 sillyprog)) × (n.names ≡ capped (length (names_of (entries k 6 sillyprog))))))
    c.requires.kinds
    (counted c.args.schema.now.kinds 6 c.args.limits c.depth-in_range.ensures.range.units c.args.input.now sillyprog []
    fit (c.requires.input ∙ sym bytes) c.count_parts.result c.count_parts.ensures.outcome)

pub returns-clause-taken : goal.returns-clause-taken
returns-clause-taken c =
    let fit : FitsWithin c.args.schema.now.kinds 6 c.args.limits sillyprog =
    subst (λ (k : List KindView). FitsWithin k 6 c.args.limits sillyprog) (sym c.requires.kinds)
    (refl, (c.requires.deep, c.requires.buffer)) in
    let bytes : bytes_of c.args.schema.now.kinds 6 sillyprog ++ [] ≡ sillyprog_bytes =
    ap (λ (k : List KindView). bytes_of k 6 sillyprog ++ []) c.requires.kinds in
    only_memory c.args.schema.now.kinds 6 c.args.limits c.depth-in_range.ensures.range.units c.args.input.now sillyprog
    [] fit (c.requires.input ∙ sym bytes) c.count_parts.result c.count_parts.ensures.fault
