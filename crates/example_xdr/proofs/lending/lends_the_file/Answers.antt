use Rattle.std.proofs.Common.{◌≡◌, ◌++◌, [], ℕ, List, subst, sym, refl, ap, ◌∙◌, IfOk, map}
use Rattle.xdr_types.specs.Kinds.{KindView}
use Rattle.xdr_types.specs.Layout.{entries}
use Rattle.xdr_types.specs.Spelling.{bytes_of}
use Rattle.xdr_types.specs.Within.{FitsWithin}
use Rattle.xdr_parts.specs.Lent.{entry_of}
use Rattle.example_xdr.specs.Rfc.{sillyprog, sillyprog_bytes}
use Rattle.example_xdr.specs.Lent.{bytes_of_each, sillyprog_entries}
use Rattle.example_xdr.proofs.LentBytes.{given, lent_bytes, only_memory, cut}
use Rattle.example_xdr.proofs.lending.lends_the_file.Goals as goal

pub returns-clause-parts : goal.returns-clause-parts
returns-clause-parts c =
    let fit : FitsWithin c.args.schema.now.kinds 6 c.args.limits sillyprog =
    subst (λ (k : List KindView). FitsWithin k 6 c.args.limits sillyprog) (sym c.requires.kinds)
    (refl, (c.requires.deep, c.requires.buffer)) in
    let bytes : bytes_of c.args.schema.now.kinds 6 sillyprog ++ [] ≡ sillyprog_bytes =
    ap (λ (k : List KindView). bytes_of k 6 sillyprog ++ []) c.requires.kinds in
    subst (λ (k : List KindView). IfOk c.parts.result (λ ls. map entry_of ls.items ≡ entries k 6 sillyprog))
    c.requires.kinds
    (given c.args.schema.now.kinds 6 c.args.limits c.depth-in_range.ensures.range.units c.args.input.now sillyprog []
    fit (c.requires.input ∙ sym bytes) c.parts.result c.parts.ensures.outcome)

pub returns-clause-bytes : goal.returns-clause-bytes
returns-clause-bytes c =
    let fit : FitsWithin c.args.schema.now.kinds 6 c.args.limits sillyprog =
    subst (λ (k : List KindView). FitsWithin k 6 c.args.limits sillyprog) (sym c.requires.kinds)
    (refl, (c.requires.deep, c.requires.buffer)) in
    let bytes : bytes_of c.args.schema.now.kinds 6 sillyprog ++ [] ≡ sillyprog_bytes =
    ap (λ (k : List KindView). bytes_of k 6 sillyprog ++ []) c.requires.kinds in
    let parts = subst (λ (k : List KindView). IfOk c.parts.result (λ ls. map entry_of ls.items ≡ entries k 6 sillyprog))
    c.requires.kinds
    (given c.args.schema.now.kinds 6 c.args.limits c.depth-in_range.ensures.range.units c.args.input.now sillyprog []
    fit (c.requires.input ∙ sym bytes) c.parts.result c.parts.ensures.outcome) in
    subst (λ (b : List ℕ). IfOk c.parts.result (λ ls. bytes_of_each ls.items ≡ cut b sillyprog_entries))
    c.requires.input
    (lent_bytes c.args.input.now sillyprog_entries c.parts.result parts c.parts.ensures.lent)

pub returns-clause-taken : goal.returns-clause-taken
returns-clause-taken c =
    let fit : FitsWithin c.args.schema.now.kinds 6 c.args.limits sillyprog =
    subst (λ (k : List KindView). FitsWithin k 6 c.args.limits sillyprog) (sym c.requires.kinds)
    (refl, (c.requires.deep, c.requires.buffer)) in
    let bytes : bytes_of c.args.schema.now.kinds 6 sillyprog ++ [] ≡ sillyprog_bytes =
    ap (λ (k : List KindView). bytes_of k 6 sillyprog ++ []) c.requires.kinds in
    only_memory c.args.schema.now.kinds 6 c.args.limits c.depth-in_range.ensures.range.units c.args.input.now sillyprog
    [] fit (c.requires.input ∙ sym bytes) c.parts.result c.parts.ensures.fault
