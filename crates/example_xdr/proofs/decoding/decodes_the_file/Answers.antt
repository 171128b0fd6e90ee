use Rattle.std.proofs.Common.{◌≡◌, ◌++◌, [], List, length, take, subst, sym, arith, refl, ap, ◌∙◌}
use Rattle.xdr_types.specs.Kinds.{KindView}
use Rattle.xdr_types.specs.Spelling.{bytes_of}
use Rattle.xdr_types.specs.Within.{FitsWithin}
use Rattle.example_xdr.specs.Rfc.{sillyprog, sillyprog_bytes}
use Rattle.example_xdr.proofs.Accepted.{alone, only_memory}
use Rattle.example_xdr.proofs.decoding.decodes_the_file.Goals as goal

pub returns-clause-value : goal.returns-clause-value
returns-clause-value c =
    let fit : FitsWithin c.args.schema.now.kinds 6 c.args.limits sillyprog =
    subst (λ (k : List KindView). FitsWithin k 6 c.args.limits sillyprog) (sym c.requires.kinds)
    (refl, (c.requires.deep, c.requires.buffer)) in
    let bytes : bytes_of c.args.schema.now.kinds 6 sillyprog ≡ sillyprog_bytes =
    ap (λ (k : List KindView). bytes_of k 6 sillyprog) c.requires.kinds in
    alone c.args.schema.now.kinds 6 c.args.limits c.decode.result c.args.input.now sillyprog 48 c.decode.ensures.only
    fit
    (omega (arith, ap length c.requires.input)) (bytes ∙ sym (ap (take 48) c.requires.input))

pub returns-clause-taken : goal.returns-clause-taken
returns-clause-taken c =
    let fit : FitsWithin c.args.schema.now.kinds 6 c.args.limits sillyprog =
    subst (λ (k : List KindView). FitsWithin k 6 c.args.limits sillyprog) (sym c.requires.kinds)
    (refl, (c.requires.deep, c.requires.buffer)) in
    let bytes : bytes_of c.args.schema.now.kinds 6 sillyprog ++ [] ≡ sillyprog_bytes =
    ap (λ (k : List KindView). bytes_of k 6 sillyprog ++ []) c.requires.kinds in
    only_memory c.args.schema.now.kinds 6 c.args.limits c.decode.result c.args.input.now sillyprog []
    c.decode.ensures.refusal.refused fit
    (bytes ∙ sym c.requires.input)
