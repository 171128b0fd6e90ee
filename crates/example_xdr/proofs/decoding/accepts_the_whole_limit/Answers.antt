use Rattle.std.proofs.Common.{◌≡◌, ◌++◌, [], ◌∷◌, length, take, sym, arith, refl, ap, ◌∙◌}
use Rattle.xdr_types.specs.Spelling.{bytes_of}
use Rattle.xdr_types.specs.Within.{FitsWithin}
use Rattle.example_xdr.specs.Rfc.{content}
use Rattle.example_xdr.proofs.Accepted.{alone, only_memory}
use Rattle.example_xdr.proofs.decoding.accepts_the_whole_limit.Goals as goal

pub returns-clause-value : goal.returns-clause-value
returns-clause-value c =
    let t = content (97 ∷ 98 ∷ 99 ∷ []) in
    let S = c.args.schema.now.kinds in
    let place = c.args.kind.place in
    let bytes : bytes_of S place t ≡ 0 ∷ 0 ∷ 0 ∷ 3 ∷ 97 ∷ 98 ∷ 99 ∷ 0 ∷ [] = rw c.requires.kind refl in
    let fit : FitsWithin S place c.args.limits t = rw c.requires.kind
    (refl, (c.requires.depth, omega (arith, c.requires.limit))) in
    alone S place c.args.limits c.decode.result c.args.input.now t 8 c.decode.ensures.only fit
    (omega (arith, ap length c.requires.input)) (bytes ∙ sym (ap (take 8) c.requires.input))

pub returns-clause-taken : goal.returns-clause-taken
returns-clause-taken c =
    let t = content (97 ∷ 98 ∷ 99 ∷ []) in
    let S = c.args.schema.now.kinds in
    let place = c.args.kind.place in
    let bytes : bytes_of S place t ++ (42 ∷ [])
    ≡ 0 ∷ 0 ∷ 0 ∷ 3 ∷ 97 ∷ 98 ∷ 99 ∷ 0 ∷ 42 ∷ [] = rw c.requires.kind refl in
    let fit : FitsWithin S place c.args.limits t = rw c.requires.kind
    (refl, (c.requires.depth, omega (arith, c.requires.limit))) in
    only_memory S place c.args.limits c.decode.result c.args.input.now t (42 ∷ []) c.decode.ensures.refusal.refused fit
    (bytes ∙ sym c.requires.input)
