use Rattle.std.proofs.Common.{◌≡◌, ◌++◌, [], ◌∷◌, refl}
use Rattle.xdr_types.specs.Spelling.{bytes_of}
use Rattle.xdr_types.specs.Within.{FitsWithin}
use Rattle.example_xdr.specs.Rfc.{content}
use Rattle.example_xdr.proofs.Accepted.{only_memory}
use Rattle.example_xdr.proofs.decoding.leaves_what_follows.Goals as goal

pub returns-clause-taken : goal.returns-clause-taken
returns-clause-taken c =
    let S = c.args.schema.now.kinds in
    let place = c.args.kind.place in
    let bytes : bytes_of S place (content []) ++ (0 ∷ 0 ∷ 0 ∷ 42 ∷ [])
    ≡ 0 ∷ 0 ∷ 0 ∷ 0 ∷ 0 ∷ 0 ∷ 0 ∷ 42 ∷ [] = rw c.requires.kind refl in
    let fit : FitsWithin S place c.args.limits (content []) = rw c.requires.kind
    (refl, (c.requires.depth, c.requires.limit)) in
    only_memory S place c.args.limits c.decode.result (0 ∷ 0 ∷ 0 ∷ 0 ∷ 0 ∷ 0 ∷ 0 ∷ 42 ∷ []) (content [])
    (0 ∷ 0 ∷ 0 ∷ 42 ∷ []) c.decode.ensures.refusal.refused fit bytes
