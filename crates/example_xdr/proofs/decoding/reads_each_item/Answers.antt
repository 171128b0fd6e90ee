use Rattle.std.proofs.Common.{◌≡◌, ◌++◌, [], ◌∷◌, pos, refl}
use Rattle.xdr_types.specs.Spelling.{bytes_of}
use Rattle.xdr_types.specs.Tree as value
use Rattle.xdr_types.specs.Tree.{Tree, from_list}
use Rattle.xdr_types.specs.Within.{FitsWithin}
use Rattle.example_xdr.proofs.Accepted.{only_memory}
use Rattle.example_xdr.proofs.decoding.reads_each_item.Goals as goal

abbrev two : Tree
two = (value.items 2, from_list ((value.int (pos 7), value.none) ∷ (value.int (pos 8), value.none) ∷ []))

pub returns-clause-taken : goal.returns-clause-taken
returns-clause-taken c =
    let S = c.args.schema.now.kinds in
    let place = c.args.kind.place in
    let bytes : bytes_of S place two ++ (0 ∷ 0 ∷ 0 ∷ 9 ∷ [])
    ≡ 0 ∷ 0 ∷ 0 ∷ 7 ∷ 0 ∷ 0 ∷ 0 ∷ 8 ∷ 0 ∷ 0 ∷ 0 ∷ 9 ∷ [] = rw (c.requires.kind, c.requires.item) refl in
    let fit : FitsWithin S place c.args.limits two = rw (c.requires.kind, c.requires.item)
    (refl, (c.requires.depth, c.requires.limit)) in
    only_memory S place c.args.limits c.decode.result (0 ∷ 0 ∷ 0 ∷ 7 ∷ 0 ∷ 0 ∷ 0 ∷ 8 ∷ 0 ∷ 0 ∷ 0 ∷ 9 ∷ []) two
    (0 ∷ 0 ∷ 0 ∷ 9 ∷ []) c.decode.ensures.refusal.refused fit bytes
