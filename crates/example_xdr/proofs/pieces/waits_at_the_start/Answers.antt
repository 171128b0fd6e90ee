use Rattle.std.proofs.Common.{◌≡◌, ◌≤◌, ◌++◌, [], ◌∷◌, pos, subst, sym, refl}
use Rattle.xdr_types.specs.Kinds as xdr
use Rattle.xdr_types.specs.Kinds.{kind_at}
use Rattle.xdr_types.specs.Spelling.{bytes_of}
use Rattle.xdr_types.specs.Tree as value
use Rattle.xdr_types.specs.Tree.{Tree}
use Rattle.xdr_types.specs.Within.{Bounds, FitsWithin}
use Rattle.example_xdr.proofs.Accepted.{waits}
use Rattle.example_xdr.proofs.pieces.waits_at_the_start.Goals as goal

-- an integer, which begins with no byte
abbrev number : Tree
number = (value.int (pos 7), value.none)

pub returns-clause-fault : goal.returns-clause-fault
returns-clause-fault c = λ low deep.
    let d = c.start-decoder.result in
    let set = c.start-decoder.ensures.settings in
    let S = d.reader.schema.now.kinds in
    let kind : kind_at S d.reader.kind.place ≡ xdr.int = rw (set.schema_is, set.kind_is) c.requires.kind in
    let limit : 4 ≤ d.reader.limits.bytes = subst (λ (l : Bounds). 4 ≤ l.bytes) (sym set.limits_are) low in
    let depth : 1 ≤ d.reader.limits.depth = subst (λ (l : Bounds). 1 ≤ l.depth) (sym set.limits_are) deep in
    let fit : FitsWithin S d.reader.kind.place d.reader.limits number = rw kind (refl, (depth, limit)) in
    let bytes : bytes_of S d.reader.kind.place number ++ [] ≡ [] ++ (0 ∷ 0 ∷ 0 ∷ 7 ∷ []) = rw kind refl in
    waits S d.reader.kind.place d.reader.limits [] (0 ∷ 0 ∷ 0 ∷ 7 ∷ []) number fit bytes
    c.feed.result (c.feed.ensures.answer [] c.start-decoder.ensures.represents)
