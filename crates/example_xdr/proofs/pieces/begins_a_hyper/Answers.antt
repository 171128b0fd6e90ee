use Rattle.std.proofs.Common.{◌≡◌, ◌++◌, [], ◌∷◌, pos, refl}
use Rattle.xdr_types.specs.Kinds as xdr
use Rattle.xdr_types.specs.Kinds.{kind_at}
use Rattle.xdr_types.specs.Spelling.{bytes_of}
use Rattle.xdr_types.specs.Tree as value
use Rattle.xdr_types.specs.Tree.{Tree}
use Rattle.xdr_types.specs.Within.{FitsWithin}
use Rattle.example_xdr.proofs.Accepted.{waits}
use Rattle.example_xdr.proofs.pieces.begins_a_hyper.Goals as goal

-- the hyper integer 2^32 begins with these bytes
abbrev number : Tree
number = (value.hyper (pos 4294967296), value.none)

pub returns-clause-fault : goal.returns-clause-fault
returns-clause-fault c =
    let d = c.args.decoder.now in
    let S = d.reader.schema.now.kinds in
    let kind : kind_at S d.reader.kind.place ≡ xdr.hyper = c.requires.kind in
    let fit : FitsWithin S d.reader.kind.place d.reader.limits number =
    rw kind (refl, (c.requires.depth, c.requires.limit)) in
    let bytes : bytes_of S d.reader.kind.place number ++ [] ≡ (0 ∷ 0 ∷ 0 ∷ 1 ∷ []) ++ (0 ∷ 0 ∷ 0 ∷ 0 ∷ []) =
    rw kind refl in
    waits S d.reader.kind.place d.reader.limits (0 ∷ 0 ∷ 0 ∷ 1 ∷ []) (0 ∷ 0 ∷ 0 ∷ 0 ∷ []) number fit bytes
    c.feed.result (c.feed.ensures.answer [] c.requires.fresh)
