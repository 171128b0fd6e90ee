use Rattle.std.proofs.Common.{map, sym, ◌∙◌, arith}
use Rattle.std.specs.Ordering.{int_eq}
use Rattle.xdr_types.specs.Kinds.{Constant}
use Rattle.xdr_types.specs.KindViews.{constant_of}
use Rattle.xdr_types.proofs.Found.{indexed, found-first, found-nowhere}
use Rattle.xdr_types.proofs.picked.member_found.Goals as goal

pub index-requires : goal.index-requires
index-requires c =
    let items = c.args.members.now.items in
    let found = found-first constant_of (λ (m : Constant). int_eq m.number c.args.number) items c.in-Some.index
    (sym (c.requires.finds c.args.number)
    ∙ sym (indexed c.args.found.now.items c.args.number c.index_in.result c.ranges.number c.index_in.ensures)
    ∙ c.in-Some.is) in
    omega (arith, found.0, c.args.members.now.ok.0)

pub returns-in-Some : goal.returns-in-Some
returns-in-Some c =
    let items = c.args.members.now.items in
    let found = found-first constant_of (λ (m : Constant). int_eq m.number c.args.number) items c.in-Some.index
    (sym (c.requires.finds c.args.number)
    ∙ sym (indexed c.args.found.now.items c.args.number c.index_in.result c.ranges.number c.index_in.ensures)
    ∙ c.in-Some.is) in
    sym (found.1 c.index.result.now c.index.ensures)

pub returns-in-None : goal.returns-in-None
returns-in-None c =
    sym (found-nowhere (λ (m : Constant). int_eq m.number c.args.number) 0 (map constant_of c.args.members.now.items)
    (sym (c.requires.finds c.args.number)
    ∙ sym (indexed c.args.found.now.items c.args.number c.index_in.result c.ranges.number c.index_in.ensures)
    ∙ c.in-None.is))
