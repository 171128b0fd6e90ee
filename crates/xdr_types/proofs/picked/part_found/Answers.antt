use Rattle.std.proofs.Common.{map, option_map, ap, sym, ◌∙◌, arith}
use Rattle.xdr_types.specs.Kinds.{Branch}
use Rattle.xdr_types.specs.KindViews.{branch_of, part_of_member}
use Rattle.xdr_types.specs.Fits.{is_listed}
use Rattle.xdr_types.proofs.Found.{indexed, found-first, found-nowhere, part-found, part-not_found}
use Rattle.xdr_types.proofs.picked.part_found.Goals as goal

pub index-requires : goal.index-requires
index-requires c =
    let items = c.args.arms.now.items in
    let found = found-first branch_of (λ (a : Branch). is_listed a.cases c.args.number) items c.in-Some.index
    (sym (c.requires.finds c.args.number)
    ∙ sym (indexed c.args.found.now.items c.args.number c.index_in.result c.ranges.number c.index_in.ensures)
    ∙ c.in-Some.is) in
    omega (arith, found.0, c.args.arms.now.ok.0)

pub returns-in-Some : goal.returns-in-Some
returns-in-Some c =
    let items = c.args.arms.now.items in
    let found = found-first branch_of (λ (a : Branch). is_listed a.cases c.args.number) items c.in-Some.index
    (sym (c.requires.finds c.args.number)
    ∙ sym (indexed c.args.found.now.items c.args.number c.index_in.result c.ranges.number c.index_in.ensures)
    ∙ c.in-Some.is) in
    sym (part-found (map branch_of items) (option_map part_of_member c.args.other.now) c.args.number
    (branch_of c.index.result.now) (found.1 c.index.result.now c.index.ensures))

pub returns-in-Some-other : goal.returns-in-Some-other
returns-in-Some-other c =
    let arms = map branch_of c.args.arms.now.items in
    let other = option_map part_of_member c.args.other.now in
    let none = found-nowhere (λ (a : Branch). is_listed a.cases c.args.number) 0 arms
    (sym (c.requires.finds c.args.number)
    ∙ sym (indexed c.args.found.now.items c.args.number c.index_in.result c.ranges.number c.index_in.ensures)
    ∙ c.in-None.is) in
    ap (option_map part_of_member) (sym c.in-Some-other.is) ∙ sym (part-not_found arms other c.args.number none)

pub returns-in-None-other : goal.returns-in-None-other
returns-in-None-other c =
    let arms = map branch_of c.args.arms.now.items in
    let other = option_map part_of_member c.args.other.now in
    let none = found-nowhere (λ (a : Branch). is_listed a.cases c.args.number) 0 arms
    (sym (c.requires.finds c.args.number)
    ∙ sym (indexed c.args.found.now.items c.args.number c.index_in.result c.ranges.number c.index_in.ensures)
    ∙ c.in-None.is) in
    ap (option_map part_of_member) (sym c.in-None-other.is) ∙ sym (part-not_found arms other c.args.number none)
