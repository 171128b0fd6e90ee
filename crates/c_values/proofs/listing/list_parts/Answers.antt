-- The lists are those of the value's parts, and a fault says why there are none.
use Rattle.c_values.specs.Answers.{Question}
use Rattle.c_values.proofs.Lacking.{unlisted_right}
use Rattle.c_values.proofs.Parting.{are_made, parts_known}
use Rattle.c_values.proofs.listing.list_parts.Goals as goal

pub listing_of-requires : goal.listing_of-requires
listing_of-requires c =
    let are = c.in-Ok.ensures.outcome in
    rw c.deref.ensures.value
    (parts_known c.args.schema.now.kinds c.args.kind.place c.args.limits c.args.input.now c.in-Ok.sized.list.items
    (are.value, c.in-Ok.sized.counts.used, are.whole, are.each) are.from)

pub returns-in-Err-clause-none : goal.returns-in-Err-clause-none
returns-in-Err-clause-none c =
    let q : Question =
    record { kinds = c.args.schema.now.kinds; place = c.args.kind.place; limits = c.args.limits } in
    unlisted_right q c.depth-in_range.ensures.range.units c.args.input.now c.in-Err.fault c.in-Err.ensures.fault
    c.unlisted.result c.unlisted.ensures

pub returns-in-Ok-listing_of-clause-list : goal.returns-in-Ok-listing_of-clause-list
returns-in-Ok-listing_of-clause-list c =
    let q : Question =
    record { kinds = c.args.schema.now.kinds; place = c.args.kind.place; limits = c.args.limits } in
    are_made q c.depth-in_range.ensures.range.units c.args.input.now c.in-Ok.sized.list.items c.in-Ok.sized.counts
    c.in-Ok.ensures.outcome c.in-Ok-listing_of.list.parts.items c.in-Ok-listing_of.list.names.items
    c.in-Ok-listing_of.list.used c.in-Ok-listing_of.ensures.used
    (rw c.deref.ensures.value at c.in-Ok-listing_of.ensures.parts)
    (rw c.deref.ensures.value at c.in-Ok-listing_of.ensures.names)
