use Rattle.xdr_listing.proofs.Places.{place_as}
use Rattle.xdr_listing.proofs.types.range_of.Goals as goal

pub returns : goal.returns
returns c = place_as c.args.types.now.bounds.now c.args.id.place c.range.result c.range.ensures.at
