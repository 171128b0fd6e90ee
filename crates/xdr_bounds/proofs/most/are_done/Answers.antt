use Rattle.std.proofs.Common.{ap, sym, ◌∙◌, ℕ}
use Rattle.xdr_bounds.specs.Private.Shapes.{item_needed}
use Rattle.xdr_bounds.specs.Private.Rounds.{all_done}
use Rattle.xdr_bounds.proofs.Settling.{item_done}
use Rattle.xdr_bounds.proofs.most.are_done.Goals as goal

pub returns : goal.returns
returns c = c.is_done.ensures ∙ item_done c.args.done.now.items c.args.item.place c.args.count c.if-count-eq0.false
