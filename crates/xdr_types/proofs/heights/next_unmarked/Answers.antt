use Rattle.std.proofs.Common.{sym, ◌∙◌}
use Rattle.xdr_types.proofs.Marks.{unmarked}
use Rattle.xdr_types.proofs.heights.next_unmarked.Goals as goal

pub returns-then-not-is_marked : goal.returns-then-not-is_marked
returns-then-not-is_marked c = λ within.
    unmarked c.args.heights.now.items c.args.members.now.items c.loop-i.i c.index.result.now within c.index.ensures
    (sym c.is_marked.ensures ∙ c.if-not-is_marked.true)
