use Rattle.xdr_dialect.proofs.Owned.{added}
use Rattle.xdr_dialect.proofs.own_names.add_to.Goals as goal

pub returns-clause-added : goal.returns-clause-added
returns-clause-added c = λ ns has.
    added c.args.set.now c.insert.new.self c.args.name ns has c.in_ok-insert.ensures.updates
