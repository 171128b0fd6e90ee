use Rattle.example_sessions.proofs.Ended.{ends_broken}
use Rattle.example_sessions.proofs.one.ends_with_its_fault.Goals as goal

pub returns-clause-fault : goal.returns-clause-fault
returns-clause-fault c = λ f e.
    (ends_broken c.args.session.now c.end.new.self c.end.result f c.end.ensures.concludes e).0

pub returns-clause-same : goal.returns-clause-same
returns-clause-same c = λ f e.
    (ends_broken c.args.session.now c.end.new.self c.end.result f c.end.ensures.concludes e).1
