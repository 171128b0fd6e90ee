use Rattle.std.proofs.Common.{◌≡◌, ℕ, List, MatchOption}
use Rattle.xdr_paths.specs.Nodes.{Step}
use Rattle.xdr_paths.specs.Private.Steps.{step_of}
use Rattle.xdr_paths.proofs.Marks.{index_only}
use Rattle.xdr_paths.proofs.steps.first_step.Goals as goal

pub returns-in-Some-clause-only : goal.returns-in-Some-clause-only
returns-in-Some-clause-only c =
    index_only c.args.path.now c.in-Some.index.now
    (λ (step : Step) (rest : List ℕ). MatchOption c.first_index.result ⊥
    (λ r. (step_of r.0 ≡ step) × (r.1.now ≡ rest))) c.in-Some.ensures c.first_index.ensures.only
