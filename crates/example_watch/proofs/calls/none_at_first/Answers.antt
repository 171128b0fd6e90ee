use Rattle.std.proofs.Common.{ap, ◌∙◌}
use Rattle.std.specs.Prelude.{◌==◌}
use Rattle.example_watch.proofs.Waiting.{none_waits}
use Rattle.example_watch.proofs.calls.none_at_first.Goals as goal

pub returns : goal.returns
returns c = c.is_empty.ensures.2 ∙ ap (λ k. k == 0)
    (none_waits c.new-table.result c.is_empty.ensures.0 c.new-table.ensures.empty c.is_empty.ensures.1)
