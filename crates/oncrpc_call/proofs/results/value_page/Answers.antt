-- Bytes follow the value.
use Rattle.std.proofs.Common.{ℕ, Vec, ap, ◌∙◌}
use Rattle.std.specs.declared.alloc.Global.{Global}
use Rattle.oncrpc_call.specs.Asked.{wanted_of}
use Rattle.oncrpc_call.proofs.Judged.{followed}
use Rattle.oncrpc_call.proofs.results.value_page.Goals as goal

pub returns-then-used-results-clause-told : goal.returns-then-used-results-clause-told
returns-then-used-results-clause-told c =
    followed (wanted_of c.args.asked.now) c.args.results.now c.args.used c.requires _ c.if-used-results.true
    (ap (λ (v : Vec ℕ Global). v.items) c.into_bytes.ensures.value ∙ c.in_ok-line.ensures)
