use Rattle.std.proofs.Common.{ap, sym, ◌∙◌, ◌||◌}
use Rattle.rpc_directory.proofs.Transports.{unset_both}
use Rattle.rpc_directory.proofs.directory.Directory.unset_port.Goals as goal

pub returns-then-first-clause-value : goal.returns-then-first-clause-value
returns-then-first-clause-value g c =
    ap (λ t. (c.unset-second.new.self, t))
    (c.if-first.true ∙ sym (ap (λ t. t || c.unset-second.result) c.if-first.true))
    ∙ unset_both _ _ _ _ _ _ _ _ c.unset-first.ensures.value c.unset-second.ensures.value

pub returns-else-first-clause-value : goal.returns-else-first-clause-value
returns-else-first-clause-value g c =
    ap (λ t. (c.unset-second.new.self, t)) (sym (ap (λ t. t || c.unset-second.result) c.if-first.false))
    ∙ unset_both _ _ _ _ _ _ _ _ c.unset-first.ensures.value c.unset-second.ensures.value
