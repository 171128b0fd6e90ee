use Rattle.registry_dumps.specs.Dir.{dir_kinds}
use Rattle.registry_answer.proofs.One.{one_answer}
use Rattle.registry_answer.proofs.laws.one_answer.Goals as goal

pub returns : goal.returns
returns c =
    one_answer c.five_cases.ensures.exclusive c.auth_sys_bytes_are_exact.ensures (c.one_outcome.ensures dir_kinds)
