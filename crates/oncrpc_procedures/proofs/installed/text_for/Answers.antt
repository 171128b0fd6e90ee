use Rattle.std.proofs.Common.{◌∙◌}
use Rattle.oncrpc_procedures.specs.Installed.{installed}
use Rattle.oncrpc_procedures.proofs.Finding.{first_text_is}
use Rattle.oncrpc_procedures.proofs.installed.text_for.Goals as goal

pub returns : goal.returns
returns c = c.first_text.ensures ∙ first_text_is c.args.part.now installed
