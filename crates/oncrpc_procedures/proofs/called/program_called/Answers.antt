use Rattle.std.proofs.Common.{◌∙◌, map}
use Rattle.xdr_lang.specs.Views.{program_of}
use Rattle.oncrpc_procedures.proofs.Finding.{first_called_is}
use Rattle.oncrpc_procedures.proofs.called.program_called.Goals as goal

pub returns : goal.returns
returns c = c.first_called.ensures ∙ first_called_is c.args.name.now (map program_of c.args.programs.now)
