use Rattle.std.proofs.Common.{◌∙◌, map}
use Rattle.xdr_lang.specs.Views.{program_of}
use Rattle.oncrpc_procedures.proofs.Finding.{first_version_of_is}
use Rattle.oncrpc_procedures.proofs.called.version_called.Goals as goal

pub returns : goal.returns
returns c =
    c.first_version_of.ensures ∙ first_version_of_is c.args.name.now c.args.number (map program_of c.args.programs.now)
