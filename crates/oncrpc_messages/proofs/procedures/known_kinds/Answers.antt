use Rattle.std.proofs.Common.{rules}
use Rattle.xdr_lang.specs.Views.{places}
use Rattle.oncrpc_messages.proofs.Known.{all_known}
use Rattle.oncrpc_messages.proofs.procedures.known_kinds.Goals as goal

pub returns-clause-known : goal.returns-clause-known
returns-clause-known c = all_known c.args.schema.now.kinds (places c.args.kinds.now) (search rules)
