use Rattle.std.proofs.Common.{sym, ◌∙◌}
use Rattle.xdr_lang.proofs.Sets.{by_name, among_keys}
use Rattle.xdr_lang.proofs.type_table.is_in.Goals as goal

pub returns : goal.returns
returns c = c.contains.ensures ∙ sym (among_keys by_name c.args.name c.args.names.now.keys)
