use Rattle.std.proofs.Common.{ap, ◌∙◌}
use Rattle.std.proofs.lemmas.List.{map-append}
use Rattle.xdr_dialect.specs.Dialect.{placed, all_placed}
use Rattle.xdr_dialect.proofs.library.define_netbuf.Goals as goal

pub returns : goal.returns
returns c = ap all_placed c.in_ok-extend_from_slice.ensures.items ∙ map-append placed c.args.found.now.items _
