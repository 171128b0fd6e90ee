use Rattle.std.proofs.Common.{sym, arith}
use Rattle.xdr_types.proofs.Content.{bytes-by-index}
use Rattle.xdr_types.proofs.fit.every_u8_is_a_byte.Goals as goal

pub returns : goal.returns
returns c = sym (bytes-by-index c.args.bytes.now.items (λ i within. omega (arith, c.type_inv.bytes i)))
