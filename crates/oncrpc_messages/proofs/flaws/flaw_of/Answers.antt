-- The head ends before the bytes do.
use Rattle.std.proofs.Common.{ℕ, List, drop, inr, refl}
use Rattle.xdr_types.specs.Spelling.{bytes_of}
use Rattle.oncrpc_messages.proofs.Valued.{counted_at, joined_at}
use Rattle.oncrpc_messages.proofs.flaws.flaw_of.Goals as goal

pub returns-in-Ok : goal.returns-in-Ok
returns-in-Ok c =
    let h = c.args.settings.now.heads.now in
    let e = c.in-Ok.ensures.value in
    let own : List ℕ = bytes_of h.declared.schema.kinds h.message.place e.0 in
    let bytes : List ℕ = c.args.bytes.now in
    let n : ℕ = c.in-Ok.used in
    inr (e.0, drop n bytes, refl, e.1, joined_at own bytes n e.3, counted_at own bytes n e.2 e.3)
