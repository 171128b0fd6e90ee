-- The text of the address is the one that was written.
use Rattle.std.proofs.Common.{sym, ◌∙◌}
use Rattle.std.specs.Fmt.{digits}
use Rattle.c_registry.specs.Addresses.{address_of}
use Rattle.c_registry.proofs.Told.{written}
use Rattle.c_registry.proofs.examples.writes_an_address.Goals as goal

pub returns : goal.returns
unfolding digits
returns c = λ e.
    let w = c.write_address.ensures in
    let t = written (address_of c.args.host.now 2049) c.args.buffer.now c.write_address.new.buffer w.0 w.1 (sym e ∙ w.2)
    in
    let told = rw c.requires at t in
    (w.3 ∙ told.0, told.1)
