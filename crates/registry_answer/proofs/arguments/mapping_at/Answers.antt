use Rattle.std.proofs.Common.{length, ap, arith}
use Rattle.registry_dumps.specs.Dir.{dir_kinds}
use Rattle.registry_answer.proofs.Begun.{no_mapping, whole_mapping}
use Rattle.registry_answer.proofs.arguments.mapping_at.Goals as goal

pub returns-in_err-prog : goal.returns-in_err-prog
returns-in_err-prog c =
    rw c.from_residual.ensures (no_mapping (c.whole_exactly.ensures dir_kinds) c.args.args.now
    (omega (arith, c.in_err-prog.ensures.found)))

pub returns-in_err-vers : goal.returns-in_err-vers
returns-in_err-vers c =
    rw c.from_residual-in_err-vers.ensures
    (no_mapping (c.whole_exactly.ensures dir_kinds) c.args.args.now
    (omega (arith, ap length c.in_ok-prog.ensures.found, c.in_err-vers.ensures.found)))

pub returns-in_err-prot : goal.returns-in_err-prot
returns-in_err-prot c =
    rw c.from_residual-in_err-prot.ensures
    (no_mapping (c.whole_exactly.ensures dir_kinds) c.args.args.now (omega (
      arith,
      ap length c.in_ok-prog.ensures.found,
      ap length c.in_ok-vers.ensures.found,
      c.in_err-prot.ensures.found,
    )))

pub returns-in_err-port : goal.returns-in_err-port
returns-in_err-port c =
    rw c.from_residual-in_err-port.ensures
    (no_mapping (c.whole_exactly.ensures dir_kinds) c.args.args.now (omega (
      arith,
      ap length c.in_ok-prog.ensures.found,
      ap length c.in_ok-vers.ensures.found,
      ap length c.in_ok-prot.ensures.found,
      c.in_err-port.ensures.found,
    )))

pub returns : goal.returns
returns c =
    let p = c.in_ok-prog in
    let v = c.in_ok-vers in
    let t = c.in_ok-prot in
    let o = c.in_ok-port in
    whole_mapping (c.whole_exactly.ensures dir_kinds) c.args.args.now p.prog v.vers t.prot o.port p.rest.now v.rest.now
    t.rest.now _
    p.ensures.fits
    v.ensures.fits
    t.ensures.fits
    o.ensures.fits p.ensures.found v.ensures.found t.ensures.found
    o.ensures.found
