use Rattle.std.proofs.Common.{arith}
use Rattle.xdr_types.proofs.Content.{bytes-by-index}
use Rattle.registry_dumps.specs.Dir.{dir_kinds}
use Rattle.registry_answer.proofs.Begun.{no_prog, no_vers, no_netid, no_address, no_owner, too_large, whole_rpcb}
use Rattle.registry_answer.proofs.arguments.rpcb_at.Goals as goal

pub returns-in_err-prog : goal.returns-in_err-prog
returns-in_err-prog c =
    rw c.from_residual.ensures (no_prog (c.whole_exactly.ensures dir_kinds) c.args.args.now c.in_err-prog.ensures.found)

pub returns-in_err-vers : goal.returns-in_err-vers
returns-in_err-vers c =
    let p = c.in_ok-prog in
    rw c.from_residual-in_err-vers.ensures
    (no_vers (c.whole_exactly.ensures dir_kinds) c.args.args.now p.prog p.rest.now
    p.ensures.fits p.ensures.found
    c.in_err-vers.ensures.found)

pub returns-in_err-netid : goal.returns-in_err-netid
returns-in_err-netid c =
    let p = c.in_ok-prog in
    let v = c.in_ok-vers in
    rw c.from_residual-in_err-netid.ensures
    (no_netid (c.whole_exactly.ensures dir_kinds) c.args.args.now p.prog p.rest.now
    p.ensures.fits p.ensures.found v.vers v.rest.now
    v.ensures.fits v.ensures.found c.in_err-netid.ensures)

pub returns-in_err-address : goal.returns-in_err-address
returns-in_err-address c =
    let p = c.in_ok-prog in
    let v = c.in_ok-vers in
    let n = c.in_ok-netid in
    rw c.from_residual-in_err-address.ensures
    (no_address (c.whole_exactly.ensures dir_kinds) c.args.args.now p.prog p.rest.now
    p.ensures.fits p.ensures.found v.vers v.rest.now
    v.ensures.fits v.ensures.found n.netid.now n.rest.now
    n.ensures.0 n.ensures.1 c.in_err-address.ensures)

pub returns-in_err-_owner : goal.returns-in_err-_owner
returns-in_err-_owner c =
    let p = c.in_ok-prog in
    let v = c.in_ok-vers in
    let n = c.in_ok-netid in
    let a = c.in_ok-address in
    rw c.from_residual-in_err-_owner.ensures
    (no_owner (c.whole_exactly.ensures dir_kinds) c.args.args.now p.prog p.rest.now
    p.ensures.fits p.ensures.found v.vers v.rest.now
    v.ensures.fits v.ensures.found n.netid.now n.rest.now
    n.ensures.0 n.ensures.1 a.address.now a.rest.now a.ensures.0 a.ensures.1 c.in_err-_owner.ensures)

pub returns-then-saturating_sub-gt-MOST_BYTES : goal.returns-then-saturating_sub-gt-MOST_BYTES
returns-then-saturating_sub-gt-MOST_BYTES c =
    let p = c.in_ok-prog in
    let v = c.in_ok-vers in
    let n = c.in_ok-netid in
    let a = c.in_ok-address in
    let o = c.in_ok-_owner in
    too_large (c.whole_exactly.ensures dir_kinds) c.args.args.now p.prog p.rest.now
    p.ensures.fits p.ensures.found v.vers v.rest.now
    v.ensures.fits v.ensures.found n.netid.now n.rest.now
    n.ensures.0 n.ensures.1 a.address.now a.rest.now a.ensures.0 a.ensures.1 o._owner.now o.rest.now o.ensures.0
    o.ensures.1 (omega (arith, c.saturating_sub.ensures, c.if-saturating_sub-gt-MOST_BYTES.true))

pub returns : goal.returns
returns c =
    let p = c.in_ok-prog in
    let v = c.in_ok-vers in
    let n = c.in_ok-netid in
    let a = c.in_ok-address in
    let o = c.in_ok-_owner in
    record {
      owner = o._owner.now;
      are = whole_rpcb (c.whole_exactly.ensures dir_kinds) c.args.args.now p.prog p.rest.now
          p.ensures.fits p.ensures.found v.vers
          v.rest.now v.ensures.fits v.ensures.found
          n.netid.now n.rest.now n.ensures.0 n.ensures.1 a.address.now a.rest.now a.ensures.0 a.ensures.1 o._owner.now
          o.rest.now o.ensures.0 o.ensures.1
          (bytes-by-index c.args.args.now (λ i within. omega (arith, c.type_inv.args i)))
          (omega (arith, c.saturating_sub.ensures, c.if-saturating_sub-gt-MOST_BYTES.false));
    }
