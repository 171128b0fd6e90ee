use Rattle.std.proofs.Common.{ℕ, ◌≤◌, length, ap, sym, subst}
use Rattle.registry_callers.proofs.Texts.{if_ok, length-uaddr_text}
use Rattle.registry_callers.proofs.addresses.address_text.Goals as goal

pub returns-clause-few : goal.returns-clause-few
returns-clause-few c =
    let r = c.ranges in
    if_ok c.write_uaddr.result c.write_uaddr.ensures (λ v is.
    subst (λ (n : ℕ). n ≤ 23) (sym (ap length is))
    (length-uaddr_text c.args.first c.args.second c.args.third c.args.fourth c.args.port r.first.fits r.second.fits
    r.third.fits r.fourth.fits r.port.fits))
