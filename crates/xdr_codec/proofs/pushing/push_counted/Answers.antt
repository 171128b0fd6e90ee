use Rattle.std.proofs.Common.{rules, ◌≡◌, ◌++◌, ℕ, pos, length, subst}
use Rattle.xdr_units.specs.Numbers.{num4, padded}
use Rattle.xdr_codec.proofs.Putting.{put_then}
use Rattle.xdr_codec.proofs.pushing.push_counted.Goals as goal

pub returns-in_err-push_length : goal.returns-in_err-push_length
returns-in_err-push_length g c =
    let bs = c.args.bytes.now.items in
    let many : c.len.result ≡ length bs = search rules in
    let first : g.P.Put.cuts c.args.out.now c.push_length.new.out (num4 (pos (length bs))) = subst
    (λ (n : ℕ). g.P.Put.cuts c.args.out.now c.push_length.new.out (num4 (pos n))) many c.in_err-push_length.ensures
    in
    let cut : g.P.Put.cuts c.args.out.now c.push_length.new.out (num4 (pos (length bs)) ++ padded bs) =
    g.met.P.Put.longer c.args.out.now c.push_length.new.out (num4 (pos (length bs))) (padded bs) first in
    search (rules, cut)

pub returns : goal.returns
returns g c =
    let bs = c.args.bytes.now.items in
    let many : c.len.result ≡ length bs = search rules in
    let first : g.P.Put.sends c.args.out.now c.push_length.new.out (num4 (pos (length bs))) = subst
    (λ (n : ℕ). g.P.Put.sends c.args.out.now c.push_length.new.out (num4 (pos n))) many c.in_ok-push_length.ensures
    in
    put_then c.push_padded.result g.P.Put.sends g.P.Put.cuts g.met.P.Put.trans g.met.P.Put.after c.args.out.now
    c.push_length.new.out c.push_padded.new.out (num4 (pos (length bs))) (padded bs) first c.push_padded.ensures
