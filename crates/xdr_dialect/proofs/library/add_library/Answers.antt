use Rattle.std.proofs.lemmas.Result.{on_ok_weaker}
use Rattle.xdr_dialect.proofs.Places.{standing_more}
use Rattle.xdr_dialect.proofs.library.add_library.Goals as goal

pub returns : goal.returns
returns c =
    let at = c.args.left in
    let e2 = standing_more at _ _ _ _ _ c.in_ok-add_lacking.ensures c.in_ok-add_lacking-2.ensures in
    let e3 = standing_more at _ _ _ _ _ e2 c.in_ok-add_lacking-3.ensures in
    let e4 = standing_more at _ _ _ _ _ e3 c.in_ok-add_lacking-4.ensures in
    let e5 = standing_more at _ _ _ _ _ e4 c.in_ok-add_lacking-5.ensures in
    let e6 = standing_more at _ _ _ _ _ e5 c.in_ok-add_lacking-6.ensures in
    let e7 = standing_more at _ _ _ _ _ e6 c.in_ok-add_lacking-7.ensures in
    let e8 = standing_more at _ _ _ _ _ e7 c.in_ok-add_lacking-8.ensures in
    let e9 = standing_more at _ _ _ _ _ e8 c.in_ok-add_lacking-9.ensures in
    on_ok_weaker c.add_lacking-10.result (λ e. standing_more at _ _ _ _ _ e9 e) c.add_lacking-10.ensures
