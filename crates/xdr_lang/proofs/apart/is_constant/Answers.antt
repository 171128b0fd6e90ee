use Rattle.std.proofs.Common.{◌≡◌, length, take, is_some, ap, ◌∙◌, arith}
use Rattle.std.proofs.lemmas.List.{length-map, take_all}
use Rattle.xdr_constants.specs.Constants.{known}
use Rattle.xdr_constants.specs.Views.{known_of, knowns}
use Rattle.xdr_lang.proofs.Sharing.{known_any}
use Rattle.xdr_lang.proofs.apart.is_constant.Goals as goal

pub returns : goal.returns
returns c =
    let ks = knowns c.args.known.now.list.items in
    let same : length ks ≡ length c.args.known.now.list.items = length-map c.args.known.now.list.items known_of in
    let all : take c.len.result ks ≡ ks = take_all c.len.result ks (omega (arith, same, c.len.ensures)) in
    c.is_some.ensures ∙ ap is_some (c.named.ensures ∙ ap (known c.args.name.now) all) ∙ known_any c.args.name.now ks
