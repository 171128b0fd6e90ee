use Rattle.xdr_listing.proofs.Tokens.{numbered_as}
use Rattle.xdr_listing.proofs.json_text.JsonText.numbered.Goals as goal

pub returns : goal.returns
returns c =
    numbered_as c.args.self.now c.named.new.self c.token.new.self c.token-2.new.self c.args.name.now
    c.format.result.now c.args.number c.in_ok-named.ensures c.in_ok-token.ensures c.in_ok-token-2.ensures
    c.format.ensures.text
