use Rattle.std.proofs.Common.{List, ◌++◌, ap, ◌∙◌}
use Rattle.xdr_tokens.specs.declared.token.Token.{Token}
use Rattle.xdr_dialect.proofs.Places.{lexemes_whole}
use Rattle.xdr_dialect.proofs.rewriting.meant_tokens.Goals as goal

pub returns-clause-tokens : goal.returns-clause-tokens
returns-clause-tokens c =
    let defined = c.add_library.new.found.items in
    lexemes_whole c.args.beginning c.args.tokens.now c.in_ok-body.body.items defined c.extend_from_slice.new.self.items
    (c.in_ok-extend_from_slice.ensures.items ∙ ap (λ (l : List Token). defined ++ l) c.deref-2.ensures.value)
    c.in_ok-body.ensures.places c.in_ok-body.ensures.tokens
    (rw (c.new-found.ensures.items, c.deref.ensures.value) at c.in_ok-add_library.ensures)
