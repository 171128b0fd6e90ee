use Rattle.std.proofs.Common.{Some, length, sym, ◌∙◌}
use Rattle.xdr_tokens.specs.Tokens.{lexemes}
use Rattle.xdr_grammar.specs.Outline.{nothing}
use Rattle.xdr_grammar.specs.View.{outline_of}
use Rattle.xdr_grammar.specs.Private.Reading.{definitions_at}
use Rattle.xdr_grammar.proofs.Loop.{fails_along}
use Rattle.xdr_grammar.proofs.Outlining.{outline_found, outline_again, reported_fails, reported_is}
use Rattle.xdr_grammar.proofs.definitions.read_outline.Goals as goal

pub returns-clause-only : goal.returns-clause-only
returns-clause-only c = λ v is.
    let ts = lexemes c.args.tokens.now in
    let failed = rw (
      c.new.ensures.items,
      c.new-2.ensures.items,
      c.new-3.ensures.items,
      c.new-4.ensures.items,
    ) at c.in-Err.ensures in
    rw c.fault_of.ensures
    (reported_fails c.in-Err.misread v (fails_along c.in-Err.misread (definitions_at (length ts) nothing ts) (Some v)
    (λ none. sym (outline_again ts v is) ∙ none) failed))

pub returns-clause-refused : goal.returns-clause-refused
returns-clause-refused c = rw c.fault_of.ensures (reported_is c.in-Err.misread)

pub returns-in-Ok-clause-found : goal.returns-in-Ok-clause-found
returns-in-Ok-clause-found c =
    let read = rw (c.new.ensures.items, c.new-2.ensures.items, c.new-3.ensures.items, c.new-4.ensures.items)
    at c.in-Ok.ensures in
    outline_found (lexemes c.args.tokens.now) (outline_of c.definitions.new.self.outline) read

pub returns-in-Ok-clause-only : goal.returns-in-Ok-clause-only
returns-in-Ok-clause-only c = λ v is.
    let read = rw (c.new.ensures.items, c.new-2.ensures.items, c.new-3.ensures.items, c.new-4.ensures.items)
    at c.in-Ok.ensures in
    sym (outline_again (lexemes c.args.tokens.now) v is) ∙ read
