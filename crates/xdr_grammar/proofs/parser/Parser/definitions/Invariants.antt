use Rattle.std.proofs.Common.{◌≡◌, ◌-◌, length}
use Rattle.xdr_grammar.specs.Private.Reading.{definitions_at}
use Rattle.xdr_grammar.specs.Private.Parsing.{left, so_far}
use Rattle.xdr_grammar.proofs.parser.Parser.definitions.Given as goal

abbrev pub invariant-loop : goal.invariant-loop
invariant-loop l = definitions_at (length l.fn.self.rest.now - l.counter) (so_far l.self) (left l.self) ≡ definitions_at
    (length (left l.fn.self)) (so_far l.fn.self) (left l.fn.self)
