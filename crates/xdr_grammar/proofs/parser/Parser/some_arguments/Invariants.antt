use Rattle.std.proofs.Common.{◌≡◌, ◌-◌, length, map}
use Rattle.xdr_grammar.specs.View.{part_of}
use Rattle.xdr_grammar.specs.Private.Reading.{repeat, argument_with, specifier_at}
use Rattle.xdr_grammar.specs.Private.Parsing.{left, so_far}
use Rattle.xdr_grammar.proofs.Loop.{with_front}
use Rattle.xdr_grammar.proofs.parser.Parser.some_arguments.Given as goal

abbrev pub invariant-loop : goal.invariant-loop
invariant-loop l = with_front (map part_of l.arguments.items)
    (repeat (argument_with (specifier_at 32)) (length l.fn.self.rest.now - l.counter) (so_far l.self)
    (left l.self)) ≡ repeat (argument_with (specifier_at 32)) (length (left l.fn.self)) (so_far l.fn.self)
    (left l.fn.self)
