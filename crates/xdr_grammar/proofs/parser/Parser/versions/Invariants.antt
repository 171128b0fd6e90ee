use Rattle.std.proofs.Common.{◌≡◌, ◌-◌, length, map}
use Rattle.xdr_grammar.specs.View.{version_of}
use Rattle.xdr_grammar.specs.Private.Reading.{repeat, specifier_at, version_with}
use Rattle.xdr_grammar.specs.Private.Parsing.{left, so_far}
use Rattle.xdr_grammar.proofs.Loop.{with_front}
use Rattle.xdr_grammar.proofs.parser.Parser.versions.Given as goal

abbrev pub invariant-loop : goal.invariant-loop
invariant-loop l = with_front (map version_of l.versions.items)
    (repeat (version_with (specifier_at 32)) (length l.fn.self.rest.now - l.counter) (so_far l.self)
    (left l.self)) ≡ repeat (version_with (specifier_at 32)) (length (left l.fn.self)) (so_far l.fn.self)
    (left l.fn.self)
