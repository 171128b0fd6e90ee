use Rattle.std.proofs.Common.{◌≡◌, ◌-◌, length, map}
use Rattle.xdr_grammar.specs.View.{late_of}
use Rattle.xdr_grammar.specs.Private.Reading.{repeat, case_at}
use Rattle.xdr_grammar.specs.Private.Parsing.{left, so_far}
use Rattle.xdr_grammar.proofs.Loop.{with_front}
use Rattle.xdr_grammar.proofs.parser.Parser.cases.Given as goal

abbrev pub invariant-loop : goal.invariant-loop
invariant-loop l = with_front (map late_of l.cases.items)
    (repeat (case_at) (length l.fn.self.rest.now - l.counter) (so_far l.self) (left l.self)) ≡ repeat (case_at)
    (length (left l.fn.self)) (so_far l.fn.self) (left l.fn.self)
