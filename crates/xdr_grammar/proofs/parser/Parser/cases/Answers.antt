use Rattle.std.proofs.Common.{length, map}
use Rattle.std.proofs.lemmas.Result.{err_from_is_err_and}
use Rattle.std.proofs.lemmas.List.{map_push}
use Rattle.xdr_grammar.specs.View.{late_of}
use Rattle.xdr_grammar.specs.Private.Reading.{repeat, case_at}
use Rattle.xdr_grammar.specs.Private.Parsing.{left, so_far}
use Rattle.xdr_grammar.proofs.Loop.{fails_along, stops, ends, goes_on}
use Rattle.xdr_grammar.proofs.parser.Parser.cases.Goals as goal

pub returns-in_err-value : goal.returns-in_err-value
returns-in_err-value c =
    let p = err_from_is_err_and c.from_residual.result c.from_residual.ensures.1 in
    let old = c.args.self.now in
    let step = case_at in
    let total = repeat step (length (left old)) (so_far old) (left old) in
    rw (p.1, p.2) (fails_along c.in_err-value.field-0.0 (step (so_far c.loop.self) (left c.loop.self)) total
    (stops step (map late_of c.loop.cases.items) (length old.rest.now) c.loop.counter (so_far c.loop.self)
    (left c.loop.self) total c.loop-test.true c.loop.invariant) c.in_err-value.ensures)

pub returns-then-not-more : goal.returns-then-not-more
returns-then-not-more c =
    let old = c.args.self.now in
    let step = case_at in
    let total = repeat step (length (left old)) (so_far old) (left old) in
    rw (c.in_ok-push.ensures.items, map_push)
    (ends step (map late_of c.loop.cases.items) (length old.rest.now) c.loop.counter (so_far c.loop.self)
    (left c.loop.self) total c.loop-test.true c.loop.invariant (late_of c.in_ok-value.value) c.in_ok-value.more
    (so_far c.case.new.self) (left c.case.new.self) c.in_ok-value.ensures c.if-not-more.true)

pub loop-preserved : goal.loop-preserved
loop-preserved c =
    let old = c.args.self.now in
    let step = case_at in
    let total = repeat step (length (left old)) (so_far old) (left old) in
    rw (c.in_ok-push.ensures.items, map_push)
    (goes_on step (map late_of c.loop.cases.items) (length old.rest.now) c.loop.counter (so_far c.loop.self)
    (left c.loop.self) total c.loop-test.true c.loop.invariant (late_of c.in_ok-value.value) c.in_ok-value.more
    (so_far c.case.new.self) (left c.case.new.self) c.in_ok-value.ensures c.if-not-more.false)
