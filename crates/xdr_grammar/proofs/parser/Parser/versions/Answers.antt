use Rattle.std.proofs.Common.{length, map}
use Rattle.std.proofs.lemmas.Result.{err_from_is_err_and}
use Rattle.std.proofs.lemmas.List.{map_push}
use Rattle.xdr_grammar.specs.View.{version_of}
use Rattle.xdr_grammar.specs.Private.Reading.{repeat, specifier_at, version_with}
use Rattle.xdr_grammar.specs.Private.Parsing.{left, so_far}
use Rattle.xdr_grammar.proofs.Loop.{fails_along, stops, ends, goes_on}
use Rattle.xdr_grammar.proofs.parser.Parser.versions.Goals as goal

pub returns-in_err-version : goal.returns-in_err-version
returns-in_err-version c =
    let p = err_from_is_err_and c.from_residual.result c.from_residual.ensures.1 in
    let old = c.args.self.now in
    let step = version_with (specifier_at 32) in
    let total = repeat step (length (left old)) (so_far old) (left old) in
    rw (p.1, p.2) (fails_along c.in_err-version.field-0.0 (step (so_far c.loop.self) (left c.loop.self)) total
    (stops step (map version_of c.loop.versions.items) (length old.rest.now) c.loop.counter (so_far c.loop.self)
    (left c.loop.self) total c.loop-test.true c.loop.invariant) c.in_err-version.ensures)

pub returns-then-not-more : goal.returns-then-not-more
returns-then-not-more c =
    let old = c.args.self.now in
    let step = version_with (specifier_at 32) in
    let total = repeat step (length (left old)) (so_far old) (left old) in
    rw (c.in_ok-push.ensures.items, map_push)
    (ends step (map version_of c.loop.versions.items) (length old.rest.now) c.loop.counter (so_far c.loop.self)
    (left c.loop.self) total c.loop-test.true c.loop.invariant
    (version_of c.in_ok-version.version) c.in_ok-version.more (so_far c.version.new.self)
    (left c.version.new.self) c.in_ok-version.ensures c.if-not-more.true)

pub loop-preserved : goal.loop-preserved
loop-preserved c =
    let old = c.args.self.now in
    let step = version_with (specifier_at 32) in
    let total = repeat step (length (left old)) (so_far old) (left old) in
    rw (c.in_ok-push.ensures.items, map_push)
    (goes_on step (map version_of c.loop.versions.items) (length old.rest.now) c.loop.counter (so_far c.loop.self)
    (left c.loop.self) total c.loop-test.true c.loop.invariant
    (version_of c.in_ok-version.version) c.in_ok-version.more (so_far c.version.new.self)
    (left c.version.new.self) c.in_ok-version.ensures c.if-not-more.false)
