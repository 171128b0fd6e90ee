use Rattle.std.proofs.Common.{length, map}
use Rattle.std.proofs.lemmas.Result.{err_from_is_err_and}
use Rattle.std.proofs.lemmas.List.{map_push}
use Rattle.xdr_grammar.specs.View.{arm_of, field_of}
use Rattle.xdr_grammar.specs.Private.Reading.{repeat, arm_with, content_with, declaration_with, field_with}
use Rattle.xdr_grammar.specs.Private.Reading.{specifier_at}
use Rattle.xdr_grammar.specs.Private.Parsing.{left, so_far}
use Rattle.xdr_grammar.proofs.Loop.{fails_along, stops, ends, goes_on}
use Rattle.xdr_grammar.proofs.parser.Parser.+declarations.Goals as goal

pub fields-returns-in_err-field : goal.fields-returns-in_err-field
fields-returns-in_err-field t c =
    let p = err_from_is_err_and c.from_residual.result c.from_residual.ensures.1 in
    let old = c.args.self.now in
    let step = field_with (content_with (declaration_with (specifier_at c.args.depth))) in
    let total = repeat step (length (left old)) (so_far old) (left old) in
    rw (p.1, p.2) (fails_along c.in_err-field.field-0.0 (step (so_far c.loop.self) (left c.loop.self)) total
    (stops step (map field_of c.loop.fields.items) (length old.rest.now) c.loop.counter (so_far c.loop.self)
    (left c.loop.self) total c.loop-test.true c.loop.invariant) c.in_err-field.ensures)

pub fields-returns-then-not-more : goal.fields-returns-then-not-more
fields-returns-then-not-more t c =
    let old = c.args.self.now in
    let step = field_with (content_with (declaration_with (specifier_at c.args.depth))) in
    let total = repeat step (length (left old)) (so_far old) (left old) in
    rw (c.in_ok-push.ensures.items, map_push)
    (ends step (map field_of c.loop.fields.items) (length old.rest.now) c.loop.counter (so_far c.loop.self)
    (left c.loop.self) total c.loop-test.true c.loop.invariant (field_of c.in_ok-field.field) c.in_ok-field.more
    (so_far c.field.new.self) (left c.field.new.self) c.in_ok-field.ensures c.if-not-more.true)

pub fields-loop-preserved : goal.fields-loop-preserved
fields-loop-preserved t c =
    let old = c.args.self.now in
    let step = field_with (content_with (declaration_with (specifier_at c.args.depth))) in
    let total = repeat step (length (left old)) (so_far old) (left old) in
    rw (c.in_ok-push.ensures.items, map_push)
    (goes_on step (map field_of c.loop.fields.items) (length old.rest.now) c.loop.counter (so_far c.loop.self)
    (left c.loop.self) total c.loop-test.true c.loop.invariant (field_of c.in_ok-field.field) c.in_ok-field.more
    (so_far c.field.new.self) (left c.field.new.self) c.in_ok-field.ensures c.if-not-more.false)

pub arms-returns-in_err-arm : goal.arms-returns-in_err-arm
arms-returns-in_err-arm t c =
    let p = err_from_is_err_and c.from_residual.result c.from_residual.ensures.1 in
    let old = c.args.self.now in
    let step = arm_with (content_with (declaration_with (specifier_at c.args.depth))) in
    let total = repeat step (length (left old)) (so_far old) (left old) in
    rw (p.1, p.2) (fails_along c.in_err-arm.field-0.0 (step (so_far c.loop.self) (left c.loop.self)) total
    (stops step (map arm_of c.loop.arms.items) (length old.rest.now) c.loop.counter (so_far c.loop.self)
    (left c.loop.self) total c.loop-test.true c.loop.invariant) c.in_err-arm.ensures)

pub arms-returns-then-not-more : goal.arms-returns-then-not-more
arms-returns-then-not-more t c =
    let old = c.args.self.now in
    let step = arm_with (content_with (declaration_with (specifier_at c.args.depth))) in
    let total = repeat step (length (left old)) (so_far old) (left old) in
    rw (c.in_ok-push.ensures.items, map_push)
    (ends step (map arm_of c.loop.arms.items) (length old.rest.now) c.loop.counter (so_far c.loop.self)
    (left c.loop.self) total c.loop-test.true c.loop.invariant (arm_of c.in_ok-arm.arm) c.in_ok-arm.more
    (so_far c.arm.new.self) (left c.arm.new.self) c.in_ok-arm.ensures c.if-not-more.true)

pub arms-loop-preserved : goal.arms-loop-preserved
arms-loop-preserved t c =
    let old = c.args.self.now in
    let step = arm_with (content_with (declaration_with (specifier_at c.args.depth))) in
    let total = repeat step (length (left old)) (so_far old) (left old) in
    rw (c.in_ok-push.ensures.items, map_push)
    (goes_on step (map arm_of c.loop.arms.items) (length old.rest.now) c.loop.counter (so_far c.loop.self)
    (left c.loop.self) total c.loop-test.true c.loop.invariant (arm_of c.in_ok-arm.arm) c.in_ok-arm.more
    (so_far c.arm.new.self) (left c.arm.new.self) c.in_ok-arm.ensures c.if-not-more.false)
