use Rattle.std.proofs.Common.{◌≡◌, ◌-◌, ◌+◌, ◌*◌, length, map}
use Rattle.xdr_grammar.specs.View.{arm_of, field_of}
use Rattle.xdr_grammar.specs.Private.Reading.{repeat, arm_with, content_with, declaration_with, field_with}
use Rattle.xdr_grammar.specs.Private.Reading.{specifier_at}
use Rattle.xdr_grammar.specs.Private.Parsing.{left, so_far}
use Rattle.xdr_grammar.proofs.Loop.{with_front}
use Rattle.xdr_grammar.proofs.parser.Parser.+declarations.Given as goal

abbrev pub decreases-specifier : goal.decreases-specifier
decreases-specifier l = 8 * l.depth + 0

abbrev pub decreases-declaration : goal.decreases-declaration
decreases-declaration l = 8 * l.depth + 1

abbrev pub decreases-content : goal.decreases-content
decreases-content l = 8 * l.depth + 2

abbrev pub decreases-field : goal.decreases-field
decreases-field l = 8 * l.depth + 3

abbrev pub decreases-arm : goal.decreases-arm
decreases-arm l = 8 * l.depth + 3

abbrev pub decreases-switch : goal.decreases-switch
decreases-switch l = 8 * l.depth + 2

abbrev pub decreases-default : goal.decreases-default
decreases-default l = 8 * l.depth + 3

abbrev pub decreases-fields : goal.decreases-fields
decreases-fields l = 8 * l.depth + 4

abbrev pub decreases-arms : goal.decreases-arms
decreases-arms l = 8 * l.depth + 4

abbrev pub decreases-struct_body : goal.decreases-struct_body
decreases-struct_body l = 8 * l.depth + 5

abbrev pub decreases-union_body : goal.decreases-union_body
decreases-union_body l = 8 * l.depth + 5

abbrev pub decreases-body : goal.decreases-body
decreases-body l = 8 * l.depth + 6

abbrev pub invariant-fields-loop : goal.invariant-fields-loop
invariant-fields-loop l = with_front (map field_of l.fields.items)
    (repeat (field_with (content_with (declaration_with (specifier_at l.depth))))
    (length l.fn.self.rest.now - l.counter) (so_far l.self) (left l.self)) ≡ repeat
    (field_with (content_with (declaration_with (specifier_at l.depth)))) (length (left l.fn.self)) (so_far l.fn.self)
    (left l.fn.self)

abbrev pub invariant-arms-loop : goal.invariant-arms-loop
invariant-arms-loop l = with_front (map arm_of l.arms.items)
    (repeat (arm_with (content_with (declaration_with (specifier_at l.depth)))) (length l.fn.self.rest.now - l.counter)
    (so_far l.self) (left l.self)) ≡ repeat (arm_with (content_with (declaration_with (specifier_at l.depth))))
    (length (left l.fn.self)) (so_far l.fn.self) (left l.fn.self)
