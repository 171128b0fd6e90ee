use Rattle.std.proofs.Common.{refl, ◌∙◌}
use Rattle.xdr_grammar.specs.Private.Taking.{after_word, after_sign, name_at, number_at, value_at, size_at, limit_at}
use Rattle.xdr_grammar.specs.Private.Taking.{either_sign, numbered_at}
use Rattle.xdr_grammar.specs.Private.Reading.{repeat, opaque_at, text_at, declared_at}
use Rattle.xdr_grammar.specs.Private.Reading.{declaration_with, content_with, basic_at, member_at, enum_at, field_with}
use Rattle.xdr_grammar.specs.Private.Reading.{struct_with, case_at, arm_with, default_with, switch_with, union_with}
use Rattle.xdr_grammar.specs.Private.Reading.{body_word_at, body_with, specifier_at, passed_with, argument_with}
use Rattle.xdr_grammar.specs.Private.Reading.{arguments_with, result_with, procedure_with, version_with, program_with}
use Rattle.xdr_grammar.specs.Private.Reading.{const_at, typedef_with, defined_with, definition_at, definitions_at}
use Rattle.xdr_grammar.specs.Private.Reading.{int_at, inner_word_at}
use Rattle.example_language.specs.Spelled.{typedef_of_bodies}
use Rattle.example_language.proofs.Outlining.{no_outline}
use Rattle.example_language.proofs.outlines.one_body_too_many.Goals as goal

pub returns : goal.returns
unfolding after_word after_sign name_at number_at value_at size_at limit_at either_sign numbered_at repeat opaque_at
    text_at declared_at declaration_with content_with int_at basic_at member_at enum_at field_with struct_with case_at
    arm_with default_with switch_with union_with body_word_at inner_word_at body_with specifier_at passed_with
    argument_with arguments_with result_with procedure_with version_with program_with const_at typedef_with
    defined_with definition_at definitions_at
returns c = c.is_ok.ensures.value
    ∙ no_outline (typedef_of_bodies 33) _ c.read_outline.result c.requires refl c.read_outline.ensures.found
