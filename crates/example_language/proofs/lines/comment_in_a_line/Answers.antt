use Rattle.example_language.proofs.Answering.{answered, memory_alone}
use Rattle.example_language.proofs.PlainTexts.{texts}
use Rattle.example_language.proofs.lines.comment_in_a_line.Goals as goal

pub returns-clause-found : goal.returns-clause-found
returns-clause-found c = answered _ _ c.plain_text.result texts.comment_in_a_line c.plain_text.ensures

pub returns-clause-taken : goal.returns-clause-taken
returns-clause-taken c = memory_alone _ _ c.plain_text.result texts.comment_in_a_line c.plain_text.ensures
