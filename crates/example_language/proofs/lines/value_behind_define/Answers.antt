use Rattle.example_language.proofs.Answering.{refused, placed_fault}
use Rattle.example_language.proofs.PlainTexts.{texts}
use Rattle.example_language.proofs.lines.value_behind_define.Goals as goal

pub returns-clause-refused : goal.returns-clause-refused
returns-clause-refused c = refused _ _ c.plain_text.result texts.value_behind_define c.plain_text.ensures

pub returns-clause-place : goal.returns-clause-place
returns-clause-place c = placed_fault _ _ c.plain_text.result texts.value_behind_define c.plain_text.ensures
