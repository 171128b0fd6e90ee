-- From the bytes that a text of hexadecimal spells to the text.
use Rattle.std.proofs.Common.{◌≡◌, ℕ, true, Option, None, Some, Vec, Global, List}
use Rattle.oncrpc_answers.specs.declared.answer.Answer.{Answer}
use Rattle.oncrpc_answers.specs.declared.answer.Answer.TheVariants as answer
use Rattle.oncrpc_tasks.specs.declared.given.Given.{Given}
use Rattle.oncrpc_tasks.specs.declared.given.Given.TheVariants as given
use Rattle.oncrpc_tasks.specs.Input.{InputGives, TextGives}
use Rattle.oncrpc_tasks.specs.Right.{Question, IsRight, IsRightFor, IsRightForText}

-- the bytes that a text of hexadecimal spells are read to their end
text_is_right : (q : Question) (text : List ℕ) (v : Vec ℕ Global) (a : Answer) (shown : List ℕ)
    → IsRight q v.items a shown → TextGives text (given.Bytes v) → IsRightForText q text a shown
text_is_right q text v answer.HexTooLong shown right gives = absurd right
text_is_right q text v answer.BadHex shown right gives = absurd right
text_is_right q text v (answer.Whole used) shown right gives =
    (gives.0, (v.items, gives.1, right))
text_is_right q text v (answer.MoreFollows used) shown right gives =
    (gives.0, (v.items, gives.1, right))
text_is_right q text v (answer.Refused f) shown right gives =
    (gives.0, (v.items, gives.1, right))

-- an answer that is right for the bytes is right for the text that spells them
pub given_is_right : (q : Question) (g : Given) (v : Vec ℕ Global) (a : Answer) (shown : List ℕ) → g ≡ given.Bytes v
    → IsRight q v.items a shown → (reported : Option (List ℕ)) → InputGives reported g
    → IsRightFor q true reported a shown
given_is_right q g v a shown is right None gives = tt
given_is_right q g v a shown is right (Some text) gives = text_is_right q text v a shown right (rw is at gives)
