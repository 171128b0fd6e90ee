-- A SET of a row that may be there, as the code finds it.
use Rattle.std.specs.Prelude.{◌≡◌, ℕ, true, false, List, [], Option, Some}
use Rattle.registry_rows.specs.Rows.{Row}
use Rattle.registry_answer.specs.Answer.{Answer}
use Rattle.registry_answer.specs.Answering.{Adds}
use Rattle.registry_callers.specs.From.{is_there}
use Rattle.registry_callers.specs.declared.registering.Again.{Again}
use Rattle.registry_callers.specs.declared.registering.Again.TheVariants as again

-- The message makes a row that is there, and the reply was written; or it makes none that is, or memory was refused,
-- and the bytes are as they were.
abbrev pub AppendsAgain : List Row → (netid asked old out : List ℕ) → Again → Type 0
AppendsAgain rows netid asked old out again.Reply =
    (made : List Row) × ((bytes : List ℕ)
    × (Answer [] netid asked false made (Some bytes) × (is_there rows made ≡ true) × Adds old out bytes))
AppendsAgain rows netid asked old out again.Other =
    (made : List Row) × ((said : Option (List ℕ))
    × (Answer [] netid asked false made said × (is_there rows made ≡ false) × (out ≡ old)))
AppendsAgain rows netid asked old out again.OutOfMemory = out ≡ old
