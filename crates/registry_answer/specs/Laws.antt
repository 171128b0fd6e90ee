-- A record has one answer, and each record has one.
use Rattle.std.specs.Prelude.{◌≡◌, ℕ, Bool, false, List, Option}
use Rattle.xdr_units.specs.Numbers.{AreBytes}
use Rattle.registry_rows.specs.Rows.{Row}
use Rattle.registry_answer.specs.Answer.{Answer}

-- rows, netid, record and whether memory was refused fix the new rows and what is sent
abbrev pub OneAnswer : Type 0
OneAnswer =
    (rows new other : List Row) (netid message : List ℕ) (refused : Bool) (sent said : Option (List ℕ))
    → AreBytes message → Answer rows netid message refused new sent → Answer rows netid message refused other said
    → (new ≡ other) × (sent ≡ said)

-- each record has an answer where no memory is refused
abbrev pub SomeAnswer : Type 0
SomeAnswer =
    (rows : List Row) (netid message : List ℕ) → AreBytes message
    → ((new : List Row) (sent : Option (List ℕ)) → Answer rows netid message false new sent → ⊥) → ⊥
