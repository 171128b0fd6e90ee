-- What comes of the streams of a connection, and what is printed of it.
use Rattle.std.specs.Prelude.{◌≡◌, ◌⊎◌, ℕ, List, [], ◌∷◌, ◌++◌, codes, decimal}
use Rattle.oncrpc_messages.specs.declared.form.Form.{Form}
use Rattle.oncrpc_messages.specs.declared.form.Form.TheVariants as form
use Rattle.oncrpc_watch.specs.declared.ending.Ending.{Ending}
use Rattle.oncrpc_watch.specs.declared.ending.Ending.TheVariants as ending
use Rattle.oncrpc_watch.specs.Counted.{refused}
use Rattle.oncrpc_watch.specs.Run.{State, Tells}
use Rattle.oncrpc_watch.specs.Terms.{Terms}

-- A record of a stream, or that the stream with this name ends inside one, or has one that is too long.
pub data Event : Type 0 where
  Record : (bytes : List ℕ) → Event
  Ends : (name : List ℕ) → Ending → Event

-- the line of a stream that is refused
abbrev pub stream_line : Form → (name why : List ℕ) → (at : ℕ) → List ℕ
stream_line form.Lines name why at = name ++ codes " refused " ++ why ++ codes " at " ++ decimal at ++ codes "\n"
stream_line form.Json name why at =
    codes "{\"type\":\"" ++ name ++ codes "\",\"refused\":\"" ++ why ++ codes "\",\"at\":" ++ decimal at
    ++ codes "}\n"

abbrev pub ending_line : Form → (name : List ℕ) → Ending → List ℕ
ending_line form name (ending.TooLong at) = stream_line form name (codes "TooLong") at
ending_line form name (ending.Truncated at) = stream_line form name (codes "Truncated") at

-- what is printed of one, and the state behind it: all records of a connection came on way 0, at time 0
abbrev pub TellsEvent : Terms → State → Event → State → (text : List ℕ) → Type 0
TellsEvent t s (Record bytes) new text = Tells t s 0 0 bytes new text
TellsEvent t s (Ends name e) new text =
    (new ≡ record { history = s.history; counts = refused s.counts }) × (text ≡ ending_line t.form name e)

-- what is printed of several, one after another
abbrev pub TellsEvents : Terms → State → List Event → State → (text : List ℕ) → Type 0
TellsEvents t s [] new text = (new ≡ s) × (text ≡ [])
TellsEvents t s (e ∷ es) new text =
    (mid : State) × (first : List ℕ) × (rest : List ℕ) × TellsEvent t s e mid first × TellsEvents t mid es new rest
    × (text ≡ first ++ rest)

-- the events are those of two streams, each in its order
abbrev pub Joins : (xs ys zs : List Event) → Type 0
Joins xs ys [] = (xs ≡ []) × (ys ≡ [])
Joins xs ys (z ∷ zs) =
    ((more : List Event) × (xs ≡ z ∷ more) × Joins more ys zs)
    ⊎ ((more : List Event) × (ys ≡ z ∷ more) × Joins xs more zs)
