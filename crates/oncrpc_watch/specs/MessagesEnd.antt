-- What is printed of the messages of a stream, and the status behind that.
use Rattle.std.specs.Prelude.{◌≡◌, ℕ, ◌==◌, Bool, true, false, List, ◌++◌, codes, Option, None, Some, String}
use Rattle.std.specs.Prelude.{string_bytes, if◌then◌else◌}
use Rattle.std.specs.declared.alloc.Global.{Global}
use Rattle.std.specs.Io.KnownBytes.{Appends, Keeps}
use Rattle.xdr_lang.specs.Declarations.{Declared}
use Rattle.oncrpc_messages.specs.Heads.{AreHeads, Heads, heads_of}
use Rattle.oncrpc_messages.specs.declared.form.Form.{Form}
use Rattle.oncrpc_messages.specs.declared.form.Form.TheVariants as form
use Rattle.oncrpc_messages.specs.declared.heads.Heads as code
use Rattle.oncrpc_tasks.specs.Sources.{Declares}
use Rattle.oncrpc_watch.specs.declared.ending.Ending.{Ending}
use Rattle.oncrpc_watch.specs.declared.style.Style.{Style}
use Rattle.oncrpc_watch.specs.declared.task.MessagesTask.{MessagesTask}
use Rattle.oncrpc_watch.specs.Events.{Event, Joins, TellsEvents}
use Rattle.oncrpc_watch.specs.Lines.{counts_line}
use Rattle.oncrpc_watch.specs.Run.{State, nothing}
use Rattle.oncrpc_watch.specs.Streams.{AreEvents}
use Rattle.oncrpc_watch.specs.Terms.{Terms}

-- lines, or an object of JSON for each message
abbrev pub form_of : (json : Bool) → Form
form_of true = form.Json
form_of false = form.Lines

-- by what messages are judged and printed, within the greatest limits
abbrev pub terms_in : List Declared → Declared → Heads → Style → Terms
terms_in known declared heads style = record {
  declared = declared;
  known = known;
  heads = heads;
  limits = record { depth = 4096; bytes = 16777216 };
  form = form_of style.json;
  brief = style.brief;
}

-- the status says whether anything was refused
abbrev pub status_of : (refused : ℕ) → ℕ
status_of refused = if refused == 0 then 0 else 1

-- What is printed of these, from the first on, was written, and behind it the counts. The status says whether anything
-- was refused.
pub record PrintsAll (t : Terms) (events : List Event) (taken taken' : Option (List ℕ)) (status : ℕ) : Type 0 where
  pub state : State
  pub text : List ℕ
  pub tells : TellsEvents t nothing events state text
  pub written : Appends taken taken' (text ++ counts_line t.form state.counts)
  pub status_is : status ≡ status_of state.counts.refused

-- The input was read to its end, or to what is refused of it, and all that came was printed. This is what it has left.
pub record PrintsInput (t : Terms) (left taken taken' : Option (List ℕ)) (status : ℕ) : Type 0 where
  pub rest : Option (List ℕ)
  pub records : List (List ℕ)
  pub ending : Option Ending
  pub events : List Event
  pub input : AreEvents (codes "input") left rest records ending events
  pub prints : PrintsAll t events taken taken' status

-- The same of the input and of another source, whose messages were printed each in its order.
pub record PrintsBoth (t : Terms) (left other taken taken' : Option (List ℕ)) (status : ℕ) : Type 0 where
  pub rest : Option (List ℕ)
  pub records : List (List ℕ)
  pub ending : Option Ending
  pub of_input : List Event
  pub other_rest : Option (List ℕ)
  pub replies : List (List ℕ)
  pub last : Option Ending
  pub of_other : List Event
  pub events : List Event
  pub input : AreEvents (codes "input") left rest records ending of_input
  pub others : AreEvents (codes "replies") other other_rest replies last of_other
  pub joins : Joins of_input of_other events
  pub prints : PrintsAll t events taken taken' status

-- what is printed where no file with the other direction is named, and where one is: it is read from what is reported
-- of it
abbrev pub PrintsOf : Terms → (reported : List ℕ → Option (List ℕ)) → Option (String Global)
    → (left taken taken' : Option (List ℕ)) → (status : ℕ) → Type 0
PrintsOf t reported None left taken taken' status = PrintsInput t left taken taken' status
PrintsOf t reported (Some name) left taken taken' status =
    (other : Option (List ℕ)) × Keeps (reported (string_bytes name)) other × PrintsBoth t left other taken taken' status

-- What is declared by the words' texts, and by those that are known, each by itself; and the messages by that.
pub record PrintsMessages (known : List Declared) (reported : List ℕ → Option (List ℕ)) (what : MessagesTask)
    (left taken taken' : Option (List ℕ)) (status : ℕ) : Type 0 where
  pub declared : Declared
  pub heads : code.Heads
  pub declares : Declares reported what.types declared
  pub are_heads : AreHeads heads
  pub prints : PrintsOf (terms_in known declared (heads_of heads) what.style) reported what.replies left taken taken'
      status
