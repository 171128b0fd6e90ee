-- What is printed of records, one after another, by what was heard before each (RFC 5531 sections 9, 11 and 12).
use Rattle.std.specs.Prelude.{◌≡◌, ℕ, List, [], ◌∷◌, ◌++◌, Option, None, Some, is_some, ⊤}
use Rattle.oncrpc_messages.specs.Closing.{closed}
use Rattle.oncrpc_messages.specs.Messages.{FindsMessage, TellsPage}
use Rattle.oncrpc_messages.specs.declared.asked.Asked.{Asked}
use Rattle.oncrpc_messages.specs.declared.page.Found.{Found}
use Rattle.oncrpc_messages.specs.declared.page.Page.{Page}
use Rattle.oncrpc_messages.specs.declared.page.Said.{Said}
use Rattle.oncrpc_messages.specs.declared.page.Said.TheVariants as said
use Rattle.oncrpc_watch.specs.declared.counts.Counts.{Counts}
use Rattle.oncrpc_watch.specs.Counted.{counted}
use Rattle.oncrpc_watch.specs.Heard.{Answers, Heard}
use Rattle.oncrpc_watch.specs.Terms.{Terms, settings_by}

-- this is the program of a call, or of the call to which a reply answers
abbrev pub IsProgram : Said → Option Asked → (program : ℕ) → Type 0
IsProgram (said.Call xid a) asked program = program ≡ a.program
IsProgram (said.Reply xid) (Some a) program = program ≡ a.program
IsProgram (said.Reply xid) None program = ⊤
IsProgram said.Neither asked program = ⊤

-- What is told of a record that came on this way: what its bytes are by what declares its program, and by the call to
-- which it answers.
pub record TellsRecord (t : Terms) (history : List Heard) (way : ℕ) (bytes : List ℕ) (page : Page)
    (asked : Option Asked) : Type 0 where
  pub program : ℕ
  pub answers : Answers history way page.said asked
  pub is_program : IsProgram page.said asked program
  pub tells : TellsPage (settings_by t program) asked bytes page

-- What is found of a record that came on this way, by the same.
pub record FindsRecord (t : Terms) (history : List Heard) (way : ℕ) (bytes : List ℕ) (found : Found)
    (asked : Option Asked) : Type 0 where
  pub program : ℕ
  pub answers : Answers history way found.said asked
  pub is_program : IsProgram found.said asked program
  pub finds : FindsMessage (settings_by t program) asked bytes found

-- What was heard so far, the newest first, and what was counted.
pub record State : Type 0 where
  pub history : List Heard
  pub counts : Counts

-- nothing was heard
abbrev pub nothing : State
nothing = record {
  history = [];
  counts = record { calls = 0; replies = 0; others = 0; refused = 0; unjudged = 0; unasked = 0 };
}

-- this was heard, too
abbrev pub heard_of : State → (way time : ℕ) → Found → Option Asked → State
heard_of s way time found asked = record {
  history = record { way = way; time = time; said = found.said } ∷ s.history;
  counts = counted found.said found.verdict (is_some asked) s.counts;
}

-- the same of what is told
abbrev pub heard : State → (way time : ℕ) → Page → Option Asked → State
heard s way time page asked = heard_of s way time (record { verdict = page.verdict; said = page.said }) asked

-- The text of a record that came on this way at this time, and the state behind it. Where something is refused, its
-- place in the stream is any here.
pub record Tells (t : Terms) (s : State) (way time : ℕ) (bytes : List ℕ) (new : State) (text : List ℕ)
    : Type 0 where
  pub page : Page
  pub asked : Option Asked
  pub place : ℕ
  pub told : TellsRecord t s.history way bytes page asked
  pub new_is : new ≡ heard s way time page asked
  pub text_is : text ≡ closed t.form page.text.items page.verdict place
