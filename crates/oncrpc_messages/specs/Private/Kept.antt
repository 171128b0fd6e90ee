-- What is made of the text of a message: all of it, or nothing, where a message is only judged.
use Rattle.std.specs.Prelude.{◌≡◌, ℕ, Bool, true, false, List, [], Option, option_map}
use Rattle.oncrpc_messages.specs.declared.asked.Asked.{Asked}
use Rattle.oncrpc_messages.specs.declared.page.Page as code
use Rattle.oncrpc_messages.specs.declared.show.Show.{Show}
use Rattle.oncrpc_messages.specs.declared.show.Show.TheVariants as show
use Rattle.oncrpc_messages.specs.Messages.{Tells}
use Rattle.oncrpc_messages.specs.Settings.{Settings}

-- what is made of a text
abbrev pub kept : Show → (text : List ℕ) → List ℕ
kept show.Text text = text
kept show.Nothing text = []

-- what is made of the text of values: nothing, where messages are printed in brief
abbrev pub values_show : (brief : Bool) → Show → Show
values_show true s = show.Nothing
values_show false s = s

-- this is made of a text of which that holds
abbrev pub IsKept : Show → (List ℕ → Type 0) → (made : List ℕ) → Type 0
IsKept s Holds made = (text : List ℕ) × Holds text × (made ≡ kept s text)

-- the same of a text that need not be there
abbrev pub IsKeptPart : Show → (Option (List ℕ) → Type 0) → (made : Option (List ℕ)) → Type 0
IsKeptPart s Holds made = (part : Option (List ℕ)) × Holds part × (made ≡ option_map (λ (t : List ℕ). kept s t) part)

-- a message is told, and this is made of its text
abbrev pub KeepsPage : Show → Settings → Option Asked → (bytes : List ℕ) → code.Page → Type 0
KeepsPage s settings asked bytes p =
    IsKept s (λ (text : List ℕ). Tells settings asked bytes text p.verdict p.said) p.text.items
