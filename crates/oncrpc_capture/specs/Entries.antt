-- What comes of a capture, and what is printed of it (RFC 5531 sections 9 and 12).
use Rattle.std.specs.Prelude.{◌≡◌, ℕ, Bool, true, false, List, [], ◌∷◌, ◌++◌, codes, Option}
use Rattle.oncrpc_messages.specs.Closing.{closed}
use Rattle.oncrpc_messages.specs.declared.asked.Asked.{Asked}
use Rattle.oncrpc_messages.specs.declared.page.Found.{Found}
use Rattle.oncrpc_messages.specs.declared.page.Page.{Page}
use Rattle.oncrpc_messages.specs.declared.refusal.Verdict.{Verdict}
use Rattle.oncrpc_messages.specs.declared.refusal.Verdict.TheVariants as verdict
use Rattle.oncrpc_watch.specs.Counted.{refused}
use Rattle.oncrpc_watch.specs.Events.{stream_line}
use Rattle.oncrpc_watch.specs.Run.{FindsRecord, State, TellsRecord, heard, heard_of}
use Rattle.oncrpc_watch.specs.Terms.{Terms}
use Rattle.oncrpc_capture.specs.declared.seen.Seen.{Seen}
use Rattle.oncrpc_capture.specs.Texts.{behind, front_text, note_text, unread_text}

-- A message that ended with this packet on this way; so many bytes of which this is said; a header that no record has;
-- a packet that is not read; or why the file is refused, and where.
pub data Entry : Type 0 where
  Message : (seen : Seen) → (way : ℕ) → (bytes : List ℕ) → Entry
  Note : (seen : Seen) → (what : List ℕ) → (count : ℕ) → Entry
  TooLong : (seen : Seen) → Entry
  Unread : (frame time : ℕ) → (why : List ℕ) → Entry
  FileRefused : (why : List ℕ) → (at : ℕ) → Entry

-- the place of a refusal is that in the message
abbrev pub place_of : Verdict → ℕ
place_of (verdict.Refused r) = r.at
place_of _ = 0

-- The text of a message by what was heard before it, and the state behind it: that of `messages`.
pub record TellsMessage (t : Terms) (s : State) (way time : ℕ) (bytes : List ℕ) (new : State) (text : List ℕ)
    : Type 0 where
  pub page : Page
  pub asked : Option Asked
  pub told : TellsRecord t s.history way bytes page asked
  pub new_is : new ≡ heard s way time page asked
  pub text_is : text ≡ closed t.form page.text.items page.verdict (place_of page.verdict)

-- What a message is found to be by what was heard before it, and the state behind it: that of `messages`.
pub record CountsMessage (t : Terms) (s : State) (way time : ℕ) (bytes : List ℕ) (new : State) : Type 0 where
  pub found : Found
  pub asked : Option Asked
  pub finds : FindsRecord t s.history way bytes found asked
  pub new_is : new ≡ heard_of s way time found asked

-- something more is refused
abbrev pub refused_too : State → State
refused_too s = record { history = s.history; counts = refused s.counts }

-- What is printed of an entry, and the state behind it. Where counts are asked for it is nothing but of a file that is
-- refused.
abbrev pub TellsEntry : Terms → (stats : Bool) → State → Entry → State → (text : List ℕ) → Type 0
TellsEntry t false s (Message seen way bytes) new text =
    (line : List ℕ) × TellsMessage t s way seen.time bytes new line
    × (text ≡ behind t.form (front_text t.form seen) line)
TellsEntry t true s (Message seen way bytes) new text = CountsMessage t s way seen.time bytes new × (text ≡ [])
TellsEntry t false s (Note seen what count) new text =
    (new ≡ s) × (text ≡ behind t.form (front_text t.form seen) (note_text t.form what count))
TellsEntry t true s (Note seen what count) new text = (new ≡ s) × (text ≡ [])
TellsEntry t false s (TooLong seen) new text = (new ≡ refused_too s)
    × (text ≡ behind t.form (front_text t.form seen) (stream_line t.form (codes "record") (codes "TooLong") 0))
TellsEntry t true s (TooLong seen) new text = (new ≡ refused_too s) × (text ≡ [])
TellsEntry t false s (Unread frame time why) new text = (new ≡ s) × (text ≡ unread_text t.form frame time why)
TellsEntry t true s (Unread frame time why) new text = (new ≡ s) × (text ≡ [])
TellsEntry t stats s (FileRefused why at) new text =
    (new ≡ refused_too s) × (text ≡ stream_line t.form (codes "file") why at)

-- what is printed of several, one after another
unfoldable pub TellsEntries : Terms → (stats : Bool) → State → List Entry → State → (text : List ℕ) → Type 0
TellsEntries t stats s [] new text = (new ≡ s) × (text ≡ [])
TellsEntries t stats s (e ∷ es) new text =
    (mid : State) × (first : List ℕ) × (rest : List ℕ) × TellsEntry t stats s e mid first
    × TellsEntries t stats mid es new rest × (text ≡ first ++ rest)
