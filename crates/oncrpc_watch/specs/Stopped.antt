-- How printing messages stops where a device failed or memory was refused: what was printed begins what would be.
use Rattle.std.specs.Prelude.{◌≡◌, ◌⊎◌, ℕ, Bool, List, ◌++◌, codes, Option, None, Some, String, string_bytes}
use Rattle.std.specs.declared.alloc.Global.{Global}
use Rattle.std.specs.Io.KnownBytes.{Appends, Consumes, Keeps}
use Rattle.xdr_io.specs.Reported.{Counts}
use Rattle.xdr_lang.specs.Declarations.{Declared}
use Rattle.rpc_record.specs.Reading.{Begins}
use Rattle.oncrpc_answers.specs.declared.failure.Failure.{Failure}
use Rattle.oncrpc_messages.specs.Heads.{AreHeads, heads_of}
use Rattle.oncrpc_messages.specs.declared.heads.Heads as code
use Rattle.oncrpc_tasks.specs.Devices.{Fails, Reports}
use Rattle.oncrpc_tasks.specs.Sources.{Declares, FileFails}
use Rattle.oncrpc_watch.specs.declared.ending.Ending.{Ending}
use Rattle.oncrpc_watch.specs.declared.stream.TheConstants.{MOST_RECORD}
use Rattle.oncrpc_watch.specs.declared.task.MessagesTask.{MessagesTask}
use Rattle.oncrpc_watch.specs.Events.{Event, Joins, TellsEvents}
use Rattle.oncrpc_watch.specs.Lines.{counts_line}
use Rattle.oncrpc_watch.specs.MessagesEnd.{terms_in}
use Rattle.oncrpc_watch.specs.Run.{State, nothing}
use Rattle.oncrpc_watch.specs.Streams.{AreEvents, records}
use Rattle.oncrpc_watch.specs.Terms.{Terms}

-- ---- what comes first

-- These records begin what a source had left (RFC 5531 section 11).
pub record ComeFirst (rs : List (List ℕ)) (left : Option (List ℕ)) : Type 0 where
  pub input : List ℕ
  pub rest : Option (List ℕ)
  pub read : Consumes left rest input
  pub begins : Begins MOST_RECORD rs input

-- all that comes of a source with this name, which had this left
abbrev pub AreAll : (name : List ℕ) → (left : Option (List ℕ)) → List Event → Type 0
AreAll name left events =
    (rest : Option (List ℕ)) × (rs : List (List ℕ)) × (e : Option Ending) × AreEvents name left rest rs e events

-- what comes first of it, or all
abbrev pub AreFirst : (name : List ℕ) → (left : Option (List ℕ)) → List Event → Type 0
AreFirst name left events =
    ((rs : List (List ℕ)) × ComeFirst rs left × (events ≡ records rs)) ⊎ AreAll name left events

-- some of one kind and some of another, each in their order
abbrev pub Joined : (one other : List Event → Type 0) → List Event → Type 0
Joined one other events = (xs : List Event) × (ys : List Event) × one xs × other ys × Joins xs ys events

-- ---- what was printed

-- Some first of these events were told, from a state on. What was written begins their text.
pub record TellsPart (t : Terms) (s : State) (events : List Event) (taken taken' : Option (List ℕ)) : Type 0 where
  pub told : List Event
  pub untold : List Event
  pub state : State
  pub text : List ℕ
  pub written : List ℕ
  pub unwritten : List ℕ
  pub first : events ≡ told ++ untold
  pub tells : TellsEvents t s told state text
  pub front : text ≡ written ++ unwritten
  pub appended : Appends taken taken' written

-- All of these were told. What was written begins their text and the closing line.
pub record ClosesPart (t : Terms) (events : List Event) (taken taken' : Option (List ℕ)) : Type 0 where
  pub state : State
  pub text : List ℕ
  pub written : List ℕ
  pub unwritten : List ℕ
  pub tells : TellsEvents t nothing events state text
  pub front : text ++ counts_line t.form state.counts ≡ written ++ unwritten
  pub appended : Appends taken taken' written

-- The one for events that are first, or the other for all.
abbrev pub PrintsPart : Terms → (first all : List Event → Type 0) → (taken taken' : Option (List ℕ)) → Type 0
PrintsPart t first all taken taken' =
    ((events : List Event) × first events × TellsPart t nothing events taken taken')
    ⊎ ((events : List Event) × all events × ClosesPart t events taken taken')

-- of the input
abbrev pub PrintsInputPart : Terms → (left taken taken' : Option (List ℕ)) → Type 0
PrintsInputPart t left taken taken' =
    PrintsPart t (AreFirst (codes "input") left) (AreAll (codes "input") left) taken taken'

-- of the input and of another source
abbrev pub PrintsBothPart : Terms → (left other taken taken' : Option (List ℕ)) → Type 0
PrintsBothPart t left other taken taken' = PrintsPart t
    (Joined (AreFirst (codes "input") left) (AreFirst (codes "replies") other))
    (Joined (AreAll (codes "input") left) (AreAll (codes "replies") other)) taken taken'

-- the one where no file with the other direction is named, and the other where one is
abbrev pub PrintsPartOf : Terms → (reported : List ℕ → Option (List ℕ)) → Option (String Global)
    → (left taken taken' : Option (List ℕ)) → Type 0
PrintsPartOf t reported None left taken taken' = PrintsInputPart t left taken taken'
PrintsPartOf t reported (Some name) left taken taken' =
    (other : Option (List ℕ)) × Keeps (reported (string_bytes name)) other
    × PrintsBothPart t left other taken taken'

-- What `PrintsMessages` says, of a beginning.
pub record PrintsMessagesPart (known : List Declared) (reported : List ℕ → Option (List ℕ)) (what : MessagesTask)
    (left taken taken' : Option (List ℕ)) : Type 0 where
  pub declared : Declared
  pub heads : code.Heads
  pub declares : Declares reported what.types declared
  pub are_heads : AreHeads heads
  pub prints : PrintsPartOf (terms_in known declared (heads_of heads) what.style) reported what.replies left taken
      taken'

-- ---- what failed

-- a read of a source that stood so, or a write; or as many reads of it were made as there may be
abbrev pub OneFails : {I O : Type 0} → Reports I O → (input : I) → (output output' : O) → Type 0
OneFails {I} reports input output output' =
    (failure : Failure) × (later : I) × Fails reports input later output output' failure

-- the same of the file with the other direction, or it was not opened
abbrev pub RepliesFail : {T O : Type 0} → (reported : List ℕ → Option (List ℕ)) → Reports T O
    → Option (String Global) → (unopened unopened' : Option ℕ) → (output output' : O) → Type 0
RepliesFail {T} reported texts None unopened unopened' output output' = ⊥
RepliesFail {T} reported texts (Some name) unopened unopened' output output' = Counts 1 unopened unopened'
    ⊎ ((text : T) × Keeps (reported (string_bytes name)) (texts.left text) × OneFails texts text output output')

-- one of these, or a file of texts
abbrev pub DeviceFails : {I T O : Type 0} → (reported : List ℕ → Option (List ℕ)) → MessagesTask → Reports I O
    → Reports T O → (unopened unopened' : Option ℕ) → (input : I) → (output output' : O) → Type 0
DeviceFails reported what reports texts unopened unopened' input output output' = OneFails reports input output output'
    ⊎ (RepliesFail reported texts what.replies unopened unopened' output output'
    ⊎ FileFails texts.left texts.failures reported what.types.files.items unopened unopened')
