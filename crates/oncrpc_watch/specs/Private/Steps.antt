-- How far streams were read and printed.
use Rattle.std.specs.Prelude.{◌≡◌, ◌⊎◌, ℕ, Bool, true, false, List, [], ◌∷◌, ◌++◌, Option, None, Some, String}
use Rattle.std.specs.Prelude.{string_bytes, ⊤}
use Rattle.std.specs.declared.alloc.Global.{Global}
use Rattle.std.specs.Io.KnownBytes.{Appends, Keeps}
use Rattle.xdr_io.specs.Reported.{Counts}
use Rattle.xdr_io.specs.declared.input.TheConstants.{MOST_READS}
use Rattle.rpc_record.specs.Streamed.{HasRead, reads_of}
use Rattle.rpc_record.specs.declared.fault.RecordFault.{RecordFault}
use Rattle.rpc_record.specs.declared.fault.RecordFault.TheVariants as fault
use Rattle.rpc_record.specs.declared.stream.RecordStream.{RecordStream}
use Rattle.xdr_lang.specs.Declarations.{Declared}
use Rattle.oncrpc_answers.specs.declared.failure.Failure.{Failure}
use Rattle.oncrpc_answers.specs.declared.failure.Failure.TheVariants as failure
use Rattle.oncrpc_messages.specs.Heads.{AreHeads, heads_of}
use Rattle.oncrpc_messages.specs.declared.heads.Heads as code
use Rattle.oncrpc_watch.specs.declared.ending.Ending.{Ending}
use Rattle.oncrpc_watch.specs.declared.stream.Come.{Come}
use Rattle.oncrpc_watch.specs.declared.stream.Come.TheVariants as come
use Rattle.oncrpc_watch.specs.declared.stream.Stream.{Stream}
use Rattle.oncrpc_watch.specs.declared.stream.TheConstants.{MOST_RECORD}
use Rattle.oncrpc_watch.specs.declared.style.Style.{Style}
use Rattle.oncrpc_watch.specs.declared.watch.Watch.{Watch}
use Rattle.oncrpc_watch.specs.Events.{Ends, Event, Joins, Record, TellsEvents}
use Rattle.oncrpc_watch.specs.Lines.{counts_line}
use Rattle.oncrpc_watch.specs.MessagesEnd.{PrintsBoth, PrintsInput, status_of, terms_in}
use Rattle.oncrpc_watch.specs.Represents.{IsAt}
use Rattle.oncrpc_watch.specs.Run.{State}
use Rattle.oncrpc_watch.specs.Stopped.{AreFirst, PrintsBothPart, PrintsInputPart, TellsPart}
use Rattle.oncrpc_watch.specs.Streams.{AreEvents, records}
use Rattle.oncrpc_watch.specs.Terms.{Terms, terms_of}

-- Where a stream is: whether it has ended, its records, what it is called, what its source has left, and the reads of
-- that which failed, and all.
pub record Reached : Type 0 where
  pub ended : Bool
  pub stream : RecordStream
  pub name : List ℕ
  pub left : Option (List ℕ)
  pub failures : Option ℕ
  pub reads : Option ℕ

-- this is where a stream is
abbrev pub reached : {R : Type 0} → (left : R → Option (List ℕ)) → (failures reads : R → Option ℕ) → Stream R → Reached
reached left failures reads s = record {
  ended = s.ended;
  stream = s.records;
  name = s.name.now;
  left = left s.source.source;
  failures = failures s.source.source;
  reads = reads s.source.source;
}

-- from a source that had this left these events came so far, or all
abbrev pub StandsBy : Bool → Reached → (left : Option (List ℕ)) → List Event → Type 0
StandsBy false r left events =
    (rs : List (List ℕ)) × HasRead MOST_RECORD r.stream rs left r.left × (events ≡ records rs)
StandsBy true r left events =
    (rs : List (List ℕ)) × (e : Option Ending) × AreEvents r.name left r.left rs e events

abbrev pub Stands : Reached → (left : Option (List ℕ)) → List Event → Type 0
Stands r left events = StandsBy r.ended r left events

-- it is where some events came so far
abbrev pub IsStanding : Reached → Type 0
IsStanding r = (left : Option (List ℕ)) × (events : List Event) × Stands r left events

-- no read failed since these counts, and the stream counts its reads
pub record IsSound (failures reads : Option ℕ) (r : Reached) : Type 0 where
  pub unfailed : Counts 0 failures r.failures
  pub counted : Counts (reads_of r.stream) reads r.reads

-- These came since, and no read failed.
pub record GoesOn (old new : Reached) (more : List Event) : Type 0 where
  pub name : new.name ≡ old.name
  pub on : (left : Option (List ℕ)) (events : List Event) → Stands old left events
      → Stands new left (events ++ more)
  pub sound : (failures reads : Option ℕ) → IsSound failures reads old → IsSound failures reads new

-- what came of a read
abbrev pub came : Come → (name bytes : List ℕ) → List Event
came come.Record name bytes = Record bytes ∷ []
came come.End name bytes = []
came (come.Refused e) name bytes = Ends name e ∷ []

-- whether nothing comes behind it
abbrev pub is_last : Come → Bool
is_last come.Record = false
is_last _ = true

-- a record that came and is not printed yet
abbrev pub unprinted : Bool → (bytes : List ℕ) → List Event
unprinted true bytes = Record bytes ∷ []
unprinted false bytes = []

-- What a writer tells: the bytes that were taken, and how many writes failed.
pub record Sunk : Type 0 where
  pub taken : Option (List ℕ)
  pub lost : Option ℕ

abbrev pub sunk : {O : Type 0} → (taken : O → Option (List ℕ)) → (lost : O → Option ℕ) → O → Sunk
sunk taken lost output = record { taken = taken output; lost = lost output }

-- The text of these events was written, from a state on.
pub record PrintsFrom (w new : Watch) (s : State) (events : List Event) (taken taken' : Option (List ℕ)) : Type 0 where
  pub state : State
  pub text : List ℕ
  pub tells : TellsEvents (terms_of w.terms) s events state text
  pub is_at : IsAt new state
  pub written : Appends taken taken' text

-- The same from whatever was heard before, and no write failed.
pub record Prints (w new : Watch) (events : List Event) (out out' : Sunk) : Type 0 where
  pub same : new.terms ≡ w.terms
  pub prints : (s : State) → IsAt w s → PrintsFrom w new s events out.taken out'.taken
  pub unlost : Counts 0 out.lost out'.lost

-- What came of a stream was printed, but for a record that is there.
pub record Reads (more : Bool) (old new : Reached) (bytes : List ℕ) (w w' : Watch) (out out' : Sunk) : Type 0 where
  pub events : List Event
  pub on : GoesOn old new (events ++ unprinted more bytes)
  pub prints : Prints w w' events out out'
  pub ended : more ≡ false → new.ended ≡ true

-- What came of a stream was printed.
pub record TellsOn (old new : Reached) (w w' : Watch) (out out' : Sunk) : Type 0 where
  pub events : List Event
  pub on : GoesOn old new events
  pub prints : Prints w w' events out out'

-- What came of two streams was printed, that of each in its order.
pub record TellsBoth (calls calls' replies replies' : Reached) (w w' : Watch) (out out' : Sunk) : Type 0 where
  pub of_calls : List Event
  pub of_replies : List Event
  pub events : List Event
  pub on_calls : GoesOn calls calls' of_calls
  pub on_replies : GoesOn replies replies' of_replies
  pub joins : Joins of_calls of_replies events
  pub prints : Prints w w' events out out'

-- ---- failures

-- how a failure comes of a fault of records; of what is refused of a stream none does
abbrev pub FailsFrom : RecordFault → Failure → Type 0
FailsFrom fault.Read f = f ≡ failure.Read
FailsFrom (fault.Write written) f = f ≡ failure.Write
FailsFrom fault.TooManyReads f = f ≡ failure.TooManyReads
FailsFrom fault.NoMemory f = f ≡ failure.NoMemory
FailsFrom _ f = ⊥

-- how it is reported that reading failed, of a source whose counts were these
abbrev pub ReadFails : (failures reads : Option ℕ) → Reached → Failure → Type 0
ReadFails failures reads r failure.Read = Counts 1 failures r.failures
ReadFails failures reads r failure.TooManyReads = Counts MOST_READS reads r.reads
ReadFails failures reads r failure.Write = ⊥
ReadFails failures reads r failure.NoMemory = ⊤

-- how it is that telling failed
abbrev pub TellFails : (out out' : Sunk) → Failure → Type 0
TellFails out out' failure.Read = ⊥
TellFails out out' failure.TooManyReads = ⊥
TellFails out out' failure.Write = Counts 1 out.lost out'.lost
TellFails out out' failure.NoMemory = Counts 0 out.lost out'.lost

-- how it is that one of both did
abbrev pub FailsBy : (failures reads : Option ℕ) → Reached → (out out' : Sunk) → Failure → Type 0
FailsBy failures reads r out out' failure.Read = Counts 1 failures r.failures
FailsBy failures reads r out out' failure.TooManyReads = Counts MOST_READS reads r.reads
FailsBy failures reads r out out' failure.Write = Counts 1 out.lost out'.lost
FailsBy failures reads r out out' failure.NoMemory = Counts 0 out.lost out'.lost

-- What was written begins the text of some first of these events.
pub record Stops (w : Watch) (events : List Event) (out out' : Sunk) : Type 0 where
  pub part : (s : State) → IsAt w s → TellsPart (terms_of w.terms) s events out.taken out'.taken

-- Telling these failed.
pub record StopsTelling (w : Watch) (events : List Event) (out out' : Sunk) (f : Failure) : Type 0 where
  pub stops : Stops w events out out'
  pub fails : TellFails out out' f

-- these are the first that come behind those that came so far
abbrev pub ComesNext : Reached → List Event → Type 0
ComesNext r more = (left : Option (List ℕ)) (events : List Event) → Stands r left events
    → AreFirst r.name left (events ++ more)

-- Reading or telling what comes of a stream failed.
pub record StopsOn (old new : Reached) (w : Watch) (out out' : Sunk) (f : Failure) : Type 0 where
  pub events : List Event
  pub first : ComesNext old events
  pub stops : Stops w events out out'
  pub fails : (failures reads : Option ℕ) → IsSound failures reads old → FailsBy failures reads new out out' f

-- The same of two streams.
pub record StopsBoth (calls calls' replies replies' : Reached) (w : Watch) (out out' : Sunk) (f : Failure)
    : Type 0 where
  pub of_calls : List Event
  pub of_replies : List Event
  pub events : List Event
  pub first_calls : ComesNext calls of_calls
  pub first_replies : ComesNext replies of_replies
  pub joins : Joins of_calls of_replies events
  pub stops : Stops w events out out'
  pub fails : (failures reads failures' reads' : Option ℕ) → IsSound failures reads calls
      → IsSound failures' reads' replies
      → FailsBy failures reads calls' out out' f ⊎ FailsBy failures' reads' replies' out out' f

-- ---- the whole

-- the file of the other direction was opened where one is named, and has what is reported of it
abbrev pub IsOpened : {T : Type 0} → (T → Option (List ℕ)) → (List ℕ → Option (List ℕ)) → Option (String Global)
    → Option T → Type 0
IsOpened left reported None None = ⊤
IsOpened left reported (Some name) (Some text) = Keeps (reported (string_bytes name)) (left text)
IsOpened left reported _ _ = ⊥

-- it could not be opened
abbrev pub IsUnopened : Option (String Global) → (unopened unopened' : Option ℕ) → Failure → Type 0
IsUnopened None unopened unopened' f = ⊥
IsUnopened (Some name) unopened unopened' f = (f ≡ failure.Read) × Counts 1 unopened unopened'

-- what is printed of the input, and of the other direction where there is one
abbrev pub PrintsIn : {T : Type 0} → (T → Option (List ℕ)) → Terms → Option T → (left taken taken' : Option (List ℕ))
    → (status : ℕ) → Type 0
PrintsIn left_of t None left taken taken' status = PrintsInput t left taken taken' status
PrintsIn left_of t (Some text) left taken taken' status = PrintsBoth t left (left_of text) taken taken' status

-- The same by what is declared, and the types of heads.
pub record PrintsBy {T : Type 0} (left_of : T → Option (List ℕ)) (known : List Declared) (declared : Declared)
    (style : Style) (other : Option T) (left taken taken' : Option (List ℕ)) (status : ℕ) : Type 0 where
  pub heads : code.Heads
  pub are_heads : AreHeads heads
  pub prints : PrintsIn left_of (terms_in known declared (heads_of heads) style) other left taken taken' status

-- the counts were written, and the status is theirs
abbrev pub Closes : Watch → (taken taken' : Option (List ℕ)) → (status : ℕ) → Type 0
Closes w taken taken' status =
    Appends taken taken' (counts_line w.terms.form w.counts) × (status ≡ status_of w.counts.refused)

-- ---- the whole in part

-- What was written begins the counts.
pub record CloseFails (w : Watch) (out out' : Sunk) (f : Failure) : Type 0 where
  pub written : List ℕ
  pub unwritten : List ℕ
  pub front : counts_line w.terms.form w.counts ≡ written ++ unwritten
  pub appended : Appends out.taken out'.taken written
  pub fails : TellFails out out' f

-- how a failure of a source that stood so, or of a writer, is reported
abbrev pub Reports : {R : Type 0} → (failures reads : R → Option ℕ) → R → (out out' : Sunk) → Failure → Type 0
Reports {R} failures reads source out out' failure.Read = (later : R) × Counts 1 (failures source) (failures later)
Reports {R} failures reads source out out' failure.TooManyReads =
    (later : R) × Counts MOST_READS (reads source) (reads later)
Reports {R} failures reads source out out' failure.Write = Counts 1 out.lost out'.lost
Reports {R} failures reads source out out' failure.NoMemory = Counts 0 out.lost out'.lost

-- the same of one that may not be there
abbrev pub ReportsOther : {R : Type 0} → (failures reads : R → Option ℕ) → Option R → (out out' : Sunk) → Failure
    → Type 0
ReportsOther failures reads None out out' f = ⊥
ReportsOther failures reads (Some source) out out' f = Reports failures reads source out out' f

-- what `PrintsIn` says, of a beginning
abbrev pub PrintsPartIn : {T : Type 0} → (T → Option (List ℕ)) → Terms → Option T
    → (left taken taken' : Option (List ℕ)) → Type 0
PrintsPartIn left_of t None left taken taken' = PrintsInputPart t left taken taken'
PrintsPartIn left_of t (Some text) left taken taken' = PrintsBothPart t left (left_of text) taken taken'

-- What `PrintsBy` says, of a beginning.
pub record PrintsPartBy {T : Type 0} (left_of : T → Option (List ℕ)) (known : List Declared) (declared : Declared)
    (style : Style) (other : Option T) (left taken taken' : Option (List ℕ)) : Type 0 where
  pub heads : code.Heads
  pub are_heads : AreHeads heads
  pub prints : PrintsPartIn left_of (terms_in known declared (heads_of heads) style) other left taken taken'
