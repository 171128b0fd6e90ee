-- How printing the messages of a capture ends: what its exit status says.
use Rattle.std.specs.Prelude.{◌≡◌, ◌⊎◌, ℕ, ◌≤◌, Bool, false, List, [], ◌++◌, codes, Option, string_bytes}
use Rattle.std.specs.Io.KnownBytes.{Appends, Keeps}
use Rattle.capture_files.specs.Runs.{PacketView}
use Rattle.xdr_lang.specs.Declarations.{Declared}
use Rattle.oncrpc_messages.specs.Heads.{AreHeads, heads_of}
use Rattle.oncrpc_messages.specs.declared.heads.Heads as code
use Rattle.oncrpc_tasks.specs.Sources.{Declares, DeclaresNothing}
use Rattle.oncrpc_watch.specs.Lines.{counts_line}
use Rattle.oncrpc_watch.specs.MessagesEnd.{status_of, terms_in}
use Rattle.oncrpc_watch.specs.Run.{State, nothing}
use Rattle.oncrpc_watch.specs.Terms.{Terms}
use Rattle.oncrpc_capture.specs.declared.task.CaptureTask.{CaptureTask}
use Rattle.oncrpc_capture.specs.Brought.{BringAll, of_ending}
use Rattle.oncrpc_capture.specs.Connections.{AreHeard, segments_in}
use Rattle.oncrpc_capture.specs.Entries.{Entry, TellsEntries}
use Rattle.oncrpc_capture.specs.Files.{FileEnding, IsReadFile}

-- What is printed of these entries, from the first on, was written, and behind it the counts, with tables before these
-- where they are asked for. The status says whether anything was refused.
pub record PrintsAll (t : Terms) (stats : Bool) (entries : List Entry) (taken taken' : Option (List ℕ)) (status : ℕ)
    : Type 0 where
  pub state : State
  pub text : List ℕ
  pub tables : List ℕ
  pub tells : TellsEntries t stats nothing entries state text
  pub none : stats ≡ false → tables ≡ []
  pub written : Appends taken taken' (text ++ (tables ++ counts_line t.form state.counts))
  pub status_is : status ≡ status_of state.counts.refused

-- What had this left was read as a file. What its packets bring was printed, and then why it is refused, where it is.
-- What is printed last is of connections over TCP that end with the file: each message stands in what segments gave.
pub record PrintsPackets (t : Terms) (ports : List ℕ) (stats : Bool) (left taken taken' : Option (List ℕ)) (status : ℕ)
    : Type 0 where
  pub packets : List PacketView
  pub ending : FileEnding
  pub brought : List Entry
  pub last : List Entry
  pub file : IsReadFile left packets ending
  pub brings : BringAll ports [] 1 packets brought
  pub heard : AreHeard (segments_in packets) last
  pub prints : PrintsAll t stats (brought ++ (of_ending ending ++ last)) taken taken' status

-- The same of what the words name: the input by `-`, or a file, of which this is reported.
pub record PrintsNamed (t : Terms) (reported : List ℕ → Option (List ℕ)) (what : CaptureTask)
    (left taken taken' : Option (List ℕ)) (status : ℕ) : Type 0 where
  pub given : Option (List ℕ)
  pub is_input : string_bytes what.file ≡ codes "-" → given ≡ left
  pub is_file : (string_bytes what.file ≡ codes "-" → ⊥) → Keeps (reported (string_bytes what.file)) given
  pub prints : PrintsPackets t what.ports.items what.stats given taken taken' status

-- The same by what the words' texts declare, and what those do that are known, each by itself.
pub record PrintsCapture (known : List Declared) (reported : List ℕ → Option (List ℕ)) (what : CaptureTask)
    (left taken taken' : Option (List ℕ)) (status : ℕ) : Type 0 where
  pub declared : Declared
  pub heads : code.Heads
  pub declares : Declares reported what.types declared
  pub are_heads : AreHeads heads
  pub prints : PrintsNamed (terms_in known declared (heads_of heads) what.style) reported what left taken taken' status

-- What the status says. 0 or 1: what came of the capture was printed. 2: the texts have no meaning, and nothing was
-- printed. 3: a device failed. 4: memory was refused.
pub record CaptureEnd {O : Type 0} (known : List Declared) (reported : List ℕ → Option (List ℕ)) (what : CaptureTask)
    (left : Option (List ℕ)) (taken : O → Option (List ℕ)) (output output' : O) (status : ℕ) : Type 0 where
  pub some_status : status ≤ 4
  pub printed : (status ≡ 0) ⊎ (status ≡ 1)
      → PrintsCapture known reported what left (taken output) (taken output') status
  pub refused : status ≡ 2 → DeclaresNothing reported what.types × (output' ≡ output)
