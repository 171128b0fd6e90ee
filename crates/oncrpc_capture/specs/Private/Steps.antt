-- What was printed of a capture so far.
use Rattle.std.specs.Prelude.{◌≡◌, ◌⊎◌, ℕ, ◌+◌, Bool, true, false, List, [], ◌∷◌, ◌++◌, length, codes, is_some}
use Rattle.std.specs.Prelude.{Option, None, Some}
use Rattle.std.specs.Io.KnownBytes.{Appends, Consumes, IsAtEnd, Keeps}
use Rattle.capture_files.specs.declared.fault.CaptureFault.{CaptureFault}
use Rattle.capture_files.specs.declared.reader.CaptureReader.{CaptureReader}
use Rattle.capture_files.specs.declared.reason.CaptureReason.{CaptureReason}
use Rattle.capture_files.specs.declared.reason.CaptureReason.TheVariants.{Truncated}
use Rattle.capture_files.specs.Faults.{IsRefused}
use Rattle.capture_files.specs.Represents.{Represents, waiting}
use Rattle.capture_files.specs.Runs.{PacketView, capped}
use Rattle.capture_packets.specs.Packet.{DatagramView, SegmentView}
use Rattle.capture_packets.specs.Packet as carried
use Rattle.capture_packets.specs.Packets.{packet_of}
use Rattle.xdr_lang.specs.Declarations.{Declared}
use Rattle.oncrpc_messages.specs.Heads.{AreHeads, heads_of}
use Rattle.oncrpc_messages.specs.declared.heads.Heads as code
use Rattle.oncrpc_watch.specs.Lines.{counts_line}
use Rattle.oncrpc_watch.specs.MessagesEnd.{terms_in}
use Rattle.oncrpc_watch.specs.Represents.{IsAt}
use Rattle.oncrpc_watch.specs.Run.{State}
use Rattle.oncrpc_watch.specs.Terms.{terms_of}
use Rattle.oncrpc_capture.specs.declared.flow.Found.{Found}
use Rattle.oncrpc_capture.specs.declared.flows.Flows.{Flows}
use Rattle.oncrpc_capture.specs.declared.printing.Printing.{Printing}
use Rattle.oncrpc_capture.specs.declared.task.CaptureTask.{CaptureTask}
use Rattle.oncrpc_capture.specs.Brought.{BringAll, BringsBy, BringsSegment, IsTold, SaysSome, of_ending}
use Rattle.oncrpc_capture.specs.CaptureEnd.{PrintsPackets}
use Rattle.oncrpc_capture.specs.Connections.{AreHeard, segments_in, segments_of}
use Rattle.oncrpc_capture.specs.Entries.{Entry, FileRefused, TellsEntries}
use Rattle.oncrpc_capture.specs.Files.{CeasesAt, FileEnding, IsReadFile, reason_name}
use Rattle.oncrpc_capture.specs.Private.Follows.{Follow, Includes, IsStep}

-- ---- entries

-- The text of these entries was written, from a state on.
pub record PrintsFrom (p new : Printing) (s : State) (entries : List Entry) (taken taken' : Option (List ℕ))
    : Type 0 where
  pub state : State
  pub text : List ℕ
  pub tells : TellsEntries (terms_of p.watch.terms) (is_some p.stats) s entries state text
  pub is_at : IsAt new.watch state
  pub written : Appends taken taken' text

-- The same from whatever was heard before.
pub record Prints (p new : Printing) (entries : List Entry) (taken taken' : Option (List ℕ)) : Type 0 where
  pub terms : new.watch.terms ≡ p.watch.terms
  pub stats : is_some new.stats ≡ is_some p.stats
  pub prints : (s : State) → IsAt p.watch s → PrintsFrom p new s entries taken taken'

-- Entries were printed of which this holds.
pub record PrintsOf (are : List Entry → Type 0) (p new : Printing) (taken taken' : Option (List ℕ)) : Type 0 where
  pub entries : List Entry
  pub those : are entries
  pub prints : Prints p new entries taken taken'

-- Entries were printed of which each message stands in whatever segments gave: there is none.
pub record PrintsHeard (p new : Printing) (taken taken' : Option (List ℕ)) : Type 0 where
  pub heard : (segments : List SegmentView) → PrintsOf (AreHeard segments) p new taken taken'

-- what came of a direction was printed, a record as a message
pub record PrintsFound (found : Found) (r : List ℕ) (p new : Printing) (taken taken' : Option (List ℕ)) : Type 0 where
  pub prints : (segments : List SegmentView) → IsStep found.step found.from found.to segments r
      → PrintsOf (AreHeard segments) p new taken taken'

-- ---- connections

-- Whatever segments were taken, no others are, and each message that was printed stands in them.
pub record Goes (flows flows' : Flows) (p new : Printing) (taken taken' : Option (List ℕ)) : Type 0 where
  pub goes : (segments : List SegmentView) → Follow segments flows
      → PrintsOf (AreHeard segments) p new taken taken' × Follow segments flows'

-- the same of segments among which this one is, which was taken
pub record GoesOn (s : SegmentView) (flows flows' : Flows) (p new : Printing) (taken taken' : Option (List ℕ))
    : Type 0 where
  pub goes : (segments : List SegmentView) → Includes s segments → Follow segments flows
      → PrintsOf (AreHeard segments) p new taken taken' × Follow segments flows'

-- a segment was taken behind these, and what it brings was printed
pub record GoesBy (ports : List ℕ) (s : SegmentView) (flows flows' : Flows) (p new : Printing)
    (taken taken' : Option (List ℕ)) : Type 0 where
  pub goes : (earlier : List SegmentView) → Follow earlier flows
      → PrintsOf (λ es. BringsSegment ports earlier s es) p new taken taken' × Follow (earlier ++ s ∷ []) flows'

-- the same of what a packet carries, which is the one of this number
pub record GoesFrom (ports : List ℕ) (frame : ℕ) (v : carried.PacketView) (flows flows' : Flows) (p new : Printing)
    (taken taken' : Option (List ℕ)) : Type 0 where
  pub goes : (earlier : List SegmentView) → Follow earlier flows
      → PrintsOf (λ es. BringsBy ports earlier frame v es) p new taken taken'
      × Follow (earlier ++ segments_of v) flows'

-- ---- datagrams

-- what comes of a datagram: it is told, a message by itself or what says that it is a reply, or nothing of what is no
-- message by itself
abbrev pub MayTell : (is_message : Bool) → (frame : ℕ) → DatagramView → List Entry → Type 0
MayTell is_message frame d entries = ((entries ≡ []) × (is_message ≡ false))
    ⊎ (IsTold frame d entries × ((is_message ≡ true) ⊎ SaysSome d.content))

-- ---- the packets of a file

-- The reader has taken these bytes and has answered no fault, and all that their packets bring was printed since. This
-- is the number of the last.
pub record IsThrough (reader : CaptureReader) (bytes ports : List ℕ) (frame : ℕ) (flows : Flows) (p new : Printing)
    (taken taken' : Option (List ℕ)) : Type 0 where
  pub packets : List PacketView
  pub entries : List Entry
  pub represents : Represents reader bytes packets
  pub open_is : (fault : CaptureFault) → IsRefused reader fault → ⊥
  pub brings : BringAll ports [] 1 packets entries
  pub frame_is : frame ≡ capped (length packets)
  pub follow : Follow (segments_in packets) flows
  pub prints : Prints p new entries taken taken'

-- The bytes cease to be a capture, and that was printed behind all that their packets bring.
pub record IsBrokenOff (bytes ports : List ℕ) (flows : Flows) (p new : Printing) (taken taken' : Option (List ℕ))
    : Type 0 where
  pub packets : List PacketView
  pub entries : List Entry
  pub why : CaptureReason
  pub at : ℕ
  pub ceases : CeasesAt why at bytes packets
  pub more : why ≡ Truncated → ⊥
  pub brings : BringAll ports [] 1 packets entries
  pub follow : Follow (segments_in packets) flows
  pub prints : Prints p new (entries ++ FileRefused (reason_name why) at ∷ []) taken taken'

-- The packet that waits is the next, and all that it brings was printed.
pub record PrintsNext (reader : CaptureReader) (ports : List ℕ) (frame frame' : ℕ) (flows flows' : Flows)
    (p new : Printing) (taken taken' : Option (List ℕ)) : Type 0 where
  pub packet : PacketView
  pub waits : Some packet ≡ waiting reader
  pub next : frame' ≡ capped (frame + 1)
  pub prints : GoesFrom ports frame' (packet_of packet.link packet.content) flows flows' p new taken taken'

-- what is known of the bytes behind a piece: they go on, or cease to be a capture
abbrev pub IsFed : (more : Bool) → CaptureReader → (bytes ports : List ℕ) → (frame : ℕ) → Flows → (p new : Printing)
    → (taken taken' : Option (List ℕ)) → Type 0
IsFed true reader bytes ports frame flows p new taken taken' =
    IsThrough reader bytes ports frame flows p new taken taken'
IsFed false reader bytes ports frame flows p new taken taken' = IsBrokenOff bytes ports flows p new taken taken'

-- What taking a piece does, whatever bytes came before and whatever was printed of them.
abbrev pub Feeds : (more : Bool) → (p new : Printing) → (ports : List ℕ) → (frame frame' : ℕ)
    → (flows flows' : Flows) → (reader reader' : CaptureReader) → (piece : List ℕ) → (taken taken' : Option (List ℕ))
    → Type 0
Feeds more p new ports frame frame' flows flows' reader reader' piece taken taken' =
    (first : Printing) (begun : Option (List ℕ)) (bytes : List ℕ)
    → IsThrough reader bytes ports frame flows first p begun taken
    → IsFed more reader' (bytes ++ piece) ports frame' flows' first new begun taken'

-- A file was read, and all that it has was printed.
pub record HasRead (p new : Printing) (ports : List ℕ) (left taken taken' : Option (List ℕ)) : Type 0 where
  pub packets : List PacketView
  pub ending : FileEnding
  pub brought : List Entry
  pub last : List Entry
  pub file : IsReadFile left packets ending
  pub brings : BringAll ports [] 1 packets brought
  pub heard : AreHeard (segments_in packets) last
  pub prints : Prints p new (brought ++ (of_ending ending ++ last)) taken taken'

-- The file ended behind the bytes that the reader has taken, and that was printed, whatever was printed of them.
abbrev pub EndsFile : (p new : Printing) → (ports : List ℕ) → (frame : ℕ) → Flows → CaptureReader
    → (taken taken' : Option (List ℕ)) → Type 0
EndsFile p new ports frame flows reader taken taken' =
    (first : Printing) (begun left rest : Option (List ℕ)) (bytes : List ℕ)
    → IsThrough reader bytes ports frame flows first p begun taken → Consumes left rest bytes → IsAtEnd rest
    → HasRead first new ports left begun taken'

-- ---- the whole

-- Some tables were written, where they are asked for, and none elsewhere.
pub record PutsTables (stats : Bool) (taken taken' : Option (List ℕ)) : Type 0 where
  pub tables : List ℕ
  pub none : stats ≡ false → tables ≡ []
  pub written : Appends taken taken' tables

-- The counts were written, behind whatever tables where there are some.
pub record Closes (p : Printing) (taken taken' : Option (List ℕ)) : Type 0 where
  pub tables : List ℕ
  pub none : is_some p.stats ≡ false → tables ≡ []
  pub written : Appends taken taken' (tables ++ counts_line p.watch.terms.form p.watch.counts)

-- the file of this name was opened, and has what is reported of it; or none was, since the name is that of the input
abbrev pub IsOpened : {T : Type 0} → (T → Option (List ℕ)) → (List ℕ → Option (List ℕ)) → (name : List ℕ) → Option T
    → Type 0
IsOpened left reported name None = name ≡ codes "-"
IsOpened left reported name (Some file) = (name ≡ codes "-" → ⊥) × Keeps (reported name) (left file)

-- what the file has left, where there is one, else the input
abbrev pub given_of : {T : Type 0} → (T → Option (List ℕ)) → Option T → (left : Option (List ℕ)) → Option (List ℕ)
given_of left_of None left = left
given_of left_of (Some file) left = left_of file

-- The file or the input was read and printed, by what is declared and the types of heads.
pub record PrintsBy {T : Type 0} (left_of : T → Option (List ℕ)) (known : List Declared) (declared : Declared)
    (what : CaptureTask) (file : Option T) (left taken taken' : Option (List ℕ)) (status : ℕ) : Type 0 where
  pub heads : code.Heads
  pub are_heads : AreHeads heads
  pub prints : PrintsPackets (terms_in known declared (heads_of heads) what.style) what.ports.items what.stats
      (given_of left_of file left) taken taken' status
