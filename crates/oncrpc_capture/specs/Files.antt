-- What the bytes of a file of captured packets are: its packets, and where it ceases to be a capture
-- (draft-ietf-opsawg-pcap, draft-ietf-opsawg-pcapng).
use Rattle.std.specs.Prelude.{ℕ, List, Option, codes, ⊤}
use Rattle.std.specs.Io.KnownBytes.{Consumes, IsAtEnd}
use Rattle.capture_files.specs.declared.place.Step.TheVariants.{Refused}
use Rattle.capture_files.specs.declared.reason.CaptureReason.{CaptureReason}
use Rattle.capture_files.specs.declared.reason.CaptureReason.TheVariants as reason
use Rattle.capture_files.specs.Runs.{PacketView, CutAt, IsCapture, RefusedAt}

-- how a file ends: whole, or before that for a reason, at a place
pub data FileEnding : Type 0 where
  Whole : FileEnding
  Ceases : CaptureReason → (at : ℕ) → FileEnding

-- Behind these packets, at this place, the bytes end inside a record or a block, or go on with what is none.
abbrev pub CeasesAt : CaptureReason → (at : ℕ) → (bytes : List ℕ) → List PacketView → Type 0
CeasesAt reason.Truncated at bytes ps = CutAt at bytes ps
CeasesAt reason.NoMemory at bytes ps = ⊥
CeasesAt why at bytes ps = RefusedAt at bytes ps (Refused why)

-- the bytes have these packets and end so
abbrev pub IsFile : FileEnding → (bytes : List ℕ) → List PacketView → Type 0
IsFile Whole bytes ps = IsCapture bytes ps
IsFile (Ceases why at) bytes ps = CeasesAt why at bytes ps

-- a source has nothing left behind a whole file, and where it ends inside a record or a block
abbrev pub IsReadOut : FileEnding → (left : Option (List ℕ)) → Type 0
IsReadOut Whole left = IsAtEnd left
IsReadOut (Ceases reason.Truncated at) left = IsAtEnd left
IsReadOut (Ceases why at) left = ⊤

-- What a source had left was read to its end, or to where it ceases to be a capture. It has these packets.
pub record IsReadFile (left : Option (List ℕ)) (ps : List PacketView) (ending : FileEnding) : Type 0 where
  pub bytes : List ℕ
  pub rest : Option (List ℕ)
  pub read : Consumes left rest bytes
  pub file : IsFile ending bytes ps
  pub out : IsReadOut ending rest

-- the word of a reason
abbrev pub reason_name : CaptureReason → List ℕ
reason_name reason.NotACapture = codes "NotACapture"
reason_name reason.UnknownVersion = codes "UnknownVersion"
reason_name reason.Truncated = codes "Truncated"
reason_name reason.BadLength = codes "BadLength"
reason_name reason.PacketTooLong = codes "PacketTooLong"
reason_name reason.UnknownInterface = codes "UnknownInterface"
reason_name reason.TooManyInterfaces = codes "TooManyInterfaces"
reason_name reason.NoMemory = codes "NoMemory"
