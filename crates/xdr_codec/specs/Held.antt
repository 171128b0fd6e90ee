-- What a decoder holds, and how much that may be.
use Rattle.std.specs.Prelude.{ℕ, List}
use Rattle.xdr_stream.specs.Held as stream
use Rattle.xdr_stream.specs.Represents as reported
use Rattle.xdr_stream.specs.declared.holding.Held.{Held}
use Rattle.xdr_codec.specs.Settings.{kinds_of, kind_of, limits_of}
use Rattle.xdr_codec.specs.declared.decoder.Decoder.{Decoder}

-- no fault came, and the value is not whole
abbrev pub GoesOn : Decoder → Type 0
GoesOn d = stream.GoesOn d.reader.state

-- reading has begun, and a unit is needed
abbrev pub IsWaiting : Decoder → Type 0
IsWaiting d = reported.IsWaiting d.reader.state

-- the counts are those of the decoder's own fields
abbrev pub CountsFields : Decoder → Held → Type 0
CountsFields d h = stream.Counts d.reader h

-- after the bytes b, with u whole units: at most (kinds + 1) (u + 1) nodes, and a frame more than the limit on depth.
-- There is no more content than bytes, and less than a unit waits (RFC 4506 section 3)
abbrev pub IsHeldWithin : Decoder → (b : List ℕ) → Held → Type 0
IsHeldWithin d b h = stream.IsWithin (kinds_of d) (limits_of d) b h

-- after the whole units of b the nodes are those of every value that they begin, each as soon as it is due, and the
-- bytes behind them are pending
abbrev pub IsHeldDue : Decoder → (b : List ℕ) → Held → Type 0
IsHeldDue d b h = stream.IsDue (kinds_of d) (kind_of d).place b h

-- the value's nodes and its content are held, and nothing else
abbrev pub IsHeldWhole : Decoder → (b : List ℕ) → Held → Type 0
IsHeldWhole d b h = stream.IsWhole (kinds_of d) (kind_of d).place (limits_of d) b h
